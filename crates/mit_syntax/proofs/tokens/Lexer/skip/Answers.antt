use Rattle.std.proofs.Common.{◌≡◌, ◌+◌, ℕ, ap, ◌∙◌, sym, take, length, length-take, arith}
use Rattle.mit_syntax.specs.declared.tokens.Place.{Place}
use Rattle.mit_syntax.proofs.LexPieces.{moved_in_line}
use Rattle.mit_syntax.proofs.tokens.Lexer.skip.Goals as goal

pub returns-clause-place : goal.returns-clause-place
returns-clause-place c =
    let size : length (take c.args.n c.args.self.now.1) ≡ c.args.n = omega (arith, length-take c.args.n c.args.self.now.1, c.requires.within) in
    let at : c.self.inside.place ≡ c.args.self.now.0 = ap (λ p. p.0) c.self.view_is in
    sym (moved_in_line c.args.self.now.0 (take c.args.n c.args.self.now.1) c.requires.in_line
    ∙ ap (λ (m : ℕ). record { at = c.args.self.now.0.at + m; pos = record { line = c.args.self.now.0.pos.line; column = c.args.self.now.0.pos.column + m } })
    size
    ∙ ap (λ (p : Place). record { at = p.at + c.args.n; pos = record { line = p.pos.line; column = p.pos.column + c.args.n } }) (sym at))
