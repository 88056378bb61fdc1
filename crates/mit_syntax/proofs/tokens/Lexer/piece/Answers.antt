use Rattle.std.proofs.Common.{◌≡◌, ◌≤◌, ◌+◌, ℕ, List, true, false, Some, get_or, length, ap, sym, subst, take, drop}
use Rattle.label_lattice.specs.Names.{Each}
use Rattle.mit_syntax.specs.declared.tokens.Place.{Place}
use Rattle.mit_syntax.specs.Lexemes.{is_white, StopsAt}
use Rattle.mit_syntax.specs.Cut.{in_line, starts_comment}
use Rattle.mit_syntax.specs.TokenSteps.{IsToken, TookPiece}
use Rattle.mit_syntax.proofs.LexBytes.{front_passes, rest_stops}
use Rattle.mit_syntax.proofs.LexPieces.{took_lexeme, took_white, took_comment, token_stays}
use Rattle.mit_syntax.proofs.tokens.Lexer.piece.Goals as goal

pub returns-then-is_white : goal.returns-then-is_white
returns-then-is_white c =
    let same = ap (λ p. p.1) c.self.view_is in
    took_white _ _ c.requires (subst (λ (l : List ℕ). is_white (get_or l 0 0) ≡ true) same (sym c.if-is_white.ensures))
    c.skip_white.ensures.rest c.skip_white.ensures.place

pub skip-requires-clause-in_line : goal.skip-requires-clause-in_line
skip-requires-clause-in_line c =
    let same = ap (λ p. p.1) c.self.view_is in
    subst (λ (l : List ℕ). Each in_line (take c.line_len-n.result l)) same (front_passes in_line _ _ c.line_len-n.ensures.within c.line_len-n.ensures.before)

pub returns-then-starts_comment : goal.returns-then-starts_comment
returns-then-starts_comment c =
    let same = ap (λ p. p.1) c.self.view_is in
    let n = c.line_len-n.result in
    took_comment _ _ n (subst (λ (l : List ℕ). n ≤ length l) same c.line_len-n.ensures.within)
    (subst (λ (l : List ℕ). Each in_line (take n l)) same (front_passes in_line _ _ c.line_len-n.ensures.within c.line_len-n.ensures.before))
    (subst (λ (l : List ℕ). StopsAt in_line (drop n l)) same (rest_stops in_line _ _ c.line_len-n.ensures.within c.line_len-n.ensures.stops))
    (subst (λ (l : List ℕ). starts_comment l ≡ true) same (sym c.if-starts_comment.ensures)) c.skip.ensures.rest c.skip.ensures.place

pub skip-requires-in-Ok-clause-in_line : goal.skip-requires-in-Ok-clause-in_line
skip-requires-in-Ok-clause-in_line c =
    let same = ap (λ p. p.1) c.self.view_is in
    token_stays _ c.in-Ok.kind c.in-Ok.n (subst (λ (l : List ℕ). IsToken l c.in-Ok.kind c.in-Ok.n) same c.in-Ok.ensures)

pub returns-in-Ok : goal.returns-in-Ok
returns-in-Ok c =
    let same = ap (λ p. p.1) c.self.view_is in
    let at = ap (λ p. p.0) c.self.view_is in
    let t = subst (λ (l : List ℕ). IsToken l c.in-Ok.kind c.in-Ok.n) same c.in-Ok.ensures in
    let none = subst (λ (l : List ℕ). starts_comment l ≡ false) same (sym c.if-starts_comment.ensures) in
    let k = took_lexeme c.args.self.now c.skip-in-Ok.new.self c.in-Ok.kind c.in-Ok.n t none c.skip-in-Ok.ensures.rest c.skip-in-Ok.ensures.place in
    subst (λ (p : Place). TookPiece c.args.self.now c.skip-in-Ok.new.self
    (Some (record { kind = c.in-Ok.kind; from = p.at; to = p.at + c.in-Ok.n; pos = p.pos }))) (sym at) k
