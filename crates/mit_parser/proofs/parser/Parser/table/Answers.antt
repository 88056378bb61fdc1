use Rattle.std.proofs.Common.{sym, ◌∙◌, ◌∷◌}
use Rattle.std.proofs.lemmas.Result.{err_from_is_err_and}
use Rattle.mit_parser.specs.Scope.{labels_in}
use Rattle.mit_parser.specs.Machine.{a_declaration, declarations}
use Rattle.mit_parser.proofs.Rules.{within}
use Rattle.mit_parser.proofs.Heads.{declarations_first, declarations_next, declarations_last, one_more}
use Rattle.mit_parser.proofs.parser.Parser.table.Goals as goal

pub loop-self-init : goal.loop-self-init
loop-self-init c = declarations_first (labels_in c.args.lattice.now) c.args.self.now _ c.new-table.ensures

pub loop-self-preserved : goal.loop-self-preserved
loop-self-preserved c = declarations_next (labels_in c.args.lattice.now) _ _ _ _ _ c.loop-self.invariant (sym c.at_key.ensures
    ∙ c.loop-self-test.true) c.in_ok-declaration.ensures

pub returns : goal.returns
returns c = declarations_last (labels_in c.args.lattice.now) _ _ _ c.loop-self.invariant (sym c.at_key.ensures ∙ c.loop-self-test.false)

pub returns-in_err-declaration : goal.returns-in_err-declaration
returns-in_err-declaration c =
    let p = err_from_is_err_and c.from_residual.result c.from_residual.ensures.1 in
    rw (p.1, p.2) (within c.args.self.now c.loop-self.self c.declaration.new.self declarations a_declaration (λ s. declarations ∷ s) _
    (λ s. c.loop-self.invariant.goes s ∙ one_more (labels_in c.args.lattice.now) c.loop-self.self (sym c.at_key.ensures ∙ c.loop-self-test.true) s)
    c.in_err-declaration.ensures)
