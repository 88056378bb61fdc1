use Rattle.std.proofs.Common.{subst}
use Rattle.std.proofs.lemmas.Bool.{both_ways}
use Rattle.label_lattice.specs.declared.label.Label.{Label}
use Rattle.timing_types.specs.Labelling.{IsKept}
use Rattle.type_cert.proofs.Cuts.{cut_variable}
use Rattle.type_cert.proofs.recheck.right_variable.Goals as goal

pub returns : goal.returns
returns c = λ l q h k.
    let e = cut_variable c.args.order.now c.laws.ensures.order c.args.name c.args.text.now l c.in_ok-label.label q
    c.in_ok-label.rest.now h c.in_ok-label.ensures in
    both_ways c.is_kept.result c.if-is_kept.false (c.is_kept.ensures.1 (subst (λ (z : Label). IsKept c.args.written z.number) e.0 k))
