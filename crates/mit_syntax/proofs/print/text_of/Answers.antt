use Rattle.std.proofs.Common.{◌∙◌, sym, subst, List}
use Rattle.std.specs.Prelude.{All}
use Rattle.label_lattice.specs.declared.label.Label.{Label}
use Rattle.label_lattice.specs.Order.{Order}
use Rattle.label_lattice.specs.Chains.{AreBelow}
use Rattle.mit_syntax.specs.Declarations.{Declaration}
use Rattle.mit_syntax.specs.Plan.{Plan, list_plan}
use Rattle.mit_syntax.specs.Printable.{IsPrintable}
use Rattle.mit_syntax.specs.Valid.{IsBelow}
use Rattle.mit_syntax.proofs.Putting.{puts_then, whole_text}
use Rattle.mit_syntax.proofs.Whole.{text_as}
use Rattle.mit_syntax.proofs.print.text_of.Goals as goal

pub put_order-requires : goal.put_order-requires
put_order-requires c =
    subst (λ (o : Order). AreBelow o.size c.pairs.result.now) (sym c.lattice-labels.ensures)
    (subst (λ (ps : List (Label × Label)). AreBelow c.args.program.now.order.size ps) (sym c.pairs.ensures) c.body-body.ensures.valid.pairs)

pub put_declarations-requires : goal.put_declarations-requires
put_declarations-requires c =
    subst (λ (o : Order). All (λ (d : Declaration). IsBelow o.size d.1.label) c.declarations-variables.result.now) (sym c.lattice-labels.ensures)
    (subst (λ (ds : List Declaration). All (λ (d : Declaration). IsBelow c.args.program.now.order.size d.1.label) ds) (sym c.declarations-variables.ensures)
    c.body-body.ensures.valid.labels)

pub put_commands-requires : goal.put_commands-requires
put_commands-requires c =
    subst (λ (o : Order). IsPrintable o.size c.declarations-variables.result.now 0 (list_plan c.body-body.result.now)) (sym c.lattice-labels.ensures)
    (subst (λ (ds : List Declaration). IsPrintable c.args.program.now.order.size ds 0 (list_plan c.body-body.result.now)) (sym c.declarations-variables.ensures)
    (subst (λ (p : Plan). IsPrintable c.args.program.now.order.size c.args.program.now.declarations 0 p) (sym c.body-body.ensures.body)
    (record { known = c.body-body.ensures.valid.known; arrays = c.body-body.ensures.valid.arrays; small = c.body-body.ensures.valid.small })))

pub returns : goal.returns
returns c =
    whole_text c.new-out.ensures.items
    (puts_then c.in_ok-put_labels.ensures
    (puts_then c.in_ok-put_order.ensures (puts_then c.in_ok-put_declarations.ensures (puts_then c.in_ok-put_commands.ensures c.in_ok-put_line.ensures))))
    ∙ text_as c.lattice-labels.result.now c.args.program.now.order c.pairs.result.now c.args.program.now.pairs c.declarations-variables.result.now
    c.args.program.now.declarations
    (list_plan c.body-body.result.now) c.args.program.now.plan c.lattice-labels.ensures c.pairs.ensures
    c.declarations-variables.ensures c.body-body.ensures.body
