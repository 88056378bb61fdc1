use Rattle.std.proofs.Common.{sym, ◌∙◌, subst, List}
use Rattle.label_lattice.specs.Order.{Order}
use Rattle.mit_syntax.specs.Declarations.{Declaration}
use Rattle.mit_syntax.specs.Program.{Syntax, syntax}
use Rattle.mit_syntax.specs.Valid.{IsValid}
use Rattle.label_write.specs.Written.{HasOnly}
use Rattle.label_write.proofs.Only.{valid_parts, only_parts}
use Rattle.label_write.proofs.write.program_of.Goals as goal

pub of-requires : goal.of-requires
of-requires c =
    (valid_parts c.args.p.now c.program-program.result.now c.lattice-order.result.now c.labels-labels.result.now c.in_ok-pairs.pairs.items c.pairs.result.now
    c.declarations.result.now c.in_ok-table.table.entries c.body-commands.result.now c.in_ok-body.body.items
    c.program-program.ensures.program c.program-program.ensures.labelling c.body-commands.ensures.valid c.lattice-order.ensures c.labels-labels.ensures
    c.in_ok-pairs.ensures.items c.pairs.ensures c.declarations.ensures c.body-commands.ensures.body c.in_ok-table.ensures c.in_ok-body.ensures.commands).few

pub of-requires-2 : goal.of-requires-2
of-requires-2 c =
    subst (λ (ds : List Declaration). IsValid (syntax c.in_ok-shared.shared.value c.in_ok-pairs.pairs.items ds c.in_ok-body.body.items))
    (sym c.in_ok-variables.ensures)
    (subst (λ (o : Order). IsValid (syntax o c.in_ok-pairs.pairs.items c.in_ok-table.table.entries c.in_ok-body.body.items))
    (sym (c.in_ok-shared.ensures.cases ∙ c.shared_lattice.ensures ∙ sym c.lattice-order.ensures))
    (valid_parts c.args.p.now c.program-program.result.now c.lattice-order.result.now c.labels-labels.result.now c.in_ok-pairs.pairs.items c.pairs.result.now
    c.declarations.result.now c.in_ok-table.table.entries c.body-commands.result.now c.in_ok-body.body.items
    c.program-program.ensures.program c.program-program.ensures.labelling c.body-commands.ensures.valid c.lattice-order.ensures c.labels-labels.ensures
    c.in_ok-pairs.ensures.items c.pairs.ensures c.declarations.ensures c.body-commands.ensures.body c.in_ok-table.ensures c.in_ok-body.ensures.commands))

pub returns-clause-only : goal.returns-clause-only
returns-clause-only c =
    subst (λ (q : Syntax). HasOnly q c.args.p.now.labels) (sym c.of-2.ensures)
    (subst (λ (ds : List Declaration). HasOnly (syntax c.in_ok-shared.shared.value c.in_ok-pairs.pairs.items ds c.in_ok-body.body.items) c.args.p.now.labels)
    (sym c.in_ok-variables.ensures)
    (subst (λ (o : Order). HasOnly (syntax o c.in_ok-pairs.pairs.items c.in_ok-table.table.entries c.in_ok-body.body.items) c.args.p.now.labels)
    (sym (c.in_ok-shared.ensures.cases ∙ c.shared_lattice.ensures ∙ sym c.lattice-order.ensures))
    (only_parts c.args.p.now c.program-program.result.now c.lattice-order.result.now c.labels-labels.result.now c.in_ok-pairs.pairs.items c.pairs.result.now
    c.declarations.result.now c.in_ok-table.table.entries c.body-commands.result.now c.in_ok-body.body.items
    c.program-program.ensures.program c.program-program.ensures.labelling c.body-commands.ensures.valid c.lattice-order.ensures c.labels-labels.ensures
    c.in_ok-pairs.ensures.items c.pairs.ensures c.declarations.ensures c.body-commands.ensures.body c.in_ok-table.ensures c.in_ok-body.ensures.commands)))
