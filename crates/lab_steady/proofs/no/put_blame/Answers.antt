use Rattle.std.proofs.Common.{ap, ◌∙◌}
use Rattle.label_lattice.specs.Order.{Order}
use Rattle.mit_syntax.specs.Program.{Syntax}
use Rattle.timing_types.specs.Labelling.{Labelling, variable_of}
use Rattle.lab_steady.proofs.Nos.{blame_put}
use Rattle.lab_steady.proofs.no.put_blame.Goals as goal

pub returns : goal.returns
returns c =
    blame_put c.args.p.now c.args.observer.number c.args.lines.now c.args.variable c.in-Some.x c.program-2.result.now c.variable-label.result.number
    c.args.out.now.items c.put_flow.new.out.items c.extend_from_slice-2.new.self.items
    c.program-2.ensures.program
    (c.variable-label.ensures
    ∙ ap (λ (z : Order). variable_of z c.labels.result.now c.in-Some.x) (c.lattice.ensures ∙ ap (λ (z : Syntax). z.order) c.program.ensures.program)
    ∙ ap (λ (z : Labelling). variable_of c.args.p.now.program.order z c.in-Some.x) c.labels.ensures)
    c.in-Some.is c.in_ok-put_flow.ensures c.in_ok-extend_from_slice.ensures.items
