use Rattle.std.proofs.Common.{◌∙◌, sym, ap, subst, ℕ}
use Rattle.label_lattice.specs.Order.{Order}
use Rattle.mit_syntax.specs.Program.{Syntax}
use Rattle.mit_syntax.specs.Valid.{IsValid}
use Rattle.label_infer.specs.Given.{AllFrom}
use Rattle.type_cert.specs.declared.line.Line.{Line}
use Rattle.type_cert.specs.Demands.{HasLabels}
use Rattle.type_cert.proofs.Writing.{lines_below}
use Rattle.type_cert.proofs.certificate.certificate.Goals as goal

pub put_lines-requires : goal.put_lines-requires
put_lines-requires c =
    let q = c.args.q.now in
    let o = c.lattice-order.ensures ∙ ap (λ (z : Syntax). z.order) c.program.ensures.program in
    let valid = subst (λ (z : Syntax). IsValid z) c.program-2.ensures.program c.laws.ensures.valid in
    let below = lines_below q.program q.labels c.deref.result.now valid c.program.ensures.labelling (c.deref.ensures.value ∙ c.in_ok-lines.ensures) in
    subst (λ (z : Order). AllFrom (λ (i : ℕ) (x : Line). HasLabels z.size x) 0 c.deref.result.now) (sym o) below
