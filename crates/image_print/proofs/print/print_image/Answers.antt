use Rattle.std.proofs.Common.{sym, ap, ◌∙◌, subst, List, arith}
use Rattle.label_lattice.specs.Order.{Order}
use Rattle.mit_syntax.specs.Declarations.{Declaration}
use Rattle.image_print.specs.ImageText.{lines_from}
use Rattle.image_print.specs.Named.{IsNamed}
use Rattle.image_print.proofs.Lines.{none_printed, next_printed, all_printed}
use Rattle.image_print.proofs.Ranges.{all_named}
use Rattle.image_print.proofs.print.print_image.Goals as goal

pub loop-place-init : goal.loop-place-init
loop-place-init c = none_printed _ _ _ _ c.new-out.ensures.items

pub put_instr-requires : goal.put_instr-requires
put_instr-requires c =
    let i = c.at.result in
    subst (λ (o : Order). IsNamed o c.declarations-declared.result.now i) (sym c.lattice-labels.ensures)
    (subst (λ (ds : List Declaration). IsNamed c.args.p.now.order ds i) (sym c.declarations-declared.ensures)
    (all_named c.args.i.now c.args.p.now c.laws.ensures.shaped c.requires.variables c.requires.labels c.loop-place.place i c.at.ensures))

pub loop-place-preserved : goal.loop-place-preserved
loop-place-preserved c = next_printed _ _ _ _ _ c.loop-place.place c.at.result c.at.ensures c.loop-place.invariant c.in_ok-put_instr.ensures

pub returns : goal.returns
returns c =
    all_printed _ _ c.args.i.now.instrs _ c.loop-place.place (omega arith) c.loop-place.invariant
    ∙ ap (λ (o : Order). lines_from o c.declarations-declared.result.now 0 c.args.i.now.instrs) c.lattice-labels.ensures
    ∙ ap (λ (ds : List Declaration). lines_from c.args.p.now.order ds 0 c.args.i.now.instrs) c.declarations-declared.ensures
