use Rattle.std.proofs.Common.{◌≡◌, ◌∙◌, ap, set, w64, to_z, of_z, to_z-of_z, arith}
use Rattle.toml.specs.View.{view, items_view}
use Rattle.start_file.proofs.Written.{one_written, part_written}
use Rattle.start_file.proofs.memory.write.Goals as goal

pub returns-in-None : goal.returns-in-None
returns-in-None c =
    let kept : to_z w64 (of_z w64 c.number.result) ≡ c.number.result = grind (arith, to_z-of_z) in
    ap (set c.args.memory.now c.args.slot.first) kept
    ∙ one_written c.args.memory.now c.args.slot (view c.args.value.now) c.requires c.number.result c.in-None.is c.number.ensures

pub returns-in-Some : goal.returns-in-Some
returns-in-Some c =
    part_written c.args.memory.now c.args.slot (view c.args.value.now) c.requires c.in-Some.length c.put_elements.new.cells (items_view c.items_in.result.now)
    c.in-Some.is c.items_in.ensures c.put_elements.ensures
