use Rattle.std.proofs.Common.{ap, ◌∙◌, ◌++◌}
use Rattle.fault_print.specs.Marked.{marked, from_place}
use Rattle.fault_print.specs.Faults.{byte_lines}
use Rattle.fault_print.proofs.Told.{tells_byte}
use Rattle.fault_print.proofs.text.byte_lines.Goals as goal

pub returns : goal.returns
returns c =
    tells_byte c.args.text.now c.args.pos c.in_ok-could.could.items c.before_place.result.now c.new-out.result.items c.put_marked_byte.new.out.items
    c.before_place.ensures.is c.in_ok-could.ensures c.new-out.ensures.items
    (c.in_ok-put_marked_byte.ensures
    ∙ ap (λ z. c.new-out.result.items ++ (marked c.args.text.now c.args.pos ++ byte_lines (from_place c.args.text.now c.args.pos) z)) c.as_slice.ensures.value)
