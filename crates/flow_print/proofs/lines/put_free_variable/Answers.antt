use Rattle.std.proofs.Common.{◌++◌}
use Rattle.std.specs.Prelude.{codes}
use Rattle.flow_print.specs.Lines.{variable_text, line}
use Rattle.flow_print.proofs.Walked.{put_three}
use Rattle.flow_print.proofs.lines.put_free_variable.Goals as goal

pub returns : goal.returns
returns c =
    let w = variable_text c.args.p.now c.args.y in
    let rest = codes ", which gets its value " ++ (c.args.bound.now ++ line (codes ", is at least ") c.args.first.now) in
    put_three c.args.out.now.items (codes "so ") w rest c.extend_from_slice.new.self.items c.put_variable.new.out.items c.put_about.new.out.items
    c.in_ok-extend_from_slice.ensures.items c.in_ok-put_variable.ensures c.in_ok-put_about.ensures
