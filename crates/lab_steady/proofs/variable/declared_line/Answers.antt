use Rattle.lab_steady.proofs.Nos.{declared_is}
use Rattle.lab_steady.proofs.variable.declared_line.Goals as goal

pub returns : goal.returns
returns c =
    declared_is c.args.p.now c.args.x c.program-program.result.now c.args.label.number c.new-out.result.items
    c.put_variable.new.out.items c.extend_from_slice.new.self.items c.put_label.new.out.items c.extend_from_slice-2.new.self.items
    c.program-program.ensures.program c.requires c.new-out.ensures.items c.in_ok-put_variable.ensures
    c.in_ok-extend_from_slice.ensures.items c.in_ok-put_label.ensures c.in_ok-extend_from_slice-2.ensures.items
