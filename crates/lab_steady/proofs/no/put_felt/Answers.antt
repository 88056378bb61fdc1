use Rattle.lab_steady.proofs.Nos.{felt_put}
use Rattle.lab_steady.proofs.no.put_felt.Goals as goal

pub returns : goal.returns
returns c =
    felt_put c.args.p.now c.args.parts.number c.args.label.number c.program.result.now c.program-2.result.now c.args.out.now.items
    c.put_flow.new.out.items c.extend_from_slice.new.self.items c.put_label.new.out.items c.extend_from_slice-2.new.self.items
    c.program.ensures.program c.program-2.ensures.program c.in_ok-put_flow.ensures c.in_ok-extend_from_slice.ensures.items c.in_ok-put_label.ensures
    c.in_ok-extend_from_slice-2.ensures.items
