use Rattle.lab_ready.proofs.Pieces.{seen_put}
use Rattle.lab_ready.proofs.differs.seen_label.Goals as goal

pub returns : goal.returns
returns c =
    seen_put c.args.q.now c.args.x c.variable.result.number c.program.result.now c.program-2.result.now c.lattice-order.result.now c.labels.result.now
    c.new-line.result c.put_name.new.line c.put_text.new.self c.put_label.new.line c.put_text-2.new.self _ _
    c.program.ensures.program c.lattice-order.ensures c.program-2.ensures.program c.labels.ensures c.variable.ensures
    c.new-line.ensures c.put_name.ensures.text c.put_text.ensures c.put_label.ensures.text c.put_text-2.ensures
