use Rattle.std.proofs.Common.{codes}
use Rattle.flow_print.specs.Lines.{label_text}
use Rattle.lab_steady.proofs.Pieces.{after_five}
use Rattle.lab_steady.proofs.words.put_flow.Goals as goal

pub returns : goal.returns
returns c =
    after_five c.args.out.now.items c.extend_from_slice.new.self.items c.put_label.new.out.items c.extend_from_slice-2.new.self.items
    c.put_label-2.new.out.items c.extend_from_slice-3.new.self.items
    (codes ": ") (label_text c.args.p.now.order c.args.have.number) (codes " does not flow to ") (label_text c.args.p.now.order c.args.allowed.number)
    (codes "\n") c.in_ok-extend_from_slice.ensures.items c.in_ok-put_label.ensures c.in_ok-extend_from_slice-2.ensures.items c.in_ok-put_label-2.ensures
    c.in_ok-extend_from_slice-3.ensures.items
