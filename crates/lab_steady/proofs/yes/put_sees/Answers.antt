use Rattle.std.proofs.Common.{codes}
use Rattle.std.specs.Prelude.{decimal}
use Rattle.lab_steady.proofs.Pieces.{after_five}
use Rattle.lab_steady.proofs.yes.put_sees.Goals as goal

pub returns : goal.returns
returns c =
    after_five c.args.out.now.items c.extend_from_slice.new.self.items c.put_natural.new.out.items c.extend_from_slice-2.new.self.items
    c.put_natural-2.new.out.items c.extend_from_slice-3.new.self.items
    (codes "sees ") (decimal c.args.seen) (codes " of ") (decimal c.args.all) (codes " variables\n")
    c.in_ok-extend_from_slice.ensures.items c.in_ok-put_natural.ensures c.in_ok-extend_from_slice-2.ensures.items c.in_ok-put_natural-2.ensures
    c.in_ok-extend_from_slice-3.ensures.items
