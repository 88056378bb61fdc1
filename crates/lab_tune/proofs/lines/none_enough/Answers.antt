use Rattle.std.specs.Prelude.{codes}
use Rattle.lab_tune.proofs.Lining.{two_numbers}
use Rattle.lab_tune.proofs.lines.none_enough.Goals as goal

pub returns : goal.returns
returns c =
    two_numbers (codes "tune #") (codes ": none tells at most 2^") (codes "\n") c.new-line.result c.put_number.new.line c.put_number-2.new.line
    c.put_text.new.self c.from.result c.from-2.result c.args.mark c.args.bits c.from.ensures c.from-2.ensures c.new-line.ensures c.put_number.ensures.text
    c.put_number-2.ensures.text c.put_text.ensures
