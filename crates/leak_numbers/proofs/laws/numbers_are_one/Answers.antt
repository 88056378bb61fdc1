use Rattle.leak_numbers.proofs.Lines.{one_text}
use Rattle.leak_numbers.proofs.laws.numbers_are_one.Goals as goal

pub returns : goal.returns
returns c = one_text
