use Rattle.leak_numbers.proofs.Weights.{enclosed}
use Rattle.leak_numbers.proofs.laws.ends_enclose.Goals as goal

pub returns : goal.returns
returns c = enclosed
