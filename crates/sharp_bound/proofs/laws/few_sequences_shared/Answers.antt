use Rattle.sharp_bound.proofs.Final.{is_shared}
use Rattle.sharp_bound.proofs.laws.few_sequences_shared.Goals as goal

pub returns : goal.returns
returns g c = λ order labels levels image p made. is_shared _ order labels levels image p made (g.met.E.LawfulEnv.lawful order made.lattice)
