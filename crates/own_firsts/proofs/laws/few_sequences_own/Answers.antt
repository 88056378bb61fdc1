use Rattle.own_firsts.proofs.Final.{is_own}
use Rattle.own_firsts.proofs.laws.few_sequences_own.Goals as goal

pub returns : goal.returns
returns g c = λ order labels levels image p made. is_own _ order labels levels image p made (g.met.E.LawfulEnv.lawful order made.lattice)
