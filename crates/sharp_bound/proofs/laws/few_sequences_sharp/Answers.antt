use Rattle.sharp_bound.proofs.Final.{is_sharp, is_sharp_cut, is_sharp_end}
use Rattle.sharp_bound.proofs.laws.few_sequences_sharp.Goals as goal

pub returns-clause-halted : goal.returns-clause-halted
returns-clause-halted g c = λ order labels levels image p made. is_sharp _ order labels levels image p made (g.met.E.LawfulEnv.lawful order made.lattice)

pub returns-clause-cut : goal.returns-clause-cut
returns-clause-cut g c = λ order labels levels image p made. is_sharp_cut _ order labels levels image p made (g.met.E.LawfulEnv.lawful order made.lattice)

pub returns-clause-ended : goal.returns-clause-ended
returns-clause-ended g c = λ order labels levels image p made. is_sharp_end _ order labels levels image p made (g.met.E.LawfulEnv.lawful order made.lattice)
