use Rattle.sharp_bound.proofs.Final.{is_sharp, is_sharp_cut, is_sharp_end, is_shared}
use Rattle.sharp_bound.proofs.Lowered.{lowered_sharp, lowered_cut, lowered_end, lowered_shared}
use Rattle.sharp_bound.proofs.laws.lowered_few_sequences_sharp.Goals as goal

pub returns-clause-halted : goal.returns-clause-halted
returns-clause-halted g c = lowered_sharp _ _
    (λ order labels levels image p made. is_sharp _ order labels levels image p made (g.met.E.LawfulEnv.lawful order made.lattice))

pub returns-clause-cut : goal.returns-clause-cut
returns-clause-cut g c = lowered_cut _ _
    (λ order labels levels image p made. is_sharp_cut _ order labels levels image p made (g.met.E.LawfulEnv.lawful order made.lattice))

pub returns-clause-ended : goal.returns-clause-ended
returns-clause-ended g c = lowered_end _ _
    (λ order labels levels image p made. is_sharp_end _ order labels levels image p made (g.met.E.LawfulEnv.lawful order made.lattice))

pub returns-clause-shared : goal.returns-clause-shared
returns-clause-shared g c = lowered_shared _ _
    (λ order labels levels image p made. is_shared _ order labels levels image p made (g.met.E.LawfulEnv.lawful order made.lattice))
