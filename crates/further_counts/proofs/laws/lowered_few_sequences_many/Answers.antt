use Rattle.sharp_bound.proofs.Final.{is_sharp, is_sharp_cut}
use Rattle.further_counts.proofs.Left.{leaves_agree}
use Rattle.further_counts.proofs.Lowered.{lowered_many, lowered_left}
use Rattle.further_counts.proofs.laws.lowered_few_sequences_many.Goals as goal

pub returns-clause-many : goal.returns-clause-many
returns-clause-many h c = lowered_many _ _ _
    (λ order g ls image p made. is_sharp _ order g ls image p made (h.met.E.LawfulEnv.lawful order made.lattice))
    (λ order g ls image p made. is_sharp_cut _ order g ls image p made (h.met.E.LawfulEnv.lawful order made.lattice))

pub returns-clause-left : goal.returns-clause-left
returns-clause-left h c = lowered_left _ _
    (λ order g ls image p made o low. leaves_agree _ order g ls image p made (h.met.E.LawfulEnv.lawful order made.lattice) o)
