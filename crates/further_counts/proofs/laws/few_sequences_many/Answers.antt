use Rattle.further_counts.proofs.Many.{is_sharp_many}
use Rattle.sharp_bound.proofs.Final.{is_sharp, is_sharp_cut}
use Rattle.further_counts.proofs.laws.few_sequences_many.Goals as goal

pub returns : goal.returns
returns h c = λ order g ls image p made.
    is_sharp_many _ order g ls image p
    (λ i. is_sharp _ order (g i) (ls i) (image i) (p i) (made i) (h.met.E.LawfulEnv.lawful order (made i).lattice))
    (λ i. is_sharp_cut _ order (g i) (ls i) (image i) (p i) (made i) (h.met.E.LawfulEnv.lawful order (made i).lattice))
