use Rattle.further_counts.proofs.Both.{is_sharp_twice}
use Rattle.sharp_bound.proofs.Final.{is_sharp, is_sharp_cut}
use Rattle.further_counts.proofs.Left.{leaves_agree}
use Rattle.further_counts.proofs.laws.few_sequences_twice.Goals as goal

pub returns-clause-few : goal.returns-clause-few
returns-clause-few h c = λ order g ls image p g' ls' image' p' made made'.
    let laws = h.met.E.LawfulEnv.lawful order made.lattice in
    is_sharp_twice _ order g ls image p g' ls' image' p' (is_sharp _ order g ls image p made laws) (is_sharp _ order g' ls' image' p' made' laws)
    (is_sharp_cut _ order g ls image p made laws) (is_sharp_cut _ order g' ls' image' p' made' laws)

pub returns-clause-left : goal.returns-clause-left
returns-clause-left h c = λ order g ls image p made o low. leaves_agree _ order g ls image p made (h.met.E.LawfulEnv.lawful order made.lattice) o
