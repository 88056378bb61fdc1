use Rattle.std.proofs.Common.{ℕ, ◌<◌, List, get_or}
use Rattle.label_lattice.specs.Names.{IsName}
use Rattle.label_lattice.proofs.lattice.are_names.Given as goal

abbrev pub invariant-loop-name : goal.invariant-loop-name
invariant-loop-name l = (k : ℕ) (d : List ℕ) → k < l.name-index → IsName (get_or l.names k d)
