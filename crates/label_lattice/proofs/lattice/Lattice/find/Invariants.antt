use Rattle.std.proofs.Common.{◌≡◌, ◌<◌, ℕ}
use Rattle.label_lattice.specs.Order.{name_of}
use Rattle.label_lattice.proofs.lattice.Lattice.find.Given as goal

abbrev pub invariant-loop-number : goal.invariant-loop-number
invariant-loop-number l = (k : ℕ) → k < l.number → name_of l.self k ≡ l.name → ⊥
