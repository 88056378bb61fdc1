-- What an observer sees of a log.
use Rattle.std.specs.Prelude.{ℕ, List, [], ◌∷◌, cond}
use Rattle.label_lattice.specs.Lattice.{Lattice}
use Rattle.label_code.specs.Machine.{Event, Wrote, Began, Ended}

-- the assignments to variables whose labels flow to the observer
abbrev pub visible : Lattice → (ℕ → ℕ) → ℕ → List Event → List Event
visible lat g o [] = []
visible lat g o (Wrote x n c ∷ es) = cond (lat.flows (g x) o) (Wrote x n c ∷ visible lat g o es) (visible lat g o es)
visible lat g o (Began k c ∷ es) = visible lat g o es
visible lat g o (Ended k c ∷ es) = visible lat g o es
