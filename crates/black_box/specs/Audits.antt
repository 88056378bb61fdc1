-- Which runs show the same releases.
use Rattle.std.specs.Prelude.{ℕ, Bool, List, map, nat_eq}
use Rattle.std.specs.Cmp.Lexicographic.{pointwise}
use Rattle.black_box.specs.declared.release.Releases.{Releases}

-- two lists of cycles are equal
abbrev pub same_cycles : List ℕ → List ℕ → Bool
same_cycles = pointwise nat_eq

-- the lists of releases of runs
abbrev pub shown : List Releases → List (List ℕ)
shown runs = map (λ r. r.at.items) runs
