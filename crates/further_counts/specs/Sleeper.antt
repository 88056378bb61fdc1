-- Why the end label has to flow to the observer: sleep h.
use Rattle.std.specs.Prelude.{◌≡◌, ℕ, zero, suc, ◌+◌, ◌<◌, ◌≤◌, List, [], ◌∷◌, length, ℤ, pos}
use Rattle.mit_syntax.specs.Expression.{Variable}
use Rattle.mit_syntax.specs.Todo.{Marked, Done, Sleep}
use Rattle.label_lattice.specs.Lattice.{Lattice, Flows, IsLattice}
use Rattle.label_lattice.specs.Order.{Order, lattice_of}
use Rattle.env_contract.specs.Env.{Env}
use Rattle.label_code.specs.Run.{Start}
use Rattle.label_code.specs.declared.code.Instr.{Instr}
use Rattle.code_lower.specs.Code.{image_of}
use Rattle.leak_bound.specs.Records.{Each, Pairwise}
use Rattle.leak_bound.specs.Sound.{Agree, Halts, IsCompiled}
use Rattle.sharp_bound.specs.Sharp.{BeginsEach}
use Rattle.sharp_bound.specs.End.{seen_to_end, EndsLow}
use Rattle.further_counts.specs.Near.{h_high, all_high, ShowApart}

-- sleep h
abbrev pub sleeps : Lattice → Marked
sleeps lat = Sleep (record { er = lat.bottom; ew = lat.bottom }) (Variable 0) Done

abbrev pub sleeps_image : Lattice → ℕ → ℕ → List Instr
sleeps_image lat high o = image_of lat (h_high high o) (sleeps lat)

-- h = n
abbrev pub asleep : {E : Type 0} → E → ℕ → Start E
asleep e n = record { memory = pos n ∷ []; env = e }

-- h = n - 1, .., 0
abbrev pub sleepers : {E : Type 0} → E → ℕ → List (Start E)
sleepers e zero = []
sleepers e (suc n) = asleep e n ∷ sleepers e n

-- The program is accepted and begins no mitigate, so that its sharp count is 1. Its end label does not flow to
-- the observer. And n starts, of whatever number, that agree and halt by T show n different ends.
pub record SleeperTells {E : Type 0} (v : Env E) (order : Order) (serves : E → Type 0) (o high : ℕ) : Type 0 where
  pub accepted : IsCompiled order (h_high high o) (all_high high) (sleeps_image (lattice_of order) high o) (sleeps (lattice_of order))
  pub begins : (memory : List ℤ) → BeginsEach (lattice_of order) (h_high high o) (all_high high) o (sleeps (lattice_of order)) memory (λ l. 0)
  pub ends_high : EndsLow (lattice_of order) (h_high high o) (sleeps (lattice_of order)) o → ⊥
  pub long : (e : E) (n : ℕ) → length (sleepers e n) ≡ n
  pub agree : (e : E) → serves e → (n : ℕ) → Pairwise (Agree v (lattice_of order) serves (h_high high o) o) (sleepers e n)
  pub halt : (e : E) (n t : ℕ) → n + 2 ≤ t → Each (Halts v (sleeps_image (lattice_of order) high o) t) (sleepers e n)
  pub apart : (e : E) (n t : ℕ) → n + 2 ≤ t → ShowApart (seen_to_end v (lattice_of order) (h_high high o) (sleeps_image (lattice_of order) high o) o t)
      (sleepers e n)

abbrev pub EndTells : {E : Type 0} → Env E → (Order → E → Type 0) → Type 0
EndTells v serves =
    (order : Order) → IsLattice (lattice_of order) → (o high : ℕ) → o < order.size → high < order.size →
    (Flows (lattice_of order) high o → ⊥) → SleeperTells v order (serves order) o high
