-- Tables of pairs of labels, in rows.
use Rattle.std.specs.Prelude.{◌≡◌, ℕ, ◌+◌, ◌*◌, ◌/◌, ◌%◌, ◌<◌, ◌⊎◌, Bool, true, false, ◌||◌, ◌&&◌, ◌==◌, List, slice_index_or}
use Rattle.label_lattice.specs.declared.label.Label.{Label}
use Rattle.label_lattice.specs.declared.checks.Check.{Check}
use Rattle.label_lattice.specs.declared.checks.Check.TheVariants.{Cycle, Bottom, Join}
use Rattle.label_lattice.specs.Order.{row, flows_in}
use Rattle.label_lattice.specs.Chains.{Chain, IsCycle, AreLowest, IsJoin, HaveNoJoin}

-- the table says so of the pair
abbrev pub IsSet : List Bool → ℕ → ℕ → Type 0
IsSet t a b = flows_in t a b ≡ true

-- at a place of the table: the label of the row is that of the column
abbrev pub on_diagonal : ℕ → Bool
on_diagonal i = i / row == i % row

-- at a place of the table: set before, or by way of the pair (x, y)
abbrev pub extended : List Bool → ℕ → ℕ → ℕ → Bool
extended t x y i = slice_index_or t i false || (slice_index_or t (i / row * row + x) false && slice_index_or t (y * row + i % row) false)

-- the table has what the pairs say
pub record IsClosure (t : List Bool) (pairs : List (Label × Label)) : Type 0 where
  pub sets : (a b : ℕ) → a < row → b < row → IsSet t a b → Chain pairs a b
  pub set : (a b : ℕ) → a < row → b < row → Chain pairs a b → IsSet t a b

-- what a check refuses
abbrev pub IsRefused : Check → ℕ → (ℕ → ℕ → Type 0) → ℕ → ℕ → Type 0
IsRefused Cycle n flows = IsCycle flows
IsRefused Bottom n flows = AreLowest n flows
IsRefused Join n flows = HaveNoJoin n flows

-- at a place of the table: the join of the row's label and the column's, or 0 if there is none
abbrev pub IsJoinOf : ℕ → List Bool → ℕ → ℕ → Type 0
IsJoinOf n t i j = (HaveNoJoin n (IsSet t) (i / row) (i % row) × (j ≡ 0)) ⊎ ((j < n) × IsJoin n (IsSet t) (i / row) (i % row) j)
