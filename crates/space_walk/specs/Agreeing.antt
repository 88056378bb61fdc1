-- When the starts of a space agree for an observer: each variable that it sees has one value.
use Rattle.std.specs.Prelude.{◌≡◌, ◌<◌, ℕ, List, Some, slice_get}
use Rattle.env_contract.specs.declared.place.Touch.{Touch}
use Rattle.env_contract.specs.Env.{Env}
use Rattle.label_lattice.specs.Lattice.{Flows}
use Rattle.label_lattice.specs.Order.{Order}
use Rattle.timing_types.specs.Labelled.{LabelledProgram, order_of, labels_of}
use Rattle.space_starts.specs.declared.space.Interval.{Interval}
use Rattle.space_starts.specs.Space.{SpaceValue, many, size_of, start_at}
use Rattle.leak_audit.specs.Agreement.{start_of, AgreeFor}

-- the observer sees the variable, and it has two values or more
abbrev pub Ranges : LabelledProgram → ℕ → List (List Interval) → ℕ → Type 0
Ranges p o vs x = Flows (order_of p) (labels_of p x) o × (v : List Interval) × (slice_get vs x ≡ Some v) × (1 < many v)

-- this variable does, and none before it
pub record IsFirstRanging (p : LabelledProgram) (o : ℕ) (vs : List (List Interval)) (x : ℕ) : Type 0 where
  pub here : Ranges p o vs x
  pub first : (y : ℕ) → y < x → Ranges p o vs y → ⊥

-- none does
abbrev pub NoneRanges : LabelledProgram → ℕ → List (List Interval) → Type 0
NoneRanges p o vs = (x : ℕ) → Ranges p o vs x → ⊥

-- each two starts agree
abbrev pub AllAgree : {E : Type 0} → Env E → (Order → E → Type 0) → (Order → List Touch → E) → LabelledProgram → ℕ → SpaceValue → Type 0
AllAgree v serves made p o s =
    (n m : ℕ) → n < size_of s → m < size_of s →
    AgreeFor v serves p o (start_of made p.program.order (start_at s n)) (start_of made p.program.order (start_at s m))
