-- The starts of a list, whether they agree for an observer, and the first difference of two that do not.
use Rattle.std.specs.Prelude.{◌≡◌, ◌≢◌, ◌<◌, ◌+◌, ◌++◌, ◌⊎◌, ℕ, List, [], ◌∷◌, length, map}
use Rattle.label_lattice.specs.Lattice.{Flows}
use Rattle.label_lattice.specs.Order.{Order}
use Rattle.mit_syntax.specs.Values.{read}
use Rattle.timing_types.specs.Labelled.{LabelledProgram, order_of, labels_of}
use Rattle.env_contract.specs.declared.place.Place.{Place}
use Rattle.env_contract.specs.declared.place.Place.TheVariants.{Page, Code, Data, Second}
use Rattle.env_contract.specs.declared.place.Touch.{Touch}
use Rattle.env_contract.specs.Env.{Env}
use Rattle.label_code.specs.Run.{Start}
use Rattle.start_file.specs.Starts.{StartValue}
use Rattle.leak_bound.specs.Records.{Each}
use Rattle.leak_bound.specs.Sound.{Agree}
use Rattle.leak_audit.specs.declared.agreement.Disagreement.{Disagreement}
use Rattle.leak_audit.specs.declared.agreement.Disagreement.TheVariants.{Differs as Apart, Memory}
use Rattle.leak_audit.specs.declared.what.What.{What}
use Rattle.leak_audit.specs.declared.what.What.TheVariants.{Variable, Partition}

-- what a run starts from: the values, and the environment that the touches make
abbrev pub start_of : {E : Type 0} → (Order → List Touch → E) → Order → StartValue → Start E
start_of made order s = record { memory = s.memory; env = made order s.touches }

abbrev pub starts_of : {E : Type 0} → (Order → List Touch → E) → Order → List StartValue → List (Start E)
starts_of made order ss = map (start_of made order) ss

-- two starts of a program agree for an observer
abbrev pub AgreeFor : {E : Type 0} → Env E → (Order → E → Type 0) → LabelledProgram → ℕ → Start E → Start E → Type 0
AgreeFor v serves p o s s' = Agree v (order_of p) (serves p.program.order) (labels_of p) o s s'

-- two starts differ here, where it flows to the observer
abbrev pub Differs : {E : Type 0} → Env E → LabelledProgram → ℕ → Start E → Start E → What → Type 0
Differs v p o s s' (Variable x) = Flows (order_of p) (labels_of p x) o × (read s.memory x ≢ read s'.memory x)
Differs v p o s s' (Partition q l) = Flows (order_of p) l.number o × (v.part q l.number s.env ≢ v.part q l.number s'.env)

-- the order of the places
abbrev pub place_number : Place → ℕ
place_number Page = 0
place_number Code = 1
place_number Data = 2
place_number Second = 3

-- variables come by their numbers and before the places, and a place's partitions by their labels
abbrev pub IsBefore : What → What → Type 0
IsBefore (Variable x) (Variable y) = x < y
IsBefore (Variable x) (Partition q l) = Unit {0}
IsBefore (Partition q l) (Variable y) = ⊥
IsBefore (Partition q l) (Partition r k) = (place_number q < place_number r) ⊎ ((q ≡ r) × (l.number < k.number))

-- two starts differ here and nowhere before
pub record IsFirstDifference {E : Type 0} (v : Env E) (p : LabelledProgram) (o : ℕ) (s s' : Start E) (w : What) : Type 0 where
  pub here : Differs v p o s s' w
  pub first : (b : What) → IsBefore b w → Differs v p o s s' b → ⊥

-- of a list, the first start that does not agree with a given one, its number, from 1, and its first difference
pub record IsFirstApart {E : Type 0} (v : Env E) (serves : Order → E → Type 0) (p : LabelledProgram) (o : ℕ) (one : Start E) (ss : List (Start E)) (run : ℕ)
    (w : What) : Type 0 where
  pub before : List (Start E)
  pub apart : Start E
  pub after : List (Start E)
  pub are : ss ≡ before ++ apart ∷ after
  pub agree : Each (AgreeFor v serves p o one) before
  pub number : run ≡ length before + 1
  pub differs : IsFirstDifference v p o one apart w

-- of a list, the first that does not agree with the first one
abbrev pub Disagrees : {E : Type 0} → Env E → (Order → E → Type 0) → LabelledProgram → ℕ → List (Start E) → ℕ → What → Type 0
Disagrees v serves p o [] run w = ⊥
Disagrees v serves p o (s ∷ ss) run w = IsFirstApart v serves p o s (s ∷ ss) run w

-- what is told of a list whose starts are not known to agree
abbrev pub IsDisagreement : {E : Type 0} → Env E → (Order → E → Type 0) → LabelledProgram → ℕ → List (Start E) → Disagreement → Type 0
IsDisagreement v serves p o ss (Apart run w) = Disagrees v serves p o ss run w
IsDisagreement v serves p o ss Memory = Unit {0}
