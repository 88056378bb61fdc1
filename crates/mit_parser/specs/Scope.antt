-- What names stand for, and which uses of them are wrong.
use Rattle.std.specs.Prelude.{ℕ, cond, List, [], position, Option, None, Some, is_some}
use Rattle.std.specs.Str.{bytes_eq}
use Rattle.text_base.specs.declared.pos.Pos.{Pos}
use Rattle.label_lattice.specs.declared.label.Label.{Label}
use Rattle.label_lattice.specs.Order.{Order}
use Rattle.mit_syntax.specs.Declarations.{Declaration, find_scalar, find_array}
use Rattle.mit_parser.specs.declared.fault.ParseFault.{ParseFault}
use Rattle.mit_parser.specs.declared.fault.ParseFault.TheVariants.{Unknown, Misuse}

-- the names of the labels, and what is declared
pub record Scope : Type 0 where
  pub labels : List (List ℕ)
  pub declarations : List Declaration

abbrev pub scope : List (List ℕ) → List Declaration → Scope
scope labels declarations = record { labels = labels; declarations = declarations }

-- the names of the labels, where they make a lattice
abbrev pub labels_in : Option Order → List (List ℕ)
labels_in None = []
labels_in (Some o) = o.names

abbrev pub as_label : ℕ → Label
as_label k = record { number = k }

-- the number of the label with a name
abbrev pub find_label : List (List ℕ) → List ℕ → Option ℕ
find_label labels w = position (bytes_eq w) labels

abbrev pub or_else : {A : Type 0} → A → Option A → A
or_else a None = a
or_else a (Some b) = b

-- the first of two faults
abbrev pub kept : Option ParseFault → Option ParseFault → Option ParseFault
kept None v = v
kept (Some f) v = Some f

-- a name of a label that is no label's
abbrev pub label_fault : List (List ℕ) → List ℕ → Pos → Option ParseFault
label_fault labels w p = cond (is_some (find_label labels w)) None (Some (Unknown p))

-- a name without an index that is no scalar's
abbrev pub scalar_fault : List Declaration → List ℕ → Pos → Option ParseFault
scalar_fault ds w p = cond (is_some (find_scalar ds w)) None (Some (cond (is_some (find_array ds w)) (Misuse p) (Unknown p)))

-- a name with an index that is no array's
abbrev pub array_fault : List Declaration → List ℕ → Pos → Option ParseFault
array_fault ds w p = cond (is_some (find_array ds w)) None (Some (cond (is_some (find_scalar ds w)) (Misuse p) (Unknown p)))
