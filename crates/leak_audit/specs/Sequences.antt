-- Which sequences of events are the same, and the classes of a list of sequences.
use Rattle.std.specs.Prelude.{◌≡◌, ◌≤◌, ℕ, List, [], ◌∷◌, map, length, Bool, true, false, ◌&&◌, nat_eq}
use Rattle.std.specs.Cmp.Lexicographic.{pointwise}
use Rattle.std.specs.List.{list_any}
use Rattle.std.specs.Ordering.{int_eq}
use Rattle.label_code.specs.Machine.{Event, Wrote, Began, Ended}
use Rattle.leak_bound.specs.Records.{distinct, place_in}

-- the same variable, value and cycle, or the same mark and cycle
abbrev pub same_event : Event → Event → Bool
same_event (Wrote x n c) (Wrote y m d) = nat_eq x y && (int_eq n m && nat_eq c d)
same_event (Began j c) (Began k d) = nat_eq j k && nat_eq c d
same_event (Ended j c) (Ended k d) = nat_eq j k && nat_eq c d
same_event a b = false

-- as long, and the same at each place
abbrev pub same_sequence : List Event → List Event → Bool
same_sequence = pointwise same_event

-- each of a list is the same as one of these
abbrev pub AllAmong : {V : Type 0} → (V → V → Bool) → List V → List V → Type 0
AllAmong same ds [] = Unit {0}
AllAmong same ds (z ∷ zs) = (list_any (same z) ds ≡ true) × AllAmong same ds zs

-- the place of each, from 1, among these
abbrev pub classes_in : {V : Type 0} → (V → V → Bool) → List V → List V → List ℕ
classes_in same ds zs = map (place_in same ds) zs

-- of a list, the different ones in order of first appearance, and the class of each
pub record Classed {V : Type 0} (same : V → V → Bool) (xs ds : List V) (cs : List ℕ) : Type 0 where
  pub different : ds ≡ distinct same xs
  pub classes : cs ≡ classes_in same ds xs
  pub among : AllAmong same ds xs
  pub few : length ds ≤ length xs
