-- The first predictions of the relevant mitigations that runs begin, listed for each level in the order of their beginnings.
use Rattle.std.specs.Prelude.{◌≡◌, ◌<◌, ◌≤◌, ◌⊎◌, ℕ, ℤ, List, [], ◌∷◌, length, map, Some, Bool, true}
use Rattle.std.specs.List.{count_by}
use Rattle.std.specs.Prelude.{Vec}
use Rattle.std.specs.declared.alloc.Global.{Global}
use Rattle.mit_syntax.specs.Todo.{Todo}
use Rattle.mit_syntax.specs.Program.{plan_of}
use Rattle.timing_types.specs.Labelled.{LabelledProgram, order_of, labels_of, levels_of}
use Rattle.source_meaning.specs.Source.{marks_of}
use Rattle.sharp_bound.specs.Sharp.{BeginsEach, relevant_at}
use Rattle.own_firsts.specs.Count.{many_at, first_at}
use Rattle.level_counts.specs.Begun.{begins_after, FirstBeginsEach}

-- what lists hold
abbrev pub lists : List (Vec ℕ Global) → List (List ℕ)
lists vs = map (λ v. v.items) vs

-- from a memory the program begins, at some step, a mitigate of those with such marks, after i others of them, and x is its
-- first prediction
abbrev pub PredictedAt : {M L : Type 0} → (ℕ → Bool) → Todo M L → List ℤ → ℕ → ℕ → Type 0
PredictedAt rel p m i x = (n : ℕ) × (k : ℕ) × (begins_after p m n ≡ Some (k, x)) × (rel k ≡ true) × (count_by rel (marks_of p m n) ≡ i)

-- so it does from one of these memories
abbrev pub PredictedAtIn : {M L : Type 0} → (ℕ → Bool) → Todo M L → List (List ℤ) → ℕ → ℕ → Type 0
PredictedAtIn rel p [] i x = ⊥
PredictedAtIn rel p (m ∷ ms) i x = PredictedAt rel p m i x ⊎ PredictedAtIn rel p ms i x

-- What is listed of the run from one memory, which ends: of each level the first predictions of all relevant mitigations that it
-- begins, each at its place.
pub record IsListed (q : LabelledProgram) (o : ℕ) (m : List ℤ) (listed : List (List ℕ)) : Type 0 where
  pub size : length listed ≡ q.program.order.size
  pub begun : BeginsEach (order_of q) (labels_of q) (levels_of q) o (plan_of q.program) m (many_at listed)
  pub each : (l i : ℕ) → i < many_at listed l
      → PredictedAt (relevant_at (order_of q) (labels_of q) (levels_of q) o (plan_of q.program) l) (plan_of q.program) m i (first_at listed l i)
  pub only : (l i x : ℕ) → PredictedAt (relevant_at (order_of q) (labels_of q) (levels_of q) o (plan_of q.program) l) (plan_of q.program) m i x
      → (i < many_at listed l) × (first_at listed l i ≡ x)

-- What is listed of the runs from some memories: a place for each relevant mitigation that the run from the first one begins,
-- and at each place the least first prediction that is at that place in one of the runs.
pub record AreListed (q : LabelledProgram) (o : ℕ) (ms : List (List ℤ)) (listed : List (List ℕ)) : Type 0 where
  pub size : length listed ≡ q.program.order.size
  pub begun : FirstBeginsEach q o ms (many_at listed)
  pub least : (l i x : ℕ) → i < many_at listed l
      → PredictedAtIn (relevant_at (order_of q) (labels_of q) (levels_of q) o (plan_of q.program) l) (plan_of q.program) ms i x → first_at listed l i ≤ x
  pub one : (l i : ℕ) → i < many_at listed l
      → PredictedAtIn (relevant_at (order_of q) (labels_of q) (levels_of q) o (plan_of q.program) l) (plan_of q.program) ms i (first_at listed l i)
