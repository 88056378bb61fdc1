-- What the runs of a program begin: how many relevant mitigations of each level, and their first predictions.
use Rattle.std.specs.Prelude.{◌≡◌, ◌≤◌, ◌⊎◌, ℕ, ℤ, List, [], ◌∷◌, length, map, Option, Some, None, Bool, true}
use Rattle.mit_syntax.specs.Todo.{Todo, Done, Skip, Assign, Put, Sleep, If, While, Mitigate}
use Rattle.mit_syntax.specs.Program.{plan_of}
use Rattle.mit_syntax.specs.Values.{value_of}
use Rattle.doubling_schedule.specs.Doubling.{prediction}
use Rattle.timing_types.specs.Labelled.{LabelledProgram, order_of, labels_of, levels_of}
use Rattle.source_meaning.specs.Source.{source_start, source_steps}
use Rattle.start_file.specs.Starts.{StartValue}
use Rattle.sharp_count.specs.declared.count.LevelRuns.{LevelRuns}
use Rattle.sharp_count.specs.Levels.{told_of, counts_of}
use Rattle.sharp_bound.specs.Sharp.{BeginsEach, relevant_at}

-- the mark and the first prediction of the mitigate that is the next command, where it is one
abbrev pub begins_next : {M L : Type 0} → Todo M L → List ℤ → Option (ℕ × ℕ)
begins_next Done m = None
begins_next (Skip w r) m = None
begins_next (Assign w x e r) m = None
begins_next (Put w f n i e r) m = None
begins_next (Sleep w e r) m = None
begins_next (If w e a b r) m = None
begins_next (While w e c r) m = None
begins_next (Mitigate w k l e c r) m = Some (k, prediction (value_of e m) 0)

-- the same after n steps from a memory
abbrev pub begins_after : {M L : Type 0} → Todo M L → List ℤ → ℕ → Option (ℕ × ℕ)
begins_after p m n = begins_next (source_steps n (source_start p m)).todo (source_steps n (source_start p m)).memory

-- from a memory the program begins, at some step, a mitigate of those with such marks, and x is its first prediction
abbrev pub Predicted : {M L : Type 0} → (ℕ → Bool) → Todo M L → List ℤ → ℕ → Type 0
Predicted rel p m x = (n : ℕ) × (k : ℕ) × (begins_after p m n ≡ Some (k, x)) × (rel k ≡ true)

-- so it does from one of these memories
abbrev pub PredictedIn : {M L : Type 0} → (ℕ → Bool) → Todo M L → List (List ℤ) → ℕ → Type 0
PredictedIn rel p [] x = ⊥
PredictedIn rel p (m ∷ ms) x = Predicted rel p m x ⊎ PredictedIn rel p ms x

-- the least of some numbers, and 0 where there is none
pub record IsLeast (Is : ℕ → Type 0) (x : ℕ) : Type 0 where
  pub least : (y : ℕ) → Is y → x ≤ y
  pub one : Is x ⊎ ((x ≡ 0) × ((y : ℕ) → Is y → ⊥))

-- from the first of these memories the program ends, and begins until then as many relevant mitigates of each level as
-- are counted
abbrev pub FirstBeginsEach : LabelledProgram → ℕ → List (List ℤ) → (ℕ → ℕ) → Type 0
FirstBeginsEach q o [] counts = (l : ℕ) → counts l ≡ 0
FirstBeginsEach q o (m ∷ ms) counts = BeginsEach (order_of q) (labels_of q) (levels_of q) o (plan_of q.program) m counts

abbrev pub memories_of : List StartValue → List (List ℤ)
memories_of ss = map (λ s. s.memory) ss

-- What is told of each level, by its number: how many mitigations of that level that are relevant to the observer the
-- run from the first memory begins; and the least of their first predictions in the runs from all memories.
pub record AreTold (q : LabelledProgram) (o : ℕ) (ms : List (List ℤ)) (levels : List LevelRuns) : Type 0 where
  pub size : length levels ≡ q.program.order.size
  pub begun : FirstBeginsEach q o ms (counts_of levels)
  pub first : (l : ℕ) → IsLeast (PredictedIn (relevant_at (order_of q) (labels_of q) (levels_of q) o (plan_of q.program) l) (plan_of q.program) ms)
      (told_of levels l).first
