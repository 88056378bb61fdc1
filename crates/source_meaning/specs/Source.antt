-- The untimed meaning: a list of commands still to do, and a memory.
use Rattle.std.specs.Prelude.{◌≡◌, ℕ, zero, suc, List, [], ◌∷◌, ◌++◌, cond, ℤ, slice_set}
use Rattle.mit_syntax.specs.Todo.{Todo, Done, Skip, Assign, Put, Sleep, If, While, Mitigate, then_todo}
use Rattle.mit_syntax.specs.Values.{element, value_of, holds}

-- what a step may do that is told: an assignment, or a mitigate that begins
pub data Note : Type 0 where
  Assigned : ℕ → ℤ → Note
  Started : ℕ → Note

-- where a run stands: what is left to do, the memory, and what was told so far
pub record Source (M L : Type 0) : Type 0 where
  pub todo : Todo M L
  pub memory : List ℤ
  pub notes : List Note

-- one step
abbrev pub source_act : {M L : Type 0} → Todo M L → List ℤ → List Note → Source M L
source_act Done m t = record { todo = Done; memory = m; notes = t }
source_act (Skip l r) m t = record { todo = r; memory = m; notes = t }
source_act (Sleep l e r) m t = record { todo = r; memory = m; notes = t }
source_act (Assign l x e r) m t =
    record { todo = r; memory = slice_set m x (value_of e m); notes = t ++ Assigned x (value_of e m) ∷ [] }
source_act (Put l f n i e r) m t =
    let x = element f n (value_of i m) in
    record { todo = r; memory = slice_set m x (value_of e m); notes = t ++ Assigned x (value_of e m) ∷ [] }
source_act (If l e a b r) m t = record { todo = cond (holds (value_of e m)) (then_todo a r) (then_todo b r); memory = m; notes = t }
source_act (While l e c r) m t =
    record { todo = cond (holds (value_of e m)) (then_todo c (While l e c r)) r; memory = m; notes = t }
source_act (Mitigate l n v e c r) m t = record { todo = then_todo c r; memory = m; notes = t ++ Started n ∷ [] }

abbrev pub source_step : {M L : Type 0} → Source M L → Source M L
source_step s = source_act s.todo s.memory s.notes

abbrev pub source_steps : {M L : Type 0} → ℕ → Source M L → Source M L
source_steps zero s = s
source_steps (suc n) s = source_steps n (source_step s)

abbrev pub source_start : {M L : Type 0} → Todo M L → List ℤ → Source M L
source_start p m = record { todo = p; memory = m; notes = [] }

abbrev pub assigned_in : List Note → List (ℕ × ℤ)
assigned_in [] = []
assigned_in (Assigned x n ∷ ns) = (x, n) ∷ assigned_in ns
assigned_in (Started k ∷ ns) = assigned_in ns

abbrev pub started_in : List Note → List ℕ
started_in [] = []
started_in (Assigned x n ∷ ns) = started_in ns
started_in (Started k ∷ ns) = k ∷ started_in ns

-- entries and marks of the first n steps, and whether nothing is left to do
abbrev pub notes_of : {M L : Type 0} → Todo M L → List ℤ → ℕ → List Note
notes_of p m n = (source_steps n (source_start p m)).notes

abbrev pub trace_of : {M L : Type 0} → Todo M L → List ℤ → ℕ → List (ℕ × ℤ)
trace_of p m n = assigned_in (notes_of p m n)

abbrev pub marks_of : {M L : Type 0} → Todo M L → List ℤ → ℕ → List ℕ
marks_of p m n = started_in (notes_of p m n)

abbrev pub HasEnded : {M L : Type 0} → Todo M L → List ℤ → ℕ → Type 0
HasEnded p m n = (source_steps n (source_start p m)).todo ≡ Done
