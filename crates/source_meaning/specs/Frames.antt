-- The lists in which a walk stands, and what is left to do in them.
use Rattle.std.specs.Prelude.{◌≤◌, ◌-◌, ℕ, List, [], ◌∷◌, All, length, take}
use Rattle.mit_syntax.specs.declared.ast.Command.{Command}
use Rattle.mit_syntax.specs.Todo.{Done, then_todo}
use Rattle.mit_syntax.specs.Plan.{Plan, list_plan}
use Rattle.mit_syntax.specs.Valid.{AreSome}
use Rattle.source_meaning.specs.InRange.{AreIn}

abbrev pub without_last : List (List Command) → List (List Command)
without_last fs = take (length fs - 1) fs

abbrev pub some_list : List Command → List (List Command)
some_list [] = []
some_list (c ∷ cs) = (c ∷ cs) ∷ []

-- the lists one after another, the last one first, and then more
abbrev pub todo_from : Plan → List (List Command) → Plan
todo_from q [] = q
todo_from q (f ∷ fs) = todo_from (then_todo (list_plan f) q) fs

abbrev pub todo_of : List (List Command) → Plan
todo_of fs = todo_from Done fs

-- a list has a command, and its variables are among the first k
abbrev pub IsFrame : ℕ → List Command → Type 0
IsFrame k f = AreSome (list_plan f) × AreIn k (list_plan f)

-- what is true of every walker
pub record IsGoing (fs : List (List Command)) (k : ℕ) : Type 0 where
  pub frames : All (IsFrame k) fs
  pub few : k ≤ 3072
