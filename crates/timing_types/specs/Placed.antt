-- A program's commands with all labels that a labelling gives, and where each command stands.
use Rattle.std.specs.Prelude.{ℕ, ◌+◌, Bool, is_some}
use Rattle.text_base.specs.declared.pos.Pos.{Pos}
use Rattle.mit_syntax.specs.Todo.{Marks, Marked, Todo, Done, Skip, Assign, Put, Sleep, If, While, Mitigate, map_todo}
use Rattle.mit_syntax.specs.Plan.{Written, Plan, count}

-- a command's position, and its two labels
pub record Placed : Type 0 where
  pub pos : Pos
  pub marks : Marks

-- a mitigate's level, and whether the program writes it
pub record Level : Type 0 where
  pub written : Bool
  pub label : ℕ

abbrev pub Tree : Type 0
Tree = Todo Placed Level

abbrev pub placed : (ℕ → Marks) → Written → ℕ → Placed
placed ms w i = record { pos = w.pos; marks = ms i }

-- The commands of a program, numbered from i in order of the text: ms gives the two labels of a command
-- by its number, ls the level of a mitigate by its mark. An if is numbered before its then-part, that
-- before its else-part, and that before what follows.
abbrev pub labelled : (ℕ → Marks) → (ℕ → ℕ) → Plan → ℕ → Tree
labelled ms ls Done i = Done
labelled ms ls (Skip w p) i = Skip (placed ms w i) (labelled ms ls p (i + 1))
labelled ms ls (Assign w x e p) i = Assign (placed ms w i) x e (labelled ms ls p (i + 1))
labelled ms ls (Put w f n j e p) i = Put (placed ms w i) f n j e (labelled ms ls p (i + 1))
labelled ms ls (Sleep w e p) i = Sleep (placed ms w i) e (labelled ms ls p (i + 1))
labelled ms ls (If w e a b p) i =
    If (placed ms w i) e (labelled ms ls a (i + 1)) (labelled ms ls b (i + 1 + count a)) (labelled ms ls p (i + 1 + count a + count b))
labelled ms ls (While w e c p) i = While (placed ms w i) e (labelled ms ls c (i + 1)) (labelled ms ls p (i + 1 + count c))
labelled ms ls (Mitigate w k l e c p) i =
    Mitigate (placed ms w i) k (record { written = is_some l; label = ls k }) e (labelled ms ls c (i + 1)) (labelled ms ls p (i + 1 + count c))

-- the labels alone
abbrev pub bare : Tree → Marked
bare p = map_todo (λ m. m.marks) (λ l. l.label) p
