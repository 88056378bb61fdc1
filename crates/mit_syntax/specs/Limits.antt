-- The limits on a program's shape, counted on its canonical text: at most 100 brackets are open at once, and
-- a whole expression has at most 256 operators. The brackets are `(`, `{` and the `[` of an index.
use Rattle.std.specs.Prelude.{ℕ, ◌+◌, ◌<◌, ◌≤◌, cond, ltb, max}
use Rattle.mit_syntax.specs.Expression.{Expression, Number, Variable, Binary, Element}
use Rattle.mit_syntax.specs.Operators.{rank, left_need, right_need}
use Rattle.mit_syntax.specs.Todo.{Done, Skip, Assign, Put, Sleep, If, While, Mitigate}
use Rattle.mit_syntax.specs.Plan.{Plan}

-- how many brackets an expression has open at once, written where at least this rank is needed
abbrev pub depth : ℕ → Expression → ℕ
depth need (Number n) = 0
depth need (Variable x) = 0
depth need (Binary o l r) = cond (ltb (rank o) need) 1 0 + max (depth (left_need o) l) (depth (right_need o) r)
depth need (Element f n i) = 1 + depth 1 i

-- how many operators it has, those of indices included
abbrev pub operators : Expression → ℕ
operators (Number n) = 0
operators (Variable x) = 0
operators (Binary o l r) = 1 + operators l + operators r
operators (Element f n i) = operators i

-- the limits of a whole expression, where this many brackets are open around it
pub record IsSmall (open_brackets : ℕ) (e : Expression) : Type 0 where
  pub depth : open_brackets + depth 1 e ≤ 100
  pub operators : operators e ≤ 256

-- the limits of each expression and of each block of a list
abbrev pub AreSmall : ℕ → Plan → Type 0
AreSmall d Done = Unit {0}
AreSmall d (Skip m r) = AreSmall d r
AreSmall d (Assign m x e r) = IsSmall d e × AreSmall d r
AreSmall d (Put m f n i e r) = IsSmall (d + 1) i × IsSmall d e × AreSmall d r
AreSmall d (Sleep m e r) = IsSmall d e × AreSmall d r
AreSmall d (If m e a b r) = IsSmall d e × (d < 100) × AreSmall (d + 1) a × AreSmall (d + 1) b × AreSmall d r
AreSmall d (While m e c r) = IsSmall d e × (d < 100) × AreSmall (d + 1) c × AreSmall d r
AreSmall d (Mitigate m k l e c r) = IsSmall (d + 1) e × AreSmall (d + 1) c × AreSmall d r
