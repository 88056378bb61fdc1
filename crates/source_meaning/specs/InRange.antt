-- Expressions and commands whose variables a memory has.
use Rattle.std.specs.Prelude.{ℕ, ◌+◌, ◌<◌, ◌≤◌}
use Rattle.mit_syntax.specs.Expression.{Expression, Number, Variable, Binary, Element}
use Rattle.mit_syntax.specs.Todo.{Done, Skip, Assign, Put, Sleep, If, While, Mitigate}
use Rattle.mit_syntax.specs.Plan.{Plan}
use Rattle.mit_syntax.specs.Valid.{AreSome}

-- an array has an element, and all of them are among the first k variables
abbrev pub IsArrayIn : ℕ → ℕ → ℕ → Type 0
IsArrayIn k f n = (0 < n) × (f + n ≤ k)

-- the variables and arrays of an expression are among the first k variables
abbrev pub IsIn : ℕ → Expression → Type 0
IsIn k (Number n) = Unit {0}
IsIn k (Variable x) = x < k
IsIn k (Binary o l r) = IsIn k l × IsIn k r
IsIn k (Element f n i) = IsArrayIn k f n × IsIn k i

-- so are those of commands, whose lists inside have a command
abbrev pub AreIn : ℕ → Plan → Type 0
AreIn k Done = Unit {0}
AreIn k (Skip m r) = AreIn k r
AreIn k (Assign m x e r) = (x < k) × IsIn k e × AreIn k r
AreIn k (Put m f n i e r) = IsArrayIn k f n × IsIn k i × IsIn k e × AreIn k r
AreIn k (Sleep m e r) = AreIn k r
AreIn k (If m e a b r) = IsIn k e × (AreSome a × AreIn k a) × (AreSome b × AreIn k b) × AreIn k r
AreIn k (While m e c r) = IsIn k e × (AreSome c × AreIn k c) × AreIn k r
AreIn k (Mitigate m j l e c r) = (AreSome c × AreIn k c) × AreIn k r
