-- The arrays of commands, under a labelling of variables. Each program that is read has them: only declared arrays stand in
-- its commands, and the label of a declaration is that of each element.
use Rattle.std.specs.Prelude.{◌≡◌, ℕ, ◌+◌, ◌<◌}
use Rattle.mit_syntax.specs.Expression.{Expression, Number, Variable, Binary, Element}
use Rattle.mit_syntax.specs.Todo.{Todo, Done, Skip, Assign, Put, Sleep, If, While, Mitigate}

-- all elements of an array have the label of its first, and it has one
pub record IsArray (g : ℕ → ℕ) (f n : ℕ) : Type 0 where
  pub some : 0 < n
  pub same : (k : ℕ) → k < n → g (f + k) ≡ g f

-- the arrays of an expression are arrays
abbrev pub HasArrays : (ℕ → ℕ) → Expression → Type 0
HasArrays g (Number n) = Unit {0}
HasArrays g (Variable x) = Unit {0}
HasArrays g (Binary o l r) = HasArrays g l × HasArrays g r
HasArrays g (Element f n i) = IsArray g f n × HasArrays g i

-- of each expression and assignment of a list
abbrev pub ArraysIn : {M L : Type 0} → (ℕ → ℕ) → Todo M L → Type 0
ArraysIn g Done = Unit {0}
ArraysIn g (Skip m r) = ArraysIn g r
ArraysIn g (Assign m x e r) = HasArrays g e × ArraysIn g r
ArraysIn g (Put m f n i e r) = (IsArray g f n × HasArrays g i × HasArrays g e) × ArraysIn g r
ArraysIn g (Sleep m e r) = HasArrays g e × ArraysIn g r
ArraysIn g (If m e a b r) = HasArrays g e × ArraysIn g a × ArraysIn g b × ArraysIn g r
ArraysIn g (While m e c r) = HasArrays g e × ArraysIn g c × ArraysIn g r
ArraysIn g (Mitigate m k l e c r) = HasArrays g e × ArraysIn g c × ArraysIn g r
