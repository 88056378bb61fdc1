-- Expressions, without where they lie in memory.
use Rattle.std.specs.Prelude.{ℕ, ℤ}
use Rattle.mit_syntax.specs.declared.ast.Op.{Op}
use Rattle.mit_syntax.specs.declared.ast.Expr.{Expr}
use Rattle.mit_syntax.specs.declared.ast.Expr.TheVariants.{Number as ENumber, Variable as EVariable, Binary', Element'}

pub data Expression : Type 0 where
  Number : ℤ → Expression
  Variable : ℕ → Expression
  Binary : Op → Expression → Expression → Expression
  -- the first element of an array, its length, and the index
  Element : ℕ → ℕ → Expression → Expression

abbrev pub expression_of : Expr → Expression
expression_of (ENumber n) = Number n
expression_of (EVariable x) = Variable x
expression_of (Binary' o p l q r) = Binary o (expression_of l) (expression_of r)
expression_of (Element' f n p i) = Element f n (expression_of i)
