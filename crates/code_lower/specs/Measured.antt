-- What is counted of code.
use Rattle.std.specs.Prelude.{◌≡◌}
use Rattle.mit_syntax.specs.Expression.{Expression}
use Rattle.mit_syntax.specs.Plan.{Plan}
use Rattle.code_lower.specs.Layout.{expr_size, size}
use Rattle.code_lower.specs.Depth.{expr_operands, most_operands, deepest}
use Rattle.code_lower.specs.declared.size.Extent.{Extent}

-- the size and the greatest depths of the code of an expression
pub record IsExprExtent (x : Extent) (e : Expression) : Type 0 where
  pub size : x.size ≡ expr_size e
  pub operands : x.operands ≡ expr_operands e
  pub nesting : x.nesting ≡ 0

-- the same of a list
pub record IsExtent (x : Extent) (p : Plan) : Type 0 where
  pub size : x.size ≡ size p
  pub operands : x.operands ≡ most_operands p
  pub nesting : x.nesting ≡ deepest p
