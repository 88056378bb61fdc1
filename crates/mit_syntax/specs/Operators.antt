-- The operators: their signs, and which of them bind closer.
use Rattle.std.specs.Prelude.{ℕ, ◌+◌, max, Option, Some, None}
use Rattle.mit_syntax.specs.declared.ast.Op.{Op}
use Rattle.mit_syntax.specs.declared.ast.Op.TheVariants.{Add, Sub, Mul, Div, Rem, Eq, Ne, Lt, Le, Gt, Ge}
use Rattle.mit_syntax.specs.declared.token.Sign.{Sign}
use Rattle.mit_syntax.specs.declared.token.Sign.TheVariants.{Plus, Minus, Star, Slash, Percent, Equal, NotEqual, LessEqual, Less, GreaterEqual, Greater}

abbrev pub op_sign : Op → Sign
op_sign Add = Plus
op_sign Sub = Minus
op_sign Mul = Star
op_sign Div = Slash
op_sign Rem = Percent
op_sign Eq = Equal
op_sign Ne = NotEqual
op_sign Lt = Less
op_sign Le = LessEqual
op_sign Gt = Greater
op_sign Ge = GreaterEqual

-- the operator that a sign is
abbrev pub op_of : Sign → Option Op
op_of Plus = Some Add
op_of Minus = Some Sub
op_of Star = Some Mul
op_of Slash = Some Div
op_of Percent = Some Rem
op_of Equal = Some Eq
op_of NotEqual = Some Ne
op_of Less = Some Lt
op_of LessEqual = Some Le
op_of Greater = Some Gt
op_of GreaterEqual = Some Ge
op_of _ = None

-- the rank of an operator: comparisons have the lowest. Numbers, variables and elements have rank 4
abbrev pub rank : Op → ℕ
rank Add = 2
rank Sub = 2
rank Mul = 3
rank Div = 3
rank Rem = 3
rank Eq = 1
rank Ne = 1
rank Lt = 1
rank Le = 1
rank Gt = 1
rank Ge = 1

-- the least rank that its left part has without parentheses: an operator groups to the left, but a comparison with nothing
abbrev pub left_need : Op → ℕ
left_need o = max 2 (rank o)

-- the same of its right part
abbrev pub right_need : Op → ℕ
right_need o = rank o + 1
