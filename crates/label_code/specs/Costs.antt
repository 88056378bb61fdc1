-- Cycles of an operator beyond its 1.
use Rattle.std.specs.Prelude.{ℕ, cond, Bool, ◌&&◌, ℤ, pos, negsuc, int_le}
use Rattle.mit_syntax.specs.declared.ast.Op.{Op}
use Rattle.mit_syntax.specs.declared.ast.Op.TheVariants.{Add, Sub, Mul, Div, Rem, Eq, Ne, Lt, Le, Gt, Ge}

-- at least -32768 and at most 32767
abbrev pub is_short : ℤ → Bool
is_short x = int_le (negsuc 32767) x && int_le x (pos 32767)

-- a product costs 1 more where both operands are short, and 4 more else; a quotient and a remainder 16 more
abbrev pub op_cost : Op → ℤ → ℤ → ℕ
op_cost Add x y = 0
op_cost Sub x y = 0
op_cost Mul x y = cond (is_short x && is_short y) 1 4
op_cost Div x y = 16
op_cost Rem x y = 16
op_cost Eq x y = 0
op_cost Ne x y = 0
op_cost Lt x y = 0
op_cost Le x y = 0
op_cost Gt x y = 0
op_cost Ge x y = 0
