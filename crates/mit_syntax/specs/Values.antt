-- Values of expressions: signed numbers of 64 bits.
use Rattle.std.specs.Prelude.{ℕ, zero, suc, List, Bool, true, false, cond, ℤ, pos, negsuc, ◌+◌, ◌-◌, ◌%◌, not, int_lt, int_le, int_rem, slice_index_or}
use Rattle.std.specs.Int.{int_wrapping_add, int_wrapping_sub, int_wrapping_mul, int_wrapping_div, w64}
use Rattle.std.specs.Ordering.{int_eq}
use Rattle.mit_syntax.specs.declared.ast.Op.{Op}
use Rattle.mit_syntax.specs.declared.ast.Op.TheVariants.{Add, Sub, Mul, Div, Rem, Eq, Ne, Lt, Le, Gt, Ge}
use Rattle.mit_syntax.specs.Expression.{Expression}
use Rattle.mit_syntax.specs.Expression.{Number, Variable, Binary, Element}

-- a guard holds if its value is not 0
abbrev pub holds : ℤ → Bool
holds (pos zero) = false
holds (pos (suc n)) = true
holds (negsuc n) = true

-- 1 or 0
abbrev pub truth : Bool → ℤ
truth b = cond b (pos 1) (pos 0)

-- The result of an operator. Sums, differences and products wrap; a quotient is truncated towards zero and
-- wraps, and is 0 where the divisor is; a remainder has the dividend's sign, and is the dividend where the
-- divisor is 0.
abbrev pub apply : Op → ℤ → ℤ → ℤ
apply Add x y = int_wrapping_add w64 x y
apply Sub x y = int_wrapping_sub w64 x y
apply Mul x y = int_wrapping_mul w64 x y
apply Div x y = cond (holds y) (int_wrapping_div w64 x y) (pos 0)
apply Rem x y = cond (holds y) (int_rem x y) x
apply Eq x y = truth (int_eq x y)
apply Ne x y = truth (not (int_eq x y))
apply Lt x y = truth (int_lt x y)
apply Le x y = truth (int_le x y)
apply Gt x y = truth (int_lt y x)
apply Ge x y = truth (int_le y x)

-- what a variable has
abbrev pub read : List ℤ → ℕ → ℤ
read m x = slice_index_or m x (pos 0)

-- the place in an array: the number below the length that differs from the index by a multiple of the length
abbrev pub place_of : ℕ → ℤ → ℕ
place_of n (pos k) = k % n
place_of n (negsuc k) = n - 1 - k % n

-- the variable that an index chooses, of an array with this first element and this length
abbrev pub element : ℕ → ℕ → ℤ → ℕ
element f n z = f + place_of n z

-- the value of an expression in a memory, which has a value for each variable, elements included
abbrev pub value_of : Expression → List ℤ → ℤ
value_of (Number n) m = n
value_of (Variable x) m = read m x
value_of (Binary o l r) m = apply o (value_of l m) (value_of r m)
value_of (Element f n i) m = read m (element f n (value_of i m))
