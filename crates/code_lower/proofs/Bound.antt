-- A program's code is not so long that its size could not be counted.
use Rattle.std.proofs.Common.{◌≤◌, ◌+◌, ◌*◌, ℕ, arith}
use Rattle.mit_syntax.specs.Expression.{Expression, Number, Variable, Binary, Element}
use Rattle.mit_syntax.specs.Todo.{Done, Skip, Assign, Put, Sleep, If, While, Mitigate}
use Rattle.mit_syntax.specs.Plan.{Plan, count}
use Rattle.mit_syntax.specs.Limits.{depth, operators, IsSmall, AreSmall}
use Rattle.mit_syntax.specs.Operators.{left_need, right_need}
use Rattle.code_lower.specs.Layout.{expr_size, size}

-- on the way to each number and variable there are at most 100 elements
expr_bound : (need : ℕ) (e : Expression) → depth need e ≤ 100 → expr_size e ≤ depth need e + 202 * operators e + 1
expr_bound need (Number n) h = omega arith
expr_bound need (Variable x) h = omega arith
expr_bound need (Binary o l r) h =
    let a = expr_bound (left_need o) l (omega (arith, h)) in
    let b = expr_bound (right_need o) r (omega (arith, h)) in
    omega (arith, h, a, b)
expr_bound need (Element f n i) h = let a = expr_bound 1 i (omega (arith, h)) in omega (arith, h, a)

small_bound : (d : ℕ) (e : Expression) → IsSmall d e → expr_size e ≤ 51813
small_bound d e h =
    let x = h.depth in
    let y = h.operators in
    let a = expr_bound 1 e (omega (arith, x)) in
    omega (arith, x, y, a)

pub size_bound : (d : ℕ) (p : Plan) → AreSmall d p → size p ≤ 103628 * count p
size_bound d Done h = omega arith
size_bound d (Skip m r) h = let a = size_bound d r h in omega (arith, a)
size_bound d (Assign m x e r) h = let a = size_bound d r h.1 in let b = small_bound d e h.0 in omega (arith, a, b)
size_bound d (Put m f n i e r) h =
    let a = size_bound d r h.2 in
    let b = small_bound (d + 1) i h.0 in
    let c = small_bound d e h.1 in
    omega (arith, a, b, c)
size_bound d (Sleep m e r) h = let a = size_bound d r h.1 in let b = small_bound d e h.0 in omega (arith, a, b)
size_bound d (If m e x y r) h =
    let a = size_bound d r h.4 in
    let b = small_bound d e h.0 in
    let p = size_bound (d + 1) x h.2 in
    let q = size_bound (d + 1) y h.3 in
    omega (arith, a, b, p, q)
size_bound d (While m e x r) h =
    let a = size_bound d r h.3 in
    let b = small_bound d e h.0 in
    let p = size_bound (d + 1) x h.2 in
    omega (arith, a, b, p)
size_bound d (Mitigate m k l e x r) h =
    let a = size_bound d r h.2 in
    let b = small_bound (d + 1) e h.0 in
    let p = size_bound (d + 1) x h.1 in
    omega (arith, a, b, p)
