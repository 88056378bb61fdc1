-- How deep the code of a program goes.
use Rattle.std.specs.Prelude.{ℕ, ◌+◌, max}
use Rattle.mit_syntax.specs.Expression.{Expression, Number, Variable, Binary, Element}
use Rattle.mit_syntax.specs.Todo.{Todo, Done, Skip, Assign, Put, Sleep, If, While, Mitigate}

-- the greatest depth of operands in the code of an expression: a right operand is found above the left one
abbrev pub expr_operands : Expression → ℕ
expr_operands (Number n) = 1
expr_operands (Variable x) = 1
expr_operands (Binary o l r) = max (expr_operands l) (1 + expr_operands r)
expr_operands (Element f n i) = expr_operands i

-- the greatest depth of operands in the code of a list: an index lies below the value that is put there
abbrev pub most_operands : {M L : Type 0} → Todo M L → ℕ
most_operands Done = 0
most_operands (Skip m r) = most_operands r
most_operands (Assign m x e r) = max (expr_operands e) (most_operands r)
most_operands (Put m f n i e r) = max (max (expr_operands i) (1 + expr_operands e)) (most_operands r)
most_operands (Sleep m e r) = max (expr_operands e) (most_operands r)
most_operands (If m e a b r) = max (expr_operands e) (max (most_operands a) (max (most_operands b) (most_operands r)))
most_operands (While m e c r) = max (expr_operands e) (max (most_operands c) (most_operands r))
most_operands (Mitigate m k l e c r) = max (expr_operands e) (max (most_operands c) (most_operands r))

-- the greatest depth of open mitigations in the code of a list
abbrev pub deepest : {M L : Type 0} → Todo M L → ℕ
deepest Done = 0
deepest (Skip m r) = deepest r
deepest (Assign m x e r) = deepest r
deepest (Put m f n i e r) = deepest r
deepest (Sleep m e r) = deepest r
deepest (If m e a b r) = max (deepest a) (max (deepest b) (deepest r))
deepest (While m e c r) = max (deepest c) (deepest r)
deepest (Mitigate m k l e c r) = max (1 + deepest c) (deepest r)
