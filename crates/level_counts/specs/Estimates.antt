-- The estimates of mitigates.
use Rattle.std.specs.Prelude.{List, [], ◌∷◌, ◌++◌}
use Rattle.mit_syntax.specs.Expression.{Expression}
use Rattle.mit_syntax.specs.Todo.{Todo, Done, Skip, Assign, Put, Sleep, If, While, Mitigate}

-- in order of the text: that of the mitigate with mark k is the k-th, counted from 0
abbrev pub estimates_of : {M L : Type 0} → Todo M L → List Expression
estimates_of Done = []
estimates_of (Skip m r) = estimates_of r
estimates_of (Assign m x e r) = estimates_of r
estimates_of (Put m f n i e r) = estimates_of r
estimates_of (Sleep m e r) = estimates_of r
estimates_of (If m e a b r) = estimates_of a ++ (estimates_of b ++ estimates_of r)
estimates_of (While m e c r) = estimates_of c ++ estimates_of r
estimates_of (Mitigate m k l e c r) = e ∷ (estimates_of c ++ estimates_of r)
