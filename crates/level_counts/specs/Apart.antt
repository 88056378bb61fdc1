-- Whether relevant mitigates stand apart, as one walk over the commands finds it.
use Rattle.std.specs.Prelude.{ℕ, Bool, true, not, ◌&&◌, ◌||◌}
use Rattle.mit_syntax.specs.Todo.{Todo, Done, Skip, Assign, Put, Sleep, If, While, Mitigate}

-- what the walk finds: `inside` tells that it is in a relevant mitigate, where no other may stand
abbrev pub finds_apart : {M L : Type 0} → (ℕ → Bool) → Bool → Todo M L → Bool
finds_apart rel inside Done = true
finds_apart rel inside (Skip m r) = finds_apart rel inside r
finds_apart rel inside (Assign m x e r) = finds_apart rel inside r
finds_apart rel inside (Put m f n i e r) = finds_apart rel inside r
finds_apart rel inside (Sleep m e r) = finds_apart rel inside r
finds_apart rel inside (If m e a b r) = finds_apart rel inside a && (finds_apart rel inside b && finds_apart rel inside r)
finds_apart rel inside (While m e c r) = finds_apart rel inside c && finds_apart rel inside r
finds_apart rel inside (Mitigate m k l e c r) = not (inside && rel k) && (finds_apart rel (inside || rel k) c && finds_apart rel inside r)
