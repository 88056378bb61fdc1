-- Where the mitigates of a program stand.
use Rattle.std.specs.Prelude.{List, [], ◌∷◌, ◌++◌}
use Rattle.text_base.specs.declared.pos.Pos.{Pos}
use Rattle.mit_syntax.specs.Todo.{Todo, Done, Skip, Assign, Put, Sleep, If, While, Mitigate}
use Rattle.mit_syntax.specs.Plan.{Written}

-- the places of the mitigates, in order of the text: the one with mark k is the k-th, counted from 0
abbrev pub places : {L : Type 0} → Todo Written L → List Pos
places Done = []
places (Skip m r) = places r
places (Assign m x e r) = places r
places (Put m f n i e r) = places r
places (Sleep m e r) = places r
places (If m e a b r) = places a ++ (places b ++ places r)
places (While m e c r) = places c ++ places r
places (Mitigate m k l e c r) = m.pos ∷ (places c ++ places r)
