-- The program-counter label of each mitigate: the join of the labels of the guards around it.
use Rattle.std.specs.Prelude.{◌≡◌, ℕ, List, [], ◌∷◌, ◌++◌}
use Rattle.label_lattice.specs.Lattice.{Lattice}
use Rattle.label_lattice.specs.declared.label.Label.{Label}
use Rattle.mit_syntax.specs.Todo.{Todo, Done, Skip, Assign, Put, Sleep, If, While, Mitigate}
use Rattle.timing_types.specs.Typing.{label_of}

-- at tells the program-counter label of each mitigate in a list at pc, by its mark
abbrev pub HasContexts : {M L : Type 0} → Lattice → (ℕ → ℕ) → (ℕ → ℕ) → ℕ → Todo M L → Type 0
HasContexts lat g at pc Done = Unit {0}
HasContexts lat g at pc (Skip m r) = HasContexts lat g at pc r
HasContexts lat g at pc (Assign m x e r) = HasContexts lat g at pc r
HasContexts lat g at pc (Put m f n i e r) = HasContexts lat g at pc r
HasContexts lat g at pc (Sleep m e r) = HasContexts lat g at pc r
HasContexts lat g at pc (If m e a b r) =
    HasContexts lat g at (lat.join pc (label_of lat g e)) a × HasContexts lat g at (lat.join pc (label_of lat g e)) b × HasContexts lat g at pc r
HasContexts lat g at pc (While m e c r) = HasContexts lat g at (lat.join pc (label_of lat g e)) c × HasContexts lat g at pc r
HasContexts lat g at pc (Mitigate m k l e c r) = (at k ≡ pc) × HasContexts lat g at pc c × HasContexts lat g at pc r

-- the same labels as a list, in order of the text
abbrev pub contexts : {M L : Type 0} → Lattice → (ℕ → ℕ) → Todo M L → ℕ → List Label
contexts lat g Done pc = []
contexts lat g (Skip m r) pc = contexts lat g r pc
contexts lat g (Assign m x e r) pc = contexts lat g r pc
contexts lat g (Put m f n i e r) pc = contexts lat g r pc
contexts lat g (Sleep m e r) pc = contexts lat g r pc
contexts lat g (If m e a b r) pc =
    contexts lat g a (lat.join pc (label_of lat g e)) ++ (contexts lat g b (lat.join pc (label_of lat g e)) ++ contexts lat g r pc)
contexts lat g (While m e c r) pc = contexts lat g c (lat.join pc (label_of lat g e)) ++ contexts lat g r pc
contexts lat g (Mitigate m k l e c r) pc = record { number = pc } ∷ (contexts lat g c pc ++ contexts lat g r pc)
