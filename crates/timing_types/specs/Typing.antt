-- The type system: which programs are accepted.
use Rattle.std.specs.Prelude.{◌≡◌, ℕ}
use Rattle.mit_syntax.specs.Expression.{Expression}
use Rattle.mit_syntax.specs.Expression.{Number, Variable, Binary, Element}
use Rattle.mit_syntax.specs.Todo.{Marked, Done, Skip, Assign, Put, Sleep, If, While, Mitigate}
use Rattle.label_lattice.specs.Lattice.{Lattice, Flows}

-- the join of the labels of an expression's variables and arrays, those in indices included
abbrev pub label_of : Lattice → (ℕ → ℕ) → Expression → ℕ
label_of lat g (Number n) = lat.bottom
label_of lat g (Variable x) = g x
label_of lat g (Binary o l r) = lat.join (label_of lat g l) (label_of lat g r)
label_of lat g (Element f n i) = lat.join (g f) (label_of lat g i)

-- the join of the labels of the variables and arrays that stand in an index of an expression
abbrev pub index_label : Lattice → (ℕ → ℕ) → Expression → ℕ
index_label lat g (Number n) = lat.bottom
index_label lat g (Variable x) = lat.bottom
index_label lat g (Binary o l r) = lat.join (index_label lat g l) (index_label lat g r)
index_label lat g (Element f n i) = label_of lat g i

-- Types lat g pc t p end: the list p is typed at pc from the start label t with this end label
abbrev pub Types : Lattice → (ℕ → ℕ) → ℕ → ℕ → Marked → ℕ → Type 0
Types lat g pc t Done end = t ≡ end
Types lat g pc t (Skip m r) end = Flows lat pc m.ew × Types lat g pc (lat.join t m.er) r end
Types lat g pc t (Assign m x e r) end =
    Flows lat (lat.join (lat.join (lat.join (lat.join (label_of lat g e) (index_label lat g e)) pc) t) m.er) (g x)
    × Flows lat (lat.join pc (index_label lat g e)) m.ew
    × Types lat g pc (g x) r end
Types lat g pc t (Put m f n i e r) end =
    Flows lat (lat.join (lat.join (lat.join (lat.join (label_of lat g e) (lat.join (label_of lat g i) (index_label lat g e))) pc) t) m.er) (g f)
    × Flows lat (lat.join pc (lat.join (label_of lat g i) (index_label lat g e))) m.ew
    × Types lat g pc (g f) r end
Types lat g pc t (Sleep m e r) end =
    Flows lat (lat.join pc (index_label lat g e)) m.ew × Types lat g pc (lat.join (lat.join t (label_of lat g e)) m.er) r end
Types lat g pc t (If m e a b r) end =
    let start = lat.join (lat.join t (label_of lat g e)) m.er in
    let inner = lat.join pc (label_of lat g e) in
    (ta : ℕ) × (tb : ℕ)
    × Flows lat (lat.join pc (index_label lat g e)) m.ew
    × Types lat g inner start a ta
    × Types lat g inner start b tb
    × Types lat g pc (lat.join ta tb) r end
Types lat g pc t (While m e c r) end =
    (t' : ℕ)
    × Flows lat (lat.join pc (index_label lat g e)) m.ew
    × Flows lat (lat.join (lat.join (label_of lat g e) t) m.er) t'
    × Types lat g (lat.join pc (label_of lat g e)) t' c t'
    × Types lat g pc t' r end
Types lat g pc t (Mitigate m k l e c r) end =
    let start = lat.join (lat.join t (label_of lat g e)) m.er in
    (t' : ℕ)
    × Flows lat (lat.join pc (index_label lat g e)) m.ew
    × Types lat g pc start c t'
    × Flows lat t' l
    × Types lat g pc start r end

-- accepted: typed from bottom
abbrev pub IsTyped : Lattice → (ℕ → ℕ) → Marked → Type 0
IsTyped lat g p = (end : ℕ) × Types lat g lat.bottom lat.bottom p end
