-- The places of a program's commands, in order of the text: what the program and the labels of its variables
-- say of each command.
use Rattle.std.specs.Prelude.{ℕ, ◌+◌, List, [], ◌∷◌, ◌++◌, Option}
use Rattle.label_lattice.specs.declared.label.Label.{Label}
use Rattle.label_lattice.specs.Lattice.{Lattice}
use Rattle.mit_syntax.specs.Todo.{Done, Skip, Assign, Put, Sleep, If, While, Mitigate}
use Rattle.mit_syntax.specs.Plan.{Plan, count}
use Rattle.timing_types.specs.Typing.{label_of, index_label}
use Rattle.timing_types.specs.Walk.{put_index, here}
use Rattle.type_cert.specs.declared.place.Act.{Act}
use Rattle.type_cert.specs.declared.place.Act.TheVariants.{Skip as Skips, Assign as Assigns, Sleep as Sleeps, If as Branches, While as Loops}
use Rattle.type_cert.specs.declared.place.Act.TheVariants.{Mitigate as Mitigates}
use Rattle.type_cert.specs.declared.place.Start.{Start}
use Rattle.type_cert.specs.declared.place.Start.TheVariants.{After, Within, Around}
use Rattle.type_cert.specs.declared.place.Close.{Close}
use Rattle.type_cert.specs.declared.place.Close.TheVariants.{Open, If as ClosesIf, While as ClosesWhile, Mitigate as ClosesMitigate}
use Rattle.type_cert.specs.declared.place.Place.{Place}

abbrev pub label : ℕ → Label
label n = record { number = n }

abbrev pub place : Option (Label × Label) → ℕ → ℕ → Act → Start → Close → Place
place w pc h act s c = record { written = w; pc = label pc; here = label h; act = act; start = s; close = c }

-- what the last command of a list closes is not closed by a command that another one follows
abbrev pub closing : Plan → Close → Close
closing Done c = c
closing p c = Open

-- the number of the last command of a list that is numbered from i; of an empty one it is last
abbrev pub last_of : Plan → ℕ → ℕ → ℕ
last_of Done i last = last
last_of (Skip w p) i last = last_of p (i + 1) i
last_of (Assign w x e p) i last = last_of p (i + 1) i
last_of (Put w f n j e p) i last = last_of p (i + 1) i
last_of (Sleep w e p) i last = last_of p (i + 1) i
last_of (If w e a b p) i last = last_of p (i + 1 + count a + count b) i
last_of (While w e c p) i last = last_of p (i + 1 + count c) i
last_of (Mitigate w k l e c p) i last = last_of p (i + 1 + count c) i

-- `le | li | pc`
abbrev pub reads : Lattice → ℕ → ℕ → ℕ → ℕ
reads lat pc le li = lat.join (lat.join le li) pc

-- The places of a list at pc that is numbered from i, whose first command starts at s and whose last command
-- closes c. The parts of a command come after it.
abbrev pub places : Lattice → (ℕ → ℕ) → Plan → ℕ → ℕ → Start → Close → List Place
places lat g Done i pc s c = []
places lat g (Skip w p) i pc s c = place w.labels pc pc Skips s (closing p c) ∷ places lat g p (i + 1) pc (After i) c
places lat g (Assign w x e p) i pc s c =
    place w.labels pc (here lat g pc e) (Assigns (label (reads lat pc (label_of lat g e) (index_label lat g e))) (label (g x))) s (closing p c)
    ∷ places lat g p (i + 1) pc (After i) c
places lat g (Put w f n j e p) i pc s c =
    let li = put_index lat g j e in
    place w.labels pc (lat.join pc li) (Assigns (label (reads lat pc (label_of lat g e) li)) (label (g f))) s (closing p c)
    ∷ places lat g p (i + 1) pc (After i) c
places lat g (Sleep w e p) i pc s c =
    place w.labels pc (here lat g pc e) (Sleeps (label (label_of lat g e))) s (closing p c) ∷ places lat g p (i + 1) pc (After i) c
places lat g (If w e a b p) i pc s c =
    let inner = lat.join pc (label_of lat g e) in
    let start = Within i (label (label_of lat g e)) in
    place w.labels pc (here lat g pc e) (Branches (label (label_of lat g e))) s (closing p c)
    ∷ (places lat g a (i + 1) inner start Open
    ++ (places lat g b (i + 1 + count a) inner start (ClosesIf i (last_of a (i + 1) (i + 1)))
    ++ places lat g p (i + 1 + count a + count b) pc (After i) c))
places lat g (While w e d p) i pc s c =
    place w.labels pc (here lat g pc e) (Loops (label (label_of lat g e))) s (closing p c)
    ∷ (places lat g d (i + 1) (lat.join pc (label_of lat g e)) (Around i) (ClosesWhile i) ++ places lat g p (i + 1 + count d) pc (After i) c)
places lat g (Mitigate w k l e d p) i pc s c =
    place w.labels pc (here lat g pc e) (Mitigates (label (label_of lat g e)) l) s (closing p c)
    ∷ (places lat g d (i + 1) pc (Within i (label (label_of lat g e))) (ClosesMitigate i) ++ places lat g p (i + 1 + count d) pc (After i) c)
