-- Labels of variables and levels that keep what a program writes, and the labels of its commands with them.
use Rattle.std.specs.Prelude.{◌≡◌, ℕ, ◌+◌, ◌<◌, true, false, is_some, List, [], ◌∷◌, ◌++◌, length, Option, None, Some}
use Rattle.label_lattice.specs.declared.label.Label.{Label}
use Rattle.label_lattice.specs.Lattice.{Lattice}
use Rattle.mit_syntax.specs.Todo.{Done, Skip, Assign, Put, Sleep, If, While, Mitigate}
use Rattle.mit_syntax.specs.Plan.{Plan, mitigates}
use Rattle.mit_syntax.specs.Declarations.{variables, cell_at}
use Rattle.mit_syntax.specs.Program.{Syntax, plan_of}
use Rattle.timing_types.specs.Typing.{label_of}
use Rattle.timing_types.specs.Walk.{put_index, here}
use Rattle.timing_types.specs.Labelling.{label_at, IsKept}
use Rattle.label_infer.specs.Least.{is_free}

-- one label for each variable, with the written ones kept
pub record KeepsVariables (s : Syntax) (vs : List Label) : Type 0 where
  pub fit : length vs ≡ variables s.declarations
  pub below : (x : ℕ) → label_at s.order.bottom vs x < s.order.size
  pub kept : (x : ℕ) → x < variables s.declarations → IsKept (cell_at s.declarations x).label (label_at s.order.bottom vs x)

-- the written levels, in order of the text
abbrev pub written_levels : Plan → List (Option Label)
written_levels Done = []
written_levels (Skip w p) = written_levels p
written_levels (Assign w x e p) = written_levels p
written_levels (Put w f n j e p) = written_levels p
written_levels (Sleep w e p) = written_levels p
written_levels (If w e a b p) = written_levels a ++ (written_levels b ++ written_levels p)
written_levels (While w e c p) = written_levels c ++ written_levels p
written_levels (Mitigate w k l e c p) = l ∷ (written_levels c ++ written_levels p)

-- P holds at each place from i on
abbrev pub AllFrom : {A : Type 0} → (ℕ → A → Type 0) → ℕ → List A → Type 0
AllFrom P i [] = Unit {0}
AllFrom P i (x ∷ xs) = P i x × AllFrom P (i + 1) xs

-- one level for each mitigate, with the written ones kept
pub record KeepsLevels (s : Syntax) (ls : List Label) : Type 0 where
  pub fit : length ls ≡ mitigates (plan_of s)
  pub below : (k : ℕ) → label_at s.order.bottom ls k < s.order.size
  pub kept : AllFrom (λ k l. IsKept l (label_at s.order.bottom ls k)) 0 (written_levels (plan_of s))

-- the program omits no label of a variable and no level
pub record WritesAll (s : Syntax) : Type 0 where
  pub variables : (x : ℕ) → is_free s.declarations x ≡ false
  pub levels : AllFrom (λ k l. is_some l ≡ true) 0 (written_levels (plan_of s))

-- the two labels of a command, as code has them
abbrev pub own_pair : Option (Label × Label) → ℕ → Label × Label
own_pair None h = (record { number = h }, record { number = h })
own_pair (Some p) h = p

-- the two labels of each command at pc, in order of the text
abbrev pub own_pairs : Lattice → (ℕ → ℕ) → Plan → ℕ → List (Label × Label)
own_pairs lat g Done pc = []
own_pairs lat g (Skip w p) pc = own_pair w.labels pc ∷ own_pairs lat g p pc
own_pairs lat g (Assign w x e p) pc = own_pair w.labels (here lat g pc e) ∷ own_pairs lat g p pc
own_pairs lat g (Put w f n j e p) pc = own_pair w.labels (lat.join pc (put_index lat g j e)) ∷ own_pairs lat g p pc
own_pairs lat g (Sleep w e p) pc = own_pair w.labels (here lat g pc e) ∷ own_pairs lat g p pc
own_pairs lat g (If w e a b p) pc =
    let inner = lat.join pc (label_of lat g e) in
    own_pair w.labels (here lat g pc e) ∷ (own_pairs lat g a inner ++ (own_pairs lat g b inner ++ own_pairs lat g p pc))
own_pairs lat g (While w e c p) pc =
    own_pair w.labels (here lat g pc e) ∷ (own_pairs lat g c (lat.join pc (label_of lat g e)) ++ own_pairs lat g p pc)
own_pairs lat g (Mitigate w k l e c p) pc = own_pair w.labels (here lat g pc e) ∷ (own_pairs lat g c pc ++ own_pairs lat g p pc)
