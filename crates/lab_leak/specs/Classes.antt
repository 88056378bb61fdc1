-- The classes of runs that show an observer the same.
use Rattle.std.specs.Prelude.{◌≡◌, ◌<◌, ◌+◌, ℕ, List, [], ◌∷◌, length, map, get_or}
use Rattle.label_code.specs.Machine.{Event}
use Rattle.leak_bound.specs.Records.{distinct_count}
use Rattle.leak_audit.specs.Sequences.{same_sequence}
use Rattle.leak_classes.specs.Classes.{Classes, classes_shown}
use Rattle.space_leak.specs.Text.{sizes_of}
use Rattle.lab_leak.specs.declared.sizes.ClassSizes.{ClassSizes}

-- the classes of the runs that show these sequences, each of which has weight 1
abbrev pub classes_of_runs : List (List Event) → Classes
classes_of_runs zs = classes_shown 0 (map (λ z. (z, 1)) zs)

-- what the runs of each class show
abbrev pub shown_by : Classes → List (List Event)
shown_by k = map (λ c. c.0) k.seen

-- the sizes and the first runs of these classes, as they are kept
pub record AreSizes (k : Classes) (s : ClassSizes) : Type 0 where
  pub sizes : s.sizes.items ≡ sizes_of k
  pub firsts : s.firsts.items ≡ k.firsts

-- of each class, the run with the number of its first run, from 1, shows what the class shows
abbrev pub AreFirsts : List (List Event) → List (List Event × ℕ) → List ℕ → Type 0
AreFirsts zs [] [] = Unit {0}
AreFirsts zs (c ∷ cs) (f ∷ fs) = ((i : ℕ) × (f ≡ i + 1) × (i < length zs) × (get_or zs i [] ≡ c.0)) × AreFirsts zs cs fs
AreFirsts zs _ _ = ⊥

-- Of the classes there are as many as different sequences, and each has a first run that shows it.
pub record AreTallied (zs : List (List Event)) : Type 0 where
  pub distinct : length (classes_of_runs zs).seen ≡ distinct_count same_sequence zs
  pub firsts : AreFirsts zs (classes_of_runs zs).seen (classes_of_runs zs).firsts
