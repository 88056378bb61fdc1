-- Classes of starts whose runs have the same entries.
use Rattle.std.specs.Prelude.{◌≡◌, ◌≤◌, ◌*◌, ℕ, List, Vec}
use Rattle.std.specs.List.{sum_by, AllByRecursion}
use Rattle.std.specs.declared.alloc.Global.{Global}
use Rattle.first_replay.specs.Replay.{Entry}
use Rattle.run_entries.specs.declared.entry.Entry.{Entry as Kept}
use Rattle.run_entries.specs.Entries.{entries_of}
use Rattle.first_front.specs.declared.class.Class.{Class}
use Rattle.entry_classes.specs.declared.known.Known.{Known}

-- Each class has a start, and whatever is added up over the entries of all runs is added up over the classes, each of them
-- as often as it has starts: so the runs of a class have its entries, and each run is in one class.
pub record AreClasses (runs : List (List Entry)) (cs : List Class) : Type 0 where
  pub some : AllByRecursion (λ c. 1 ≤ c.starts) cs
  pub sums : (f : List Entry → ℕ) → sum_by (λ c. c.starts * f (entries_of c.entries.items)) cs ≡ sum_by f runs

-- the same of lists of entries with the numbers of their starts
pub record ArePairs (runs : List (List Entry)) (ps : List (Vec Kept Global × ℕ)) : Type 0 where
  pub some : AllByRecursion (λ c. 1 ≤ c.1) ps
  pub sums : (f : List Entry → ℕ) → sum_by (λ c. c.1 * f (entries_of c.0.items)) ps ≡ sum_by f runs

-- and of what is kept
abbrev pub Keeps : List (List Entry) → Known → Type 0
Keeps runs k = ArePairs runs k.classes.entries
