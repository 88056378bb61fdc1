-- The table of first variables that is kept beside the declarations.
use Rattle.std.specs.Prelude.{◌≡◌, ℕ, ◌≤◌, ◌+◌, List, length, slice_index}
use Rattle.mit_syntax.specs.declared.declarations.Variables.TheInside.{Inside}
use Rattle.mit_syntax.specs.Declarations.{Declaration, first_of, AreFew}

abbrev pub entries_of : Inside → List Declaration
entries_of v = v.table.entries

pub record AreFirsts (v : Inside) : Type 0 where
  pub few : AreFew (entries_of v)
  pub all : length v.firsts.items ≡ length (entries_of v) + 1
  pub firsts : (k : ℕ) → k ≤ length (entries_of v) → slice_index v.firsts.items k ≡ first_of (entries_of v) k
