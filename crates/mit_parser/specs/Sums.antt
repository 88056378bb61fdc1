-- The sum of lengths that is kept beside the declarations.
use Rattle.std.specs.Prelude.{◌≡◌, ◌≤◌, List}
use Rattle.mit_syntax.specs.Declarations.{Declaration, elements_in}
use Rattle.mit_parser.specs.declared.declarations.Table.TheInside.{Inside}

abbrev pub entries_of : Inside → List Declaration
entries_of t = t.entries.entries

pub record IsSummed (t : Inside) : Type 0 where
  pub sum : t.elements ≡ elements_in (entries_of t)
  pub few : t.elements ≤ 2048
