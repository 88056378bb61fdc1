use Rattle.std.proofs.Common.{subst, List}
use Rattle.std.specs.Prelude.{map}
use Rattle.label_lattice.specs.Order.{AllDiffer}
use Rattle.mit_syntax.specs.Declarations.{Declaration}
use Rattle.mit_syntax.proofs.Named.{names_differ}
use Rattle.mit_syntax.proofs.declarations.Variables.laws.Goals as goal

pub returns-clause-differ : goal.returns-clause-differ
returns-clause-differ c =
    subst (λ (ds : List Declaration). AllDiffer (map (λ (d : Declaration). d.0) ds)) c.self.view_is
    (names_differ c.self.inside.table.entries c.len.ensures.unique)
