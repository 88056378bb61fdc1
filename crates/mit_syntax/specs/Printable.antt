-- What the printing of commands needs of them.
use Rattle.std.specs.Prelude.{ℕ, List}
use Rattle.mit_syntax.specs.Declarations.{Declaration}
use Rattle.mit_syntax.specs.Limits.{AreSmall}
use Rattle.mit_syntax.specs.Plan.{Plan}
use Rattle.mit_syntax.specs.Valid.{AreKnown, AreShaped}

pub record IsPrintable (size : ℕ) (ds : List Declaration) (d : ℕ) (p : Plan) : Type 0 where
  pub known : AreKnown size ds p
  pub arrays : AreShaped ds
  pub small : AreSmall d p
