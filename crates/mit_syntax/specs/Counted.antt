-- The counts of a list of commands.
use Rattle.std.specs.Prelude.{◌≡◌}
use Rattle.mit_syntax.specs.declared.count.Counts.{Counts}
use Rattle.mit_syntax.specs.Plan.{Plan, count, mitigates}

pub record IsCount (c : Counts) (p : Plan) : Type 0 where
  pub commands : c.commands ≡ count p
  pub mitigates : c.mitigates ≡ mitigates p
