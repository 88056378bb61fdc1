-- What a program keeps beside what it writes: its counts.
use Rattle.std.specs.Prelude.{◌≡◌}
use Rattle.mit_syntax.specs.declared.program.Program.TheInside.{Inside}
use Rattle.mit_syntax.specs.Plan.{count, mitigates}
use Rattle.mit_syntax.specs.Program.{Syntax, syntax, plan_of}
use Rattle.mit_syntax.specs.Valid.{IsValid}

abbrev pub syntax_of : Inside → Syntax
syntax_of p = syntax p.lattice.value p.pairs.items p.variables p.body.items

pub record IsKept (p : Inside) : Type 0 where
  pub valid : IsValid (syntax_of p)
  pub commands : p.commands ≡ count (plan_of (syntax_of p))
  pub mitigates : p.mitigates ≡ mitigates (plan_of (syntax_of p))
