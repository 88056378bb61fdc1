-- The labels before the first step.
use Rattle.std.specs.Prelude.{ℕ, List, map, Option, None, Some}
use Rattle.label_lattice.specs.declared.label.Label.{Label}
use Rattle.mit_syntax.specs.Plan.{Plan}
use Rattle.label_infer.specs.Given.{written_levels}

-- the written label, or bottom
abbrev pub first_of : ℕ → Option Label → Label
first_of b None = record { number = b }
first_of b (Some l) = l

abbrev pub first_levels : ℕ → Plan → List Label
first_levels b p = map (first_of b) (written_levels p)
