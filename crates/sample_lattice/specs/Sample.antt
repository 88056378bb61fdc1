-- The written pairs of the lattice of two labels.
use Rattle.std.specs.Prelude.{List, [], ◌∷◌}
use Rattle.label_lattice.specs.declared.label.Label.{Label}

-- L flows to H
abbrev pub low_below_high : List (Label × Label)
low_below_high = (record { number = 0 }, record { number = 1 }) ∷ []
