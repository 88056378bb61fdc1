-- In which order chains from several labels are told.
use Rattle.std.specs.Prelude.{◌≡◌, ℕ, ◌<◌, zero, suc, List, [], ◌∷◌, ◌⊎◌}
use Rattle.label_lattice.specs.Order.{Order, lattice_of, count_not_below}
use Rattle.flow_path.specs.declared.origins.Origin.{Origin}
use Rattle.flow_path.specs.Costs.{cost_of, IsLess}

-- how many labels do not flow to the label from which a chain leads
abbrev pub others : Order → Origin → ℕ
others o w = count_not_below (lattice_of o) w.label.number o.size

-- more labels flow to its label, or as many and its label has the smaller number
abbrev pub IsAhead : Order → Origin → Origin → Type 0
IsAhead o v w = (others o v < others o w) ⊎ ((others o v ≡ others o w) × (v.label.number < w.label.number))

-- a chain is told before another: it costs less, or as much and it is ahead
abbrev pub IsBefore : Order → Origin → Origin → Type 0
IsBefore o v w =
    IsLess (cost_of v.chain.items) (cost_of w.chain.items) ⊎ ((cost_of v.chain.items ≡ cost_of w.chain.items) × IsAhead o v w)

-- it stands at the place i among others, after those that it is not told before
abbrev pub IsPlace : Order → Origin → List Origin → ℕ → Type 0
IsPlace o x [] i = i ≡ 0
IsPlace o x (w ∷ ws) zero = IsBefore o x w
IsPlace o x (w ∷ ws) (suc i) = (IsBefore o x w → ⊥) × IsPlace o x ws i
