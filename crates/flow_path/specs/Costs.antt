-- What chains cost, as the search counts it.
use Rattle.std.specs.Prelude.{◌≡◌, ◌+◌, ◌<◌, ◌≤◌, cond, List, length, ◌⊎◌}
use Rattle.flow_path.specs.declared.step.How.{How}
use Rattle.flow_path.specs.declared.step.Step.{Step}
use Rattle.flow_path.specs.declared.cost.Cost.{Cost}
use Rattle.flow_path.specs.Chains.{is_faint, faint_in}

abbrev pub nothing_yet : Cost
nothing_yet = record { faint = 0; steps = 0 }

-- with one step more
abbrev pub add : Cost → How → Cost
add d h = record { faint = cond (is_faint h) 1 0 + d.faint; steps = 1 + d.steps }

abbrev pub cost_of : List Step → Cost
cost_of xs = record { faint = faint_in xs; steps = length xs }

-- the first costs no more than the second
abbrev pub IsLe : Cost → Cost → Type 0
IsLe a b = (a.faint < b.faint) ⊎ ((a.faint ≡ b.faint) × (a.steps ≤ b.steps))

-- the first costs less than the second
abbrev pub IsLess : Cost → Cost → Type 0
IsLess a b = (a.faint < b.faint) ⊎ ((a.faint ≡ b.faint) × (a.steps < b.steps))

-- one after the other
abbrev pub plus : Cost → Cost → Cost
plus a b = record { faint = a.faint + b.faint; steps = a.steps + b.steps }
