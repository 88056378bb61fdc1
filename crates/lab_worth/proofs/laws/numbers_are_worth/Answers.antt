use Rattle.lab_worth.proofs.Worth.{bounds_are_worth}
use Rattle.lab_worth.proofs.laws.numbers_are_worth.Goals as goal

pub returns-clause-listed : goal.returns-clause-listed
returns-clause-listed g c = λ e t own some words p q o ss r levels spelled types low is told.
    bounds_are_worth _ e q o t ss levels
    (c.sharp_counts_are_enough.ensures e t own some words p q o ss r levels spelled types low is told).bounds

pub returns-clause-others : goal.returns-clause-others
returns-clause-others g c = λ e t own some words p q o s ss r levels spelled types low is told others are.
    bounds_are_worth _ e q o t _ levels
    (c.sharp_counts_bound_others.ensures e t own some words p q o s ss r levels spelled types low is told others are)
