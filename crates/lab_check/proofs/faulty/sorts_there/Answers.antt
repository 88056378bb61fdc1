use Rattle.lab_check.proofs.faulty.sorts_there.Goals as goal

pub returns : goal.returns
returns c text = (c.in_ok-reach.reach.taken, c.in_ok-reach.ensures text)
