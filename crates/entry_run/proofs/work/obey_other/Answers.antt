use Rattle.std.proofs.Common.{sym, subst}
use Rattle.cycle_machine.proofs.Advance.{fits_from, served_from, advance_is}
use Rattle.entry_run.specs.Worked.{Worked}
use Rattle.entry_run.proofs.Stepping.{paced}
use Rattle.entry_run.proofs.work.obey_other.Goals as goal

pub obey-outcome-requires-clause-fits : goal.obey-outcome-requires-clause-fits
obey-outcome-requires-clause-fits g c =
    fits_from g.E.MachineEnv.serves c.args.image.now c.args.i c.args.state.now c.requires.stands c.requires.there c.laws-2.ensures.operands
    c.laws-2.ensures.opened c.laws-2.ensures.memory

pub obey-outcome-requires-clause-served : goal.obey-outcome-requires-clause-served
obey-outcome-requires-clause-served g c =
    served_from g.E.MachineEnv.serves c.args.image.now c.args.i c.args.state.now c.requires.stands c.requires.there

pub returns : goal.returns
returns g c =
    subst (λ p. Worked g.E.MachineEnv.env g.E.MachineEnv.serves c.args.image.now c.args.state.now c.args.limit p c.obey-outcome.new.self)
    (sym c.pace_after.ensures)
    (paced g.E.MachineEnv.env g.E.MachineEnv.serves c.args.image.now c.args.i c.args.limit c.args.state.now c.obey-outcome.new.self
    c.obey-outcome.result c.requires.there c.requires.other
    (advance_is g.E.MachineEnv.env g.E.MachineEnv.serves c.args.image.now c.args.i c.args.state.now c.obey-outcome.new.self c.args.limit
    c.obey-outcome.result c.requires.stands c.requires.there c.obey-outcome.ensures.took c.obey-outcome.ensures.keeps))
