use Rattle.cycle_machine.proofs.Advance.{fits_from, served_from}
use Rattle.run_timeline.proofs.Advance.{stepped}
use Rattle.run_timeline.proofs.step.step.Goals as goal

pub obey-requires-clause-fits : goal.obey-requires-clause-fits
obey-requires-clause-fits g c =
    fits_from g.E.MachineEnv.serves c.args.image.now c.at-i.result c.args.state.now c.requires c.at-i.ensures c.laws.ensures.operands
    c.laws.ensures.opened c.laws.ensures.memory

pub obey-requires-clause-served : goal.obey-requires-clause-served
obey-requires-clause-served g c = served_from g.E.MachineEnv.serves c.args.image.now c.at-i.result c.args.state.now c.requires c.at-i.ensures

pub returns : goal.returns
returns g c =
    stepped g.E.MachineEnv.env g.E.MachineEnv.serves c.args.image.now c.at-i.result c.args.state.now c.obey.new.state c.args.limit c.obey.result
    c.requires c.at-i.ensures c.obey.ensures.tells c.obey.ensures.keeps
