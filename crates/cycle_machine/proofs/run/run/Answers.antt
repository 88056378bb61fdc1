use Rattle.cycle_machine.proofs.Stages.{quiet_then, turned_then}
use Rattle.cycle_machine.proofs.run.run.Goals as goal

pub returns-in-Some-clause-turned : goal.returns-in-Some-clause-turned
returns-in-Some-clause-turned g c =
    turned_then g.E.MachineEnv.env c.args.image.now c.args.shown.now c.args.state.now c.run.state c.args.limit c.in-Some.turn c.run_stage.new.state
    c.run.invariant.1 c.in-Some.ensures.0

pub run-preserved : goal.run-preserved
run-preserved g c = (
  c.in_default.ensures.stands,
  quiet_then g.E.MachineEnv.env c.args.image.now.instrs c.args.shown.now c.args.limit c.args.state.now c.run.state c.run_stage.new.state
      c.run.invariant.1 c.in_default.ensures.quiet,
  c.tell_stage-last.ensures.later,
)
