use Rattle.std.proofs.Common.{subst}
use Rattle.start_file.specs.Starts.{seen}
use Rattle.cycle_machine.specs.Rest.{Told}
use Rattle.tool_texts.specs.Ends.{EndsBy, Nothing}
use Rattle.tool_stages.specs.declared.envs.Environment.TheVariants.{Named}
use Rattle.tool_stages.proofs.EnvLemmas.{named_told}
use Rattle.mit_tool.specs.Answers.{HasTold}
use Rattle.mit_tool.proofs.commands.run.run_as.Goals as goal

pub returns-clause-ended : goal.returns-clause-ended
returns-clause-ended g c =
    let p = c.args.program.now in
    let q = p.typed.labelled in
    let told = named_told g.E.MachineEnv.env (g.M.MakeEnv.made c.args.maker.now) (Named c.args.setting.env) (g.M.MachineMaker.machine c.args.maker.now)
    c.requires.machine q p.image c.laws.ensures.shaped
    (c.makers_tell_as_histories.ensures.runs c.args.maker.now) c.requires.image.0 (seen c.args.start) c.requires.start c.args.setting.budget in
    subst (λ (z : Told). EndsBy (g.W.Sink.taken c.args.out.now) (g.W.Sink.taken c.run_in.new.out) Nothing (HasTold q p.observer z) c.run_in.result) told
    c.run_in.ensures.ended
