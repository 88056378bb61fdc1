use Rattle.std.proofs.Common.{refl}
use Rattle.mit_syntax.specs.Plan.{list_plan}
use Rattle.flow_path.specs.Steps.{ends}
use Rattle.flow_path.proofs.Staying.{keeps, end_time}
use Rattle.flow_path.proofs.pass.loop_end.Goals as goal

pub returns-then-stays-clause-end : goal.returns-then-stays-clause-end
returns-then-stays-clause-end c =
    let r = c.args.round.now in
    let p = list_plan c.args.body.now in
    λ T h. (
      ends p T,
      keeps r.program.now r.target.now r.known.now.variables.items p T c.args.start h (c.requires.time.1 c.if-stays.true),
      refl,
    )

pub returns-then-stays-clause-time : goal.returns-then-stays-clause-time
returns-then-stays-clause-time c = (c.requires.time.0, λ e. c.requires.time.1 c.if-stays.true)

pub returns-else-stays-clause-time : goal.returns-else-stays-clause-time
returns-else-stays-clause-time c =
    let r = c.args.round.now in
    end_time r.program.now r.target.now r.known.now.variables.items c.args.start c.list_end.result (list_plan c.args.body.now) c.list_end.ensures
    c.requires.time.0.0 c.requires.time.0.1
