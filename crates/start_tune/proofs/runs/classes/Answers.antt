use Rattle.std.proofs.Common.{◌≤◌, arith}
use Rattle.start_tune.proofs.Walking.{fits_there, one_walked, one_unending, walk_ends, few_starts}
use Rattle.start_tune.proofs.runs.classes.Goals as goal

pub run_of-requires : goal.run_of-requires
run_of-requires g c =
    fits_there c.args.image.now c.args.starts.now c.loop-start.start-index c.start-item.result c.requires.fit c.loop-start-test.true c.start-item.is

pub returns-in-Err-clause-fault : goal.returns-in-Err-clause-fault
returns-in-Err-clause-fault g c = λ e.
    one_unending g.E.MachineEnv.env (g.M.MakeEnv.made c.args.maker.now) c.args.limit c.args.image.now c.args.starts.now c.loop-start.start-index
    c.start-item.result c.loop-start-test.true c.start-item.is (c.in-Err.ensures.fault e)

pub loop-start-preserved : goal.loop-start-preserved
loop-start-preserved g c =
    one_walked g.E.MachineEnv.env (g.M.MakeEnv.made c.args.maker.now) c.args.limit c.args.image.now c.args.starts.now c.loop-start.start-index
    c.start-item.result _ c.loop-start.known c.put.new.self c.loop-start-test.true c.start-item.is c.loop-start.invariant c.in-Ok.ensures.run
    c.in_ok-put-in-Ok.ensures.kept c.in_ok-put-in-Ok.ensures.total

pub returns-clause-classes : goal.returns-clause-classes
returns-clause-classes g c =
    walk_ends g.E.MachineEnv.env (g.M.MakeEnv.made c.args.maker.now) c.args.limit c.args.image.now c.args.starts.now c.loop-start.start-index
    c.loop-start.known (omega (arith, c.loop-start-test.false)) c.loop-start.invariant c.in_ok-classes.classes.items c.in_ok-classes.ensures

pub returns-clause-few : goal.returns-clause-few
returns-clause-few g c =
    few_starts g.E.MachineEnv.env (g.M.MakeEnv.made c.args.maker.now) c.args.limit c.args.image.now c.args.starts.now c.in_ok-classes.classes.items
    (walk_ends g.E.MachineEnv.env (g.M.MakeEnv.made c.args.maker.now) c.args.limit c.args.image.now c.args.starts.now c.loop-start.start-index
    c.loop-start.known (omega (arith, c.loop-start-test.false)) c.loop-start.invariant c.in_ok-classes.classes.items c.in_ok-classes.ensures)
    c.requires.few
