use Rattle.std.proofs.Common.{ap, map, ◌∙◌}
use Rattle.start_file.specs.Starts.{seen}
use Rattle.lab_tune.proofs.Named.{best_here, late_here, place_here}
use Rattle.lab_tune.proofs.best.best_in.Goals as goal

pub returns-in-Ok-clause-best : goal.returns-in-Ok-clause-best
returns-in-Ok-clause-best g c = λ mark h.
    let p = c.args.p.now in
    best_here g.E.MachineEnv.env (g.M.MakeEnv.made c.args.maker.now) (g.M.ByHistory.by_history c.args.maker.now) c.args.setting.env
    (g.M.MachineMaker.machine c.args.maker.now) c.requires.machine (g.met.M.MachineMaker.means c.args.maker.now)
    (c.best_are_the_same.ensures c.args.maker.now) p.compiled.typed.labelled p.compiled.image c.laws.ensures.shaped c.requires.fit.image
    (map seen c.as_slice-starts.result.now) (map seen p.starts.items) (ap (map seen) c.as_slice-starts.ensures.value) c.requires.fit.starts
    c.args.setting.budget p.observer.number mark c.deref.result.now (c.deref.ensures.value ∙ c.in_ok-relevant.ensures) c.in-Ok.best.items
    (c.in-Ok.ensures.best mark (place_here p.compiled.typed.labelled p.compiled.image mark c.args.place c.requires.fit.image h))

pub returns-clause-fault : goal.returns-clause-fault
returns-clause-fault g c = λ e mark h.
    let p = c.args.p.now in
    late_here g.E.MachineEnv.env (g.M.MakeEnv.made c.args.maker.now) (g.M.ByHistory.by_history c.args.maker.now) c.args.setting.env
    (g.M.MachineMaker.machine c.args.maker.now) c.requires.machine (g.met.M.MachineMaker.means c.args.maker.now)
    (c.best_are_the_same.ensures c.args.maker.now) p.compiled.typed.labelled p.compiled.image c.laws.ensures.shaped c.requires.fit.image
    (map seen c.as_slice-starts.result.now) (map seen p.starts.items) (ap (map seen) c.as_slice-starts.ensures.value) c.requires.fit.starts
    c.args.setting.budget p.observer.number mark c.deref.result.now (c.deref.ensures.value ∙ c.in_ok-relevant.ensures)
    (c.in-Err.ensures.fault e mark (place_here p.compiled.typed.labelled p.compiled.image mark c.args.place c.requires.fit.image h))
