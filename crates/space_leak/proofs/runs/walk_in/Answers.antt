use Rattle.std.proofs.Common.{◌≡◌, subst, ◌-◌, arith}
use Rattle.std.proofs.lemmas.Result.{IfOk-weaker, IfErr-weaker}
use Rattle.label_code.specs.Shaped.{IsShaped}
use Rattle.leak_classes.specs.Walk.{AreClasses, IsWalkFault}
use Rattle.leak_classes.specs.Views.{classes_of}
use Rattle.space_starts.specs.Space.{seen, size_of}
use Rattle.space_walk.specs.Shown.{shown_at, end_at, one}
use Rattle.space_leak.proofs.Walks.{classes_alike, faults_alike}
use Rattle.space_leak.proofs.runs.walk_in.Goals as goal

pub returns-clause-classes : goal.returns-clause-classes
returns-clause-classes g c =
    let v = g.E.MachineEnv.env in
    let made = g.M.MakeEnv.made c.args.maker.now in
    let q = c.args.p.now in
    let o = c.args.observer.number in
    let t = c.args.setting.budget in
    let s = seen c.args.space.now in
    let shaped = subst IsShaped c.requires.can.image c.laws.ensures.shaped in
    let same = classes_alike v made c.args.setting.env (g.M.MachineMaker.machine c.args.maker.now) c.requires.machine q o t s c.requires.can.space shaped
    (c.makers_tell_as_histories.ensures.runs c.args.maker.now) in
    let all : c.args.size - 0 ≡ size_of s = omega (arith, c.requires.size) in
    IfOk-weaker c.walk_space.result _ _
    (λ k h. same (classes_of k) (subst (λ n. AreClasses (shown_at v made q o t s) (end_at v made q t s) one 0 n (classes_of k)) all h))
    c.walk_space.ensures.classes

pub returns-clause-fault : goal.returns-clause-fault
returns-clause-fault g c =
    let v = g.E.MachineEnv.env in
    let made = g.M.MakeEnv.made c.args.maker.now in
    let q = c.args.p.now in
    let o = c.args.observer.number in
    let t = c.args.setting.budget in
    let s = seen c.args.space.now in
    let shaped = subst IsShaped c.requires.can.image c.laws.ensures.shaped in
    let same = faults_alike v made c.args.setting.env (g.M.MachineMaker.machine c.args.maker.now) c.requires.machine q o t s c.requires.can.space shaped
    (c.makers_tell_as_histories.ensures.runs c.args.maker.now) in
    let all : c.args.size - 0 ≡ size_of s = omega (arith, c.requires.size) in
    IfErr-weaker c.walk_space.result _ _
    (λ e h n. same e (subst (λ m. IsWalkFault (shown_at v made q o t s) (end_at v made q t s) one 0 m e) all (h n)))
    c.walk_space.ensures.fault
