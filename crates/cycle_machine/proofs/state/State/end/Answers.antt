use Rattle.std.proofs.Common.{rules, ◌≡◌, ◌<◌, refl, sym, subst, arith, length, ap, ◌∙◌, to_z, of_z, w64}
use Rattle.std.proofs.lemmas.Int.{to_z-of_z}
use Rattle.std.proofs.lemmas.List.{length-set}
use Rattle.cycle_machine.proofs.Close.{late_first, end_is}
use Rattle.cycle_machine.proofs.state.State.end.Goals as goal

pub returns-in_default-clause-took : goal.returns-in_default-clause-took
returns-in_default-clause-took g c = (
  late_first g.E.MachineEnv.env c.args.self.now c.args.er c.args.ew c.args.limit c.fetch-fetched.result c.fetch-fetched.ensures.cost c.in_default.ensures,
  refl,
)

pub returns-then-end-limit-clause-took : goal.returns-then-end-limit-clause-took
returns-then-end-limit-clause-took g c =
    let n : to_z w64 (of_z w64 c.in-Some-pop.open.estimate) ≡ c.in-Some-pop.open.estimate = search (rules, to_z-of_z) in
    let same : length c.settle-prediction.new.self ≡ length c.args.self.now.misses =
    ap length c.settle-prediction.ensures.counts ∙ length-set c.args.self.now.misses c.in-Some-pop.open.level.number _ in
    let l : c.in-Some-pop.open.level.number < length c.args.self.now.misses =
    omega (arith, same, c.settle-prediction.ensures.labels, c.in-Some-pop.open.known) in
    let e = end_is g.E.MachineEnv.env c.args.self.now c.args.er c.args.ew
    c.pop.new.self.items c.in-Some-pop.open (to_z w64 (of_z w64 c.in-Some-pop.open.estimate)) c.fetch-fetched.result c.in-Some.now c.saturating_sub.result
    c.settle-prediction.result c.settle-prediction.new.self
    c.fetch-fetched.ensures.cost (c.in-Some.ensures).0 c.saturating_sub.ensures (c.in-Some-pop.ensures).items l n c.settle-prediction.ensures.counts
    c.settle-prediction.ensures.value in
    (subst (λ m. c.args.limit < m.core.clock) (sym e) c.if-end-limit.true, refl)

pub returns-clause-took : goal.returns-clause-took
returns-clause-took g c =
    let n : to_z w64 (of_z w64 c.in-Some-pop.open.estimate) ≡ c.in-Some-pop.open.estimate = search (rules, to_z-of_z) in
    let same : length c.settle-prediction.new.self ≡ length c.args.self.now.misses =
    ap length c.settle-prediction.ensures.counts ∙ length-set c.args.self.now.misses c.in-Some-pop.open.level.number _ in
    let l : c.in-Some-pop.open.level.number < length c.args.self.now.misses =
    omega (arith, same, c.settle-prediction.ensures.labels, c.in-Some-pop.open.known) in
    let e = end_is g.E.MachineEnv.env c.args.self.now c.args.er c.args.ew
    c.pop.new.self.items c.in-Some-pop.open (to_z w64 (of_z w64 c.in-Some-pop.open.estimate)) c.fetch-fetched.result c.in-Some.now c.saturating_sub.result
    c.settle-prediction.result c.settle-prediction.new.self
    c.fetch-fetched.ensures.cost (c.in-Some.ensures).0 c.saturating_sub.ensures (c.in-Some-pop.ensures).items l n c.settle-prediction.ensures.counts
    c.settle-prediction.ensures.value in
    (rw c.fetch-fetched.ensures.next e, omega arith)
