use Rattle.std.proofs.Common.{rules, ◌≡◌, ◌+◌, ◌-◌, ◌*◌, ◌<◌, refl, sym, arith, length, ap, ◌∙◌, to_z, of_z, w64}
use Rattle.std.specs.Prelude.{slice_index}
use Rattle.std.proofs.lemmas.Int.{to_z-of_z}
use Rattle.std.proofs.lemmas.List.{length-set}
use Rattle.env_contract.specs.declared.place.Kind.TheVariants.{Code}
use Rattle.doubling_schedule.specs.Doubling.{prediction, misses_after}
use Rattle.cycle_machine.proofs.Close.{late_first, end_is}
use Rattle.run_timeline.proofs.Instructions.{end_tells}
use Rattle.run_timeline.proofs.closing.end.Goals as goal

pub returns-in_default-clause-tells : goal.returns-in_default-clause-tells
returns-in_default-clause-tells g c =
    let cost = c.fetch-fetched.ensures.cost in
    record {
      took = (late_first g.E.MachineEnv.env c.args.state.now c.args.er c.args.ew c.args.limit c.fetch-fetched.result cost c.in_default.ensures, refl);
      clock = refl;
      tells = tt;
    }

pub returns-clause-tells : goal.returns-clause-tells
returns-clause-tells g c =
    let open' = c.in-Some-pop.open in
    let cost = c.fetch-fetched.ensures.cost in
    let n : to_z w64 (of_z w64 open'.estimate) ≡ open'.estimate = search (rules, to_z-of_z) in
    let same : length c.settle-lasts.new.self ≡ length c.args.state.now.misses =
    ap length c.settle-lasts.ensures.counts ∙ length-set c.args.state.now.misses open'.level.number _ in
    let l : open'.level.number < length c.args.state.now.misses = omega (arith, same, c.settle-lasts.ensures.labels, open'.known) in
    let e = end_is g.E.MachineEnv.env c.args.state.now c.args.er c.args.ew
    c.pop.new.self.items open' (to_z w64 (of_z w64 open'.estimate)) c.fetch-fetched.result c.in-Some.now c.saturating_sub-worked.result
    c.settle-lasts.result c.settle-lasts.new.self
    cost (c.in-Some.ensures).0 c.saturating_sub-worked.ensures (c.in-Some-pop.ensures).items l n c.settle-lasts.ensures.counts c.settle-lasts.ensures.value in
    let now : c.in-Some.now ≡ c.args.state.now.clock + (1 + c.fetch-fetched.result) = (c.in-Some.ensures).0 in
    let worked : c.saturating_sub-worked.result
    ≡ c.args.state.now.clock + (1 + g.E.MachineEnv.env.cost_of Code (4 * c.args.state.now.place) c.args.er.number c.args.ew.number c.args.state.now.env) -
    open'.since =
    c.saturating_sub-worked.ensures ∙ ap (λ z. z - open'.since) (now ∙ ap (λ z. c.args.state.now.clock + (1 + z)) cost) in
    let after : c.misses.result ≡ misses_after open'.estimate c.saturating_sub-worked.result c.misses-before.result =
    c.misses.ensures.value
    ∙ (c.settle-lasts.ensures.count
    ∙ (ap (λ z. misses_after z c.saturating_sub-worked.result (slice_index c.args.state.now.misses open'.level.number)) n
    ∙ ap (misses_after open'.estimate c.saturating_sub-worked.result) (sym c.misses-before.ensures.value))) in
    let lasts : c.settle-lasts.result ≡ prediction open'.estimate c.misses.result =
    c.settle-lasts.ensures.value
    ∙ (ap (λ z. prediction z (slice_index c.settle-lasts.new.self open'.level.number)) n ∙ ap (prediction open'.estimate) (sym c.misses.ensures.value)) in
    record {
      took = (rw c.fetch-fetched.ensures.next e, omega arith);
      clock = refl;
      tells =
          end_tells g.E.MachineEnv.env c.args.state.now c.args.er c.args.ew c.pop.new.self.items open'
          c.saturating_sub-worked.result c.misses-before.result c.misses.result c.settle-lasts.result (open'.since + c.settle-lasts.result)
          (c.in-Some-pop.ensures).items worked c.misses-before.ensures.value after lasts refl;
    }
