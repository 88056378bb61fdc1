use Rattle.std.proofs.Common.{rules, ◌≡◌, ◌-◌, length, sym, ap, ◌∙◌, to_z, of_z, w64, Some}
use Rattle.std.specs.Prelude.{slice_get}
use Rattle.std.proofs.lemmas.Int.{to_z-of_z}
use Rattle.doubling_schedule.specs.Doubling.{prediction}
use Rattle.run_timeline.proofs.Instructions.{begin_tells}
use Rattle.run_timeline.proofs.closing.begin.Goals as goal

pub returns-clause-tells : goal.returns-clause-tells
returns-clause-tells g c =
    let n : to_z w64 (of_z w64 c.in-Some.field-0.now) ≡ c.in-Some.field-0.now = search (rules, to_z-of_z) in
    let last : slice_get c.args.state.now.operands.items (length c.args.state.now.operands.items - 1) ≡ Some (to_z w64 (of_z w64 c.in-Some.field-0.now)) =
    ap (λ z. slice_get z (length z - 1)) (sym c.deref.ensures.value) ∙ (sym c.in-Some.ensures.value ∙ ap (λ z. Some z) (sym n)) in
    begin_tells g.E.MachineEnv.env c.args.state.now c.begin.new.self c.args.level c.args.mark c.args.er c.args.ew c.args.limit
    c.in-Began.mark (to_z w64 (of_z w64 c.in-Some.field-0.now)) c.predict.result c.misses.result c.in-Began.ensures.took last
    (c.predict.ensures.value ∙ ap (prediction (to_z w64 (of_z w64 c.in-Some.field-0.now))) (sym c.misses.ensures.value)) c.misses.ensures.value
