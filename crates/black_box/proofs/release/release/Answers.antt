use Rattle.std.proofs.Common.{◌≡◌, ◌+◌, ◌*◌, ◌∷◌, [], ◌++◌, suc, sym, ap, ◌∙◌, subst, arith, drop, vec_items}
use Rattle.black_box.specs.Schedule.{is_due}
use Rattle.black_box.specs.Outcomes.{IsOutcome, outcome}
use Rattle.black_box.proofs.EpochCount.{is_outcome}
use Rattle.black_box.proofs.UnderWay.{is_over, IsUnderWay, begins, releases_one, ends_one, as_far, few_epochs}
use Rattle.black_box.proofs.release.release.Goals as goal
use Rattle.black_box.proofs.release.release.Goals.{then-is_due+in_ok-push, else-is_due}

pub loop-slot-init : goal.loop-slot-init
loop-slot-init c =
    subst (λ z. IsUnderWay c.args.first c.args.limit c.args.ready.now c.args.first c.args.first 1 z) (sym c.new-at.ensures.items)
    (begins c.args.first c.args.limit c.args.ready.now c.requires.first.0)

pub overflow_add-epochs : goal.overflow_add-epochs
overflow_add-epochs c =
    omega (arith, few_epochs c.loop-slot.epochs c.loop-slot.length c.loop-slot.slot c.loop-slot.invariant.few c.loop-slot.invariant.early (omega arith))

pub loop-slot-preserved : goal.loop-slot-preserved
loop-slot-preserved c = elim c.if-is_due.branch [
  | then-is_due+in_ok-push w ↦
      as_far c.args.first c.args.limit c.args.ready.now (c.loop-slot.slot + c.loop-slot.length) (c.loop-slot.slot + c.if-is_due.length) c.loop-slot.length
      c.if-is_due.length c.loop-slot.epochs c.if-is_due.epochs (c.loop-slot.at.items ++ c.loop-slot.slot ∷ []) c.if-is_due.at.items
      (ap (λ z. c.loop-slot.slot + z) (sym w.length-is)) (sym w.length-is) (sym w.epochs-is) (sym (ap vec_items w.at-is ∙ w.in_ok-push.ensures.items))
      (releases_one c.args.first c.args.limit c.args.ready.now c.loop-slot.slot c.loop-slot.length c.loop-slot.epochs c.loop-slot.at.items c.loop-slot.invariant
      c.loop-slot-test.true (ap (λ k. is_due c.loop-slot.slot (drop k c.args.ready.now)) (sym c.loop-slot.at.ok.0 ∙ sym c.len.ensures)
      ∙ sym c.is_due.ensures ∙ w.if-is_due.true))
  | else-is_due w ↦
      as_far c.args.first c.args.limit c.args.ready.now (c.loop-slot.slot + 2 * c.loop-slot.length) (c.loop-slot.slot + c.if-is_due.length)
      (2 * c.loop-slot.length) c.if-is_due.length (suc c.loop-slot.epochs) c.if-is_due.epochs c.loop-slot.at.items c.if-is_due.at.items
      (omega (arith, w.length-is)) (omega (arith, w.length-is)) (omega (arith, w.epochs-is)) (sym (ap vec_items w.at-is))
      (ends_one c.args.first c.args.limit c.args.ready.now c.loop-slot.slot c.loop-slot.length c.loop-slot.epochs c.loop-slot.at.items c.loop-slot.invariant
      c.loop-slot-test.true (ap (λ k. is_due c.loop-slot.slot (drop k c.args.ready.now)) (sym c.loop-slot.at.ok.0 ∙ sym c.len.ensures)
      ∙ sym c.is_due.ensures ∙ w.if-is_due.false))
]

pub returns-clause-schedule : goal.returns-clause-schedule
returns-clause-schedule c =
    let over = is_over c.args.first c.args.limit c.args.ready.now c.loop-slot.slot c.loop-slot.length c.loop-slot.epochs c.loop-slot.at.items
    c.loop-slot.invariant c.loop-slot-test.false in
    let same : record { at = c.loop-slot.at.items; epochs = c.loop-slot.epochs } ≡ outcome c.args.first c.args.limit c.args.ready.now =
    λ i. record { at = over.0 i; epochs = over.1 i } in
    subst (IsOutcome c.args.first c.args.limit c.args.ready.now) (sym same) (is_outcome c.args.first c.args.limit c.requires.first.0 c.args.ready.now)
