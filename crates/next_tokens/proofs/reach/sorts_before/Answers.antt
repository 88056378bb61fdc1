use Rattle.std.proofs.Common.{◌∙◌, sym, ap, vec_items}
use Rattle.next_tokens.specs.Parts.{left_of}
use Rattle.next_tokens.proofs.Sets.{with_it, without_it}
use Rattle.next_tokens.proofs.reach.sorts_before.Goals as goal
use Rattle.next_tokens.proofs.reach.sorts_before.Goals.{then-takes+in_ok-push, else-takes}

pub loop-sort-preserved : goal.loop-sort-preserved
loop-sort-preserved c = elim c.if-takes.branch [
  | then-takes+in_ok-push w ↦
      with_it (left_of c.args.parts.now) c.all_sorts-sort-items.result.now c.loop-sort.sorts.items c.if-takes.sorts.items c.loop-sort.sort-index _
      c.all_sorts-sort-items.ensures c.loop-sort-test.true c.loop-sort.invariant (λ v q. sym w.if-takes.true ∙ c.takes.ensures v q)
      (ap vec_items w.sorts-is ∙ w.in_ok-push.ensures.items)
  | else-takes w ↦
      without_it (left_of c.args.parts.now) c.all_sorts-sort-items.result.now c.loop-sort.sorts.items c.if-takes.sorts.items c.loop-sort.sort-index _
      c.all_sorts-sort-items.ensures c.loop-sort-test.true c.loop-sort.invariant (λ v q. sym w.if-takes.false ∙ c.takes.ensures v q)
      (ap vec_items w.sorts-is)
]
