use Rattle.std.proofs.Common.{◌≡◌, ◌+◌, length, sym, ap, ◌∙◌, subst}
use Rattle.std.specs.Prelude.{false}
use Rattle.label_code.specs.Shaped.{Code}
use Rattle.steady_program.specs.Lowered.{IsEnd}
use Rattle.steady_program.proofs.Told.{told, last}
use Rattle.steady_program.proofs.steady.steady.Goals as goal
use Rattle.steady_program.proofs.steady.steady.Goals.{then-whole, else-whole}

pub returns-clause-judged : goal.returns-clause-judged
returns-clause-judged c =
    told c.args.costing c.args.p.now c.lattice-lattice.result.now c.in_ok-labels.labels.items c.deref-2.result.now c.in_ok-image.image c.args.observer.number
    c.args.parts.number c.if-whole.end c.in_ok-fault.fault (c.lattice-lattice.ensures ∙ ap (λ z. z.order) c.program.ensures.program)
    c.in_ok-image.ensures.image c.deref-2.ensures.value c.in_ok-labels.ensures c.in_ok-fault.ensures

pub returns-clause-end : goal.returns-clause-end
returns-clause-end c =
    elim c.if-whole.branch [
      | then-whole w ↦
          subst (λ b. IsEnd c.args.p.now c.args.observer.number b c.if-whole.end) (sym w.if-whole.true)
          (w.end-is ∙ ap (λ n. n + 1) w.len.ensures ∙ ap (λ (z : Code). length z.instrs + 1) c.in_ok-image.ensures.image)
      | else-whole w ↦
          subst (λ b. IsEnd c.args.p.now c.args.observer.number b c.if-whole.end) (sym w.if-whole.false)
          (subst (λ n. IsEnd c.args.p.now c.args.observer.number false n) (sym w.end-is)
          (last c.args.p.now c.lattice-lattice.result.now c.in_ok-labels.labels.items w.deref.result.now c.in_ok-image.image c.args.observer.number
          w.last_seen-end.result (c.lattice-lattice.ensures ∙ ap (λ z. z.order) c.program.ensures.program)
          c.in_ok-image.ensures.image w.deref.ensures.value c.in_ok-labels.ensures w.last_seen-end.ensures.last))
    ]
