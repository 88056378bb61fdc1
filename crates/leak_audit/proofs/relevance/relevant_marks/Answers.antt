use Rattle.std.proofs.Common.{◌≡◌, ℕ, ◌++◌, [], ◌∷◌, sym, ap, ◌∙◌, subst, arith}
use Rattle.std.specs.Prelude.{Bool, true, false, not, ◌&&◌}
use Rattle.mit_syntax.specs.Plan.{mitigates}
use Rattle.mit_syntax.specs.Program.{plan_of}
use Rattle.mit_syntax.specs.Valid.{IsValid}
use Rattle.label_lattice.specs.Lattice.{Lattice, IsLattice}
use Rattle.label_lattice.specs.Order.{lattice_of}
use Rattle.timing_types.specs.Labelling.{IsLabelling, level_of}
use Rattle.leak_audit.proofs.Marking.{relevance_by, marks_told, marks_told-one, all_marks}
use Rattle.leak_audit.proofs.relevance.relevant_marks.Goals as goal
use Rattle.leak_audit.proofs.relevance.relevant_marks.Goals.{then-begins_low, else-begins_low}

told_then : (x y z a b : Bool) → x ≡ a → x ≡ true → y ≡ b → z ≡ not y → z ≡ (a && not b)
told_then x y z a b p q r s = s ∙ (ap not r ∙ ap (λ c. c && not b) (sym q ∙ p))

told_else : (x z a b : Bool) → x ≡ a → x ≡ false → z ≡ false → z ≡ (a && not b)
told_else x z a b p q s = s ∙ ap (λ c. c && not b) (sym q ∙ p)

flow : (lat lat' : Lattice) (a b o : ℕ) (x : Bool) → x ≡ lat.flows a o → lat ≡ lat' → a ≡ b → x ≡ lat'.flows b o
flow lat lat' a b o x p q r = p ∙ (ap (λ z. z.flows a o) q ∙ ap (λ z. lat'.flows z o) r)

pub loop-mark-preserved : goal.loop-mark-preserved
loop-mark-preserved c =
    let p = c.args.p.now in
    let rel = relevance_by p c.args.observer.number in
    let order = c.lattice-lattice.ensures
    ∙ (ap (λ z. z.order) c.program-program.ensures.program ∙ ap (λ z. z.program.order) c.labelled-labelled.ensures.labelled) in
    let low = flow _ _ _ _ c.args.observer.number _ c.flows-begins_low.ensures (ap lattice_of order) c.mitigate_pc.ensures.value in
    let one : c.if-begins_low.push ≡ rel c.loop-mark.mark =
    elim c.if-begins_low.branch [
      | then-begins_low w ↦
          told_then _ _ _ _ _ low w.if-begins_low.true
          (flow _ _ _ _ c.args.observer.number _ w.flows.ensures (ap lattice_of order) (w.level.ensures.value
          ∙ ap (λ z. level_of z.program.order z.labels c.loop-mark.mark) c.labelled-labelled.ensures.labelled))
          w.push-is
      | else-begins_low w ↦ told_else _ _ _ _ low w.if-begins_low.false (w.push-is ∙ w.if-begins_low.false)
    ] in
    c.in_ok-push.ensures.items
    ∙ (ap (λ z. z ++ c.if-begins_low.push ∷ []) c.loop-mark.invariant
    ∙ (ap (λ z. marks_told rel 0 c.loop-mark.mark ++ z ∷ []) one ∙ sym (marks_told-one rel c.loop-mark.mark)))

pub returns : goal.returns
returns c =
    let p = c.args.p.now in
    let program = c.program-program.ensures.program ∙ ap (λ z. z.program) c.labelled-labelled.ensures.labelled in
    let order = c.lattice-lattice.ensures ∙ ap (λ z. z.order) program in
    let valid = subst IsValid program c.laws-2.ensures.valid in
    let lattice = subst (λ z. IsLattice (lattice_of z)) order c.laws.ensures.lattice in
    let kept = subst (λ z. IsLabelling z.program z.labels) c.labelled-labelled.ensures.labelled c.program-program.ensures.labelling in
    let count = c.mitigates-count.ensures ∙ ap (λ z. mitigates (plan_of z)) program in
    let all : c.loop-mark.mark ≡ c.mitigates-count.result = omega arith in
    c.loop-mark.invariant
    ∙ all_marks p c.args.observer.number c.loop-mark.mark lattice valid kept c.labelled-labelled.ensures.typed
    c.labelled-labelled.ensures.contexts (all ∙ count)
