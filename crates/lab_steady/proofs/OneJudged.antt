-- One judgement of a program at most.
use Rattle.std.proofs.Common.{◌≡◌, ◌<◌, ℕ, Bool, true, false, ltb, List, Option, Some, None, refl, sym, ap, subst, ◌∙◌, arith, ltb-true, ltb-false}
use Rattle.std.proofs.lemmas.Option.{none-some, same_Some}
use Rattle.label_code.specs.declared.code.Instr.{Instr}
use Rattle.timing_types.specs.Labelled.{LabelledProgram, order_of, labels_of}
use Rattle.code_lower.specs.Lowered.{lowered}
use Rattle.steady_code.specs.declared.costing.Costing.{Costing}
use Rattle.steady_code.specs.declared.fault.Fault.{Fault}
use Rattle.steady_code.specs.declared.fault.Reason.{Reason}
use Rattle.mit_syntax.specs.declared.ast.Op.{Op}
use Rattle.steady_code.specs.declared.tag.Tag.{Tag}
use Rattle.steady_code.specs.Costing.{settled_by}
use Rattle.steady_code.specs.Plain.{fault_at, stack_at, IsClear, IsFirst}
use Rattle.steady_code.specs.Timed.{low_of, felt_of}
use Rattle.steady_program.specs.Lowered.{IsEnd}
use Rattle.lab_steady.specs.Judged.{IsJudged}

same_number : (a b : ℕ) → (a < b → ⊥) → (b < a → ⊥) → a ≡ b
same_number a b f g = go (ltb a b) refl (ltb b a) refl
  where
    go : (x : Bool) → ltb a b ≡ x → (y : Bool) → ltb b a ≡ y → a ≡ b
    go true e y d = absurd (f (ltb-true a b e))
    go false e true d = absurd (g (ltb-true b a d))
    go false e false d = let le = ltb-false a b e in let ge = ltb-false b a d in omega (arith, le, ge)

pub one_end : (q : LabelledProgram) (o : ℕ) (whole : Bool) (a b : ℕ) → IsEnd q o whole a → IsEnd q o whole b → a ≡ b
one_end q o true a b h k = h ∙ sym k
one_end q o false a b h k = let le = h.least b k.quiet in let ge = k.least a h.quiet in omega (arith, le, ge)

module _ (settled : Op → Tag → Tag → Bool) (low felt : ℕ → Bool) (image : List Instr) (end : ℕ) where
  not_before : (a b : ℕ) (r s : Reason) → IsFirst settled low felt image end a r → IsFirst settled low felt image end b s → a < b → ⊥
  not_before a b r s h k lt = none-some r (sym (k.before a h.instr lt h.there) ∙ h.fault)

  one_reason : (a : ℕ) (r s : Reason) → IsFirst settled low felt image end a r → IsFirst settled low felt image end a s → r ≡ s
  one_reason a r s h k =
      let same : h.instr ≡ k.instr = same_Some h.instr k.instr (sym h.there ∙ k.there) in
      same_Some r s (sym h.fault ∙ ap (λ (z : Instr). fault_at settled low felt image end a (stack_at low image a) z) same ∙ k.fault)

  one_first : (a b : ℕ) (r s : Reason) → IsFirst settled low felt image end a r → IsFirst settled low felt image end b s
      → ◌≡◌ {A = Fault} (record { place = a; reason = r }) (record { place = b; reason = s })
  one_first a b r s h k =
      let place : a ≡ b = same_number a b (not_before a b r s h k) (not_before b a s r k h) in
      let reason : r ≡ s = one_reason b r s (subst (λ (z : ℕ). IsFirst settled low felt image end z r) place h) k in
      ap (λ (z : ℕ). record { place = z; reason = r }) place ∙ ap (λ (z : Reason). record { place = b; reason = z }) reason

  clear_or_first : (a : ℕ) (r : Reason) → IsClear settled low felt image end → IsFirst settled low felt image end a r → ⊥
  clear_or_first a r c h = none-some r (sym (c a h.instr h.there) ∙ h.fault)

pub one_judged : (costing : Costing) (q : LabelledProgram) (o h : ℕ) (whole : Bool) (f g : Option Fault)
    → IsJudged costing q o h whole f → IsJudged costing q o h whole g → f ≡ g
one_judged costing q o h whole None None x y = refl
one_judged costing q o h whole None (Some g) x y =
    let low = low_of (order_of q) (labels_of q) o in
    let felt = felt_of (order_of q) h in
    let image = (lowered q).instrs in
    let end : x.0 ≡ y.0 = one_end q o whole x.0 y.0 x.1 y.1 in
    absurd (clear_or_first (settled_by costing) low felt image y.0 g.place g.reason
    (subst (λ (z : ℕ). IsClear (settled_by costing) low felt image z) end x.2) y.2)
one_judged costing q o h whole (Some f) None x y =
    let low = low_of (order_of q) (labels_of q) o in
    let felt = felt_of (order_of q) h in
    let image = (lowered q).instrs in
    let end : y.0 ≡ x.0 = one_end q o whole y.0 x.0 y.1 x.1 in
    absurd (clear_or_first (settled_by costing) low felt image x.0 f.place f.reason
    (subst (λ (z : ℕ). IsClear (settled_by costing) low felt image z) end y.2) x.2)
one_judged costing q o h whole (Some f) (Some g) x y =
    let low = low_of (order_of q) (labels_of q) o in
    let felt = felt_of (order_of q) h in
    let image = (lowered q).instrs in
    let end : x.0 ≡ y.0 = one_end q o whole x.0 y.0 x.1 y.1 in
    ap (λ (z : Fault). Some z) (one_first (settled_by costing) low felt image y.0 f.place g.place f.reason g.reason
    (subst (λ (z : ℕ). IsFirst (settled_by costing) low felt image z f.place f.reason) end x.2) y.2)
