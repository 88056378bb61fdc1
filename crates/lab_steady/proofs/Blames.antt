-- Which variable is to blame, step by step.
use Rattle.std.proofs.Common.{◌≡◌, ◌<◌, ◌-◌, ℕ, zero, suc, Bool, true, false, cond, leb, List, Option, Some, None, is_some, slice_get}
use Rattle.std.proofs.Common.{refl, sym, ap, subst, ◌∙◌, arith, le-leb}
use Rattle.std.proofs.lemmas.Bool.{false≢true}
use Rattle.label_code.specs.declared.code.Instr.{Instr}
use Rattle.steady_code.specs.declared.fault.Reason.{Reason}
use Rattle.lab_steady.specs.Owner.{or_else}
use Rattle.lab_steady.specs.Blame.{hidden_by, hidden_in, blamed, blamed_by}

-- nothing hidden is read by an instruction
pub not_there : (low : ℕ → Bool) (image : List Instr) (from at : ℕ) → from < at → hidden_by low (slice_get image (at - 1)) ≡ None
    → hidden_in low image from at ≡ hidden_in low image from (at - 1)
not_there low image from zero lt none = absurd (omega (arith, lt))
not_there low image from (suc a) lt none =
    let back : suc a - 1 ≡ a = omega arith in
    let above : leb from a ≡ true = le-leb from a (omega (arith, lt)) in
    let here : hidden_by low (slice_get image a) ≡ None = subst (λ (z : ℕ). hidden_by low (slice_get image z) ≡ None) back none in
    ap (λ (z : Bool). cond z (or_else (hidden_by low (slice_get image a)) (hidden_in low image from a)) None) above
    ∙ ap (λ (z : Option ℕ). or_else z (hidden_in low image from a)) here ∙ ap (hidden_in low image from) (sym back)

pub none_of : (x : Option ℕ) (r : Bool) → r ≡ is_some x → r ≡ false → x ≡ None
none_of None r e f = refl
none_of (Some n) r e f = absurd (false≢true (sym f ∙ e))

-- the variable to blame for the instruction that stands at a place
pub blamed_there : (low : ℕ → Bool) (code image : List Instr) (a : ℕ) (i : Instr) (r : Reason) → code ≡ image
    → slice_get code a ≡ Some i → blamed low code a i.work r ≡ blamed_by low image a r (slice_get image a)
blamed_there low code image a i r e there =
    ap (λ (z : Option Instr). blamed_by low code a r z) (sym there) ∙ ap (λ (z : List Instr). blamed_by low z a r (slice_get z a)) e
