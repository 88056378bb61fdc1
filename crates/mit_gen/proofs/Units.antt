-- One more unit.
use Rattle.std.proofs.Common.{◌≡◌, sym, ap, ◌∙◌, ℕ, suc, ◌+◌, ◌*◌, List, ◌++◌, append_assoc, add-one, arith}
use Rattle.mit_gen.specs.declared.unit.Unit.{Unit}
use Rattle.mit_gen.specs.Made.{state_after, unit_from, unit_text, separator, units}

pub units_then : (old : List ℕ) {a b c : List ℕ} (number k : ℕ) (u : Unit) → a ≡ old ++ units number k → b ≡ a ++ separator k → c ≡ b ++ unit_text u
    → u ≡ unit_from (state_after number (4 * k)) → c ≡ old ++ units number (k + 1)
units_then old {a} {b} {c} number k u h1 h2 h3 h4 =
    let t : List ℕ = separator k ++ unit_text u in
    let long : c ≡ (old ++ units number k) ++ t = h3 ∙ ap (λ z. z ++ unit_text u) h2 ∙ append_assoc a (separator k) (unit_text u) ∙ ap (λ z. z ++ t) h1 in
    long ∙ append_assoc old (units number k) t
    ∙ ap (λ z. old ++ (units number k ++ (separator k ++ unit_text z))) h4
    ∙ ap (λ z. old ++ units number z) (sym (add-one k))

pub state_then : (number k s t : ℕ) → s ≡ state_after number (4 * k) → t ≡ state_after s 4 → t ≡ state_after number (4 * (k + 1))
state_then number k s t h1 h2 =
    let count : suc (suc (suc (suc (4 * k)))) ≡ 4 * (k + 1) = omega arith in
    h2 ∙ ap (λ z. state_after z 4) h1 ∙ ap (state_after number) count
