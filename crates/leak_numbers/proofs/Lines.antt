-- Lines that stand one after another.
use Rattle.std.proofs.Common.{◌≡◌, ◌+◌, ◌-◌, ℕ, List, [], ◌∷◌, ◌++◌, length, append_assoc, rules, refl, sym, ap, ◌∙◌, subst, arith, Bool, cond, codes}
use Rattle.std.specs.Prelude.{eqb}
use Rattle.fixed_log.specs.Log.{IsLog}
use Rattle.fixed_log.specs.Entropy.{IsEntropy, starts, square_sum}
use Rattle.fixed_log.specs.Units.{log_units, entropy_units}
use Rattle.leak_numbers.specs.Numbers.{AreNumbers, AreNumbersOnce, NumbersPut, numbers_text, counted, span_line, least_of, greatest_of, interval_line}
use Rattle.leak_numbers.specs.Numbers.{first_line, guess_line}

pub after_six : (x₀ x₁ x₂ x₃ x₄ x₅ x₆ a b c d e f : List ℕ) → x₁ ≡ x₀ ++ a → x₂ ≡ x₁ ++ b → x₃ ≡ x₂ ++ c → x₄ ≡ x₃ ++ d → x₅ ≡ x₄ ++ e → x₆ ≡ x₅ ++ f
    → x₆ ≡ x₀ ++ (a ++ (b ++ (c ++ (d ++ (e ++ f)))))
after_six x₀ x₁ x₂ x₃ x₄ x₅ x₆ a b c d e f e₁ e₂ e₃ e₄ e₅ e₆ =
    e₆ ∙ ap (λ l. l ++ f) (e₅ ∙ ap (λ l. l ++ e) (e₄ ∙ ap (λ l. l ++ d) (e₃ ∙ ap (λ l. l ++ c) (e₂ ∙ ap (λ l. l ++ b) e₁))))
    ∙ simp append_assoc

pub none_put : (size : ℕ) (ws old : List ℕ) → length ws ≡ 0 → NumbersPut size ws old old
none_put size [] old e = record { lines = []; are = refl; put = search rules }
none_put size (w ∷ ws) old e = absurd (omega (arith, e))

pub are_numbers : (size : ℕ) (ws x : List ℕ) (log entropy : ℕ) → (length ws ≡ 0 → ⊥) → log ≡ log_units (length ws) → entropy ≡ entropy_units ws
    → IsLog 32 (length ws) log → IsEntropy 32 ws entropy → x ≡ numbers_text size ws log entropy → AreNumbers size ws x
are_numbers size [] x log entropy n p q l h e = absurd (n refl)
are_numbers size (w ∷ ws) x log entropy n p q l h e = (log, entropy, p, q, l, h, e)

pub one_text : AreNumbersOnce
one_text size [] x y h k = h ∙ sym k
one_text size (w ∷ ws) x y h k =
    h.6 ∙ ap (λ z. numbers_text size (w ∷ ws) z h.1) (h.2 ∙ sym k.2) ∙ ap (λ z. numbers_text size (w ∷ ws) k.0 z) (h.3 ∙ sym k.3) ∙ sym k.6

module _ (size : ℕ) (ws : List ℕ) (x₀ x₁ x₂ x₃ x₄ x₅ x₆ : List ℕ) (even : Bool) (classes squares log entropy : ℕ) (known : classes ≡ length ws)
    (is : even ≡ eqb (starts ws) size) (sum : squares ≡ square_sum ws) where
  abbrev text : Bool → ℕ → ℕ → List ℕ
  text b k q =
      counted (codes "distinct ") k
      ++ (span_line (least_of (starts ws) ws) (greatest_of 0 ws)
      ++ (cond b (interval_line (codes "min-entropy ") log (log + 2)) []
      ++ (interval_line (codes "shannon ") (entropy - 2) (entropy + 3)
      ++ (cond b (first_line size k) [] ++ cond b (guess_line size q) []))))

  pub all_put : x₁ ≡ x₀ ++ counted (codes "distinct ") classes → x₂ ≡ x₁ ++ span_line (least_of (starts ws) ws) (greatest_of 0 ws)
      → x₃ ≡ x₂ ++ cond even (interval_line (codes "min-entropy ") log (log + 2)) []
      → x₄ ≡ x₃ ++ interval_line (codes "shannon ") (entropy - 2) (entropy + 3) → x₅ ≡ x₄ ++ cond even (first_line size classes) []
      → x₆ ≡ x₅ ++ cond even (guess_line size squares) []
      → (classes ≡ 0 → ⊥) → log ≡ log_units classes → entropy ≡ entropy_units ws → IsLog 32 classes log → IsEntropy 32 ws entropy
      → NumbersPut size ws x₀ x₆
  all_put e₁ e₂ e₃ e₄ e₅ e₆ n p q l h =
      let same : text even classes squares ≡ numbers_text size ws log entropy =
      ap (λ z. text z classes squares) is ∙ ap (λ z. text (eqb (starts ws) size) z squares) known
      ∙ ap (λ z. text (eqb (starts ws) size) (length ws) z) sum in
      record {
        lines = numbers_text size ws log entropy;
        are = are_numbers size ws _ log entropy (λ z. n (known ∙ z)) (p ∙ ap log_units known) q (subst (λ z. IsLog 32 z log) known l) h refl;
        put = after_six x₀ x₁ x₂ x₃ x₄ x₅ x₆ _ _ _ _ _ _ e₁ e₂ e₃ e₄ e₅ e₆ ∙ ap (λ z. x₀ ++ z) same;
      }
