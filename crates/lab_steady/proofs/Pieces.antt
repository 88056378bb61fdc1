-- Pieces after a text.
use Rattle.std.proofs.Common.{◌≡◌, ℕ, List, ◌++◌, ap, ◌∙◌, append_assoc}

pub after_two : (x₀ x₁ x₂ a b : List ℕ) → x₁ ≡ x₀ ++ a → x₂ ≡ x₁ ++ b → x₂ ≡ x₀ ++ (a ++ b)
after_two x₀ x₁ x₂ a b e f = f ∙ ap (λ z. z ++ b) e ∙ append_assoc x₀ a b

pub after_three : (x₀ x₁ x₂ x₃ a b c : List ℕ) → x₁ ≡ x₀ ++ a → x₂ ≡ x₁ ++ b → x₃ ≡ x₂ ++ c → x₃ ≡ x₀ ++ (a ++ (b ++ c))
after_three x₀ x₁ x₂ x₃ a b c e f g = after_two x₀ x₁ x₃ a (b ++ c) e (g ∙ ap (λ z. z ++ c) f ∙ append_assoc x₁ b c)

pub after_four : (x₀ x₁ x₂ x₃ x₄ a b c d : List ℕ) → x₁ ≡ x₀ ++ a → x₂ ≡ x₁ ++ b → x₃ ≡ x₂ ++ c → x₄ ≡ x₃ ++ d
    → x₄ ≡ x₀ ++ (a ++ (b ++ (c ++ d)))
after_four x₀ x₁ x₂ x₃ x₄ a b c d e f g h = after_three x₀ x₁ x₂ x₄ a b (c ++ d) e f (h ∙ ap (λ z. z ++ d) g ∙ append_assoc x₂ c d)

pub after_five : (x₀ x₁ x₂ x₃ x₄ x₅ a b c d e : List ℕ) → x₁ ≡ x₀ ++ a → x₂ ≡ x₁ ++ b → x₃ ≡ x₂ ++ c → x₄ ≡ x₃ ++ d → x₅ ≡ x₄ ++ e
    → x₅ ≡ x₀ ++ (a ++ (b ++ (c ++ (d ++ e))))
after_five x₀ x₁ x₂ x₃ x₄ x₅ a b c d e p q r s t =
    after_four x₀ x₁ x₂ x₃ x₅ a b c (d ++ e) p q r (t ∙ ap (λ z. z ++ e) s ∙ append_assoc x₃ d e)
