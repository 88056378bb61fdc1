-- A line of words and two numbers.
use Rattle.std.proofs.Common.{◌≡◌, ◌++◌, ◌∙◌, ℕ, List, [], ap, append_assoc}
use Rattle.std.specs.Prelude.{decimal}

module _ (a b e l k m n : List ℕ) where
  parts : (x y : ℕ) → l ≡ [] → k ≡ l ++ (a ++ decimal x) → m ≡ k ++ (b ++ decimal y) → n ≡ m ++ e → n ≡ a ++ (decimal x ++ (b ++ (decimal y ++ e)))
  parts x y empty one two three =
      three
      ∙ (ap (λ z. z ++ e) (two ∙ ap (λ z. z ++ (b ++ decimal y)) (one ∙ ap (λ z. z ++ (a ++ decimal x)) empty))
      ∙ (append_assoc (a ++ decimal x) (b ++ decimal y) e
      ∙ (append_assoc a (decimal x) ((b ++ decimal y) ++ e) ∙ ap (λ z. a ++ (decimal x ++ z)) (append_assoc b (decimal y) e))))

  pub two_numbers : (x y first second : ℕ) → x ≡ first → y ≡ second → l ≡ [] → k ≡ l ++ (a ++ decimal x) → m ≡ k ++ (b ++ decimal y) → n ≡ m ++ e →
      n ≡ a ++ (decimal first ++ (b ++ (decimal second ++ e)))
  two_numbers x y first second same also empty one two three =
      parts x y empty one two three
      ∙ (ap (λ z. a ++ (decimal z ++ (b ++ (decimal y ++ e)))) same ∙ ap (λ z. a ++ (decimal first ++ (b ++ (decimal z ++ e)))) also)
