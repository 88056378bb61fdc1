-- Lines that are put together, and the names that a header gives.
use Rattle.std.proofs.Common.{◌≡◌, refl, ap, ◌∙◌, ℕ, ◌<◌, List, [], ◌∷◌, ◌++◌, append_assoc, length, get_or}
use Rattle.std.proofs.lemmas.Option.{slice_get-get_or}
use Rattle.mit_syntax.specs.declared.token.Token.{Token}
use Rattle.mit_syntax.specs.declared.token.TokenKind.{TokenKind}
use Rattle.mit_syntax.specs.declared.token.TokenKind.TheVariants.{Key, Name, Number, Sign, End}
use Rattle.mit_syntax.specs.Cut.{token_bytes}
use Rattle.tool_texts.specs.Texts.{named_at}

pub of_five : (x₀ x₁ x₂ x₃ x₄ x₅ a b c d e : List ℕ) → x₀ ≡ [] → x₁ ≡ x₀ ++ a → x₂ ≡ x₁ ++ b → x₃ ≡ x₂ ++ c → x₄ ≡ x₃ ++ d → x₅ ≡ x₄ ++ e
    → x₅ ≡ a ++ (b ++ (c ++ (d ++ e)))
of_five x₀ x₁ x₂ x₃ x₄ x₅ a b c d e e₀ e₁ e₂ e₃ e₄ e₅ =
    let one : x₁ ≡ a = e₁ ∙ ap (λ l. l ++ a) e₀ in
    let two : x₂ ≡ a ++ b = e₂ ∙ ap (λ l. l ++ b) one in
    let three : x₃ ≡ a ++ (b ++ c) = e₃ ∙ ap (λ l. l ++ c) two ∙ append_assoc a b c in
    let four : x₄ ≡ a ++ (b ++ (c ++ d)) = e₄ ∙ ap (λ l. l ++ d) three ∙ simp append_assoc in
    e₅ ∙ ap (λ l. l ++ e) four ∙ simp append_assoc

pub of_seven : (x₀ x₁ x₂ x₃ x₄ x₅ x₆ x₇ a b c d e f g : List ℕ) → x₀ ≡ [] → x₁ ≡ x₀ ++ a → x₂ ≡ x₁ ++ b → x₃ ≡ x₂ ++ c → x₄ ≡ x₃ ++ d → x₅ ≡ x₄ ++ e
    → x₆ ≡ x₅ ++ f → x₇ ≡ x₆ ++ g
    → x₇ ≡ a ++ (b ++ (c ++ (d ++ (e ++ (f ++ g)))))
of_seven x₀ x₁ x₂ x₃ x₄ x₅ x₆ x₇ a b c d e f g e₀ e₁ e₂ e₃ e₄ e₅ e₆ e₇ =
    let five : x₅ ≡ a ++ (b ++ (c ++ (d ++ e))) = of_five x₀ x₁ x₂ x₃ x₄ x₅ a b c d e e₀ e₁ e₂ e₃ e₄ e₅ in
    let six : x₆ ≡ a ++ (b ++ (c ++ (d ++ (e ++ f)))) = e₆ ∙ ap (λ l. l ++ f) five ∙ simp append_assoc in
    e₇ ∙ ap (λ l. l ++ g) six ∙ simp append_assoc

module _ (text : List ℕ) (tokens : List Token) (i : ℕ) (d : Token) (h : i < length tokens) where
  at_place : named_at text tokens i ≡ named_at text (get_or tokens i d ∷ []) 0
  at_place = rw (slice_get-get_or tokens i d h)

  pub name_at : (get_or tokens i d).kind ≡ Name → named_at text tokens i ≡ token_bytes text (get_or tokens i d)
  name_at e = at_place ∙ of_name (get_or tokens i d) (get_or tokens i d).kind refl e
    where
      of_name : (t : Token) (k : TokenKind) → t.kind ≡ k → k ≡ Name → named_at text (t ∷ []) 0 ≡ token_bytes text t
      of_name t (Key w) e f = absurd cc
      of_name t Name e f = rw e
      of_name t (Number n) e f = absurd cc
      of_name t (Sign s) e f = absurd cc
      of_name t End e f = absurd cc

  pub no_name_at : ((get_or tokens i d).kind ≡ Name → ⊥) → named_at text tokens i ≡ []
  no_name_at n = at_place ∙ of_other (get_or tokens i d) (get_or tokens i d).kind refl n
    where
      of_other : (t : Token) (k : TokenKind) → t.kind ≡ k → (k ≡ Name → ⊥) → named_at text (t ∷ []) 0 ≡ []
      of_other t (Key w) e f = rw e
      of_other t Name e f = absurd (f refl)
      of_other t (Number n) e f = rw e
      of_other t (Sign s) e f = rw e
      of_other t End e f = rw e
