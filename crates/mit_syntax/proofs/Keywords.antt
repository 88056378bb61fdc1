-- A word is none of the keywords where it is the text of no keyword.
use Rattle.std.proofs.Common.{◌≡◌, ◌∙◌, refl, sym, ap, ℕ, List, Bool, true, false}
use Rattle.std.specs.Prelude.{◌||◌}
use Rattle.std.specs.Str.{bytes_eq}
use Rattle.std.proofs.lemmas.Slice.Eq.{bytes_eq-Decides}
use Rattle.label_lattice.specs.Names.{keywords, is_one_of}
use Rattle.mit_syntax.specs.declared.token.Keyword.{Keyword}
use Rattle.mit_syntax.specs.declared.token.Keyword.TheVariants.{Labels, Order, Var, Skip, If, Then, Else, While, Do, Mitigate, Sleep}
use Rattle.mit_syntax.specs.Lexemes.{key_text}
use Rattle.mit_syntax.proofs.LexBytes.{differ}
use Rattle.mit_syntax.proofs.LexSigns.{each_key}

is_keyword : (k : Keyword) → is_one_of keywords (key_text k) ≡ true
unfolding keywords
is_keyword = each_key (λ k. is_one_of keywords (key_text k) ≡ true) (refl, refl, refl, refl, refl, refl, refl, refl, refl, refl, refl)

neither : (a b : Bool) → (a ≡ true → ⊥) → b ≡ false → (a || b) ≡ false
neither true b h k = absurd (h refl)
neither false b h k = k

module _ (w : List ℕ) where
  pub no_key : is_one_of keywords w ≡ false → (k : Keyword) → w ≡ key_text k → ⊥
  no_key h k e = differ (sym (ap (is_one_of keywords) e ∙ is_keyword k) ∙ h)

  pub no_keyword : ((k : Keyword) → w ≡ key_text k → ⊥) → is_one_of keywords w ≡ false
  unfolding keywords
  no_keyword h =
      let is_not : (k : Keyword) → bytes_eq w (key_text k) ≡ true → ⊥ = λ k e. h k ((bytes_eq-Decides w (key_text k)).0 e) in
      neither _ _ (is_not Labels) (neither _ _ (is_not Order) (neither _ _ (is_not Var) (neither _ _ (is_not Skip) (neither _ _ (is_not If)
      (neither _ _ (is_not Then) (neither _ _ (is_not Else) (neither _ _ (is_not While) (neither _ _ (is_not Do) (neither _ _ (is_not Mitigate)
      (neither _ _ (is_not Sleep) refl))))))))))
