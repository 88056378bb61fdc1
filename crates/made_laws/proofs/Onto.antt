-- Words with their positions.
use Rattle.std.proofs.Common.{◌≡◌, refl, sym, ap, ◌∙◌, ℕ, zero, suc, List, [], ◌∷◌, ◌++◌}
use Rattle.std.specs.Prelude.{map}
use Rattle.text_base.specs.declared.pos.Pos.{Pos}
use Rattle.mit_syntax.specs.declared.token.Token.{Token}
use Rattle.mit_syntax.specs.declared.token.TokenKind.{TokenKind}
use Rattle.mit_syntax.specs.Chunks.{Word, key, sign, number, name, word_text}
use Rattle.mit_syntax.specs.Cut.{start, moved, end_at, AreTokens, token_bytes}
use Rattle.mit_syntax.proofs.OneList.{one_list}
use Rattle.mit_parser.specs.Words.{Symbol, word, Told, symbol_of, told, end_at as told_end}
use Rattle.made_laws.specs.Words.{word_kind, HasWords}

-- the words, whose positions are given from a number on, before what follows
abbrev pub onto : List Word → (ℕ → Pos) → ℕ → List Told → List Told
onto [] ps n r = r
onto (w ∷ ws) ps n r = record { symbol = word w; pos = ps n } ∷ onto ws ps (suc n) r

told_word : (w : Word) → symbol_of (word_kind w) (word_text w) ≡ word w
told_word (key k) = refl
told_word (sign s) = refl
told_word (number n) = refl
told_word (name w) = refl

abbrev Said : Type 0
Said = TokenKind × List ℕ

abbrev told_pair : Said → Symbol
told_pair x = symbol_of x.0 x.1

abbrev nowhere : Pos
nowhere = record { line = 0; column = 0 }

-- by tails
shifted : (ws : List Word) (ps : ℕ → Pos) (n : ℕ) (r : List Told) → onto ws ps (suc n) r ≡ onto ws (λ k. ps (suc k)) n r
shifted [] ps n r = refl
shifted (w ∷ ws) ps n r = ap (λ l. record { symbol = word w; pos = ps (suc n) } ∷ l) (shifted ws ps (suc n) r)

abbrev first : List Said → Said → Said
first [] d = d
first (x ∷ xs) d = x

abbrev others : List Said → List Said
others [] = []
others (x ∷ xs) = xs

abbrev positions : List Token → ℕ → Pos
positions [] n = nowhere
positions (t ∷ ts) zero = t.pos
positions (t ∷ ts) (suc n) = positions ts n

-- tokens that say these words are told as they are
told_onto : (text : List ℕ) (ts : List Token) (ws : List Word) (r : List Token)
    → map {B = Said} (λ t. (t.kind, token_bytes text t)) ts ≡ map (λ w. (word_kind w, word_text w)) ws
    → told text (ts ++ r) ≡ onto ws (positions ts) 0 (told text r)
told_onto text [] [] r e = refl
told_onto text [] (w ∷ ws) r e = absurd (cc)
told_onto text (t ∷ ts) [] r e = absurd (cc)
told_onto text (t ∷ ts) (w ∷ ws) r e =
    let here : (t.kind, token_bytes text t) ≡ (word_kind w, word_text w) = ap (λ l. first l (word_kind w, word_text w)) e in
    let said : symbol_of t.kind (token_bytes text t) ≡ word w = ap told_pair here ∙ told_word w in
    let tail : told text (ts ++ r) ≡ onto ws (positions ts) 0 (told text r) = told_onto text ts ws r (ap others e) in
    ap (λ s. record { symbol = s; pos = t.pos } ∷ told text (ts ++ r)) said
    ∙ ap (λ l. record { symbol = word w; pos = t.pos } ∷ l) (tail ∙ sym (shifted ws (positions (t ∷ ts)) 0 (told text r)))

-- the words of a text with their positions, and the end
pub record ToldAs (words : List Told) (ws : List Word) : Type 0 where
  pub positions : ℕ → Pos
  pub last : Pos
  pub are : words ≡ onto ws positions 0 (told_end last ∷ [])

pub told_as : (text : List ℕ) (ws : List Word) → HasWords text ws → (tokens : List Token) → AreTokens text tokens → ToldAs (told text tokens) ws
told_as text ws h tokens a =
    let same : tokens ≡ h.tokens ++ end_at (moved start text) ∷ [] = one_list text tokens (h.tokens ++ end_at (moved start text) ∷ []) a h.are in
    record {
      positions = positions h.tokens;
      last = (moved start text).pos;
      are = ap (told text) same ∙ told_onto text h.tokens ws (end_at (moved start text) ∷ []) h.say;
    }
