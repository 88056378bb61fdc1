-- Words with their positions that say chunks.
use Rattle.std.proofs.Common.{◌≡◌, refl, ap, ◌∙◌, sym, subst, ℕ, List, [], ◌∷◌, ◌++◌}
use Rattle.text_base.specs.declared.pos.Pos.{Pos}
use Rattle.mit_syntax.specs.declared.token.Token.{Token}
use Rattle.mit_syntax.specs.declared.token.TokenKind.{TokenKind}
use Rattle.mit_syntax.specs.declared.tokens.Place.{Place}
use Rattle.mit_syntax.specs.Chunks.{Word, key, sign, number, name, Chunk, space, line, word as token, word_text, text}
use Rattle.mit_syntax.specs.Cut.{start, moved, end_at as end_token, tokens_of, AreTokens, token_bytes}
use Rattle.mit_syntax.proofs.TokenFacts.{lexemes_of, spelled, spelled_whole}
use Rattle.mit_syntax.proofs.PlainText.{plain_tokens}
use Rattle.mit_parser.specs.Words.{word, Told, symbol_of, told, end_at}
use Rattle.parse_laws.proofs.Apart.{word_kind, Apart, pieces, spread_text, cut, plain}

-- the words are those of the chunks, and then the end
abbrev pub Says : List Told → List Chunk → Type 0
Says ws [] = (p : Pos) × (ws ≡ end_at p ∷ [])
Says ws (space ∷ q) = Says ws q
Says ws (line ∷ q) = Says ws q
Says ws (token w ∷ q) = (p : Pos) × (r : List Told) × (ws ≡ record { symbol = word w; pos = p } ∷ r) × Says r q

told_word : (w : Word) → symbol_of (word_kind w) (word_text w) ≡ word w
told_word (key k) = refl
told_word (sign s) = refl
told_word (number n) = refl
told_word (name w) = refl

abbrev pub Said : Type 0
Said = TokenKind × List ℕ

abbrev pub first : List Said → Said → Said
first [] d = d
first (x ∷ xs) d = x

abbrev pub others : List Said → List Said
others [] = []
others (x ∷ xs) = xs

says_told : (t : List ℕ) (q : List Chunk) (ts : List Token) (p : Place) → spelled t ts ≡ lexemes_of (pieces q) → Says (told t (ts ++ end_token p ∷ [])) q
says_told t [] [] p e = (p.pos, refl)
says_told t [] (x ∷ ts) p e = absurd (cc)
says_told t (space ∷ q) ts p e = says_told t q ts p e
says_told t (line ∷ q) ts p e = says_told t q ts p e
says_told t (token w ∷ q) [] p e = absurd (cc)
says_told t (token w ∷ q) (x ∷ ts) p e =
    let here : (x.kind, token_bytes t x) ≡ (word_kind w, word_text w) = ap (λ l. first l (word_kind w, word_text w)) e in
    let said : symbol_of x.kind (token_bytes t x) ≡ word w = ap (λ (y : Said). symbol_of y.0 y.1) here ∙ told_word w in (
      x.pos,
      told t (ts ++ end_token p ∷ []),
      ap (λ s. record { symbol = s; pos = x.pos } ∷ told t (ts ++ end_token p ∷ [])) said,
      says_told t q ts p (ap others e),
    )

-- the tokens of the text of such chunks say them
pub record AreSaid (q : List Chunk) : Type 0 where
  pub tokens : List Token
  pub are : AreTokens (text q) tokens
  pub says : Says (told (text q) tokens) q

pub are_said : (q : List Chunk) → Apart q → AreSaid q
are_said q h =
    record {
      tokens = tokens_of start (pieces q) ++ end_token (moved start (text q)) ∷ [];
      are = subst (λ t. AreTokens t (tokens_of start (pieces q) ++ end_token (moved start t) ∷ [])) (spread_text q)
          (plain_tokens (pieces q) (cut q h) (plain q));
      says = says_told (text q) q (tokens_of start (pieces q)) (moved start (text q)) (spelled_whole (text q) (pieces q) (sym (spread_text q)));
    }
