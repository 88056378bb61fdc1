-- The words of a text are what its tokens say.
use Rattle.std.proofs.Common.{◌≡◌, refl, ap, ◌∙◌, sym, ℕ, List, [], ◌∷◌, ◌++◌}
use Rattle.mit_syntax.specs.declared.token.Token.{Token}
use Rattle.mit_syntax.specs.declared.tokens.Place.{Place}
use Rattle.mit_syntax.specs.Cut.{start, moved, Piece, white, comment, lexeme, end_at as end_token, tokens_of, AreTokens, token_bytes}
use Rattle.mit_syntax.proofs.TokenFacts.{lexemes_of, spelled, spelled_whole}
use Rattle.mit_parser.specs.Words.{Symbol, symbol_of, told}
use Rattle.parse_laws.specs.Grammar.{symbols}
use Rattle.parse_laws.specs.TextWords.{words_in, AreWords}
use Rattle.parse_laws.proofs.Saying.{Said, first, others}

words_said : (t : List ℕ) (q : List Piece) (ts : List Token) (p : Place) → spelled t ts ≡ lexemes_of q
    → symbols (told t (ts ++ end_token p ∷ [])) ≡ words_in q
words_said t [] [] p e = refl
words_said t [] (x ∷ ts) p e = absurd (cc)
words_said t (white b ∷ q) ts p e = words_said t q ts p e
words_said t (comment c ∷ q) ts p e = words_said t q ts p e
words_said t (lexeme w k ∷ q) [] p e = absurd (cc)
words_said t (lexeme w k ∷ q) (x ∷ ts) p e =
    let here : (x.kind, token_bytes t x) ≡ (k, w) = ap (λ l. first l (k, w)) e in
    let said : symbol_of x.kind (token_bytes t x) ≡ symbol_of k w = ap (λ (y : Said). symbol_of y.0 y.1) here in
    ap (λ (s : Symbol). s ∷ symbols (told t (ts ++ end_token p ∷ []))) said
    ∙ ap (λ (l : List Symbol). symbol_of k w ∷ l) (words_said t q ts p (ap others e))

whole_said : (t : List ℕ) (words : List Symbol) (h : AreWords t words)
    → symbols (told t (tokens_of start h.pieces ++ end_token (moved start t) ∷ [])) ≡ words_in h.pieces
whole_said t words h = words_said t h.pieces (tokens_of start h.pieces) (moved start t) (spelled_whole t h.pieces h.are)

-- what tokens of a text say are its words
pub are_words : (t : List ℕ) (tokens : List Token) → AreTokens t tokens → AreWords t (symbols (told t tokens))
are_words t tokens h =
    record {
      utf8 = h.utf8;
      pieces = h.pieces;
      are = h.are;
      cut = h.cut;
      said = ap (λ l. symbols (told t l)) h.tokens_are
          ∙ words_said t h.pieces (tokens_of start h.pieces) (moved start t) (spelled_whole t h.pieces h.are);
    }

-- words of a text are what its tokens say
pub are_tokens : (t : List ℕ) (words : List Symbol) → AreWords t words
    → (tokens : List Token) × AreTokens t tokens × (words ≡ symbols (told t tokens))
are_tokens t words h = (
  tokens_of start h.pieces ++ end_token (moved start t) ∷ [],
  record { utf8 = h.utf8; pieces = h.pieces; are = h.are; cut = h.cut; tokens_are = refl },
  h.said ∙ sym (whole_said t words h),
)
