-- A list of chunks in which no two lexemes touch that could merge is cut exactly so.
use Rattle.std.proofs.Common.{◌≡◌, refl, ap, ◌∙◌, sym, subst, ℕ, List, [], ◌∷◌, ◌++◌}
use Rattle.std.specs.Prelude.{map}
use Rattle.std.proofs.lemmas.List.{append-nil}
use Rattle.mit_syntax.specs.declared.token.Token.{Token}
use Rattle.mit_syntax.specs.declared.token.TokenKind.{TokenKind}
use Rattle.mit_syntax.specs.Lexemes.{HasKind}
use Rattle.mit_syntax.specs.Chunks.{Chunk, space, line, word, word_text, text}
use Rattle.mit_syntax.specs.Cut.{start, moved, end_at, Piece, white, lexeme, spread, CutBefore, tokens_of, AreTokens, token_bytes}
use Rattle.mit_syntax.proofs.ClosedPiece.{Closes, closed_piece}
use Rattle.mit_syntax.proofs.PlainText.{NoComments, plain_tokens}
use Rattle.mit_syntax.proofs.TokenFacts.{lexemes_of, spelled, spelled_whole}
use Rattle.made_laws.specs.Words.{word_kind, words_of, HasWords}

-- each word is one, and the next byte cannot go on with it
abbrev pub Apart : List Chunk → Type 0
Apart [] = Unit {0}
Apart (space ∷ q) = Apart q
Apart (line ∷ q) = Apart q
Apart (word w ∷ q) = HasKind (word_text w) (word_kind w) × Closes (word_kind w) (text q) × Apart q

abbrev pieces : List Chunk → List Piece
pieces [] = []
pieces (space ∷ q) = white 32 ∷ pieces q
pieces (line ∷ q) = white 10 ∷ pieces q
pieces (word w ∷ q) = lexeme (word_text w) (word_kind w) ∷ pieces q

spread_text : (q : List Chunk) → spread (pieces q) ≡ text q
spread_text [] = refl
spread_text (space ∷ q) = ap (λ l. 32 ∷ l) (spread_text q)
spread_text (line ∷ q) = ap (λ l. 10 ∷ l) (spread_text q)
spread_text (word w ∷ q) = ap (λ l. word_text w ++ l) (spread_text q)

after : (q : List Chunk) → text q ≡ spread (pieces q) ++ []
after q = sym (append-nil (spread (pieces q)) ∙ spread_text q)

cut : (q : List Chunk) → Apart q → CutBefore (pieces q) []
cut [] h = tt
cut (space ∷ q) h = (refl, cut q h)
cut (line ∷ q) h = (refl, cut q h)
cut (word w ∷ q) h =
    (closed_piece (word_text w) (word_kind w) (spread (pieces q) ++ []) h.0 (subst (λ l. Closes (word_kind w) l) (after q) h.1), cut q h.2)

plain : (q : List Chunk) → NoComments (pieces q)
plain [] = tt
plain (space ∷ q) = plain q
plain (line ∷ q) = plain q
plain (word w ∷ q) = plain q

lexemes : (q : List Chunk) → lexemes_of (pieces q) ≡ map {B = TokenKind × List ℕ} (λ w. (word_kind w, word_text w)) (words_of q)
lexemes [] = refl
lexemes (space ∷ q) = lexemes q
lexemes (line ∷ q) = lexemes q
lexemes (word w ∷ q) = ap (λ l. (word_kind w, word_text w) ∷ l) (lexemes q)

spelled_map : (t : List ℕ) (ts : List Token) → map {B = TokenKind × List ℕ} (λ x. (x.kind, token_bytes t x)) ts ≡ spelled t ts
spelled_map t [] = refl
spelled_map t (x ∷ ts) = ap (λ l. (x.kind, token_bytes t x) ∷ l) (spelled_map t ts)

-- the text of such chunks says their words
pub chunk_words : (q : List Chunk) → Apart q → HasWords (text q) (words_of q)
chunk_words q h = record {
  tokens = tokens_of start (pieces q);
  are = subst (λ t. AreTokens t (tokens_of start (pieces q) ++ end_at (moved start t) ∷ [])) (spread_text q) (plain_tokens (pieces q) (cut q h) (plain q));
  say = spelled_map (text q) (tokens_of start (pieces q)) ∙ spelled_whole (text q) (pieces q) (sym (spread_text q)) ∙ lexemes q;
}
