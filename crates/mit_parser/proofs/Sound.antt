-- The tokens of a text are what a parser wants.
use Rattle.std.proofs.Common.{◌≡◌, ◌≤◌, ◌<◌, ◌+◌, ◌^◌, refl, ap, ◌∙◌, sym, subst, ℕ, List, [], ◌∷◌, ◌++◌, length, length-append, false, arith}
use Rattle.mit_syntax.specs.declared.token.Token.{Token}
use Rattle.mit_syntax.specs.declared.token.TokenKind.{TokenKind}
use Rattle.mit_syntax.specs.declared.token.TokenKind.TheVariants.{Key, Name, Number, Sign, End}
use Rattle.mit_syntax.specs.declared.tokens.Place.{Place}
use Rattle.mit_syntax.specs.Lexemes.{HasKind}
use Rattle.mit_syntax.specs.Cut.{start, moved, Piece, white, comment, lexeme, spread, CutBefore, tokens_of, end_at, AreTokens, token_bytes}
use Rattle.mit_syntax.proofs.LexPieces.{kind_some}
use Rattle.mit_syntax.proofs.TokenFacts.{EachToken, IsTokenOf, told as token_facts}
use Rattle.mit_parser.specs.Words.{told, symbol_of, IsProperSymbol, AreProper, IsEnded}
use Rattle.mit_parser.specs.State.{AreInside, AreSound}

proper_kind : (w : List ℕ) (k : TokenKind) → HasKind w k → IsProperSymbol (symbol_of k w)
proper_kind w (Key k) h = tt
proper_kind w Name h = h
proper_kind w (Number n) h = subst (λ z. IsProperSymbol (symbol_of (Number z) w)) (sym h.1) h.2
proper_kind w (Sign s) h = tt
proper_kind w End h = tt

module _ (text : List ℕ) (e : Token) (last : e.kind ≡ End) (order : e.from ≤ e.to) (within : e.to ≤ length text) where
  all_inside : (front : List Token) → EachToken (IsTokenOf text) front → AreInside text (front ++ e ∷ [])
  all_inside [] h = (order, within, tt)
  all_inside (t ∷ ts) h = let s = h.0.some in (omega (arith, s), h.0.within, all_inside ts h.1)

  end_proper : IsProperSymbol (symbol_of e.kind (token_bytes text e))
  end_proper = subst (λ k. IsProperSymbol (symbol_of k (token_bytes text e))) (sym last) tt

  all_proper : (front : List Token) → EachToken (IsTokenOf text) front → AreProper (told text (front ++ e ∷ []))
  all_proper [] h = (end_proper, tt)
  all_proper (t ∷ ts) h = (proper_kind (token_bytes text t) t.kind h.0.has_kind, all_proper ts h.1)

  not_end : (w : List ℕ) (k : TokenKind) → HasKind w k → Rattle.mit_parser.specs.Words.is_end (symbol_of k w) ≡ false
  not_end w (Key k) h = refl
  not_end w Name h = refl
  not_end w (Number n) h = refl
  not_end w (Sign s) h = refl
  not_end w End h = absurd h

  all_ended : (front : List Token) → EachToken (IsTokenOf text) front → IsEnded (told text (front ++ e ∷ []))
  all_ended [] h = ap (λ k. Rattle.mit_parser.specs.Words.is_end (symbol_of k (token_bytes text e))) last
  all_ended (t ∷ []) h = (not_end (token_bytes text t) t.kind h.0.has_kind, all_ended [] tt)
  all_ended (t ∷ u ∷ ts) h = (not_end (token_bytes text t) t.kind h.0.has_kind, all_ended (u ∷ ts) h.1)

few_tokens : (ps : List Piece) (p : Place) (rest : List ℕ) → CutBefore ps rest → length (tokens_of p ps) ≤ length (spread ps)
few_tokens [] p rest c = omega arith
few_tokens (white b ∷ ps) p rest c = let k = few_tokens ps (moved p (b ∷ [])) rest c.1 in omega (arith, k)
few_tokens (comment w ∷ ps) p rest c = let k = few_tokens ps (moved p w) rest c.1 in let s = length-append w (spread ps) in omega (arith, k, s)
few_tokens (lexeme w t ∷ ps) p rest c =
    let k = few_tokens ps (moved p w) rest c.1 in
    let s = length-append w (spread ps) in
    let z = kind_some w t c.0.1 in
    omega (arith, k, s, z)

pub are_sound : (text : List ℕ) (tokens : List Token) → length text < 2 ^ 31 → AreTokens text tokens → AreSound text tokens
are_sound text tokens l h =
    let f = token_facts text tokens h in
    let e = end_at (moved start text) in
    let at = f.end_from in
    let within : e.to ≤ length text = omega (arith, at) in
    let order : e.from ≤ e.to = omega arith in
    let size : length tokens ≡ length (tokens_of start h.pieces) + 1 = ap length h.tokens_are ∙ length-append (tokens_of start h.pieces) (e ∷ []) in
    let few = few_tokens h.pieces start [] h.cut in
    let all : length (spread h.pieces) ≡ length text = sym (ap length h.are) in
    record {
      inside = subst (AreInside text) (sym f.are) (all_inside text e refl order within f.front f.each);
      proper = subst (λ ts. AreProper (told text ts)) (sym f.are) (all_proper text e refl order within f.front f.each);
      ended = subst (λ ts. IsEnded (told text ts)) (sym f.are) (all_ended text e refl order within f.front f.each);
      few = omega (arith, size, few, all, l);
    }
