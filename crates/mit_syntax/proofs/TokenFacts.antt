-- What the tokens of a text say of its bytes.
use Rattle.std.proofs.Common.{◌≡◌, ◌<◌, ◌≤◌, ◌+◌, ◌-◌, ℤ, refl, ap, ◌∙◌, sym, subst, ℕ, zero, suc, List, [], ◌∷◌, ◌++◌, append_assoc, length, length-append}
use Rattle.std.proofs.Common.{take, drop, get_or, Bool, true, false, cond, ◌==◌, arith}
use Rattle.std.proofs.lemmas.Bool.{eqb-true, eqb-false}
use Rattle.std.proofs.lemmas.List.{append-nil}
use Rattle.label_lattice.specs.Names.{IsName}
use Rattle.mit_syntax.specs.declared.token.Token.{Token}
use Rattle.mit_syntax.specs.declared.token.TokenKind.{TokenKind}
use Rattle.mit_syntax.specs.declared.token.TokenKind.TheVariants.{Name, Number, End}
use Rattle.mit_syntax.specs.declared.tokens.Place.{Place}
use Rattle.mit_syntax.specs.Lexemes.{HasKind}
use Rattle.mit_syntax.specs.Cut.{start, past, moved, Piece, white, comment, lexeme, bytes_of, spread, CutBefore, tokens_of, end_at, AreTokens, token_bytes}
use Rattle.mit_syntax.proofs.LexPieces.{moved-append, front_back, kind_some}

-- the kinds and the bytes of the tokens in pieces
abbrev pub lexemes_of : List Piece → List (TokenKind × List ℕ)
lexemes_of [] = []
lexemes_of (white b ∷ ps) = lexemes_of ps
lexemes_of (comment c ∷ ps) = lexemes_of ps
lexemes_of (lexeme w k ∷ ps) = (k, w) ∷ lexemes_of ps

-- the kinds and the bytes of tokens of a text
abbrev pub spelled : List ℕ → List Token → List (TokenKind × List ℕ)
spelled text [] = []
spelled text (t ∷ l) = (t.kind, token_bytes text t) ∷ spelled text l

abbrev pub EachToken : (Token → Type 0) → List Token → Type 0
EachToken P [] = Unit {0}
EachToken P (t ∷ l) = P t × EachToken P l

-- a token of the text, which is not its end
pub record IsTokenOf (text : List ℕ) (t : Token) : Type 0 where
  pub has_kind : HasKind (token_bytes text t) t.kind
  pub some : t.from < t.to
  pub within : t.to ≤ length text
  pub pos_is : t.pos ≡ (moved start (take t.from text)).pos

-- a place counts the bytes before it
past_at : (p : Place) (b : ℕ) (e : Bool) → (b == 10) ≡ e → (past p b).at ≡ p.at + 1
past_at p b true q = ap (λ x. (cond {A = Place} x (record { at = p.at + 1; pos = record { line = p.pos.line + 1; column = 1 } }) (record {
  at = p.at + 1;
  pos =
      record { line = p.pos.line; column = p.pos.column + 1 };
})).at) q
past_at p b false q = ap (λ x. (cond {A = Place} x (record { at = p.at + 1; pos = record { line = p.pos.line + 1; column = 1 } }) (record {
  at = p.at + 1;
  pos =
      record { line = p.pos.line; column = p.pos.column + 1 };
})).at) q

pub moved_at : (p : Place) (w : List ℕ) → (moved p w).at ≡ p.at + length w
moved_at p [] = omega arith
moved_at p (b ∷ w) =
    let e = moved_at (past p b) w in
    let f = past_at p b (b == 10) refl in
    omega (arith, e, f)

pub from_start : (w : List ℕ) → (moved start w).at ≡ length w
from_start w = let e = moved_at start w in omega (arith, e)

-- the bytes between two fronts
pub middle : (before w rest : List ℕ) (n m : ℕ) → n ≡ length before → m ≡ n + length w → take (m - n) (drop n (before ++ (w ++ rest))) ≡ w
middle before w rest n m e f =
    let size : m - n ≡ length w = omega (arith, f) in
    let left : drop n (before ++ (w ++ rest)) ≡ w ++ rest = ap (λ k. drop k (before ++ (w ++ rest))) e ∙ (front_back before (w ++ rest)).1 in
    ap (λ l. take (m - n) l) left ∙ ap (λ k. take k (w ++ rest)) size ∙ (front_back w rest).0

module _ (before : List ℕ) (x : Piece) (ps : List Piece) (rest : List ℕ) where
  one_on : (before ++ bytes_of x) ++ (spread ps ++ rest) ≡ before ++ (spread (x ∷ ps) ++ rest)
  one_on = append_assoc before (bytes_of x) (spread ps ++ rest) ∙ ap (λ l. before ++ l) (sym (append_assoc (bytes_of x) (spread ps) rest))

  at_on : (p : Place) → p ≡ moved start before → moved p (bytes_of x) ≡ moved start (before ++ bytes_of x)
  at_on p e = ap (λ q. moved q (bytes_of x)) e ∙ sym (moved-append start before (bytes_of x))

-- the tokens of pieces have the bytes of the lexemes
pub spelled_pieces : (ps : List Piece) (before rest : List ℕ) (p : Place) → p ≡ moved start before
    → spelled (before ++ (spread ps ++ rest)) (tokens_of p ps) ≡ lexemes_of ps
spelled_pieces [] before rest p e = refl
spelled_pieces (white b ∷ ps) before rest p e =
    let k = spelled_pieces ps (before ++ b ∷ []) rest (moved p (b ∷ [])) (at_on before (white b) ps rest p e) in
    subst (λ l. spelled l (tokens_of (moved p (b ∷ [])) ps) ≡ lexemes_of ps) (one_on before (white b) ps rest) k
spelled_pieces (comment c ∷ ps) before rest p e =
    let k = spelled_pieces ps (before ++ c) rest (moved p c) (at_on before (comment c) ps rest p e) in
    subst (λ l. spelled l (tokens_of (moved p c) ps) ≡ lexemes_of ps) (one_on before (comment c) ps rest) k
spelled_pieces (lexeme w t ∷ ps) before rest p e =
    let k = spelled_pieces ps (before ++ w) rest (moved p w) (at_on before (lexeme w t) ps rest p e) in
    let l = subst (λ l. spelled l (tokens_of (moved p w) ps) ≡ lexemes_of ps) (one_on before (lexeme w t) ps rest) k in
    let at : p.at ≡ length before = ap (λ q. q.at) e ∙ from_start before in
    let bytes : take (p.at + length w - p.at) (drop p.at (before ++ ((w ++ spread ps) ++ rest))) ≡ w =
    ap (λ z. take (p.at + length w - p.at) (drop p.at (before ++ z))) (append_assoc w (spread ps) rest)
    ∙ middle before w (spread ps ++ rest) p.at (p.at + length w) at refl in
    ap (λ z. (t, z) ∷ spelled (before ++ ((w ++ spread ps) ++ rest)) (tokens_of (moved p w) ps)) bytes ∙ ap (λ z. (t, w) ∷ z) l

each_piece : (ps : List Piece) (before rest : List ℕ) (p : Place) → p ≡ moved start before → CutBefore ps rest
    → EachToken (IsTokenOf (before ++ (spread ps ++ rest))) (tokens_of p ps)
each_piece [] before rest p e c = tt
each_piece (white b ∷ ps) before rest p e c =
    subst (λ l. EachToken (IsTokenOf l) (tokens_of (moved p (b ∷ [])) ps)) (one_on before (white b) ps rest)
    (each_piece ps (before ++ b ∷ []) rest (moved p (b ∷ [])) (at_on before (white b) ps rest p e) c.1)
each_piece (comment d ∷ ps) before rest p e c =
    subst (λ l. EachToken (IsTokenOf l) (tokens_of (moved p d) ps)) (one_on before (comment d) ps rest)
    (each_piece ps (before ++ d) rest (moved p d) (at_on before (comment d) ps rest p e) c.1)
each_piece (lexeme w t ∷ ps) before rest p e c =
    let at : p.at ≡ length before = ap (λ q. q.at) e ∙ from_start before in
    let whole = before ++ ((w ++ spread ps) ++ rest) in
    let split : whole ≡ before ++ (w ++ (spread ps ++ rest)) = ap (λ z. before ++ z) (append_assoc w (spread ps) rest) in
    let bytes : take (p.at + length w - p.at) (drop p.at whole) ≡ w =
    ap (λ z. take (p.at + length w - p.at) (drop p.at z)) split ∙ middle before w (spread ps ++ rest) p.at (p.at + length w) at refl in
    let some = kind_some w t c.0.1 in
    let size : length whole ≡ length before + (length w + length (spread ps ++ rest)) =
    ap length split ∙ length-append before (w ++ (spread ps ++ rest)) ∙ ap (λ n. length before + n) (length-append w (spread ps ++ rest)) in
    let front : take p.at whole ≡ before = ap (λ n. take n whole) at ∙ (front_back before ((w ++ spread ps) ++ rest)).0 in (
      record {
        has_kind = subst (λ z. HasKind z t) (sym bytes) c.0.1;
        some = omega (arith, some);
        within = omega (arith, at, size);
        pos_is = ap (λ q. q.pos) e ∙ ap (λ l. (moved start l).pos) (sym front);
      },
      subst (λ l. EachToken (IsTokenOf l) (tokens_of (moved p w) ps)) (one_on before (lexeme w t) ps rest)
          (each_piece ps (before ++ w) rest (moved p w) (at_on before (lexeme w t) ps rest p e) c.1),
    )

-- the tokens before the end, and the end
pub record Told (text : List ℕ) (tokens : List Token) : Type 0 where
  pub front : List Token
  pub are : tokens ≡ front ++ end_at (moved start text) ∷ []
  pub each : EachToken (IsTokenOf text) front
  pub end_from : (moved start text).at ≡ length text

each_told : (text : List ℕ) (tokens : List Token) (h : AreTokens text tokens) → EachToken (IsTokenOf text) (tokens_of start h.pieces)
each_told text tokens h = subst (λ l. EachToken (IsTokenOf l) (tokens_of start h.pieces)) (append-nil (spread h.pieces) ∙ sym h.are)
    (each_piece h.pieces [] [] start refl h.cut)

pub told : (text : List ℕ) (tokens : List Token) → AreTokens text tokens → Told text tokens
told text tokens h =
    record {
      front = tokens_of start h.pieces;
      are = h.tokens_are;
      each = each_told text tokens h;
      end_from = from_start text;
    }

-- the tokens' kinds and bytes are those of the lexemes in the pieces
pub spelled_whole : (text : List ℕ) (ps : List Piece) → text ≡ spread ps → spelled text (tokens_of start ps) ≡ lexemes_of ps
spelled_whole text ps e = subst (λ l. spelled l (tokens_of start ps) ≡ lexemes_of ps) (append-nil (spread ps) ∙ sym e) (spelled_pieces ps [] [] start refl)

-- by number
each_at : (P : Token → Type 0) (l m : List Token) (i : ℕ) (d : Token) → EachToken P l → i < length l → P (get_or (l ++ m) i d)
each_at P [] m i d h k = absurd (omega (arith, k))
each_at P (t ∷ l) m zero d h k = h.0
each_at P (t ∷ l) m (suc i) d h k = each_at P l m i d h.1 (omega (arith, k))

last_at : (l : List Token) (t d : Token) (i : ℕ) → i ≡ length l → get_or (l ++ t ∷ []) i d ≡ t
last_at [] t d i e = ap (λ n. get_or (t ∷ []) n d) e
last_at (x ∷ l) t d zero e = absurd (omega (arith, e))
last_at (x ∷ l) t d (suc i) e = last_at l t d i (omega (arith, e))

module _ (text : List ℕ) (tokens : List Token) (h : AreTokens text tokens) where
  size : length tokens ≡ length (tokens_of start h.pieces) + 1
  size = ap length h.tokens_are ∙ length-append (tokens_of start h.pieces) (end_at (moved start text) ∷ [])

  pub some_token : 0 < length tokens
  some_token = let s = size in omega (arith, s)

  pub token_told : (i : ℕ) (d : Token) → i + 1 < length tokens → IsTokenOf text (get_or tokens i d)
  token_told i d k =
      let s = size in
      subst (λ l. IsTokenOf text (get_or l i d)) (sym h.tokens_are) (each_at (IsTokenOf text) (tokens_of start h.pieces) (end_at (moved start text) ∷ []) i d
      (each_told text tokens h) (omega (arith, s, k)))

  pub end_told : (i : ℕ) (d : Token) → i + 1 ≡ length tokens → get_or tokens i d ≡ end_at (moved start text)
  end_told i d k =
      let s = size in
      ap (λ l. get_or l i d) h.tokens_are ∙ last_at (tokens_of start h.pieces) (end_at (moved start text)) d i (omega (arith, s, k))

  pub ends_once : (i : ℕ) (d : Token) → i < length tokens → (get_or tokens i d).kind ≡ End → i + 1 ≡ length tokens
  ends_once i d k e = at_last (i + 1 == length tokens) refl
    where
      none : i + 1 < length tokens → ⊥
      none l = let t = token_told i d l in subst (HasKind (token_bytes text (get_or tokens i d))) e t.has_kind

      at_last : (b : Bool) → (i + 1 == length tokens) ≡ b → i + 1 ≡ length tokens
      at_last true q = eqb-true (i + 1) (length tokens) q
      at_last false q = let n = eqb-false (i + 1) (length tokens) q in absurd (none (omega (arith, k, n)))

  pub token_within : (i : ℕ) (d : Token) → i < length tokens → ((get_or tokens i d).from ≤ (get_or tokens i d).to) × ((get_or tokens i d).to ≤ length text)
  token_within i d k = at_last (i + 1 == length tokens) refl
    where
      at_last : (b : Bool) → (i + 1 == length tokens) ≡ b → ((get_or tokens i d).from ≤ (get_or tokens i d).to) × ((get_or tokens i d).to ≤ length text)
      at_last true q =
          let e = end_told i d (eqb-true (i + 1) (length tokens) q) in
          let f = from_start text in
          subst (λ t. (t.from ≤ t.to) × (t.to ≤ length text)) (sym e) (omega arith, omega (arith, f))
      at_last false q =
          let n = eqb-false (i + 1) (length tokens) q in
          let t = token_told i d (omega (arith, k, n)) in
          let s = t.some in
          let w = t.within in
          (omega (arith, s), w)

  pub from_within : (i : ℕ) (d : Token) → i < length tokens → (get_or tokens i d).from ≤ (get_or tokens i d).to
  from_within i d k = (token_within i d k).0

  pub to_within : (i : ℕ) (d : Token) → i < length tokens → (get_or tokens i d).to ≤ length text
  to_within i d k = (token_within i d k).1

  -- a token that is not the end has its kind's spelling
  pub kind_told : (i : ℕ) (d : Token) → i < length tokens → ((get_or tokens i d).kind ≡ End → ⊥)
      → HasKind (token_bytes text (get_or tokens i d)) (get_or tokens i d).kind
  kind_told i d k e = at_last (i + 1 == length tokens) refl
    where
      at_last : (b : Bool) → (i + 1 == length tokens) ≡ b → HasKind (token_bytes text (get_or tokens i d)) (get_or tokens i d).kind
      at_last true q = absurd (e (ap (λ t. t.kind) (end_told i d (eqb-true (i + 1) (length tokens) q))))
      at_last false q = let n = eqb-false (i + 1) (length tokens) q in (token_told i d (omega (arith, k, n))).has_kind

  -- the bytes of a name are a name
  pub name_told : (i : ℕ) (d : Token) → i < length tokens → (get_or tokens i d).kind ≡ Name → IsName (token_bytes text (get_or tokens i d))
  name_told i d k e = subst (HasKind (token_bytes text (get_or tokens i d))) e (kind_told i d k (λ h. let both : Name ≡ End = sym e ∙ h in cc))

  -- a number is no more than the greatest
  pub number_told : (i : ℕ) (d : Token) (n : ℤ) → i < length tokens → (get_or tokens i d).kind ≡ Number n
      → HasKind (token_bytes text (get_or tokens i d)) (Number n)
  number_told i d n k e = subst (HasKind (token_bytes text (get_or tokens i d))) e (kind_told i d k (λ h. let both : Number n ≡ End = sym e ∙ h in cc))
