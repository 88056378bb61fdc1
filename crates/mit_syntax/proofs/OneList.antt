-- A text has one list of tokens at most.
use Rattle.std.proofs.Common.{◌≡◌, ◌≤◌, refl, ap, ◌∙◌, sym, subst, ℕ, List, [], ◌∷◌, ◌++◌, append_assoc, length, Bool, true, false, ◌&&◌, ◌||◌, ◌==◌, arith}
use Rattle.std.proofs.lemmas.List.{append-nil}
use Rattle.std.proofs.lemmas.Bool.{eqb-true}
use Rattle.std.specs.Char.{is_ascii_digit, is_ascii_alphabetic}
use Rattle.label_lattice.specs.Names.{IsWord}
use Rattle.mit_syntax.specs.declared.token.Sign.{Sign}
use Rattle.mit_syntax.specs.declared.token.Token.{Token}
use Rattle.mit_syntax.specs.declared.token.TokenKind.{TokenKind}
use Rattle.mit_syntax.specs.declared.token.TokenKind.TheVariants.{Key, Name, Number, Sign as SignKind, End}
use Rattle.mit_syntax.specs.Lexemes.{is_white, IsDigits, Lexeme, word, digits, sign, sign_text, HasKind}
use Rattle.mit_syntax.specs.Cut.{start, moved, in_line, starts_comment, Piece, white, comment, lexeme, bytes_of, IsPiece, spread, CutBefore, tokens_of}
use Rattle.mit_syntax.specs.Cut.{end_at, AreTokens}
use Rattle.mit_syntax.proofs.LexBytes.{differ, not_longer, heads, tails, not_both}
use Rattle.mit_syntax.proofs.LexSigns.{no_sign, no_letter_first, no_digit_first, no_white_first, key_opens, sign_parts, one_key, one_sign}
use Rattle.mit_syntax.proofs.Keywords.{no_key}

-- fronts of one length are one
pub same_front : (w v r q : List ℕ) → w ++ r ≡ v ++ q → length w ≤ length v → length v ≤ length w → (w ≡ v) × (r ≡ q)
same_front [] [] r q e h k = (refl, e)
same_front [] (b ∷ v) r q e h k = absurd (omega (arith, k))
same_front (a ∷ w) [] r q e h k = absurd (omega (arith, h))
same_front (a ∷ w) (b ∷ v) r q e h k =
    let x = heads a b (w ++ r) (v ++ q) e in
    let m = same_front w v r q (tails a b (w ++ r) (v ++ q) e) (omega (arith, h)) (omega (arith, k)) in
    let y = m.0 in
    (cc, m.1)

pub as_lexeme : (w : List ℕ) (k : TokenKind) → HasKind w k → Lexeme w
as_lexeme w (Key k) h = word (subst IsWord (sym h) (key_opens k))
as_lexeme w Name h = word h.0
as_lexeme w (Number n) h = digits h.0
as_lexeme w (SignKind s) h = subst Lexeme (sym h) (sign s)
as_lexeme w End h = absurd h

-- the first byte of a word, of digits and of a sign
pub word_digits : {X : Type 0} (w : List ℕ) → IsWord w → IsDigits w → X
word_digits [] h k = absurd h
word_digits (b ∷ w) h k = not_both b h.0 k.0

pub word_sign : {X : Type 0} (w : List ℕ) (s : Sign) → IsWord w → w ≡ sign_text s → X
word_sign [] s h e = absurd h
word_sign (b ∷ w) s h e = no_sign is_ascii_alphabetic s b w [] (no_letter_first s) h.0 (e ∙ sym (append-nil (sign_text s)))

pub digits_sign : {X : Type 0} (w : List ℕ) (s : Sign) → IsDigits w → w ≡ sign_text s → X
digits_sign [] s h e = absurd h
digits_sign (b ∷ w) s h e = no_sign is_ascii_digit s b w [] (no_digit_first s) h.0 (e ∙ sym (append-nil (sign_text s)))

one_kind : (w : List ℕ) (a b : TokenKind) → HasKind w a → HasKind w b → a ≡ b
one_kind w (Key a) (Key b) h k = ap Key (one_key a b (sym h ∙ k))
one_kind w (Key a) Name h k = absurd (no_key w k.2 a h)
one_kind w (Key a) (Number n) h k = word_digits w (subst IsWord (sym h) (key_opens a)) k.0
one_kind w (Key a) (SignKind s) h k = word_sign w s (subst IsWord (sym h) (key_opens a)) k
one_kind w Name (Key b) h k = absurd (no_key w h.2 b k)
one_kind w Name Name h k = refl
one_kind w Name (Number n) h k = word_digits w h.0 k.0
one_kind w Name (SignKind s) h k = word_sign w s h.0 k
one_kind w (Number n) (Key b) h k = word_digits w (subst IsWord (sym k) (key_opens b)) h.0
one_kind w (Number n) Name h k = word_digits w k.0 h.0
one_kind w (Number n) (Number m) h k = ap Number (h.1 ∙ sym k.1)
one_kind w (Number n) (SignKind s) h k = digits_sign w s h.0 k
one_kind w (SignKind s) (Key b) h k = word_sign w s (subst IsWord (sym k) (key_opens b)) h
one_kind w (SignKind s) Name h k = word_sign w s k.0 h
one_kind w (SignKind s) (Number n) h k = digits_sign w s k.0 h
one_kind w (SignKind s) (SignKind t) h k = ap SignKind (one_sign s t (sym h ∙ k))
one_kind w End b h k = absurd h
one_kind w a End h k = absurd k

-- what opens with a white is no token
opens_no_white : (test : ℕ → Bool) → test 32 ≡ false → test 9 ≡ false → test 13 ≡ false → test 10 ≡ false → (b : ℕ) → is_white b ≡ true → test b ≡ true → ⊥
opens_no_white test w x y z b h k = at b (b == 32) (b == 9) (b == 13) (b == 10) refl refl refl refl h k
  where
    at : (b : ℕ) (p q r s : Bool) → (b == 32) ≡ p → (b == 9) ≡ q → (b == 13) ≡ r → (b == 10) ≡ s → (p || (q || (r || s))) ≡ true → test b ≡ true → ⊥
    at b true q r s h i j k e l = differ (sym l ∙ ap test (eqb-true b 32 h) ∙ w)
    at b false true r s h i j k e l = differ (sym l ∙ ap test (eqb-true b 9 i) ∙ x)
    at b false false true s h i j k e l = differ (sym l ∙ ap test (eqb-true b 13 j) ∙ y)
    at b false false false true h i j k e l = differ (sym l ∙ ap test (eqb-true b 10 k) ∙ z)
    at b false false false false h i j k e l = differ (sym e)

lexeme_no_white : (w : List ℕ) (b : ℕ) (r q : List ℕ) → Lexeme w → is_white b ≡ true → b ∷ r ≡ w ++ q → ⊥
lexeme_no_white [] b r q (word h) k e = h
lexeme_no_white (a ∷ w) b r q (word h) k e = opens_no_white is_ascii_alphabetic refl refl refl refl b k (ap is_ascii_alphabetic (heads b a r (w ++ q) e) ∙ h.0)
lexeme_no_white [] b r q (digits h) k e = h
lexeme_no_white (a ∷ w) b r q (digits h) k e = opens_no_white is_ascii_digit refl refl refl refl b k (ap is_ascii_digit (heads b a r (w ++ q) e) ∙ h.0)
lexeme_no_white w b r q (sign s) k e = no_sign is_white s b r q (no_white_first s) k e

white_no_comment : (b : ℕ) (r : List ℕ) → is_white b ≡ true → starts_comment (b ∷ r) ≡ true → ⊥
white_no_comment b [] k c = differ (sym c)
white_no_comment b (a ∷ r) k c = opens_no_white (λ x. x == 47) refl refl refl refl b k (first_true (b == 47) (a == 47) c)
  where
    first_true : (x y : Bool) → (x && y) ≡ true → x ≡ true
    first_true true y e = refl
    first_true false y e = cc

pub comment_goes_on : (c r : List ℕ) → starts_comment c ≡ true → starts_comment (c ++ r) ≡ true
comment_goes_on [] r h = differ (sym h)
comment_goes_on (a ∷ []) r h = differ (sym h)
comment_goes_on (a ∷ b ∷ c) r h = h

-- the first piece is one
one_piece : (p q : Piece) (r s : List ℕ) → bytes_of p ++ r ≡ bytes_of q ++ s → IsPiece p r → IsPiece q s → (p ≡ q) × (r ≡ s)
one_piece (white a) (white b) r s e h k = (ap white (heads a b r s e), tails a b r s e)
one_piece (white a) (comment c) r s e h k = absurd (white_no_comment a r h (ap starts_comment e ∙ comment_goes_on c s k.0))
one_piece (white a) (lexeme w t) r s e h k = absurd (lexeme_no_white w a r s (as_lexeme w t k.1) h e)
one_piece (comment c) (white b) r s e h k = absurd (white_no_comment b s k (ap starts_comment (sym e) ∙ comment_goes_on c r h.0))
one_piece (comment c) (comment d) r s e h k =
    let m = same_front c d r s e (not_longer in_line d c s r (sym e) h.1 k.2) (not_longer in_line c d r s e k.1 h.2) in
    (ap comment m.0, m.1)
one_piece (comment c) (lexeme w t) r s e h k = differ (sym (comment_goes_on c r h.0) ∙ ap starts_comment e ∙ k.0)
one_piece (lexeme w t) (white b) r s e h k = absurd (lexeme_no_white w b s r (as_lexeme w t h.1) k (sym e))
one_piece (lexeme w t) (comment c) r s e h k = differ (sym (comment_goes_on c s k.0) ∙ ap starts_comment (sym e) ∙ h.0)
one_piece (lexeme w t) (lexeme v u) r s e h k =
    let m = same_front w v r s e (k.2 w r (sym e) (as_lexeme w t h.1)) (h.2 v s e (as_lexeme v u k.1)) in
    let x = m.0 in
    let y : t ≡ u = one_kind w t u h.1 (subst (λ z. HasKind z u) (sym x) k.1) in
    (cc, m.1)

some_bytes : (p : Piece) (r : List ℕ) → IsPiece p r → bytes_of p ++ r ≡ [] → ⊥
some_bytes (white b) r h e = cc
some_bytes (comment []) r h e = differ (sym h.0)
some_bytes (comment (b ∷ c)) r h e = cc
some_bytes (lexeme [] k) r h e = none_is k h.1
  where
    none_is : (k : TokenKind) → HasKind [] k → ⊥
    none_is (Key k) h = subst IsWord (sym h) (key_opens k)
    none_is Name h = h.0
    none_is (Number n) h = h.0
    none_is (SignKind s) h = let e = h ∙ sign_parts s in cc
    none_is End h = h
some_bytes (lexeme (b ∷ w) k) r h e = cc

-- no piece begins
abbrev pub Stuck : List ℕ → Type 0
Stuck text = (p : Piece) (r : List ℕ) → bytes_of p ++ r ≡ text → IsPiece p r → ⊥

pub stuck_end : Stuck []
stuck_end p r e h = some_bytes p r h e

-- what is cut until no piece begins is cut in one way
pub one_cut : (ps qs : List Piece) (r s : List ℕ) → spread ps ++ r ≡ spread qs ++ s → CutBefore ps r → CutBefore qs s → Stuck r → Stuck s → (ps ≡ qs) × (r ≡ s)
one_cut [] [] r s e h k f g = (refl, e)
one_cut [] (q ∷ qs) r s e h k f g = absurd (f q (spread qs ++ s) (sym (e ∙ append_assoc (bytes_of q) (spread qs) s)) k.0)
one_cut (p ∷ ps) [] r s e h k f g = absurd (g p (spread ps ++ r) (sym (append_assoc (bytes_of p) (spread ps) r) ∙ e) h.0)
one_cut (p ∷ ps) (q ∷ qs) r s e h k f g =
    let m = one_piece p q (spread ps ++ r) (spread qs ++ s) (sym (append_assoc (bytes_of p) (spread ps) r) ∙ e
    ∙ append_assoc (bytes_of q) (spread qs) s) h.0 k.0 in
    let x = m.0 in
    let n = one_cut ps qs r s m.1 h.1 k.1 f g in
    let y = n.0 in
    (cc, n.1)

-- the tokens of a text are one list
pub one_list : (text : List ℕ) (a b : List Token) → AreTokens text a → AreTokens text b → a ≡ b
one_list text a b h k =
    let whole : spread h.pieces ++ [] ≡ spread k.pieces ++ [] = ap (λ l. l ++ []) (sym h.are ∙ k.are) in
    let same = (one_cut h.pieces k.pieces [] [] whole h.cut k.cut stuck_end stuck_end).0 in
    h.tokens_are ∙ ap (λ ps. tokens_of start ps ++ end_at (moved start text) ∷ []) same ∙ sym k.tokens_are
