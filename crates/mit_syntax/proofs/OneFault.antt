-- A text has tokens or one fault, and not both.
use Rattle.std.proofs.Common.{◌≡◌, ◌<◌, refl, ap, ◌∙◌, sym, subst, ℕ, List, [], ◌++◌, length, false, arith}
use Rattle.std.proofs.lemmas.List.{append-nil, take_all}
use Rattle.std.proofs.lemmas.Str.{utf8_valid_len-IsValidUpTo}
use Rattle.std.specs.Prelude.{IsUtf8, Result, Ok, Err, MatchResult}
use Rattle.std.specs.Str.{IsValidUpTo}
use Rattle.text_base.specs.declared.pos.Pos.{Pos}
use Rattle.label_lattice.specs.Names.{IsWord, keywords, is_one_of}
use Rattle.mit_syntax.specs.declared.fault.TextFault.{TextFault}
use Rattle.mit_syntax.specs.declared.fault.TextFault.TheVariants.{NotUtf8, BadByte, WideNumber, LongName, Memory}
use Rattle.mit_syntax.specs.declared.token.Token.{Token}
use Rattle.mit_syntax.specs.declared.token.TokenKind.{TokenKind}
use Rattle.mit_syntax.specs.declared.token.TokenKind.TheVariants.{Key, Name, Number, Sign as SignKind, End}
use Rattle.mit_syntax.specs.Lexemes.{is_white, StopsAt, word, digits, IsDigits, value, IsLongest, HasKind}
use Rattle.mit_syntax.specs.Cut.{start, moved, starts_comment, white, comment, lexeme, spread, AreTokens, BeginsNone, BeginsWide, BeginsLong, StopsBefore}
use Rattle.mit_syntax.specs.Cut.{IsFault}
use Rattle.mit_syntax.proofs.LexBytes.{differ}
use Rattle.mit_syntax.proofs.LexSigns.{key_opens}
use Rattle.mit_syntax.proofs.Keywords.{no_key}
use Rattle.mit_syntax.proofs.OneList.{as_lexeme, same_front, word_digits, word_sign, digits_sign, comment_goes_on, Stuck, stuck_end, one_cut, one_list}

-- no token is at the front
abbrev pub NoToken : List ℕ → Type 0
NoToken text = (w r : List ℕ) (k : TokenKind) → w ++ r ≡ text → HasKind w k → IsLongest w r → ⊥

none_no_token : (text : List ℕ) → BeginsNone text → NoToken text
none_no_token text f w r k e h l = f w r (sym e) (as_lexeme w k h)

wide_no_kind : (w : List ℕ) (k : TokenKind) → IsDigits w → 9223372036854775807 < value w → HasKind w k → ⊥
wide_no_kind w (Key k) d h e = word_digits w (subst IsWord (sym e) (key_opens k)) d
wide_no_kind w Name d h e = word_digits w e.0 d
wide_no_kind w (Number n) d h e = let k = e.2 in omega (arith, h, k)
wide_no_kind w (SignKind s) d h e = digits_sign w s d e
wide_no_kind w End d h e = e

wide_no_token : (text : List ℕ) → BeginsWide text → NoToken text
wide_no_token text f w r k e h l =
    let both : w ++ r ≡ f.spelled ++ f.rest = e ∙ f.are in
    let same = (same_front w f.spelled r f.rest both (f.longest w r (sym both) (as_lexeme w k h)) (l f.spelled f.rest both (digits f.is.0))).0 in
    wide_no_kind f.spelled k f.is.0 f.is.1 (subst (λ v. HasKind v k) same h)

long_no_kind : (w : List ℕ) (k : TokenKind) → IsWord w → is_one_of keywords w ≡ false → 32 < length w → HasKind w k → ⊥
long_no_kind w (Key k) d n h e = no_key w n k e
long_no_kind w Name d n h e = let k = e.1 in omega (arith, h, k)
long_no_kind w (Number m) d n h e = word_digits w d e.0
long_no_kind w (SignKind s) d n h e = word_sign w s d e
long_no_kind w End d n h e = e

long_no_token : (text : List ℕ) → BeginsLong text → NoToken text
long_no_token text f w r k e h l =
    let both : w ++ r ≡ f.spelled ++ f.rest = e ∙ f.are in
    let same = (same_front w f.spelled r f.rest both (f.longest w r (sym both) (as_lexeme w k h)) (l f.spelled f.rest both (word f.is.0))).0 in
    long_no_kind f.spelled k f.is.0 f.is.1 f.is.2 (subst (λ v. HasKind v k) same h)

stuck_at : (text : List ℕ) → StopsAt is_white text → starts_comment text ≡ false → NoToken text → Stuck text
stuck_at text h k n (white b) r e p = differ (sym p ∙ subst (StopsAt is_white) (sym e) h)
stuck_at text h k n (comment c) r e p = differ (sym (comment_goes_on c r p.0) ∙ ap starts_comment e ∙ k)
stuck_at text h k n (lexeme w t) r e p = n w r t e p.1 p.2

module _ (text : List ℕ) (Flawed : List ℕ → Type 0) (pos : Pos) (none : (left : List ℕ) → Flawed left → NoToken left) (f : StopsBefore Flawed text pos) where
  stuck : Stuck f.left
  stuck = stuck_at f.left f.no_white f.no_comment (none f.left f.flawed)

  no_list : (tokens : List Token) → AreTokens text tokens → ⊥
  no_list tokens h =
      let same = (one_cut f.pieces h.pieces f.left [] (sym f.are ∙ h.are ∙ sym (append-nil (spread h.pieces))) f.cut h.cut stuck stuck_end).1 in
      let some = f.some in
      let none : length f.left ≡ 0 = ap length same in
      omega (arith, some, none)

-- two flaws of a text stand at one place, before the same bytes
one_stop : (text : List ℕ) (F G : List ℕ → Type 0) (p q : Pos) → ((l : List ℕ) → F l → NoToken l) → ((l : List ℕ) → G l → NoToken l)
    → StopsBefore F text p → StopsBefore G text q
    → (p ≡ q) × (l : List ℕ) × F l × G l
one_stop text F G p q n m f g =
    let same = one_cut f.pieces g.pieces f.left g.left (sym f.are ∙ g.are) f.cut g.cut (stuck text F p n f) (stuck text G q m g) in
    (f.pos_is ∙ ap (λ ps. (moved start (spread ps)).pos) same.0 ∙ sym g.pos_is, g.left, subst F same.1 f.flawed, g.flawed)

not_valid : (text : List ℕ) (n : ℕ) → IsValidUpTo text n → IsUtf8 text → ⊥
not_valid text n h u = h.longest (length text) h.short (subst IsUtf8 (sym (take_all (length text) text (omega arith))) u)

pub no_tokens : (text : List ℕ) (f : TextFault) (tokens : List Token) → IsFault text f → AreTokens text tokens → f ≡ Memory
no_tokens text (NotUtf8 n) tokens h k = absurd (not_valid text n h k.utf8)
no_tokens text (BadByte p) tokens h k = absurd (no_list text BeginsNone p none_no_token h tokens k)
no_tokens text (WideNumber p) tokens h k = absurd (no_list text BeginsWide p wide_no_token h tokens k)
no_tokens text (LongName p) tokens h k = absurd (no_list text BeginsLong p long_no_token h tokens k)
no_tokens text Memory tokens h k = refl

none_wide : (l : List ℕ) → BeginsNone l → BeginsWide l → ⊥
none_wide l f g = f g.spelled g.rest g.are (digits g.is.0)

none_long : (l : List ℕ) → BeginsNone l → BeginsLong l → ⊥
none_long l f g = f g.spelled g.rest g.are (word g.is.0)

wide_long : (l : List ℕ) → BeginsWide l → BeginsLong l → ⊥
wide_long l f g =
    let both : f.spelled ++ f.rest ≡ g.spelled ++ g.rest = sym f.are ∙ g.are in
    let same = (same_front f.spelled g.spelled f.rest g.rest both (g.longest f.spelled f.rest (sym both) (digits f.is.0))
    (f.longest g.spelled g.rest both (word g.is.0))).0 in
    word_digits g.spelled g.is.0 (subst IsDigits same f.is.0)

-- but for want of memory, a text has one fault at most
pub one_fault : (text : List ℕ) (f g : TextFault) → IsFault text f → IsFault text g → (f ≡ Memory → ⊥) → (g ≡ Memory → ⊥) → f ≡ g
one_fault text Memory g h k x y = absurd (x refl)
one_fault text f Memory h k x y = absurd (y refl)
one_fault text (NotUtf8 n) (NotUtf8 m) h k x y = ap NotUtf8 (sym (utf8_valid_len-IsValidUpTo text n h) ∙ utf8_valid_len-IsValidUpTo text m k)
one_fault text (NotUtf8 n) (BadByte q) h k x y = absurd (not_valid text n h k.utf8)
one_fault text (NotUtf8 n) (WideNumber q) h k x y = absurd (not_valid text n h k.utf8)
one_fault text (NotUtf8 n) (LongName q) h k x y = absurd (not_valid text n h k.utf8)
one_fault text (BadByte p) (NotUtf8 m) h k x y = absurd (not_valid text m k h.utf8)
one_fault text (WideNumber p) (NotUtf8 m) h k x y = absurd (not_valid text m k h.utf8)
one_fault text (LongName p) (NotUtf8 m) h k x y = absurd (not_valid text m k h.utf8)
one_fault text (BadByte p) (BadByte q) h k x y = ap BadByte (one_stop text BeginsNone BeginsNone p q none_no_token none_no_token h k).0
one_fault text (BadByte p) (WideNumber q) h k x y = let s = one_stop text BeginsNone BeginsWide p q none_no_token wide_no_token h k in
    absurd (none_wide s.1 s.2 s.3)
one_fault text (BadByte p) (LongName q) h k x y = let s = one_stop text BeginsNone BeginsLong p q none_no_token long_no_token h k in
    absurd (none_long s.1 s.2 s.3)
one_fault text (WideNumber p) (BadByte q) h k x y = let s = one_stop text BeginsWide BeginsNone p q wide_no_token none_no_token h k in
    absurd (none_wide s.1 s.3 s.2)
one_fault text (WideNumber p) (WideNumber q) h k x y = ap WideNumber (one_stop text BeginsWide BeginsWide p q wide_no_token wide_no_token h k).0
one_fault text (WideNumber p) (LongName q) h k x y = let s = one_stop text BeginsWide BeginsLong p q wide_no_token long_no_token h k in
    absurd (wide_long s.1 s.2 s.3)
one_fault text (LongName p) (BadByte q) h k x y = let s = one_stop text BeginsLong BeginsNone p q long_no_token none_no_token h k in
    absurd (none_long s.1 s.3 s.2)
one_fault text (LongName p) (WideNumber q) h k x y = let s = one_stop text BeginsLong BeginsWide p q long_no_token wide_no_token h k in
    absurd (wide_long s.1 s.3 s.2)
one_fault text (LongName p) (LongName q) h k x y = ap LongName (one_stop text BeginsLong BeginsLong p q long_no_token long_no_token h k).0

-- what an answer says of all lists of tokens
pub only : {V : Type 0} (text : List ℕ) (r : Result V TextFault) (items : V → List Token) → MatchResult r (λ v. AreTokens text (items v)) (IsFault text)
    → MatchResult r (λ v. (others : List Token) → AreTokens text others → others ≡ items v) (λ e. (others : List Token) → AreTokens text others → e ≡ Memory)
only text (Ok v) items h = λ others k. one_list text others (items v) k h
only text (Err e) items h = λ others k. no_tokens text e others h k
