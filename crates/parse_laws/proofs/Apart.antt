-- A list of chunks in which no two lexemes touch that could merge is cut exactly so.
use Rattle.std.proofs.Common.{◌≡◌, refl, ap, ◌∙◌, sym, subst, ℕ, List, [], ◌∷◌, ◌++◌, Bool, true, false, ◌==◌}
use Rattle.std.proofs.lemmas.List.{append-nil}
use Rattle.std.proofs.lemmas.Bool.{eqb-true}
use Rattle.std.specs.Char.{is_ascii_digit, is_ascii_alphabetic}
use Rattle.label_lattice.specs.Names.{IsWord, is_name_byte}
use Rattle.mit_syntax.specs.declared.token.TokenKind.{TokenKind}
use Rattle.mit_syntax.specs.declared.token.TokenKind.TheVariants.{Key, Name, Number, Sign as SignKind}
use Rattle.mit_syntax.specs.declared.token.Keyword.{Keyword}
use Rattle.mit_syntax.specs.declared.token.Keyword.TheVariants.{Labels}
use Rattle.mit_syntax.specs.declared.token.Sign.{Sign}
use Rattle.mit_syntax.specs.declared.token.Sign.TheVariants.{Assign}
use Rattle.mit_syntax.specs.declared.token.Sign.TheVariants.{Slash, Equal}
use Rattle.mit_syntax.specs.Lexemes.{StopsAt, key_text, sign_text, HasKind}
use Rattle.mit_syntax.specs.Chunks.{Word, key, sign, number, name, Chunk, space, line, word, word_text, text}
use Rattle.mit_syntax.specs.Cut.{Piece, white, lexeme, spread, CutBefore}
use Rattle.mit_syntax.proofs.LexBytes.{differ}
use Rattle.mit_syntax.proofs.ClosedPiece.{Closes, closed_piece}
use Rattle.mit_syntax.proofs.PlainText.{NoComments}
use Rattle.parse_laws.proofs.Numerals.{differs}

abbrev pub word_kind : Word → TokenKind
word_kind (key k) = Key k
word_kind (sign s) = SignKind s
word_kind (number n) = Number n
word_kind (name w) = Name

-- whether a letter or a digit could go on with the word
abbrev pub is_wordy : Word → Bool
is_wordy (key k) = true
is_wordy (sign s) = false
is_wordy (number n) = true
is_wordy (name w) = true

-- no letter and no digit is next
abbrev pub opens_no_word : List Chunk → Bool
opens_no_word [] = true
opens_no_word (space ∷ q) = true
opens_no_word (line ∷ q) = true
opens_no_word (word (key k) ∷ q) = false
opens_no_word (word (sign s) ∷ q) = true
opens_no_word (word (number n) ∷ q) = false
opens_no_word (word (name w) ∷ q) = false

-- neither `=` nor `/` is next
abbrev pub opens_calm : List Chunk → Bool
opens_calm (word (sign Slash) ∷ q) = false
opens_calm (word (sign Equal) ∷ q) = false
opens_calm _ = true

abbrev pub Follows : Bool → List Chunk → Type 0
Follows true q = opens_no_word q ≡ true
Follows false q = opens_calm q ≡ true

-- the word is one, within the limits
abbrev pub IsSound : Word → Type 0
IsSound w = HasKind (word_text w) (word_kind w)

-- no two lexemes touch that could merge
abbrev pub Apart : List Chunk → Type 0
Apart [] = Unit {0}
Apart (space ∷ q) = Apart q
Apart (line ∷ q) = Apart q
Apart (word w ∷ q) = IsSound w × Follows (is_wordy w) q × Apart q

name_stops : (s : Sign) (r : List ℕ) → StopsAt is_name_byte (sign_text s ++ r)
name_stops Assign r = refl
name_stops s r = refl

digit_stops : (s : Sign) (r : List ℕ) → StopsAt is_ascii_digit (sign_text s ++ r)
digit_stops Assign r = refl
digit_stops s r = refl

abbrev IsCalm : List ℕ → Type 0
IsCalm r = StopsAt (λ b. b == 61) r × StopsAt (λ b. b == 47) r

key_calm : (k : Keyword) (r : List ℕ) → IsCalm (key_text k ++ r)
key_calm Labels r = (refl, refl)
key_calm k r = (refl, refl)

sign_calm : (s : Sign) (q : List Chunk) (r : List ℕ) → opens_calm (word (sign s) ∷ q) ≡ true → IsCalm (sign_text s ++ r)
sign_calm Slash q r h = differ (sym h)
sign_calm Equal q r h = differ (sym h)
sign_calm s q r h = (refl, refl)

stops : (test : ℕ → Bool) → test 32 ≡ false → test 10 ≡ false → ((s : Sign) (r : List ℕ) → StopsAt test (sign_text s ++ r)) → (q : List Chunk)
    → opens_no_word q ≡ true → StopsAt test (text q)
stops test a b c [] h = tt
stops test a b c (space ∷ q) h = a
stops test a b c (line ∷ q) h = b
stops test a b c (word (key k) ∷ q) h = differ (sym h)
stops test a b c (word (sign s) ∷ q) h = c s (text q)
stops test a b c (word (number n) ∷ q) h = differ (sym h)
stops test a b c (word (name w) ∷ q) h = differ (sym h)

other_byte : (c b : ℕ) (e : Bool) → (b == c) ≡ e → is_ascii_alphabetic c ≡ false → is_ascii_alphabetic b ≡ true → (b == c) ≡ false
other_byte c b true q h k = differ (sym k ∙ ap is_ascii_alphabetic (eqb-true b c q) ∙ h)
other_byte c b false q h k = q

word_differs : (c : ℕ) (w q : List ℕ) → is_ascii_alphabetic c ≡ false → IsWord w → StopsAt (λ b. b == c) (w ++ q)
word_differs c [] q h k = absurd k
word_differs c (b ∷ w) q h k = other_byte c b (b == c) refl h k.0

calm : (q : List Chunk) → opens_calm q ≡ true → Apart q → IsCalm (text q)
calm [] h a = (tt, tt)
calm (space ∷ q) h a = (refl, refl)
calm (line ∷ q) h a = (refl, refl)
calm (word (key k) ∷ q) h a = key_calm k (text q)
calm (word (sign s) ∷ q) h a = sign_calm s q (text q) h
calm (word (number n) ∷ q) h a = (differs 61 (word_text (number n)) (text q) refl a.0.0, differs 47 (word_text (number n)) (text q) refl a.0.0)
calm (word (name w) ∷ q) h a = (word_differs 61 w (text q) refl a.0.0, word_differs 47 w (text q) refl a.0.0)

closes : (w : Word) (q : List Chunk) → Follows (is_wordy w) q → Apart q → Closes (word_kind w) (text q)
closes (key k) q f a = stops is_name_byte refl refl name_stops q f
closes (name w) q f a = stops is_name_byte refl refl name_stops q f
closes (number n) q f a = stops is_ascii_digit refl refl digit_stops q f
closes (sign s) q f a = calm q f a

abbrev pub pieces : List Chunk → List Piece
pieces [] = []
pieces (space ∷ q) = white 32 ∷ pieces q
pieces (line ∷ q) = white 10 ∷ pieces q
pieces (word w ∷ q) = lexeme (word_text w) (word_kind w) ∷ pieces q

pub spread_text : (q : List Chunk) → spread (pieces q) ≡ text q
spread_text [] = refl
spread_text (space ∷ q) = ap (λ l. 32 ∷ l) (spread_text q)
spread_text (line ∷ q) = ap (λ l. 10 ∷ l) (spread_text q)
spread_text (word w ∷ q) = ap (λ l. word_text w ++ l) (spread_text q)

after : (q : List Chunk) → text q ≡ spread (pieces q) ++ []
after q = sym (append-nil (spread (pieces q)) ∙ spread_text q)

pub cut : (q : List Chunk) → Apart q → CutBefore (pieces q) []
cut [] h = tt
cut (space ∷ q) h = (refl, cut q h)
cut (line ∷ q) h = (refl, cut q h)
cut (word w ∷ q) h =
    (closed_piece (word_text w) (word_kind w) (spread (pieces q) ++ []) h.0 (subst (λ l. Closes (word_kind w) l) (after q) (closes w q h.1 h.2)), cut q h.2)

pub plain : (q : List Chunk) → NoComments (pieces q)
plain [] = tt
plain (space ∷ q) = plain q
plain (line ∷ q) = plain q
plain (word w ∷ q) = plain q
