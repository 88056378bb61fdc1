-- For printed text: a lexeme is a piece wherever the next byte can't go on with it.
use Rattle.std.proofs.Common.{◌≡◌, refl, ap, ◌∙◌, sym, subst, ℕ, List, [], ◌∷◌, ◌++◌, length, Bool, true, false, ◌&&◌, ◌==◌}
use Rattle.std.proofs.lemmas.Bool.{eqb-true}
use Rattle.std.specs.Char.{is_ascii_digit, is_ascii_alphabetic}
use Rattle.label_lattice.specs.Names.{is_name_byte, IsWord}
use Rattle.mit_syntax.specs.declared.token.Sign.{Sign}
use Rattle.mit_syntax.specs.declared.token.TokenKind.{TokenKind}
use Rattle.mit_syntax.specs.declared.token.TokenKind.TheVariants.{Key, Name, Number, Sign as SignKind, End}
use Rattle.mit_syntax.specs.Lexemes.{StopsAt, IsDigits, sign_text, HasKind, IsLongest}
use Rattle.mit_syntax.specs.Cut.{starts_comment, lexeme, IsPiece}
use Rattle.mit_syntax.proofs.LexBytes.{differ}
use Rattle.mit_syntax.proofs.LexSigns.{sign_first, sign_others, sign_parts, no_letter_first, no_digit_first, taken, taken_closed, sign_no_comment, key_opens}
use Rattle.mit_syntax.proofs.LexLongest.{word_longest, digits_longest, sign_longest}

-- the next byte doesn't go on with a token of this kind
abbrev pub Closes : TokenKind → List ℕ → Type 0
Closes (Key k) rest = StopsAt is_name_byte rest
Closes Name rest = StopsAt is_name_byte rest
Closes (Number n) rest = StopsAt is_ascii_digit rest
Closes (SignKind s) rest = StopsAt (λ b. b == 61) rest × StopsAt (λ b. b == 47) rest
Closes End rest = ⊥

no_comment_word : (w rest : List ℕ) (test : ℕ → Bool) → test 47 ≡ false → (b : ℕ) (e : Bool) → (b == 47) ≡ e → test b ≡ true
    → starts_comment (b ∷ w ++ rest) ≡ false
no_comment_word [] [] test h b e q k = refl
no_comment_word [] (c ∷ rest) test h b true q k = differ (sym k ∙ ap test (eqb-true b 47 q) ∙ h)
no_comment_word [] (c ∷ rest) test h b false q k = ap (λ x. x && (c == 47)) q
no_comment_word (c ∷ w) rest test h b true q k = differ (sym k ∙ ap test (eqb-true b 47 q) ∙ h)
no_comment_word (c ∷ w) rest test h b false q k = ap (λ x. x && (c == 47)) q

word_no_comment : (w rest : List ℕ) → IsWord w → starts_comment (w ++ rest) ≡ false
word_no_comment [] rest h = absurd h
word_no_comment (b ∷ w) rest h = no_comment_word w rest is_ascii_alphabetic refl b (b == 47) refl h.0

digits_no_comment : (w rest : List ℕ) → IsDigits w → starts_comment (w ++ rest) ≡ false
digits_no_comment [] rest h = absurd h
digits_no_comment (b ∷ w) rest h = no_comment_word w rest is_ascii_digit refl b (b == 47) refl h.0

sign_closed : (s : Sign) (rest : List ℕ) → StopsAt (λ b. b == 61) rest → IsLongest (sign_text s) rest
sign_closed s rest h =
    let front : sign_text s ++ rest ≡ sign_first s ∷ (sign_others s ++ rest) = ap (λ l. l ++ rest) (sign_parts s) in
    sign_longest (sign_first s) (sign_others s ++ rest) (no_letter_first s) (no_digit_first s) s (length (sign_text s)) rest (ap taken (sym front)
    ∙ taken_closed rest h s) refl (sym front)

pub closed_piece : (w : List ℕ) (k : TokenKind) (rest : List ℕ) → HasKind w k → Closes k rest → IsPiece (lexeme w k) rest
closed_piece w (Key k) rest h c = let o = subst IsWord (sym h) (key_opens k) in (word_no_comment w rest o, h, word_longest w rest o c)
closed_piece w Name rest h c = (word_no_comment w rest h.0, h, word_longest w rest h.0 c)
closed_piece w (Number n) rest h c = (digits_no_comment w rest h.0, h, digits_longest w rest h.0 c)
closed_piece w (SignKind s) rest h c =
    (ap (λ v. starts_comment (v ++ rest)) h ∙ sign_no_comment rest c.1 s, h, subst (λ v. IsLongest v rest) (sym h) (sign_closed s rest c.0))
closed_piece w End rest h c = absurd c
