-- Pieces of a text and places.
use Rattle.std.proofs.Common.{◌≡◌, ◌<◌, ◌≤◌, ◌+◌, refl, ap, ◌∙◌, sym, subst, ℕ, zero, suc, List, [], ◌∷◌, ◌++◌, append_assoc, take, drop, get_or, length}
use Rattle.std.proofs.Common.{length-append, length-drop, Bool, true, false, cond, ◌&&◌, ◌==◌, Option, Some, None, arith}
use Rattle.std.proofs.lemmas.List.{append-nil, take-append-drop}
use Rattle.std.proofs.lemmas.Bool.{eqb-true}
use Rattle.std.specs.Prelude.{IsUtf8}
use Rattle.std.specs.Char.{is_ascii_digit}
use Rattle.text_base.specs.declared.pos.Pos.{Pos}
use Rattle.label_lattice.specs.Names.{is_name_byte, Each, IsWord}
use Rattle.mit_syntax.specs.declared.fault.TextFault.{TextFault}
use Rattle.mit_syntax.specs.declared.fault.TextFault.TheVariants.{NotUtf8, BadByte, WideNumber, LongName, Memory}
use Rattle.mit_syntax.specs.declared.lexeme.Flaw.{Flaw}
use Rattle.mit_syntax.specs.declared.lexeme.Flaw.TheVariants.{Bad, Wide, Long}
use Rattle.mit_syntax.specs.declared.token.Token.{Token}
use Rattle.mit_syntax.specs.declared.token.TokenKind.{TokenKind}
use Rattle.mit_syntax.specs.declared.token.TokenKind.TheVariants.{Key, Name, Number, Sign as SignKind, End}
use Rattle.mit_syntax.specs.declared.tokens.Place.{Place}
use Rattle.mit_syntax.specs.Lexemes.{is_white, StopsAt, IsDigits, key_text, HasKind, IsLongest}
use Rattle.mit_syntax.specs.Cut.{start, past, moved, in_line, starts_comment, white, comment, lexeme, bytes_of, IsPiece, spread, and_then, tokens_of, end_at}
use Rattle.mit_syntax.specs.Cut.{AreTokens, BeginsNone, BeginsWide, BeginsLong, StopsBefore, IsFault}
use Rattle.mit_syntax.specs.TokenSteps.{IsToken, HasFlaw, State, TookPiece, StandsAtFlaw, NoPiece, CutSoFar}
use Rattle.mit_syntax.proofs.LexBytes.{differ, letter_in_name}
use Rattle.mit_syntax.proofs.LexSigns.{key_opens, sign_stays, sign_parts}

-- a test that fails at a line's end keeps to the line
stays : (p : ℕ → Bool) (b : ℕ) (e : Bool) → (b == 10) ≡ e → p 10 ≡ false → p b ≡ true → in_line b ≡ true
stays p b true q h k = differ (sym k ∙ ap p (eqb-true b 10 q) ∙ h)
stays p b false q h k = ap (λ x. cond x false true) q

each_stays : (p : ℕ → Bool) (w : List ℕ) → p 10 ≡ false → Each p w → Each in_line w
each_stays p [] h k = tt
each_stays p (b ∷ w) h k = (stays p b (b == 10) refl h k.0, each_stays p w h k.1)

word_stays : (w : List ℕ) → IsWord w → Each in_line w
word_stays [] h = absurd h
word_stays (b ∷ w) h = each_stays is_name_byte (b ∷ w) refl (letter_in_name b h.0, h.1)

digits_stay : (w : List ℕ) → IsDigits w → Each in_line w
digits_stay [] h = absurd h
digits_stay (b ∷ w) h = each_stays is_ascii_digit (b ∷ w) refl h

-- a token keeps to its line
pub kind_stays : (w : List ℕ) (k : TokenKind) → HasKind w k → Each in_line w
kind_stays w (Key k) h = subst (Each in_line) (sym h) (word_stays (key_text k) (key_opens k))
kind_stays w Name h = word_stays w h.0
kind_stays w (Number n) h = digits_stay w h.0
kind_stays w (SignKind s) h = subst (Each in_line) (sym h) (sign_stays s)
kind_stays w End h = absurd h

word_some : (w : List ℕ) → IsWord w → 0 < length w
word_some [] h = absurd h
word_some (b ∷ w) h = omega arith

pub kind_some : (w : List ℕ) (k : TokenKind) → HasKind w k → 0 < length w
kind_some w (Key k) h = subst (λ l. 0 < length l) (sym h) (word_some (key_text k) (key_opens k))
kind_some [] Name h = absurd h.0
kind_some (b ∷ w) Name h = omega arith
kind_some [] (Number n) h = absurd h.0
kind_some (b ∷ w) (Number n) h = omega arith
kind_some w (SignKind s) h = subst (λ l. 0 < length l) (sym (h ∙ sign_parts s)) (omega arith)
kind_some w End h = absurd h

-- within a line the column counts bytes
past_in_line : (p : Place) (b : ℕ) (e : Bool) → (b == 10) ≡ e → in_line b ≡ true
    → past p b ≡ record { at = p.at + 1; pos = record { line = p.pos.line; column = p.pos.column + 1 } }
past_in_line p b true q h = differ (sym h ∙ ap (λ x. cond x false true) q)
past_in_line p b false q h = ap
    (λ x. cond x (record { at = p.at + 1; pos = record { line = p.pos.line + 1; column = 1 } }) (record {
      at = p.at + 1;
      pos =
          record { line = p.pos.line; column = p.pos.column + 1 };
    })) q

same_place : (a b l c d : ℕ) → a ≡ b → c ≡ d
    → ◌≡◌ {A = Place} (record { at = a; pos = record { line = l; column = c } }) (record { at = b; pos = record { line = l; column = d } })
same_place a b l c d e f = ap (λ x. record { at = x; pos = record { line = l; column = c } }) e
    ∙ ap (λ x. record { at = b; pos = record { line = l; column = x } }) f

pub moved_in_line : (p : Place) (w : List ℕ) → Each in_line w
    → moved p w ≡ record { at = p.at + length w; pos = record { line = p.pos.line; column = p.pos.column + length w } }
moved_in_line p [] h = same_place p.at (p.at + 0) p.pos.line p.pos.column (p.pos.column + 0) (omega arith) (omega arith)
moved_in_line p (b ∷ w) h =
    let q : Place = record { at = p.at + 1; pos = record { line = p.pos.line; column = p.pos.column + 1 } } in
    ap (λ x. moved x w) (past_in_line p b (b == 10) refl h.0) ∙ moved_in_line q w h.1
    ∙ same_place (p.at + 1 + length w) (p.at + suc (length w)) p.pos.line (p.pos.column + 1 + length w)
    (p.pos.column + suc (length w)) (omega arith) (omega arith)

pub moved-append : (p : Place) (v w : List ℕ) → moved p (v ++ w) ≡ moved (moved p v) w
moved-append p [] w = refl
moved-append p (b ∷ v) w = moved-append (past p b) v w

pub front_back : (w r : List ℕ) → (take (length w) (w ++ r) ≡ w) × (drop (length w) (w ++ r) ≡ r)
front_back [] r = (refl, refl)
front_back (b ∷ w) r = let k = front_back w r in (ap (λ l. b ∷ l) k.0, k.1)

-- a token's bytes are the front
pub token_front : (text : List ℕ) (k : TokenKind) (n : ℕ) (t : IsToken text k n) → (take n text ≡ t.spelled) × (drop n text ≡ t.rest)
token_front text k n t =
    let e = front_back t.spelled t.rest in (
      ap (λ m. take m text) (sym t.size) ∙ ap (take (length t.spelled)) t.are ∙ e.0,
      ap (λ m. drop m text) (sym t.size) ∙ ap (drop (length t.spelled)) t.are ∙ e.1,
    )

pub token_stays : (text : List ℕ) (k : TokenKind) (n : ℕ) → IsToken text k n → Each in_line (take n text)
token_stays text k n t = subst (Each in_line) (sym (token_front text k n t).0) (kind_stays t.spelled k t.has_kind)

pub took_lexeme : (old new : State) (k : TokenKind) (n : ℕ) → IsToken old.1 k n → starts_comment old.1 ≡ false → new.1 ≡ drop n old.1
    → new.0 ≡ moved old.0 (take n old.1)
    → TookPiece old new (Some (record { kind = k; from = old.0.at; to = old.0.at + n; pos = old.0.pos }))
took_lexeme old new k n t c e f =
    let w = token_front old.1 k n t in
    let rest : new.1 ≡ t.rest = e ∙ w.1 in
    let some = kind_some t.spelled k t.has_kind in
    let size : length old.1 ≡ length t.spelled + length t.rest = ap length t.are ∙ length-append t.spelled t.rest in
    let left : length new.1 ≡ length t.rest = ap length rest in
    record {
      piece = lexeme t.spelled k;
      was = t.are ∙ ap (λ r. t.spelled ++ r) (sym rest);
      is = (ap (λ r. starts_comment (t.spelled ++ r)) rest ∙ ap starts_comment (sym t.are) ∙ c, t.has_kind, subst (IsLongest t.spelled) (sym rest) t.longest);
      place_is = f ∙ ap (moved old.0) w.0;
      gives = ap (λ m. Some (record { kind = k; from = old.0.at; to = old.0.at + m; pos = old.0.pos })) t.size;
      shorter = omega (arith, some, size, left);
    }

pub took_white : (old new : State) → 0 < length old.1 → is_white (get_or old.1 0 0) ≡ true → new.1 ≡ drop 1 old.1
    → new.0 ≡ moved old.0 (take 1 old.1) → TookPiece old new None
took_white (p, []) new h e r f = absurd (omega (arith, h))
took_white (p, b ∷ w) new h e r f =
    let left : length new.1 ≡ length w = ap length r in
    record { piece = white b; was = ap (λ l. b ∷ l) (sym r); is = e; place_is = f; gives = refl; shorter = omega (arith, left) }

slash_stays : (a : ℕ) → (a == 47) ≡ true → in_line a ≡ true
slash_stays a e = ap in_line (eqb-true a 47 e)

and_of : (a b : Bool) → (a && b) ≡ true → (a ≡ true) × (b ≡ true)
and_of true b e = (refl, e)
and_of false b e = cc

comment_front : (text : List ℕ) (n : ℕ) → starts_comment text ≡ true → StopsAt in_line (drop n text) → (starts_comment (take n text) ≡ true) × (0 < n)
comment_front [] n e s = differ (sym e)
comment_front (a ∷ []) n e s = differ (sym e)
comment_front (a ∷ b ∷ r) zero e s = differ (sym (slash_stays a (and_of (a == 47) (b == 47) e).0) ∙ s)
comment_front (a ∷ b ∷ r) (suc zero) e s = differ (sym (slash_stays b (and_of (a == 47) (b == 47) e).1) ∙ s)
comment_front (a ∷ b ∷ r) (suc (suc n)) e s = (e, omega arith)

pub took_comment : (old new : State) (n : ℕ) → n ≤ length old.1 → Each in_line (take n old.1) → StopsAt in_line (drop n old.1) → starts_comment old.1 ≡ true
    → new.1 ≡ drop n old.1 → new.0 ≡ moved old.0 (take n old.1) → TookPiece old new None
took_comment old new n h k s c r f =
    let e = comment_front old.1 n c s in
    let parts : old.1 ≡ take n old.1 ++ drop n old.1 = sym (take-append-drop n old.1) in
    let left : length new.1 ≡ length (drop n old.1) = ap length r in
    let some = e.1 in
    record {
      piece = comment (take n old.1);
      was = parts ∙ ap (λ l. take n old.1 ++ l) (sym r);
      is = (e.0, k, subst (StopsAt in_line) (sym r) s);
      place_is = f;
      gives = refl;
      shorter = omega (arith, left, some, h, length-drop n old.1);
    }

-- the loop: nothing yet, another piece, the end, a fault
pub none_yet : (text : List ℕ) (list : List Token) → list ≡ [] → CutSoFar text (start, text) list
none_yet text list e = record { builds = λ ps rest h c. (ps, h, c, ap (λ l. l ++ tokens_of start ps) (sym e), refl) }

pub one_more : (text : List ℕ) (now new : State) (list next : List Token) (o : Option Token) → CutSoFar text now list → TookPiece now new o
    → ((l : List Token) → next ++ l ≡ list ++ and_then o l) → CutSoFar text new next
one_more text now new list next o f t e =
    record {
      builds = λ ps rest h c.
          let here : now.1 ≡ spread (t.piece ∷ ps) ++ rest =
          t.was ∙ ap (λ l. bytes_of t.piece ++ l) h ∙ sym (append_assoc (bytes_of t.piece) (spread ps) rest) in
          let k = f.builds (t.piece ∷ ps) rest here (subst (IsPiece t.piece) h t.is, c) in (
            k.0,
            k.1,
            k.2,
            k.3 ∙ ap (λ x. list ++ and_then x (tokens_of (moved now.0 (bytes_of t.piece)) ps)) t.gives
                ∙ ap (λ p. list ++ and_then o (tokens_of p ps)) (sym t.place_is) ∙ sym (e (tokens_of new.0 ps)),
            k.4 ∙ moved-append now.0 (bytes_of t.piece) (spread ps) ∙ ap (λ p. moved p (spread ps)) (sym t.place_is),
          );
    }

pub next_none : (list : List Token) (l : List Token) → list ++ l ≡ list ++ and_then None l
next_none list l = refl

pub next_some : (list next : List Token) (t : Token) → next ≡ list ++ t ∷ [] → (l : List Token) → next ++ l ≡ list ++ and_then (Some t) l
next_some list next t e l = ap (λ x. x ++ l) e ∙ append_assoc list (t ∷ []) l

nothing_left : (text : List ℕ) → length text ≡ 0 → text ≡ []
nothing_left [] e = refl
nothing_left (b ∷ r) e = absurd (omega (arith, e))

pub the_end : (text : List ℕ) (now : State) (list items : List Token) → IsUtf8 text → CutSoFar text now list → length now.1 ≡ 0
    → items ≡ list ++ end_at now.0 ∷ [] → AreTokens text items
the_end text now list items u f h e =
    let k = f.builds [] [] (nothing_left now.1 h) tt in
    let whole : text ≡ spread k.0 = k.1 ∙ append-nil (spread k.0) in
    record {
      utf8 = u;
      pieces = k.0;
      are = whole;
      cut = k.2;
      tokens_are = e ∙ ap (λ l. l ++ end_at now.0 ∷ []) (sym (k.3 ∙ append-nil list))
          ∙ ap (λ p. tokens_of start k.0 ++ end_at p ∷ []) (sym (ap (moved start) whole ∙ k.4));
    }

module _ (text : List ℕ) (now : State) (list : List Token) (utf8 : IsUtf8 text) (f : CutSoFar text now list) where
  flawed : (flaw : Flaw) (p : Pos) (Flawed : List ℕ → Type 0) → StandsAtFlaw now flaw p → (HasFlaw now.1 flaw → Flawed now.1) → StopsBefore Flawed text p
  flawed flaw p Flawed h tells =
      let k = f.builds [] now.1 refl tt in
      record {
        utf8 = utf8;
        pieces = k.0;
        left = now.1;
        are = k.1;
        cut = k.2;
        pos_is = h.here ∙ sym (ap (λ q. q.pos) k.4);
        some = h.some;
        no_white = h.no_white;
        no_comment = h.no_comment;
        flawed = tells h.flaw_is;
      }

  pub a_fault : (e : TextFault) → NoPiece now e → IsFault text e
  a_fault (NotUtf8 n) h = absurd h
  a_fault (BadByte p) h = flawed Bad p BeginsNone h (λ k. k)
  a_fault (WideNumber p) h = flawed Wide p BeginsWide h (λ k. k)
  a_fault (LongName p) h = flawed Long p BeginsLong h (λ k. k)
  a_fault Memory h = absurd h
