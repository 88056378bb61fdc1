-- The machine's rules, as equations of verdicts.
use Rattle.std.proofs.Common.{◌≡◌, refl, ap, ◌∙◌, sym, ℕ, ℤ, List, [], ◌∷◌, true, false, Bool, cond, Some, None, Result, Ok, Err, MatchResult, length, take}
use Rattle.std.proofs.Common.{drop, zero, suc, ◌+◌, ◌-◌, ◌≤◌, arith, get_or}
use Rattle.std.specs.Prelude.{nat_lt, ◌||◌}
use Rattle.std.proofs.lemmas.Bool.{eqb-true, ltb-false}
use Rattle.mit_syntax.specs.declared.token.Token.{Token}
use Rattle.mit_syntax.specs.declared.token.TokenKind.{TokenKind}
use Rattle.mit_syntax.specs.declared.token.TokenKind.TheVariants.{Key, Name, Number, Sign as SignKind, End}
use Rattle.mit_syntax.specs.declared.token.Keyword.{Keyword}
use Rattle.mit_syntax.specs.declared.token.Keyword.TheVariants.{Labels, Order, Var, Skip, If, Then, Else, While, Do, Mitigate, Sleep}
use Rattle.mit_syntax.specs.declared.token.Sign.{Sign}
use Rattle.mit_syntax.specs.declared.token.Sign.TheVariants.{Assign, Colon, Semicolon, Comma, LeftRound, RightRound, LeftBrace, RightBrace, LeftSquare}
use Rattle.mit_syntax.specs.declared.token.Sign.TheVariants.{RightSquare, At, Plus, Minus, Star, Slash, Percent, Equal, NotEqual, LessEqual, Less}
use Rattle.mit_syntax.specs.declared.token.Sign.TheVariants.{GreaterEqual, Greater}
use Rattle.mit_syntax.specs.Chunks.{key, sign, number, name}
use Rattle.mit_syntax.specs.Cut.{token_bytes}
use Rattle.mit_parser.specs.declared.counts.Counts.{Counts}
use Rattle.mit_parser.specs.declared.fault.ParseFault.{ParseFault}
use Rattle.mit_parser.specs.declared.fault.ParseFault.TheVariants.{Unexpected, TooDeep, TooMany, Unknown, Twice, Lattice, Memory, Size, Misuse}
use Rattle.mit_parser.specs.Words.{Symbol, word, the_end, Told, told, symbol_of, kind_of, head_symbol, is, is_sign, is_key, is_end, sign_code, key_code}
use Rattle.mit_parser.specs.Words.{IsEnded}
use Rattle.mit_parser.specs.Counting.{count, is_over}
use Rattle.mit_parser.specs.State.{State}
use Rattle.mit_parser.specs.Machine.{Part, want, a_command, commands, more, step, verdict, Bad}
use Rattle.mit_parser.specs.Machine.{Deep, choice}
use Rattle.mit_parser.specs.Reads.{Refused, Passed, Over, Found, Took, OnlyEnd}

-- the word of a token
abbrev pub told_one : List ℕ → Token → Told
told_one text t = record { symbol = symbol_of t.kind (token_bytes text t); pos = t.pos }

pub kind_again : (k : TokenKind) (w : List ℕ) → kind_of (symbol_of k w) ≡ k
kind_again (Key k) w = refl
kind_again Name w = refl
kind_again (Number n) w = refl
kind_again (SignKind s) w = refl
kind_again End w = refl

-- the words of tokens begin with that of the first one
pub first_told : (text : List ℕ) (ts : List Token) (d : Token) → IsEnded (told text ts) → told text ts ≡ told_one text (get_or ts 0 d) ∷ told text (drop 1 ts)
first_told text [] d h = absurd h
first_told text (t ∷ ts) d h = refl

-- the default of a look at a token
abbrev pub no_token : Token
no_token = record { kind = Key Labels; from = 0; to = 0; pos = record { line = 0; column = 0 } }

take_whole : {A : Type 0} (n : ℕ) (l : List A) → n ≡ length l → take n l ≡ l
take_whole n [] e = ap (λ k. take k []) e
take_whole zero (x ∷ l) e = absurd (omega (arith, e))
take_whole (suc n) (x ∷ l) e = ap (λ r. x ∷ r) (take_whole n l (omega (arith, e)))

-- the rest of a list, as the code takes it
pub rest_is : {A : Type 0} (l : List A) → take (length l - 1) (drop 1 l) ≡ drop 1 l
rest_is [] = take_whole (0 - 1) [] (omega arith)
rest_is (x ∷ l) = take_whole (length (x ∷ l) - 1) l (omega arith)

pub told_length : (text : List ℕ) (ts : List Token) → length (told text ts) ≡ length ts
told_length text [] = refl
told_length text (t ∷ ts) = omega (arith, told_length text ts)

pub drop_length : (text : List ℕ) (ts : List Token) → IsEnded (told text ts) → length (told text (drop 1 ts)) + 1 ≡ length (told text ts)
drop_length text [] h = absurd h
drop_length text (t ∷ ts) h = omega arith

pub low_depth : (c : Counts) → is_over c ≡ false → c.depth ≤ 100
low_depth c e = by (nat_lt 100 c.depth) refl e
  where
    by : (b : Bool) → nat_lt 100 c.depth ≡ b → (b || nat_lt 256 c.operators) ≡ false → c.depth ≤ 100
    by true h q = cc
    by false h q = ltb-false 100 c.depth h

pub kind_first : (text : List ℕ) (ts : List Token) (d : Token) → IsEnded (told text ts) → (get_or ts 0 d).kind ≡ kind_of (head_symbol (told text ts))
kind_first text [] d h = absurd h
kind_first text (t ∷ ts) d h = sym (kind_again t.kind (token_bytes text t))

-- what a kind shows of the symbol
pub shows_sign : (s : Symbol) (g : Sign) → SignKind g ≡ kind_of s → s ≡ word (sign g)
shows_sign (word (key k)) g e = cc
shows_sign (word (sign t)) g e = let h : g ≡ t = cc in ap (λ x. word (sign x)) (sym h)
shows_sign (word (number n)) g e = cc
shows_sign (word (name w)) g e = cc
shows_sign the_end g e = cc

pub shows_key : (s : Symbol) (g : Keyword) → Key g ≡ kind_of s → s ≡ word (key g)
shows_key (word (key k)) g e = let h : g ≡ k = cc in ap (λ x. word (key x)) (sym h)
shows_key (word (sign t)) g e = cc
shows_key (word (number n)) g e = cc
shows_key (word (name w)) g e = cc
shows_key the_end g e = cc

pub shows_number : (s : Symbol) (m : ℤ) → Number m ≡ kind_of s → s ≡ word (number m)
shows_number (word (key k)) m e = cc
shows_number (word (sign t)) m e = cc
shows_number (word (number n)) m e = let h : m ≡ n = cc in ap (λ x. word (number x)) (sym h)
shows_number (word (name w)) m e = cc
shows_number the_end m e = cc

pub shows_end : (s : Symbol) → End ≡ kind_of s → s ≡ the_end
shows_end (word (key k)) e = cc
shows_end (word (sign t)) e = cc
shows_end (word (number n)) e = cc
shows_end (word (name w)) e = cc
shows_end the_end e = refl

-- the end is the last word
pub only_end : (l : List Told) → IsEnded l → is the_end (head_symbol l) ≡ true → OnlyEnd l
only_end [] h e = absurd h
only_end (b ∷ []) h e = (b.pos, ap (λ x. record { symbol = x; pos = b.pos } ∷ []) (end_is b.symbol e))
  where
    end_is : (s : Symbol) → is_end s ≡ true → s ≡ the_end
    end_is (word w) q = cc
    end_is the_end q = refl
only_end (b ∷ c ∷ r) h e = absurd (differ (sym e ∙ h.0))
  where
    differ : true ≡ false → ⊥
    differ q = cc

pub at_end : (l : List Told) → IsEnded l → End ≡ kind_of (head_symbol l) → OnlyEnd l
at_end l h e = only_end l h (ap (is the_end) (shows_end (head_symbol l) e))

-- a part that is made of parts
pub rule_commands : (s : List Part) (c : Counts) (i : List Told) → verdict (commands ∷ s) c i ≡ verdict (a_command ∷ more ∷ s) c i
rule_commands s c [] = refl
rule_commands s c (b ∷ r) = refl

-- what may be left out is left out
pub left_out : (s t : List Part) (c : Counts) (i : List Told) → step s (head_symbol i) ≡ step t (head_symbol i) → verdict s c i ≡ verdict t c i
left_out s t c [] e = refl
left_out s t c (b ∷ r) e =
    ap (λ o. choice o (Bad (b ∷ r)) (λ t. cond (is_over (count c b.symbol)) (Deep (b ∷ r)) (verdict t (count c b.symbol) r))) e

pub goes_at : (s t : List Part) (c : Counts) (b : Told) (r : List Told) → step s b.symbol ≡ Some t → is_over (count c b.symbol) ≡ false
    → verdict s c (b ∷ r) ≡ verdict t (count c b.symbol) r
goes_at s t c b r e h =
    ap (λ o. choice o (Bad (b ∷ r)) (λ t. cond (is_over (count c b.symbol)) (Deep (b ∷ r)) (verdict t (count c b.symbol) r))) e
    ∙ ap (λ x. cond x (Deep (b ∷ r)) (verdict t (count c b.symbol) r)) h

deep_at : (s t : List Part) (c : Counts) (b : Told) (r : List Told) → step s b.symbol ≡ Some t → is_over (count c b.symbol) ≡ true
    → verdict s c (b ∷ r) ≡ Deep (b ∷ r)
deep_at s t c b r e h =
    ap (λ o. choice o (Bad (b ∷ r)) (λ t. cond (is_over (count c b.symbol)) (Deep (b ∷ r)) (verdict t (count c b.symbol) r))) e
    ∙ ap (λ x. cond x (Deep (b ∷ r)) (verdict t (count c b.symbol) r)) h

pub bad_at : (s : List Part) (c : Counts) (b : Told) (r : List Told) → step s b.symbol ≡ None → verdict s c (b ∷ r) ≡ Bad (b ∷ r)
bad_at s c b r e =
    ap (λ o. choice o (Bad (b ∷ r)) (λ t. cond (is_over (count c b.symbol)) (Deep (b ∷ r)) (verdict t (count c b.symbol) r))) e

-- the machine takes the word that the parser takes
pub passed : {old new : State} (s t : List Part) → Passed old new → step s (head_symbol old.words) ≡ Some t
    → verdict s old.counts old.words ≡ verdict t new.counts new.words
passed {old} {new} s t p e =
    let w : head_symbol old.words ≡ p.first.symbol = ap head_symbol p.was in
    let here : is_over (count old.counts p.first.symbol) ≡ false = sym (ap is_over p.counts) ∙ p.within in
    ap (verdict s old.counts) p.was ∙ goes_at s t old.counts p.first new.words (ap (step s) (sym w) ∙ e) here
    ∙ ap (λ c. verdict t c new.words) (sym p.counts)

-- the first word is refused
pub found : (now : State) (part : Part) (f : ParseFault) → ((s : List Part) → step (part ∷ s) (head_symbol now.words) ≡ None)
    → Found f now → Refused part now now f
found now part (Unexpected p) refuses h =
    record {
      first = h.first;
      rest = h.rest;
      there = h.was;
      place = h.place;
      is = λ s. ap (verdict (part ∷ s) now.counts) h.was ∙ bad_at (part ∷ s) now.counts h.first h.rest (ap (step (part ∷ s)) (sym (ap head_symbol h.was))
          ∙ refuses s) ∙ ap Bad (sym h.was);
    }
found now part (TooDeep p) refuses h = absurd h
found now part (TooMany n) refuses h = absurd h
found now part (Unknown p) refuses h = absurd h
found now part (Twice p) refuses h = absurd h
found now part (Lattice l) refuses h = absurd h
found now part Memory refuses h = absurd h
found now part (Size p) refuses h = absurd h
found now part (Misuse p) refuses h = absurd h

-- the first word passes a limit
pub passes : (old new : State) (part : Part) (f : ParseFault) → ((s : List Part) → (t : List Part) × (step (part ∷ s) (head_symbol old.words) ≡ Some t))
    → Over old new f → Refused part old new f
passes old new part (Unexpected p) takes h = absurd h
passes old new part (TooDeep p) takes h =
    record {
      first = h.first;
      rest = h.rest;
      there = ap (λ s. s.words) h.stays ∙ h.was;
      place = h.place;
      is = λ s.
          let k = takes s in
          ap (verdict (part ∷ s) old.counts) h.was
          ∙ deep_at (part ∷ s) k.0 old.counts h.first h.rest (ap (step (part ∷ s)) (sym (ap head_symbol h.was)) ∙ k.1) h.passes
          ∙ ap Deep (sym h.was ∙ sym (ap (λ s. s.words) h.stays));
    }
passes old new part (TooMany n) takes h = absurd h
passes old new part (Unknown p) takes h = absurd h
passes old new part (Twice p) takes h = absurd h
passes old new part (Lattice l) takes h = absurd h
passes old new part Memory takes h = absurd h
passes old new part (Size p) takes h = absurd h
passes old new part (Misuse p) takes h = absurd h

-- a fault in a part is a fault of the whole
pub within : (old mid new : State) (part next : Part) (rest_of : List Part → List Part) (f : ParseFault)
    → ((s : List Part) → verdict (part ∷ s) old.counts old.words ≡ verdict (next ∷ rest_of s) mid.counts mid.words)
    → Refused next mid new f → Refused part old new f
within old mid new part next rest_of (Unexpected p) e h =
    record { first = h.first; rest = h.rest; there = h.there; place = h.place; is = λ s. e s ∙ h.is (rest_of s) }
within old mid new part next rest_of (TooDeep p) e h =
    record { first = h.first; rest = h.rest; there = h.there; place = h.place; is = λ s. e s ∙ h.is (rest_of s) }
within old mid new part next rest_of (TooMany n) e h = absurd h
within old mid new part next rest_of (Unknown p) e h = absurd h
within old mid new part next rest_of (Twice p) e h = absurd h
within old mid new part next rest_of (Lattice l) e h = absurd h
within old mid new part next rest_of Memory e h = tt
within old mid new part next rest_of (Size p) e h = absurd h
within old mid new part next rest_of (Misuse p) e h = absurd h

-- a sign and a keyword are known by their numbers
signs : List Sign
signs = Assign ∷ Colon ∷ Semicolon ∷ Comma ∷ LeftRound ∷ RightRound ∷ LeftBrace ∷ RightBrace ∷ LeftSquare ∷ RightSquare ∷ At ∷ Plus ∷ Minus ∷ Star ∷ Slash ∷
    Percent ∷ Equal ∷ NotEqual ∷ LessEqual ∷ Less ∷ GreaterEqual ∷ Greater ∷ []

sign_again : (s : Sign) → get_or signs (sign_code s) At ≡ s
unfolding signs
sign_again Assign = refl
sign_again s = refl

keys : List Keyword
keys = Labels ∷ Order ∷ Var ∷ Skip ∷ If ∷ Then ∷ Else ∷ While ∷ Do ∷ Mitigate ∷ Sleep ∷ []

key_again : (k : Keyword) → get_or keys (key_code k) Labels ≡ k
unfolding keys
key_again Labels = refl
key_again k = refl

pub sign_is : (g : Sign) (s : Symbol) → is_sign g s ≡ true → s ≡ word (sign g)
sign_is g (word (sign t)) e = ap (λ x. word (sign x)) (sym (sign_again t) ∙ ap (λ n. get_or signs n At) (eqb-true (sign_code t) (sign_code g) e) ∙ sign_again g)
sign_is g (word (key k)) e = cc
sign_is g (word (number n)) e = cc
sign_is g (word (name w)) e = cc
sign_is g the_end e = cc

pub key_is : (g : Keyword) (s : Symbol) → is_key g s ≡ true → s ≡ word (key g)
key_is g (word (key t)) e = ap (λ x. word (key x)) (sym (key_again t) ∙ ap (λ n. get_or keys n Labels) (eqb-true (key_code t) (key_code g) e) ∙ key_again g)
key_is g (word (sign k)) e = cc
key_is g (word (number n)) e = cc
key_is g (word (name w)) e = cc
key_is g the_end e = cc

end_is : (s : Symbol) → is_end s ≡ true → s ≡ the_end
end_is (word w) e = cc
end_is the_end e = refl

pub symbol_is : (g s : Symbol) → is g s ≡ true → s ≡ g
symbol_is (word (key k)) s e = key_is k s e
symbol_is (word (sign g)) s e = sign_is g s e
symbol_is (word (number n)) s e = cc
symbol_is (word (name w)) s e = cc
symbol_is the_end s e = end_is s e

pub told_is : (b : Told) (s : Symbol) → b.symbol ≡ s → b ≡ record { symbol = s; pos = b.pos }
told_is b s e = ap (λ v. record { symbol = v; pos = b.pos }) e

pub took_at : (g : Symbol) (old new : State) → is g (head_symbol old.words) ≡ true → Passed old new → Took g old new
took_at g old new e p =
    let w : p.first.symbol ≡ g = sym (ap head_symbol p.was) ∙ symbol_is g _ e in
    record {
      place = p.first.pos;
      was = p.was ∙ ap (λ b. b ∷ new.words) (told_is p.first g w);
      counts = p.counts ∙ ap (count old.counts) w;
      goes = λ s. passed (want g ∷ s) s p (ap (λ b. cond b (Some s) None) e);
      shorter = p.shorter;
      low = p.low;
      fault = p.fault;
      marks = p.marks;
    }

pub took : (g : Symbol) (r : Result Unit ParseFault) (old new : State) → is g (head_symbol old.words) ≡ true
    → MatchResult r (λ _. Passed old new) (Over old new) → MatchResult r (λ _. Took g old new) (Refused (want g) old new)
took g (Ok u) old new e p = took_at g old new e p
took g (Err f) old new e p = passes old new (want g) f (λ s. (s, ap (λ b. cond b (Some s) None) e)) p
