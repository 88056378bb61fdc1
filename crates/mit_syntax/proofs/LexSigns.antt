-- The table of signs. What is said of all signs is said once, by `each_sign`.
use Rattle.std.proofs.Common.{◌≡◌, ◌≤◌, refl, ap, ◌∙◌, sym, subst, ℕ, List, [], ◌∷◌, ◌++◌, length, Bool, true, false, cond, ◌&&◌, ◌==◌, Option, Some, None}
use Rattle.std.proofs.Common.{arith}
use Rattle.std.proofs.lemmas.Bool.{eqb-true}
use Rattle.std.specs.Char.{is_ascii_digit, is_ascii_alphabetic}
use Rattle.label_lattice.specs.Names.{Each, IsWord}
use Rattle.mit_syntax.specs.declared.token.Keyword.{Keyword}
use Rattle.mit_syntax.specs.declared.token.Keyword.TheVariants.{Labels, Order, Var, Skip, If, Then, Else, While, Do, Mitigate, Sleep}
use Rattle.mit_syntax.specs.declared.token.Sign.{Sign}
use Rattle.mit_syntax.specs.declared.token.Sign.TheVariants.{Assign, Colon, Semicolon, Comma, LeftRound, RightRound, LeftBrace, RightBrace, LeftSquare}
use Rattle.mit_syntax.specs.declared.token.Sign.TheVariants.{RightSquare, At, Plus, Minus, Star, Slash, Percent, Equal, NotEqual, LessEqual, Less}
use Rattle.mit_syntax.specs.declared.token.Sign.TheVariants.{GreaterEqual, Greater}
use Rattle.mit_syntax.specs.Lexemes.{is_white, StopsAt, key_text, sign_text}
use Rattle.mit_syntax.specs.Cut.{in_line, starts_comment}
use Rattle.mit_syntax.specs.TokenSteps.{second_is_equal, sign_front}
use Rattle.mit_syntax.proofs.LexBytes.{differ, head_of, tail_of, heads}

pub each_sign : (P : Sign → Type 0) → (P Assign × P Colon × P Semicolon × P Comma × P LeftRound × P RightRound × P LeftBrace × P RightBrace × P LeftSquare
    × P RightSquare × P At × P Plus × P Minus × P Star × P Slash × P Percent × P Equal × P NotEqual × P LessEqual × P Less × P GreaterEqual × P Greater)
    → (s : Sign) → P s
each_sign P h Assign = h.0
each_sign P h Colon = h.1
each_sign P h Semicolon = h.2
each_sign P h Comma = h.3
each_sign P h LeftRound = h.4
each_sign P h RightRound = h.5
each_sign P h LeftBrace = h.6
each_sign P h RightBrace = h.7
each_sign P h LeftSquare = h.8
each_sign P h RightSquare = h.9
each_sign P h At = h.10
each_sign P h Plus = h.11
each_sign P h Minus = h.12
each_sign P h Star = h.13
each_sign P h Slash = h.14
each_sign P h Percent = h.15
each_sign P h Equal = h.16
each_sign P h NotEqual = h.17
each_sign P h LessEqual = h.18
each_sign P h Less = h.19
each_sign P h GreaterEqual = h.20
each_sign P h Greater = h.21

pub each_key : (P : Keyword → Type 0) → (P Labels × P Order × P Var × P Skip × P If × P Then × P Else × P While × P Do × P Mitigate × P Sleep) → (k : Keyword)
    → P k
each_key P h Labels = h.0
each_key P h Order = h.1
each_key P h Var = h.2
each_key P h Skip = h.3
each_key P h If = h.4
each_key P h Then = h.5
each_key P h Else = h.6
each_key P h While = h.7
each_key P h Do = h.8
each_key P h Mitigate = h.9
each_key P h Sleep = h.10

-- a keyword is a word
pub key_opens : (k : Keyword) → IsWord (key_text k)
key_opens = each_key (λ k. IsWord (key_text k)) (
  (refl, (refl, (refl, (refl, (refl, (refl, tt)))))),
  (refl, (refl, (refl, (refl, (refl, tt))))),
  (refl, (refl, (refl, tt))),
  (refl, (refl, (refl, (refl, tt)))),
  (refl, (refl, tt)),
  (refl, (refl, (refl, (refl, tt)))),
  (refl, (refl, (refl, (refl, tt)))),
  (refl, (refl, (refl, (refl, (refl, tt))))),
  (refl, (refl, tt)),
  (refl, (refl, (refl, (refl, (refl, (refl, (refl, (refl, tt)))))))),
  (refl, (refl, (refl, (refl, (refl, tt))))),
)

-- the first byte of a sign, and those after it
abbrev pub sign_first : Sign → ℕ
sign_first s = head_of (sign_text s)

abbrev pub sign_others : Sign → List ℕ
sign_others s = tail_of (sign_text s)

pub sign_parts : (s : Sign) → sign_text s ≡ sign_first s ∷ sign_others s
sign_parts = each_sign (λ s. sign_text s ≡ sign_first s ∷ sign_others s) (
  refl,
  refl,
  refl,
  refl,
  refl,
  refl,
  refl,
  refl,
  refl,
  refl,
  refl,
  refl,
  refl,
  refl,
  refl,
  refl,
  refl,
  refl,
  refl,
  refl,
  refl,
  refl,
)

-- no sign begins with a letter, a digit or white space
pub no_letter_first : (s : Sign) → is_ascii_alphabetic (sign_first s) ≡ false
no_letter_first = each_sign (λ s. is_ascii_alphabetic (sign_first s) ≡ false) (
  refl,
  refl,
  refl,
  refl,
  refl,
  refl,
  refl,
  refl,
  refl,
  refl,
  refl,
  refl,
  refl,
  refl,
  refl,
  refl,
  refl,
  refl,
  refl,
  refl,
  refl,
  refl,
)

pub no_digit_first : (s : Sign) → is_ascii_digit (sign_first s) ≡ false
no_digit_first = each_sign (λ s. is_ascii_digit (sign_first s) ≡ false) (
  refl,
  refl,
  refl,
  refl,
  refl,
  refl,
  refl,
  refl,
  refl,
  refl,
  refl,
  refl,
  refl,
  refl,
  refl,
  refl,
  refl,
  refl,
  refl,
  refl,
  refl,
  refl,
)

pub no_white_first : (s : Sign) → is_white (sign_first s) ≡ false
no_white_first = each_sign (λ s. is_white (sign_first s) ≡ false) (
  refl,
  refl,
  refl,
  refl,
  refl,
  refl,
  refl,
  refl,
  refl,
  refl,
  refl,
  refl,
  refl,
  refl,
  refl,
  refl,
  refl,
  refl,
  refl,
  refl,
  refl,
  refl,
)

-- a sign keeps to its line
pub sign_stays : (s : Sign) → Each in_line (sign_text s)
sign_stays = each_sign (λ s. Each in_line (sign_text s)) (
  (refl, (refl, tt)),
  (refl, tt),
  (refl, tt),
  (refl, tt),
  (refl, tt),
  (refl, tt),
  (refl, tt),
  (refl, tt),
  (refl, tt),
  (refl, tt),
  (refl, tt),
  (refl, tt),
  (refl, tt),
  (refl, tt),
  (refl, tt),
  (refl, tt),
  (refl, (refl, tt)),
  (refl, (refl, tt)),
  (refl, (refl, tt)),
  (refl, tt),
  (refl, (refl, tt)),
  (refl, tt),
)

pub no_sign : {X : Type 0} (test : ℕ → Bool) (s : Sign) (a : ℕ) (w q : List ℕ) → test (sign_first s) ≡ false → test a ≡ true → a ∷ w ≡ sign_text s ++ q → X
no_sign test s a w q never h e =
    let same : a ≡ sign_first s = heads a (sign_first s) w (sign_others s ++ q) (e ∙ ap (λ l. l ++ q) (sign_parts s)) in
    differ (sym h ∙ ap test same ∙ never)

-- what the code takes for the front of a text
abbrev pub taken : List ℕ → Option (Sign × ℕ)
taken text = sign_front (head_of text) (second_is_equal text)

not_equal : (c : ℕ) (rest : List ℕ) → StopsAt (λ b. b == 61) rest → second_is_equal (c ∷ rest) ≡ false
not_equal c [] h = refl
not_equal c (b ∷ rest) h = h

-- where no `=` follows, it takes the sign itself
pub taken_closed : (rest : List ℕ) → StopsAt (λ b. b == 61) rest → (s : Sign) → taken (sign_text s ++ rest) ≡ Some (s, length (sign_text s))
taken_closed rest h =
    each_sign (λ s. taken (sign_text s ++ rest) ≡ Some (s, length (sign_text s))) (
      refl,
      ap (sign_front 58) (not_equal 58 rest h),
      refl,
      refl,
      refl,
      refl,
      refl,
      refl,
      refl,
      refl,
      refl,
      refl,
      refl,
      refl,
      refl,
      refl,
      refl,
      refl,
      refl,
      ap (sign_front 60) (not_equal 60 rest h),
      refl,
      ap (sign_front 62) (not_equal 62 rest h),
    )

-- what it takes is no shorter than any sign at the front
abbrev pub TakesEnough : List ℕ → Sign → Type 0
TakesEnough text s = (t : Sign × ℕ) × (taken text ≡ Some t) × (length (sign_text s) ≤ t.1)

takes_colon : (e : Bool) → (t : Sign × ℕ) × (cond e (Some (Assign, 2)) (Some (Colon, 1)) ≡ Some t) × (1 ≤ t.1)
takes_colon true = ((Assign, 2), refl, omega arith)
takes_colon false = ((Colon, 1), refl, omega arith)

takes_less : (e : Bool) → (t : Sign × ℕ) × (cond e (Some (LessEqual, 2)) (Some (Less, 1)) ≡ Some t) × (1 ≤ t.1)
takes_less true = ((LessEqual, 2), refl, omega arith)
takes_less false = ((Less, 1), refl, omega arith)

takes_greater : (e : Bool) → (t : Sign × ℕ) × (cond e (Some (GreaterEqual, 2)) (Some (Greater, 1)) ≡ Some t) × (1 ≤ t.1)
takes_greater true = ((GreaterEqual, 2), refl, omega arith)
takes_greater false = ((Greater, 1), refl, omega arith)

pub takes : (q : List ℕ) (s : Sign) → TakesEnough (sign_text s ++ q) s
takes q =
    each_sign (λ s. TakesEnough (sign_text s ++ q) s) (
      ((Assign, 2), refl, omega arith),
      takes_colon (second_is_equal (58 ∷ q)),
      ((Semicolon, 1), refl, omega arith),
      ((Comma, 1), refl, omega arith),
      ((LeftRound, 1), refl, omega arith),
      ((RightRound, 1), refl, omega arith),
      ((LeftBrace, 1), refl, omega arith),
      ((RightBrace, 1), refl, omega arith),
      ((LeftSquare, 1), refl, omega arith),
      ((RightSquare, 1), refl, omega arith),
      ((At, 1), refl, omega arith),
      ((Plus, 1), refl, omega arith),
      ((Minus, 1), refl, omega arith),
      ((Star, 1), refl, omega arith),
      ((Slash, 1), refl, omega arith),
      ((Percent, 1), refl, omega arith),
      ((Equal, 2), refl, omega arith),
      ((NotEqual, 2), refl, omega arith),
      ((LessEqual, 2), refl, omega arith),
      takes_less (second_is_equal (60 ∷ q)),
      ((GreaterEqual, 2), refl, omega arith),
      takes_greater (second_is_equal (62 ∷ q)),
    )

-- the sign that it takes is there
abbrev pub IsThere : List ℕ → Sign × ℕ → Type 0
IsThere text t = (r : List ℕ) × (text ≡ sign_text t.0 ++ r) × (length (sign_text t.0) ≡ t.1)

abbrev AllThere : List ℕ → Option (Sign × ℕ) → Type 0
AllThere text o = (t : Sign × ℕ) → o ≡ Some t → IsThere text t

none_there : (text : List ℕ) → AllThere text None
none_there text t e = cc

there : (text : List ℕ) (t : Sign × ℕ) → IsThere text t → AllThere text (Some t)
there text t h u e = let same : t ≡ u = cc in subst (IsThere text) same h

one_of : (x : ℕ) (xs : List ℕ) (c : ℕ) (here other : Option (Sign × ℕ)) (e : Bool) → (x == c) ≡ e → (x ≡ c → AllThere (x ∷ xs) here) → AllThere (x ∷ xs) other
    → AllThere (x ∷ xs) (cond e here other)
one_of x xs c here other true q h k = h (eqb-true x c q)
one_of x xs c here other false q h k = k

two_of : (x : ℕ) (xs : List ℕ) (here other : Option (Sign × ℕ)) (e : Bool) → second_is_equal (x ∷ xs) ≡ e
    → ((r : List ℕ) → xs ≡ 61 ∷ r → AllThere (x ∷ xs) here) → AllThere (x ∷ xs) other
    → AllThere (x ∷ xs) (cond e here other)
two_of x xs here other false q h k = k
two_of x [] here other true q h k = differ (sym q)
two_of x (y ∷ r) here other true q h k = h r (ap (λ z. z ∷ r) (eqb-true y 61 q))

single : (x : ℕ) (xs : List ℕ) (c : ℕ) → x ≡ c → x ∷ xs ≡ c ∷ xs
single x xs c e = ap (λ z. z ∷ xs) e

double : (x : ℕ) (xs : List ℕ) (c : ℕ) (r : List ℕ) → x ≡ c → xs ≡ 61 ∷ r → x ∷ xs ≡ c ∷ 61 ∷ r
double x xs c r e h = single x xs c e ∙ ap (λ l. c ∷ l) h

pub taken_there : (x : ℕ) (xs : List ℕ) → AllThere (x ∷ xs) (taken (x ∷ xs))
taken_there x xs =
    one_of x xs 58 _ _ (x == 58) refl
    (λ e. two_of x xs (Some (Assign, 2)) (Some (Colon, 1)) (second_is_equal (x ∷ xs)) refl
    (λ r h. there (x ∷ xs) (Assign, 2) (r, double x xs 58 r e h, refl)) (there (x ∷ xs) (Colon, 1) (xs, single x xs 58 e, refl))) (
    one_of x xs 60 _ _ (x == 60) refl (λ e. two_of x xs (Some (LessEqual, 2)) (Some (Less, 1)) (second_is_equal (x ∷ xs)) refl
    (λ r h. there (x ∷ xs) (LessEqual, 2) (r, double x xs 60 r e h, refl)) (there (x ∷ xs) (Less, 1) (xs, single x xs 60 e, refl))) (
    one_of x xs 62 _ _ (x == 62) refl (λ e. two_of x xs (Some (GreaterEqual, 2)) (Some (Greater, 1)) (second_is_equal (x ∷ xs)) refl
    (λ r h. there (x ∷ xs) (GreaterEqual, 2) (r, double x xs 62 r e h, refl)) (there (x ∷ xs) (Greater, 1) (xs, single x xs 62 e, refl))) (
    one_of x xs 61 _ _ (x == 61) refl
    (λ e. two_of x xs (Some (Equal, 2)) None (second_is_equal (x ∷ xs)) refl
    (λ r h. there (x ∷ xs) (Equal, 2) (r, double x xs 61 r e h, refl)) (none_there (x ∷ xs))) (
    one_of x xs 33 _ _ (x == 33) refl
    (λ e. two_of x xs (Some (NotEqual, 2)) None (second_is_equal (x ∷ xs)) refl
    (λ r h. there (x ∷ xs) (NotEqual, 2) (r, double x xs 33 r e h, refl)) (none_there (x ∷ xs))) (
    one_of x xs 59 _ _ (x == 59) refl (λ e. there (x ∷ xs) (Semicolon, 1) (xs, single x xs 59 e, refl)) (
    one_of x xs 44 _ _ (x == 44) refl (λ e. there (x ∷ xs) (Comma, 1) (xs, single x xs 44 e, refl)) (
    one_of x xs 40 _ _ (x == 40) refl (λ e. there (x ∷ xs) (LeftRound, 1) (xs, single x xs 40 e, refl)) (
    one_of x xs 41 _ _ (x == 41) refl (λ e. there (x ∷ xs) (RightRound, 1) (xs, single x xs 41 e, refl)) (
    one_of x xs 123 _ _ (x == 123) refl (λ e. there (x ∷ xs) (LeftBrace, 1) (xs, single x xs 123 e, refl)) (
    one_of x xs 125 _ _ (x == 125) refl (λ e. there (x ∷ xs) (RightBrace, 1) (xs, single x xs 125 e, refl)) (
    one_of x xs 91 _ _ (x == 91) refl (λ e. there (x ∷ xs) (LeftSquare, 1) (xs, single x xs 91 e, refl)) (
    one_of x xs 93 _ _ (x == 93) refl (λ e. there (x ∷ xs) (RightSquare, 1) (xs, single x xs 93 e, refl)) (
    one_of x xs 64 _ _ (x == 64) refl (λ e. there (x ∷ xs) (At, 1) (xs, single x xs 64 e, refl)) (
    one_of x xs 43 _ _ (x == 43) refl (λ e. there (x ∷ xs) (Plus, 1) (xs, single x xs 43 e, refl)) (
    one_of x xs 45 _ _ (x == 45) refl (λ e. there (x ∷ xs) (Minus, 1) (xs, single x xs 45 e, refl)) (
    one_of x xs 42 _ _ (x == 42) refl (λ e. there (x ∷ xs) (Star, 1) (xs, single x xs 42 e, refl)) (
    one_of x xs 47 _ _ (x == 47) refl (λ e. there (x ∷ xs) (Slash, 1) (xs, single x xs 47 e, refl)) (
    one_of x xs 37 _ _ (x == 37) refl (λ e. there (x ∷ xs) (Percent, 1) (xs, single x xs 37 e, refl)) (
    none_there (x ∷ xs))))))))))))))))))))

-- no comment begins at a sign that no `/` follows
slash_alone : (rest : List ℕ) → StopsAt (λ b. b == 47) rest → starts_comment (47 ∷ rest) ≡ false
slash_alone [] h = refl
slash_alone (b ∷ rest) h = h

other_alone : (c : ℕ) (rest : List ℕ) → (c == 47) ≡ false → starts_comment (c ∷ rest) ≡ false
other_alone c [] h = refl
other_alone c (b ∷ rest) h = ap (λ x. x && (b == 47)) h

pub sign_no_comment : (rest : List ℕ) → StopsAt (λ b. b == 47) rest → (s : Sign) → starts_comment (sign_text s ++ rest) ≡ false
sign_no_comment rest h = each_sign (λ s. starts_comment (sign_text s ++ rest) ≡ false) (
  refl,
  other_alone 58 rest refl,
  other_alone 59 rest refl,
  other_alone 44 rest refl,
  other_alone 40 rest refl,
  other_alone 41 rest refl,
  other_alone 123 rest refl,
  other_alone 125 rest refl,
  other_alone 91 rest refl,
  other_alone 93 rest refl,
  other_alone 64 rest refl,
  other_alone 43 rest refl,
  other_alone 45 rest refl,
  other_alone 42 rest refl,
  slash_alone rest h,
  other_alone 37 rest refl,
  refl,
  refl,
  refl,
  other_alone 60 rest refl,
  refl,
  other_alone 62 rest refl,
)

-- a keyword or a sign is known by its text
abbrev key_front : List ℕ → Keyword
key_front [] = Labels
key_front (b ∷ w) =
    cond (b == 108) Labels (cond (b == 111) Order
    (cond (b == 118) Var (cond (b == 105) If
    (cond (b == 116) Then (cond (b == 101) Else (cond (b == 119) While (cond (b == 100) Do (cond (b == 109) Mitigate
    (cond (head_of w == 107) Skip Sleep)))))))))

pub one_key : (a b : Keyword) → key_text a ≡ key_text b → a ≡ b
one_key a b e = sym (again a) ∙ ap key_front e ∙ again b
  where
    again : (k : Keyword) → key_front (key_text k) ≡ k
    again = each_key (λ k. key_front (key_text k) ≡ k) (refl, refl, refl, refl, refl, refl, refl, refl, refl, refl, refl)

-- the sign that the code takes for a text that is one
abbrev sign_named : Option (Sign × ℕ) → Sign
sign_named None = Assign
sign_named (Some t) = t.0

pub one_sign : (s t : Sign) → sign_text s ≡ sign_text t → s ≡ t
one_sign s t e = sym (again s) ∙ ap (λ l. sign_named (taken l)) e ∙ again t
  where
    again : (s : Sign) → sign_named (taken (sign_text s)) ≡ s
    again = each_sign (λ s. sign_named (taken (sign_text s)) ≡ s) (
      refl,
      refl,
      refl,
      refl,
      refl,
      refl,
      refl,
      refl,
      refl,
      refl,
      refl,
      refl,
      refl,
      refl,
      refl,
      refl,
      refl,
      refl,
      refl,
      refl,
      refl,
      refl,
    )
