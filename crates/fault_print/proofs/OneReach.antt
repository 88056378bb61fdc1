-- How far words begin what the grammar allows, and what can stand behind these, is one.
use Rattle.std.proofs.Common.{◌≡◌, ◌<◌, ◌≤◌, ◌+◌, refl, sym, ap, ◌∙◌, subst, ℕ, List, [], ◌∷◌, ◌++◌, append_assoc, length, take, drop}
use Rattle.std.proofs.Common.{◌⊎◌, inl, inr, ⊎_elim, arith}
use Rattle.std.specs.Prelude.{pos}
use Rattle.std.proofs.lemmas.List.{take-append-drop, take-take}
use Rattle.mit_syntax.specs.declared.token.Sign.{Sign as SignType}
use Rattle.mit_syntax.specs.declared.token.Sign.TheVariants.{Assign, Colon, Semicolon, Comma, LeftRound, RightRound, LeftBrace, RightBrace, LeftSquare}
use Rattle.mit_syntax.specs.declared.token.Sign.TheVariants.{RightSquare, At, Plus, Minus, Star, Slash, Percent, Equal, NotEqual, LessEqual, Less}
use Rattle.mit_syntax.specs.declared.token.Sign.TheVariants.{GreaterEqual, Greater}
use Rattle.mit_syntax.specs.Chunks.{key, sign, number, name}
use Rattle.mit_parser.specs.Words.{word, the_end, Told, key_code}
use Rattle.mit_parser.specs.Spells.{Spells, Begins}
use Rattle.next_tokens.specs.declared.sort.Sort.{Sort}
use Rattle.next_tokens.specs.declared.sort.Sort.TheVariants.{Key, Sign, Name, Number, End}
use Rattle.next_tokens.specs.Sorts.{sort_of}
use Rattle.next_tokens.specs.Following.{IsOneOf, AreSomeOf, all_sorts, AreNext, Reaches}

-- ---- how far

begins_before : (p r : List Told) → Begins (p ++ r) → Begins p
begins_before p r (w, t, s) = (r ++ w, t, subst (Spells t) (append_assoc p r w) s)

-- a front of what begins a spelling begins one
begins_front : (words : List Told) (n m : ℕ) → n ≤ m → Begins (take m words) → Begins (take n words)
begins_front words n m h k =
    subst Begins (take-take n m words h) (begins_before (take n (take m words)) (drop n (take m words))
    (subst Begins (sym (take-append-drop n (take m words))) k))

no_further : (words : List Told) (n m : ℕ) (xs ys : List Sort) → Reaches words n xs → Reaches words m ys → n < m → ⊥
no_further words n m xs ys h k less =
    let within : m ≤ length words = k.within in
    h.ends (omega (arith, less, within)) (begins_front words (n + 1) m (omega (arith, less)) k.begins)

one_taken : (words : List Told) (n m : ℕ) (xs ys : List Sort) → Reaches words n xs → Reaches words m ys → n ≡ m
one_taken words n m xs ys h k =
    ⊎_elim (λ (l : n < m). absurd (no_further words n m xs ys h k l))
    (λ (l : m ≤ n). ⊎_elim (λ (q : m < n). absurd (no_further words m n ys xs k h q)) (λ (q : n ≤ m). omega (arith, l, q)) (or_more m n)) (or_more n m)
  where
    or_more : (a b : ℕ) → (a < b) ⊎ (b ≤ a)
    or_more a b = grind arith

-- ---- what can stand there

-- the place of a sort among all
abbrev sign_place : SignType → ℕ
sign_place Assign = 13
sign_place Colon = 14
sign_place Semicolon = 15
sign_place Comma = 16
sign_place LeftRound = 17
sign_place RightRound = 18
sign_place LeftBrace = 19
sign_place RightBrace = 20
sign_place LeftSquare = 21
sign_place RightSquare = 22
sign_place At = 23
sign_place Plus = 24
sign_place Minus = 25
sign_place Star = 26
sign_place Slash = 27
sign_place Percent = 28
sign_place Equal = 29
sign_place NotEqual = 30
sign_place Less = 31
sign_place LessEqual = 32
sign_place Greater = 33
sign_place GreaterEqual = 34

abbrev place : Sort → ℕ
place Name = 0
place Number = 1
place (Key k) = 2 + key_code k
place (Sign s) = sign_place s
place End = 35

-- each has a place above n, and each one behind another has a greater one
abbrev Rising : ℕ → List Sort → Type 0
Rising n [] = Unit {0}
Rising n (x ∷ xs) = (n ≤ place x) × Rising (place x + 1) xs

rising_less : (n m : ℕ) (xs : List Sort) → n ≤ m → Rising m xs → Rising n xs
rising_less n m [] h r = tt
rising_less n m (x ∷ xs) h r = let k : m ≤ place x = r.0 in (omega (arith, h, k), r.1)

rising_some : (xs ys : List Sort) (n : ℕ) → AreSomeOf xs ys → Rising n ys → Rising n xs
rising_some [] ys n h r = tt
rising_some (x ∷ xs) [] n h r = absurd h
rising_some (x ∷ xs) (y ∷ ys) n (inl h) r =
    let e : place x ≡ place y = ap place h.0 in
    let k : n ≤ place y = r.0 in
    (omega (arith, e, k), subst (λ z. Rising (z + 1) xs) (sym e) (rising_some xs ys (place y + 1) h.1 r.1))
rising_some (x ∷ xs) (y ∷ ys) n (inr h) r =
    let k : n ≤ place y = r.0 in
    rising_less n (place y + 1) (x ∷ xs) (omega (arith, k)) (rising_some (x ∷ xs) ys (place y + 1) h r.1)

-- one of them has a place that is as high
above : (xs : List Sort) (n : ℕ) (x : Sort) → Rising n xs → IsOneOf xs x → n ≤ place x
above [] n x r h = absurd h
above (y ∷ ys) n x r (inl e) = let f : place x ≡ place y = ap place e in let k : n ≤ place y = r.0 in omega (arith, f, k)
above (y ∷ ys) n x r (inr h) =
    let k : n ≤ place y = r.0 in
    let l : place y + 1 ≤ place x = above ys (place y + 1) x r.1 h in
    omega (arith, k, l)

-- the same members
abbrev Same : List Sort → List Sort → Type 0
Same xs ys = ((x : Sort) → IsOneOf xs x → IsOneOf ys x) × ((x : Sort) → IsOneOf ys x → IsOneOf xs x)

-- the first ones of two that rise and have the same members
one_first : (x y : Sort) (xs ys : List Sort) (n : ℕ) → Rising n (x ∷ xs) → Rising n (y ∷ ys) → IsOneOf (y ∷ ys) x → IsOneOf (x ∷ xs) y → x ≡ y
one_first x y xs ys n r q (inl e) k = e
one_first x y xs ys n r q (inr h) (inl e) = sym e
one_first x y xs ys n r q (inr h) (inr k) =
    let a : place y + 1 ≤ place x = above ys (place y + 1) x q.1 h in
    let b : place x + 1 ≤ place y = above xs (place x + 1) y r.1 k in
    absurd (omega (arith, a, b))

rest_of : (x : Sort) (xs ys : List Sort) → Rising (place x + 1) xs → ((z : Sort) → IsOneOf (x ∷ xs) z → IsOneOf (x ∷ ys) z) → (z : Sort)
    → IsOneOf xs z → IsOneOf ys z
rest_of x xs ys r f z h = by (f z (inr h))
  where
    by : IsOneOf (x ∷ ys) z → IsOneOf ys z
    by (inl e) =
        let a : place x + 1 ≤ place z = above xs (place x + 1) z r h in
        let b : place z ≡ place x = ap place e in
        absurd (omega (arith, a, b))
    by (inr k) = k

one_list : (xs ys : List Sort) (n : ℕ) → Rising n xs → Rising n ys → Same xs ys → xs ≡ ys
one_list [] [] n r q s = refl
one_list [] (y ∷ ys) n r q s = absurd (s.1 y (inl refl))
one_list (x ∷ xs) [] n r q s = absurd (s.0 x (inl refl))
one_list (x ∷ xs) (y ∷ ys) n r q s =
    let e : x ≡ y = one_first x y xs ys n r q (s.0 x (inl refl)) (s.1 y (inl refl)) in
    let p : Rising (place y + 1) xs = subst (λ (z : Sort). Rising (place z + 1) xs) e r.1 in
    let t : Same (y ∷ xs) (y ∷ ys) = subst (λ (z : Sort). Same (z ∷ xs) (y ∷ ys)) e s in
    let same : xs ≡ ys = one_list xs ys (place y + 1) p q.1 (rest_of y xs ys p t.0, rest_of y ys xs q.1 t.1) in
    ap (λ (z : Sort). z ∷ xs) e ∙ ap (λ (zs : List Sort). y ∷ zs) same

all_rise : Rising 0 all_sorts
all_rise = search arith

-- a word of each sort
word_for : (x : Sort) → (b : Told) × (sort_of b.symbol ≡ x)
word_for Name = (record { symbol = word (name []); pos = record { line = 0; column = 0 } }, refl)
word_for Number = (record { symbol = word (number (pos 0)); pos = record { line = 0; column = 0 } }, refl)
word_for (Key k) = (record { symbol = word (key k); pos = record { line = 0; column = 0 } }, refl)
word_for (Sign s) = (record { symbol = word (sign s); pos = record { line = 0; column = 0 } }, refl)
word_for End = (record { symbol = the_end; pos = record { line = 0; column = 0 } }, refl)

also : (before : List Told) (xs ys : List Sort) → AreNext before xs → AreNext before ys → (x : Sort) → IsOneOf xs x → IsOneOf ys x
also before xs ys h k x one =
    let w = word_for x in
    subst (IsOneOf ys) w.1 (k.all w.0 (h.only w.0 (subst (IsOneOf xs) (sym w.1) one)))

one_next : (before : List Told) (xs ys : List Sort) → AreNext before xs → AreNext before ys → xs ≡ ys
one_next before xs ys h k =
    one_list xs ys 0 (rising_some xs all_sorts 0 h.order all_rise) (rising_some ys all_sorts 0 k.order all_rise)
    (also before xs ys h k, also before ys xs k h)

pub one_reach : (words : List Told) (n m : ℕ) (xs ys : List Sort) → Reaches words n xs → Reaches words m ys → (n ≡ m) × (xs ≡ ys)
one_reach words n m xs ys h k =
    let e : n ≡ m = one_taken words n m xs ys h k in
    (e, one_next (take m words) xs ys (subst (λ (z : ℕ). AreNext (take z words) xs) e h.next) k.next)
