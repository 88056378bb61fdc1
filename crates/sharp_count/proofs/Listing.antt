-- All lists of k numbers below b that never fall.
use Rattle.std.proofs.Common.{◌≡◌, ℕ, zero, suc, ◌+◌, List, [], ◌∷◌, ◌++◌, length, refl, sym, ap, subst, inl, inr, ⊎_elim, arith, length-append}
use Rattle.std.proofs.lemmas.Bool.{cases_eq}
use Rattle.leak_bound.specs.Records.{Each}
use Rattle.leak_bound.proofs.Few.{Each-map, Each-append}
use Rattle.leak_bound.specs.Rising.{rising}
use Rattle.sharp_count.specs.Lists.{NeverFalling, IsAmong, AllDiffer, RisingCounts}
use Rattle.leak_bound.proofs.Choose.{pascal, rising-none, rising-zero}

abbrev pub cons_all : ℕ → List (List ℕ) → List (List ℕ)
cons_all m [] = []
cons_all m (xs ∷ all) = (m ∷ xs) ∷ cons_all m all

-- those of c numbers from m on
abbrev pub listing : ℕ → ℕ → ℕ → List (List ℕ)
listing m c zero = [] ∷ []
listing m zero (suc k) = []
listing m (suc c) (suc k) = cons_all m (listing m (suc c) k) ++ listing (suc m) c (suc k)

length-cons_all : (m : ℕ) (all : List (List ℕ)) → length (cons_all m all) ≡ length all
length-cons_all m [] = refl
length-cons_all m (xs ∷ all) = ap suc (length-cons_all m all)

pub length-listing : (m c k : ℕ) → length (listing m c k) ≡ rising c k
length-listing m c zero = sym (rising-none c)
length-listing m zero (suc k) = sym (rising-zero k)
length-listing m (suc c) (suc k) =
    omega (
      arith,
      length-append (cons_all m (listing m (suc c) k)) (listing (suc m) c (suc k)),
      length-cons_all m (listing m (suc c) k),
      length-listing m (suc c) k,
      length-listing (suc m) c (suc k),
      pascal c k,
    )

each-cons_all : (P Q : List ℕ → Type 0) (m : ℕ) → ((xs : List ℕ) → P xs → Q (m ∷ xs)) → (all : List (List ℕ)) → Each P all → Each Q (cons_all m all)
each-cons_all P Q m f [] h = tt
each-cons_all P Q m f (xs ∷ all) h = (f xs h.0, each-cons_all P Q m f all h.1)

lower : (m b k : ℕ) (xs : List ℕ) → NeverFalling (suc m) b (suc k) xs → NeverFalling m b (suc k) xs
lower m b k [] h = h
lower m b k (x ∷ xs) h = let up = h.0 in (omega arith, h.1, h.2)

pub each_falls : (b m c k : ℕ) → m + c ≡ b → Each (NeverFalling m b k) (listing m c k)
each_falls b m c zero e = (refl, tt)
each_falls b m zero (suc k) e = tt
each_falls b m (suc c) (suc k) e =
    Each-append (NeverFalling m b (suc k)) (cons_all m (listing m (suc c) k)) (listing (suc m) c (suc k))
    (each-cons_all (NeverFalling m b k) (NeverFalling m b (suc k)) m (λ xs h. (omega arith, omega (arith, e), h)) (listing m (suc c) k)
    (each_falls b m (suc c) k e))
    (Each-map (NeverFalling (suc m) b (suc k)) (NeverFalling m b (suc k)) (lower m b k) (listing (suc m) c (suc k))
    (each_falls b (suc m) c (suc k) (omega (arith, e))))

pub among_left : {X : Type 0} (x : X) (a b : List X) → IsAmong x a → IsAmong x (a ++ b)
among_left x [] b h = absurd h
among_left x (y ∷ a) b (inl e) = inl e
among_left x (y ∷ a) b (inr h) = inr (among_left x a b h)

pub among_right : {X : Type 0} (x : X) (a b : List X) → IsAmong x b → IsAmong x (a ++ b)
among_right x [] b h = h
among_right x (y ∷ a) b h = inr (among_right x a b h)

among-cons_all : (m : ℕ) (xs : List ℕ) (all : List (List ℕ)) → IsAmong xs all → IsAmong (m ∷ xs) (cons_all m all)
among-cons_all m xs [] h = absurd h
among-cons_all m xs (ys ∷ all) (inl e) = inl (ap (λ z. m ∷ z) e)
among-cons_all m xs (ys ∷ all) (inr h) = inr (among-cons_all m xs all h)

pub has_all : (b m c k : ℕ) (xs : List ℕ) → m + c ≡ b → NeverFalling m b k xs → IsAmong xs (listing m c k)
has_all b m c zero xs e h = inl h
has_all b m zero (suc k) [] e h = absurd h
has_all b m zero (suc k) (x ∷ xs) e h = let low = h.0 in let up = h.1 in absurd (omega (arith, e))
has_all b m (suc c) (suc k) [] e h = absurd h
has_all b m (suc c) (suc k) (x ∷ xs) e h =
    let low = h.0 in
    ⊎_elim
    (λ (q : x ≡ m).
    among_left (x ∷ xs) (cons_all m (listing m (suc c) k)) (listing (suc m) c (suc k))
    (subst (λ z. IsAmong (z ∷ xs) (cons_all m (listing m (suc c) k))) (sym q)
    (among-cons_all m xs (listing m (suc c) k) (has_all b m (suc c) k xs e (subst (λ z. NeverFalling z b k xs) q h.2)))))
    (λ (ne : x ≡ m → ⊥).
    among_right (x ∷ xs) (cons_all m (listing m (suc c) k)) (listing (suc m) c (suc k))
    (has_all b (suc m) c (suc k) (x ∷ xs) (omega (arith, e)) (omega arith, h.1, h.2)))
    (cases_eq x m)

pub differ-append : {X : Type 0} (a b : List X) → AllDiffer a → AllDiffer b → Each (λ x. Each (λ y. x ≡ y → ⊥) b) a → AllDiffer (a ++ b)
differ-append [] b h k d = k
differ-append (x ∷ a) b h k d = (Each-append (λ y. x ≡ y → ⊥) a b h.0 d.0, differ-append a b h.1 k d.1)

differ-cons_all : (m : ℕ) (all : List (List ℕ)) → AllDiffer all → AllDiffer (cons_all m all)
differ-cons_all m [] h = tt
differ-cons_all m (xs ∷ all) h =
    (each-cons_all (λ ys. xs ≡ ys → ⊥) (λ ys. m ∷ xs ≡ ys → ⊥) m (λ ys ne e. ne (tails m xs ys e)) all h.0, differ-cons_all m all h.1)
  where
    tails : (m : ℕ) (xs ys : List ℕ) → m ∷ xs ≡ m ∷ ys → xs ≡ ys
    tails m xs ys e = cc

-- what begins with m is not among those from m + 1 on
apart : (b m k : ℕ) (xs ys : List ℕ) → NeverFalling (suc m) b (suc k) ys → m ∷ xs ≡ ys → ⊥
apart b m k xs ys h e = let g = subst (λ z. NeverFalling (suc m) b (suc k) z) (sym e) h in let low = g.0 in omega arith

pub each_true : {X : Type 0} (P : X → Type 0) → ((x : X) → P x) → (all : List X) → Each P all
each_true P f [] = tt
each_true P f (x ∷ all) = (f x, each_true P f all)

pub all_differ : (m c k : ℕ) → AllDiffer (listing m c k)
all_differ m c zero = (tt, tt)
all_differ m zero (suc k) = tt
all_differ m (suc c) (suc k) =
    let b = suc m + c in
    let rest = listing (suc m) c (suc k) in
    let falls : Each (NeverFalling (suc m) b (suc k)) rest = each_falls b (suc m) c (suc k) refl in
    differ-append (cons_all m (listing m (suc c) k)) rest (differ-cons_all m (listing m (suc c) k) (all_differ m (suc c) k)) (all_differ (suc m) c (suc k))
    (each-cons_all (λ xs. Unit {0}) (λ xs. Each (λ ys. xs ≡ ys → ⊥) rest) m
    (λ xs u. Each-map (NeverFalling (suc m) b (suc k)) (λ ys. m ∷ xs ≡ ys → ⊥) (λ ys h. apart b m k xs ys h) rest falls)
    (listing m (suc c) k) (each_true (λ xs. Unit {0}) (λ xs. tt) (listing m (suc c) k)))

pub rising_counts : RisingCounts
rising_counts b k = (
  listing 0 b k,
  record { each = each_falls b 0 b k (omega arith); whole = λ xs h. has_all b 0 b k xs (omega arith) h; differ = all_differ 0 b k },
  length-listing 0 b k,
)
