-- What is near is the front of the list of different tags.
use Rattle.std.proofs.Common.{◌≡◌, ℕ, zero, suc, ◌<◌, ◌≤◌, List, [], ◌∷◌, length, take, Bool, true, false, refl, sym, ap, ◌∙◌, subst, ⊎_elim, arith, Option}
use Rattle.std.proofs.Common.{Some, None}
use Rattle.std.specs.Prelude.{not, cond, eqb, ltb, ◌||◌}
use Rattle.std.specs.List.{filter, list_any}
use Rattle.std.specs.Option.{option_map, option_map_or}
use Rattle.std.proofs.lemmas.Bool.{cases_lt, eqb-true, eq-eqb, lt-ltb, le-ltb, or_parts, not-true, both_ways, false_from_ne_true}
use Rattle.part_cache.specs.History.{since, distinct, is_near}
use Rattle.part_cache.specs.Ways.{absent, Apart, to_front}

abbrev pub other : ℕ → ℕ → Bool
other x y = not (eqb x y)

pub filter_swap : (p q : ℕ → Bool) (xs : List ℕ) → filter p (filter q xs) ≡ filter q (filter p xs)
filter_swap p q [] = refl
filter_swap p q (x ∷ xs) = go (p x) (q x) refl refl (filter_swap p q xs)
  where
    go : (a b : Bool) → p x ≡ a → q x ≡ b → filter p (filter q xs) ≡ filter q (filter p xs)
        → filter p (cond b (x ∷ filter q xs) (filter q xs)) ≡ filter q (cond a (x ∷ filter p xs) (filter p xs))
    go true true e f h = rw (e, f) (ap (λ t. x ∷ t) h)
    go true false e f h = rw f h
    go false true e f h = rw e h
    go false false e f h = h

pub filter_twice : (p : ℕ → Bool) (xs : List ℕ) → filter p (filter p xs) ≡ filter p xs
filter_twice p [] = refl
filter_twice p (x ∷ xs) = go (p x) refl (filter_twice p xs)
  where
    go : (a : Bool) → p x ≡ a → filter p (filter p xs) ≡ filter p xs
        → filter p (cond a (x ∷ filter p xs) (filter p xs)) ≡ cond a (x ∷ filter p xs) (filter p xs)
    go true e h = rw e (ap (λ t. x ∷ t) h)
    go false e h = h

pub length-filter_le : (p : ℕ → Bool) (xs : List ℕ) → length (filter p xs) ≤ length xs
length-filter_le p [] = omega arith
length-filter_le p (x ∷ xs) = go (p x) (length-filter_le p xs)
  where
    go : (a : Bool) → length (filter p xs) ≤ length xs → length (cond a (x ∷ filter p xs) (filter p xs)) ≤ suc (length xs)
    go true h = omega arith
    go false h = omega arith

-- a filter and the list without later duplicates change places
pub distinct-filter : (p : ℕ → Bool) (xs : List ℕ) → distinct (filter p xs) ≡ filter p (distinct xs)
distinct-filter p [] = refl
distinct-filter p (x ∷ xs) = go (p x) refl (distinct-filter p xs)
  where
    -- what is equal to one that does not pass does not pass
    skip : p x ≡ false → (ys : List ℕ) → filter p (filter (other x) ys) ≡ filter p ys
    skip e [] = refl
    skip e (y ∷ ys) = at (eqb x y) refl (skip e ys)
      where
        at : (b : Bool) → eqb x y ≡ b → filter p (filter (other x) ys) ≡ filter p ys
            → filter p (cond (not b) (y ∷ filter (other x) ys) (filter (other x) ys)) ≡ cond (p y) (y ∷ filter p ys) (filter p ys)
        at true f h = let q : p y ≡ false = ap p (sym (eqb-true x y f)) ∙ e in rw q h
        at false f h = ap (λ t. cond (p y) (y ∷ t) t) h

    go : (a : Bool) → p x ≡ a → distinct (filter p xs) ≡ filter p (distinct xs)
        → distinct (cond a (x ∷ filter p xs) (filter p xs)) ≡ cond a (x ∷ filter p (filter (other x) (distinct xs))) (filter p (filter (other x) (distinct xs)))
    go true e h = ap (λ t. x ∷ t) (ap (filter (other x)) h ∙ filter_swap (other x) p (distinct xs))
    go false e h = h ∙ sym (skip e (distinct xs))

-- what came since one that passes
pub since-filter : (p : ℕ → Bool) (tag : ℕ) → p tag ≡ true → (xs : List ℕ) → since tag (filter p xs) ≡ option_map (filter p) (since tag xs)
since-filter p tag passes [] = refl
since-filter p tag passes (x ∷ xs) = go (p x) (eqb x tag) refl refl (since-filter p tag passes xs)
  where
    onto : (o : Option (List ℕ)) → p x ≡ true
        → option_map (λ later. x ∷ later) (option_map (filter p) o) ≡ option_map (filter p) (option_map (λ later. x ∷ later) o)
    onto None e = refl
    onto (Some l) e = rw e refl

    past : (o : Option (List ℕ)) → p x ≡ false → option_map (filter p) o ≡ option_map (filter p) (option_map (λ later. x ∷ later) o)
    past None e = refl
    past (Some l) e = rw e refl

    go : (a b : Bool) → p x ≡ a → eqb x tag ≡ b → since tag (filter p xs) ≡ option_map (filter p) (since tag xs)
        → since tag (cond a (x ∷ filter p xs) (filter p xs)) ≡ option_map (filter p) (cond b (Some []) (option_map (λ later. x ∷ later) (since tag xs)))
    go true true e f h = rw f refl
    go true false e f h = rw f (ap (option_map (λ later. x ∷ later)) h ∙ onto (since tag xs) e)
    go false true e f h = absurd (both_ways (p x) e (ap p (eqb-true x tag f) ∙ passes))
    go false false e f h = h ∙ past (since tag xs) e

ltb_suc : (a b : ℕ) → ltb (suc a) (suc b) ≡ ltb a b
ltb_suc a b = ⊎_elim
    (λ (h : a < b). lt-ltb (suc a) (suc b) (omega arith) ∙ sym (lt-ltb a b h))
    (λ (h : b ≤ a). le-ltb (suc a) (suc b) (omega arith) ∙ sym (le-ltb a b h))
    (cases_lt a b)

-- one more tag in front pushes the others one further
pub is_near-cons : (ways : ℕ) (x : ℕ) (xs : List ℕ) (u : ℕ) → eqb x u ≡ false → is_near (suc ways) (x ∷ xs) u ≡ is_near ways (filter (other x) xs) u
is_near-cons ways x xs u e =
    rw e (at (since u xs) ∙ ap (λ o. option_map_or (λ later. ltb (length (distinct later)) ways) o false) (sym (since-filter (other x) u (ap not e) xs)))
  where
    at : (o : Option (List ℕ)) → option_map_or (λ later. ltb (length (distinct later)) (suc ways)) (option_map (λ later. x ∷ later) o) false ≡ option_map_or
        (λ later. ltb (length (distinct later)) ways) (option_map (filter (other x)) o) false
    at None = refl
    at (Some l) = ltb_suc (length (filter (other x) (distinct l))) ways ∙ ap (λ t. ltb (length t) ways) (sym (distinct-filter (other x) l))

-- of the elements that pass q, those that pass one of two tests that are equal there
pub filter_same : (p p' q : ℕ → Bool) → ((u : ℕ) → q u ≡ true → p u ≡ p' u) → (xs : List ℕ) → filter p (filter q xs) ≡ filter p' (filter q xs)
filter_same p p' q same [] = refl
filter_same p p' q same (x ∷ xs) = go (q x) refl (filter_same p p' q same xs)
  where
    go : (a : Bool) → q x ≡ a → filter p (filter q xs) ≡ filter p' (filter q xs)
        → filter p (cond a (x ∷ filter q xs) (filter q xs)) ≡ filter p' (cond a (x ∷ filter q xs) (filter q xs))
    go true e h = rw (same x e) (ap (λ t. cond (p' x) (x ∷ t) t) h)
    go false e h = h

none_near : (xs : List ℕ) (u : ℕ) → is_near zero xs u ≡ false
none_near xs u = at (since u xs)
  where
    at : (o : Option (List ℕ)) → option_map_or (λ later. ltb (length (distinct later)) zero) o false ≡ false
    at None = refl
    at (Some l) = le-ltb (length (distinct l)) 0 (omega arith)

none_kept : (p : ℕ → Bool) → ((u : ℕ) → p u ≡ false) → (xs : List ℕ) → filter p xs ≡ []
none_kept p none [] = refl
none_kept p none (x ∷ xs) = rw (none x) (none_kept p none xs)

near_by : (n ways : ℕ) (xs : List ℕ) → length xs ≤ n → filter (is_near ways xs) (distinct xs) ≡ take ways (distinct xs)
near_by n zero xs h = none_kept (is_near zero xs) (none_near xs) (distinct xs)
near_by n (suc ways) [] h = refl
near_by zero (suc ways) (x ∷ xs) h = absurd (omega arith)
near_by (suc n) (suc ways) (x ∷ xs) h =
    let same : eqb x x ≡ true = eq-eqb x x refl in
    let rest : filter (is_near (suc ways) (x ∷ xs)) (filter (other x) (distinct xs))
    ≡ filter (is_near ways (filter (other x) xs)) (filter (other x) (distinct xs)) =
    filter_same (is_near (suc ways) (x ∷ xs)) (is_near ways (filter (other x) xs)) (other x)
    (λ u e. is_near-cons ways x xs u (not-true (eqb x u) e)) (distinct xs) in
    let ih = near_by n ways (filter (other x) xs) (omega (arith, length-filter_le (other x) xs)) in
    rw (same, lt-ltb 0 (suc ways) (omega arith)) (ap (λ t. x ∷ t) (rest ∙ ap (filter (is_near ways (filter (other x) xs))) (sym (distinct-filter (other x) xs))
    ∙ ih ∙ ap (take ways) (distinct-filter (other x) xs)))

-- the tags that are near are the first of the different ones
pub near_is : (ways : ℕ) (xs : List ℕ) → filter (is_near ways xs) (distinct xs) ≡ take ways (distinct xs)
near_is ways xs = near_by (length xs) ways xs (omega arith)

-- ---- the step to the front
pub filter_absent : (x : ℕ) (xs : List ℕ) → absent x xs → filter (other x) xs ≡ xs
filter_absent x [] h = refl
filter_absent x (y ∷ ys) h =
    let p = or_parts (eqb x y) (list_any (eqb x) ys) h in
    rw p.0 (ap (λ t. y ∷ t) (filter_absent x ys p.1))

pub absent-take : (x n : ℕ) (xs : List ℕ) → absent x xs → absent x (take n xs)
absent-take x zero xs h = refl
absent-take x (suc n) [] h = refl
absent-take x (suc n) (y ∷ ys) h =
    let p = or_parts (eqb x y) (list_any (eqb x) ys) h in
    rw p.0 (absent-take x n ys p.1)

pub absent-filter : (x : ℕ) (xs : List ℕ) → absent x (filter (other x) xs)
absent-filter x [] = refl
absent-filter x (y ∷ ys) = go (eqb x y) refl (absent-filter x ys)
  where
    go : (b : Bool) → eqb x y ≡ b → absent x (filter (other x) ys) → absent x (cond (not b) (y ∷ filter (other x) ys) (filter (other x) ys))
    go true e h = h
    go false e h = rw e h

absent-filter_other : (x : ℕ) (p : ℕ → Bool) (xs : List ℕ) → absent x xs → absent x (filter p xs)
absent-filter_other x p [] h = refl
absent-filter_other x p (y ∷ ys) h =
    let q = or_parts (eqb x y) (list_any (eqb x) ys) h in go (p y) q.0 (absent-filter_other x p ys q.1)
  where
    go : (b : Bool) → eqb x y ≡ false → absent x (filter p ys) → absent x (cond b (y ∷ filter p ys) (filter p ys))
    go true e k = rw e k
    go false e k = k

pub Apart-filter : (p : ℕ → Bool) (xs : List ℕ) → Apart xs → Apart (filter p xs)
Apart-filter p [] h = tt
Apart-filter p (x ∷ xs) h = go (p x) (Apart-filter p xs h.1)
  where
    go : (b : Bool) → Apart (filter p xs) → Apart (cond b (x ∷ filter p xs) (filter p xs))
    go true k = (absent-filter_other x p xs h.0, k)
    go false k = k

pub Apart-distinct : (xs : List ℕ) → Apart (distinct xs)
Apart-distinct [] = tt
Apart-distinct (x ∷ xs) = (absent-filter x (distinct xs), Apart-filter (other x) (distinct xs) (Apart-distinct xs))

-- of a list with no tag twice, one removed: the first n of the rest are in the first n + 1
take-filter_other : (n x : ℕ) (xs : List ℕ) → Apart xs → take n (filter (other x) (take (suc n) xs)) ≡ take n (filter (other x) xs)
take-filter_other zero x xs h = refl
take-filter_other (suc n) x [] h = refl
take-filter_other (suc n) x (y ∷ ys) h = go (eqb x y) refl (take-filter_other n x ys h.1)
  where
    go : (b : Bool) → eqb x y ≡ b → take n (filter (other x) (take (suc n) ys)) ≡ take n (filter (other x) ys) →
        take (suc n) (cond (not b) (y ∷ filter (other x) (take (suc n) ys)) (filter (other x) (take (suc n) ys)))
        ≡ take (suc n) (cond (not b) (y ∷ filter (other x) ys) (filter (other x) ys))
    go true e k =
        let a : absent x ys = subst (λ t. absent t ys) (sym (eqb-true x y e)) h.0 in
        rw (filter_absent x (take (suc n) ys) (absent-take x (suc n) ys a), filter_absent x ys a) (twice (suc n) ys)
      where
        twice : (m : ℕ) (zs : List ℕ) → take m (take m zs) ≡ take m zs
        twice zero zs = refl
        twice (suc m) [] = refl
        twice (suc m) (z ∷ zs) = ap (λ t. z ∷ t) (twice m zs)
    go false e k = ap (λ t. y ∷ t) k

-- what is held after one more touch is the held list with the tag moved to the front
pub front_is : (ways x : ℕ) (back : List ℕ) → 0 < ways → take ways (distinct (x ∷ back)) ≡ to_front ways x (take ways (distinct back))
front_is zero x back h = absurd (omega arith)
front_is (suc n) x back h = ap (λ t. x ∷ t) (sym (take-filter_other n x (distinct back) (Apart-distinct back)))

any-filter : (x : ℕ) (p : ℕ → Bool) → p x ≡ true → (zs : List ℕ) → list_any (eqb x) (filter p zs) ≡ list_any (eqb x) zs
any-filter x p e [] = refl
any-filter x p e (z ∷ zs) = go (p z) refl (any-filter x p e zs)
  where
    go : (b : Bool) → p z ≡ b → list_any (eqb x) (filter p zs) ≡ list_any (eqb x) zs
        → list_any (eqb x) (cond b (z ∷ filter p zs) (filter p zs)) ≡ (eqb x z || list_any (eqb x) zs)
    go true f h = ap (λ t. eqb x z || t) h
    go false f h =
        let ne : eqb x z ≡ false = false_from_ne_true (eqb x z) (λ q. both_ways (p z) f (ap p (sym (eqb-true x z q)) ∙ e)) in
        rw ne h

pub any-distinct : (x : ℕ) (xs : List ℕ) → list_any (eqb x) (distinct xs) ≡ list_any (eqb x) xs
any-distinct x [] = refl
any-distinct x (y ∷ ys) = go (eqb x y) refl (any-distinct x ys)
  where
    go : (b : Bool) → eqb x y ≡ b → list_any (eqb x) (distinct ys) ≡ list_any (eqb x) ys
        → (b || list_any (eqb x) (filter (other y) (distinct ys))) ≡ (b || list_any (eqb x) ys)
    go true e h = refl
    go false e h =
        let ne : eqb y x ≡ false = false_from_ne_true (eqb y x) (λ q. both_ways (eqb x y) e (eq-eqb x y (sym (eqb-true y x q)))) in
        any-filter x (other y) (ap not ne) (distinct ys) ∙ h

-- what is not there was never touched
since_none : (x : ℕ) (xs : List ℕ) → absent x xs → since x xs ≡ None
since_none x [] h = refl
since_none x (y ∷ ys) h =
    let p = or_parts (eqb x y) (list_any (eqb x) ys) h in
    let ne : eqb y x ≡ false = false_from_ne_true (eqb y x) (λ q. both_ways (eqb x y) p.0 (eq-eqb x y (sym (eqb-true y x q)))) in
    rw (ne, since_none x ys p.1) refl

-- a tag is in the held list exactly where it is near
pub any_near : (ways x : ℕ) (back : List ℕ) → list_any (eqb x) (filter (is_near ways back) (distinct back)) ≡ is_near ways back x
any_near ways x back = go (is_near ways back x) refl
  where
    touched_once : is_near ways back x ≡ true → (b : Bool) → list_any (eqb x) back ≡ b → b ≡ true
    touched_once e true f = refl
    touched_once e false f =
        let none : is_near ways back x ≡ false = ap (λ o. option_map_or (λ later. ltb (length (distinct later)) ways) o false) (since_none x back f) in
        absurd (both_ways (is_near ways back x) none e)

    go : (b : Bool) → is_near ways back x ≡ b → list_any (eqb x) (filter (is_near ways back) (distinct back)) ≡ b
    go true e =
        any-filter x (is_near ways back) e (distinct back) ∙ any-distinct x back ∙ touched_once e (list_any (eqb x) back) refl
    go false e = dropped (is_near ways back) e (distinct back)
      where
        dropped : (p : ℕ → Bool) → p x ≡ false → (zs : List ℕ) → list_any (eqb x) (filter p zs) ≡ false
        dropped p e [] = refl
        dropped p e (z ∷ zs) = at (p z) refl (dropped p e zs)
          where
            at : (b : Bool) → p z ≡ b → list_any (eqb x) (filter p zs) ≡ false → list_any (eqb x) (cond b (z ∷ filter p zs) (filter p zs)) ≡ false
            at true f h =
                let ne : eqb x z ≡ false = false_from_ne_true (eqb x z) (λ q. both_ways (p x) e (ap p (eqb-true x z q) ∙ f)) in
                rw ne h
            at false f h = h
