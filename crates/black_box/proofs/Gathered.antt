-- The different members of a list, gathered one after the other.
use Rattle.std.proofs.Common.{◌≡◌, ℕ, ◌+◌, ◌<◌, ◌≤◌, List, [], ◌∷◌, ◌++◌, length, map, take, get_or, refl, sym, ap, ◌∙◌, ⊎_elim, arith, length-append}
use Rattle.std.proofs.Common.{append-nil}
use Rattle.std.specs.Prelude.{Bool, true, false, not, cond, ◌||◌}
use Rattle.std.specs.List.{filter, list_any, position_or_len}
use Rattle.std.proofs.lemmas.Bool.{cases_Bool, cond-true, cond-false, or_left, or_right, or_parts, or_from, cond_both, both_ways, false_from_ne_true}
use Rattle.std.proofs.lemmas.Bool.{not_from_true, not_from_false}
use Rattle.std.proofs.lemmas.List.{map-append, take_more, take_all}
use Rattle.indexmap.specs.IndexSet.{insert_key}
use Rattle.leak_bound.specs.Records.{distinct, distinct_count, place_in, classes_of, Tests, Each}
use Rattle.leak_bound.proofs.Few.{Each-map}
use Rattle.black_box.specs.Audits.{same_cycles}
use Rattle.std.specs.Cmp.Lexicographic.{bytes_decides}

pub cycles_test : Tests same_cycles
cycles_test = record { same_from = λ v w e. (bytes_decides v w).1 e; same_to = λ v w e. (bytes_decides v w).0 e }

module _ {X : Type 0} (same : X → X → Bool) (tests : Tests same) where
  -- of members that are apart from y, none is lost that is not equal to it
  kept_after : (z y : X) (ds : List X) → same z y ≡ false → list_any (same z) ds ≡ true → list_any (same z) (filter (λ w. not (same y w)) ds) ≡ true
  kept_after z y [] n h = h
  kept_after z y (w ∷ ds) n h = go (same y w) refl (same z w) refl (kept_after z y ds n)
    where
      go : (b : Bool) → same y w ≡ b → (c : Bool) → same z w ≡ c → (list_any (same z) ds ≡ true → list_any (same z) (filter (λ w. not (same y w)) ds) ≡ true)
          → list_any (same z) (cond (not b) (w ∷ filter (λ w. not (same y w)) ds) (filter (λ w. not (same y w)) ds)) ≡ true
      go true e true f rec = absurd (both_ways (same z y) n (tests.same_from z y (tests.same_to z w f ∙ sym (tests.same_to y w e))))
      go true e false f rec = rec (ap (λ b. b || list_any (same z) ds) (sym f) ∙ h)
      go false e true f rec = or_left (same z w) _ f
      go false e false f rec = or_right (same z w) _ (rec (ap (λ b. b || list_any (same z) ds) (sym f) ∙ h))

  kept : (z y : X) (ds : List X) → list_any (same z) ds ≡ true → list_any (same z) (y ∷ filter (λ w. not (same y w)) ds) ≡ true
  kept z y ds h =
      ⊎_elim
      (λ (e : same z y ≡ true). or_left (same z y) (list_any (same z) (filter (λ w. not (same y w)) ds)) e)
      (λ (n : same z y ≡ false). or_right (same z y) (list_any (same z) (filter (λ w. not (same y w)) ds)) (kept_after z y ds n h))
      (cases_Bool (same z y))

  -- each member is among the different ones
  all_found : (xs : List X) → Each (λ z. list_any (same z) (distinct same xs) ≡ true) xs
  all_found [] = tt
  all_found (x ∷ xs) = (
    or_left (same x x) (list_any (same x) (filter (λ w. not (same x w)) (distinct same xs))) (tests.same_from x x refl),
    Each-map (λ z. list_any (same z) (distinct same xs) ≡ true) (λ z. list_any (same z) (distinct same (x ∷ xs)) ≡ true)
        (λ z h. kept z x (distinct same xs) h) xs (all_found xs),
  )

  none_after : (z y : X) (ds : List X) → list_any (same z) ds ≡ false → list_any (same z) (filter (λ w. not (same y w)) ds) ≡ false
  none_after z y [] h = h
  none_after z y (w ∷ ds) h = go (not (same y w)) (none_after z y ds parts.1)
    where
      parts : (same z w ≡ false) × (list_any (same z) ds ≡ false)
      parts = or_parts (same z w) (list_any (same z) ds) h

      go : (b : Bool) → list_any (same z) (filter (λ w. not (same y w)) ds) ≡ false
          → list_any (same z) (cond b (w ∷ filter (λ w. not (same y w)) ds) (filter (λ w. not (same y w)) ds)) ≡ false
      go true r = ap (λ b. b || list_any (same z) (filter (λ w. not (same y w)) ds)) parts.0 ∙ r
      go false r = r

  filter-push : (t : X → Bool) (ds : List X) (x : X) → filter t (ds ++ x ∷ []) ≡ filter t ds ++ filter t (x ∷ [])
  filter-push t [] x = refl
  filter-push t (d ∷ ds) x = go (t d) (filter-push t ds x)
    where
      go : (b : Bool) → filter t (ds ++ x ∷ []) ≡ filter t ds ++ filter t (x ∷ [])
          → cond b (d ∷ filter t (ds ++ x ∷ [])) (filter t (ds ++ x ∷ [])) ≡ cond b (d ∷ filter t ds) (filter t ds) ++ filter t (x ∷ [])
      go true e = ap (λ z. d ∷ z) e
      go false e = e

  -- what one more member adds
  insert_after : (y x : X) (ds : List X) → y ∷ filter (λ w. not (same y w)) (insert_key same ds x) ≡ insert_key same (y ∷ filter (λ w. not (same y w)) ds) x
  insert_after y x ds =
      ⊎_elim
      (λ (h : list_any (same x) ds ≡ true).
      ap (λ z. y ∷ filter (λ w. not (same y w)) z) (cond-true (list_any (same x) ds) ds (ds ++ x ∷ []) h)
      ∙ sym (cond-true (list_any (same x) (y ∷ filter (λ w. not (same y w)) ds)) (y ∷ filter (λ w. not (same y w)) ds)
      ((y ∷ filter (λ w. not (same y w)) ds) ++ x ∷ []) (kept x y ds h)))
      (λ (h : list_any (same x) ds ≡ false).
      ap (λ z. y ∷ filter (λ w. not (same y w)) z) (cond-false (list_any (same x) ds) ds (ds ++ x ∷ []) h)
      ∙ ap (λ z. y ∷ z) (filter-push (λ w. not (same y w)) ds x)
      ∙ ⊎_elim (equal h) (apart h) (cases_Bool (same x y)))
      (cases_Bool (list_any (same x) ds))
    where
      equal : list_any (same x) ds ≡ false → same x y ≡ true
          → y ∷ (filter (λ w. not (same y w)) ds ++ filter (λ w. not (same y w)) (x ∷ [])) ≡ insert_key same (y ∷ filter (λ w. not (same y w)) ds) x
      equal h e =
          let f = filter (λ w. not (same y w)) ds in
          let back : same y x ≡ true = tests.same_from y x (sym (tests.same_to x y e)) in
          ap (λ z. y ∷ (f ++ z)) (cond-false (not (same y x)) (x ∷ []) [] (not_from_true (same y x) back))
          ∙ ap (λ z. y ∷ z) (append-nil f)
          ∙ sym (cond-true (list_any (same x) (y ∷ f)) (y ∷ f) ((y ∷ f) ++ x ∷ []) (or_left (same x y) (list_any (same x) f) e))

      apart : list_any (same x) ds ≡ false → same x y ≡ false
          → y ∷ (filter (λ w. not (same y w)) ds ++ filter (λ w. not (same y w)) (x ∷ [])) ≡ insert_key same (y ∷ filter (λ w. not (same y w)) ds) x
      apart h n =
          let f = filter (λ w. not (same y w)) ds in
          let back : same y x ≡ false = false_from_ne_true (same y x) (λ t. both_ways (same x y) n (tests.same_from x y (sym (tests.same_to y x t)))) in
          ap (λ z. y ∷ (f ++ z)) (cond-true (not (same y x)) (x ∷ []) [] (not_from_false (same y x) back))
          ∙ sym (cond-false (list_any (same x) (y ∷ f)) (y ∷ f) ((y ∷ f) ++ x ∷ []) (or_from (same x y) (list_any (same x) f) n (none_after x y ds h)))

  pub distinct-push : (xs : List X) (x : X) → distinct same (xs ++ x ∷ []) ≡ insert_key same (distinct same xs) x
  distinct-push [] x = refl
  distinct-push (y ∷ xs) x = ap (λ z. y ∷ filter (λ w. not (same y w)) z) (distinct-push xs x) ∙ insert_after y x (distinct same xs)

  position-push : (p : X → Bool) (ks : List X) (x : X) → (list_any p ks || p x) ≡ true → position_or_len p (ks ++ x ∷ []) ≡ position_or_len p ks
  position-push p [] x h = cond-false (not (p x)) 1 0 (not_from_true (p x) h)
  position-push p (k ∷ ks) x h = go (p k) refl (position-push p ks x)
    where
      go : (b : Bool) → p k ≡ b → ((list_any p ks || p x) ≡ true → position_or_len p (ks ++ x ∷ []) ≡ position_or_len p ks)
          → cond (not b) (1 + position_or_len p (ks ++ x ∷ [])) 0 ≡ cond (not b) (1 + position_or_len p ks) 0
      go true e rec = refl
      go false e rec = ap (λ n. 1 + n) (rec (ap (λ b. (b || list_any p ks) || p x) (sym e) ∙ h))

  position-insert : (ks : List X) (x z : X) → (list_any (same z) ks || same z x) ≡ true
      → position_or_len (same z) (insert_key same ks x) ≡ position_or_len (same z) ks
  position-insert ks x z h =
      ⊎_elim
      (λ (f : list_any (same x) ks ≡ true). ap (position_or_len (same z)) (cond-true (list_any (same x) ks) ks (ks ++ x ∷ []) f))
      (λ (n : list_any (same x) ks ≡ false). ap (position_or_len (same z)) (cond-false (list_any (same x) ks) ks (ks ++ x ∷ []) n)
      ∙ position-push (same z) ks x h)
      (cases_Bool (list_any (same x) ks))

  -- keys that show members
  list_any-map : {K : Type 0} (f : K → X) (x : X) (ks : List K) → list_any (λ k. same x (f k)) ks ≡ list_any (same x) (map f ks)
  list_any-map f x [] = refl
  list_any-map f x (k ∷ ks) = ap (λ b. same x (f k) || b) (list_any-map f x ks)

  pub position-map : {K : Type 0} (f : K → X) (x : X) (ks : List K) → position_or_len (λ k. same x (f k)) ks ≡ position_or_len (same x) (map f ks)
  position-map f x [] = refl
  position-map f x (k ∷ ks) = ap (λ n. cond (not (same x (f k))) (1 + n) 0) (position-map f x ks)

  pub map-insert_key : {K : Type 0} (f : K → X) (ks : List K) (v : K) → map f (insert_key (λ a b. same (f a) (f b)) ks v) ≡ insert_key same (map f ks) (f v)
  map-insert_key {K} f ks v =
      go (list_any (λ k. same (f v) (f k)) ks)
      ∙ ap (λ b. cond b (map f ks) (map f ks ++ f v ∷ [])) (list_any-map f (f v) ks)
    where
      go : (b : Bool) → map f (cond b ks (ks ++ v ∷ [])) ≡ cond b (map f ks) (map f ks ++ f v ∷ [])
      go true = refl
      go false = map-append f ks (v ∷ [])

map_each : {X Y : Type 0} (f g : X → Y) (xs : List X) → Each (λ x. f x ≡ g x) xs → map f xs ≡ map g xs
map_each f g [] h = refl
map_each f g (x ∷ xs) h = ap (λ y. y ∷ map f xs) h.0 ∙ ap (λ ys. g x ∷ ys) (map_each f g xs h.1)

-- the first i lists were compared
pub record IsGathered (all : List (List ℕ)) (i : ℕ) (keys : List (List ℕ)) (places : List ℕ) : Type 0 where
  pub keys_are : keys ≡ distinct same_cycles (take i all)
  pub places_are : places ≡ map (place_in same_cycles keys) (take i all)
  pub few : length keys ≤ i

pub gather_none : (all : List (List ℕ)) → IsGathered all 0 [] []
gather_none all = record { keys_are = refl; places_are = refl; few = omega arith }

pub gather_more : (all : List (List ℕ)) (i : ℕ) (keys : List (List ℕ)) (places : List ℕ) (x : List ℕ) (place : ℕ) → IsGathered all i keys places
    → i < length all → x ≡ get_or all i x → place ≡ position_or_len (same_cycles x) keys
    → IsGathered all (i + 1) (insert_key same_cycles keys x) (places ++ (place + 1) ∷ [])
gather_more all i keys places x place g h at p =
    record {
      keys_are = ap (λ z. insert_key same_cycles z x) g.keys_are ∙ sym (distinct-push same_cycles cycles_test (take i all) x)
          ∙ ap (distinct same_cycles) (sym (more at));
      places_are =
          ap (λ z. z ++ (place + 1) ∷ []) (g.places_are
          ∙ map_each (place_in same_cycles keys) (place_in same_cycles (insert_key same_cycles keys x)) (take i all) stay)
          ∙ ap (λ n. map (place_in same_cycles (insert_key same_cycles keys x)) (take i all) ++ n ∷ []) own
          ∙ sym (map-append (place_in same_cycles (insert_key same_cycles keys x)) (take i all) (x ∷ []))
          ∙ ap (map (place_in same_cycles (insert_key same_cycles keys x))) (sym (more at));
      few = let a = g.few in omega (arith, longer, a);
    }
  where
    more : x ≡ get_or all i x → take (i + 1) all ≡ take i all ++ x ∷ []
    more at = take_more all i x h ∙ ap (λ z. take i all ++ z ∷ []) (sym at)

    stay : Each (λ z. place_in same_cycles keys z ≡ place_in same_cycles (insert_key same_cycles keys x) z) (take i all)
    stay =
        Each-map
        (λ z. list_any (same_cycles z) (distinct same_cycles (take i all)) ≡ true)
        (λ z. place_in same_cycles keys z ≡ place_in same_cycles (insert_key same_cycles keys x) z)
        (λ z f. ap (λ n. n + 1) (sym (position-insert same_cycles cycles_test keys x z
        (or_left (list_any (same_cycles z) keys) (same_cycles z x) (ap (list_any (same_cycles z)) g.keys_are ∙ f)))))
        (take i all) (all_found same_cycles cycles_test (take i all))

    own : place + 1 ≡ place_in same_cycles (insert_key same_cycles keys x) x
    own = ap (λ n. n + 1) (p ∙ sym (position-insert same_cycles cycles_test keys x x
        (or_right (list_any (same_cycles x) keys) (same_cycles x x) (cycles_test.same_from x x refl))))

    longer : length (insert_key same_cycles keys x) ≤ length keys + 1
    longer = cond_both (list_any (same_cycles x) keys) keys (keys ++ x ∷ []) (λ z. length z ≤ length keys + 1) (λ e. omega arith)
        (λ e. omega (arith, length-append keys (x ∷ [])))

pub gather_all : (all : List (List ℕ)) (i : ℕ) (keys : List (List ℕ)) (places : List ℕ) → IsGathered all i keys places → length all ≤ i
    → (length keys ≡ distinct_count same_cycles all) × (places ≡ classes_of same_cycles all)
gather_all all i keys places g h =
    let whole : take i all ≡ all = take_all i all h in
    let known : keys ≡ distinct same_cycles all = g.keys_are ∙ ap (distinct same_cycles) whole in
    (ap length known, g.places_are ∙ ap (map (place_in same_cycles keys)) whole ∙ ap (λ z. map (place_in same_cycles z) all) known)
