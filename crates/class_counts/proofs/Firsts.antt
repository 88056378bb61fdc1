-- The first places of the keys of a tally.
use Rattle.std.proofs.Common.{◌≡◌, ◌⊎◌, inl, inr, ℕ, ◌+◌, List, [], ◌∷◌, ◌++◌, length, map, Bool, true, false, cond, refl, sym, ap, subst, ◌∙◌, arith}
use Rattle.std.proofs.Common.{append_assoc, append-nil}
use Rattle.std.specs.Prelude.{nat_lt}
use Rattle.std.specs.List.{position_or_len}
use Rattle.std.proofs.lemmas.Bool.{lt-ltb, ltb-true}
use Rattle.class_counts.specs.Tally.{add, tally}

-- a member, by cases
abbrev pub Among : {V : Type 0} → V → List V → Type 0
Among x [] = ⊥
Among x (y ∷ ys) = (x ≡ y) ⊎ Among x ys

among_front : {V : Type 0} (x : V) (xs ys : List V) → Among x xs → Among x (xs ++ ys)
among_front x [] ys h = absurd h
among_front x (y ∷ xs) ys (inl h) = inl h
among_front x (y ∷ xs) ys (inr h) = inr (among_front x xs ys h)

among_end : {V : Type 0} (x z : V) (xs : List V) → Among x (xs ++ z ∷ []) → Among x xs ⊎ (x ≡ z)
among_end x z [] (inl h) = inr h
among_end x z [] (inr h) = absurd h
among_end x z (y ∷ xs) (inl h) = inl (inl h)
among_end x z (y ∷ xs) (inr h) = go (among_end x z xs h)
  where
    go : Among x xs ⊎ (x ≡ z) → Among x (y ∷ xs) ⊎ (x ≡ z)
    go (inl k) = inl (inr k)
    go (inr k) = inr k

among_last : {V : Type 0} (x z : V) (xs : List V) → x ≡ z → Among x (xs ++ z ∷ [])
among_last x z [] h = inl h
among_last x z (y ∷ xs) h = inr (among_last x z xs h)

-- two lists have the same members
pub record Alike {V : Type 0} (xs ys : List V) : Type 0 where
  pub there : (x : V) → Among x xs → Among x ys
  pub back : (x : V) → Among x ys → Among x xs

abbrev pub keys : {V : Type 0} → List (V × ℕ) → List V
keys es = map (λ c. c.0) es

both_ways : (b : Bool) → b ≡ true → b ≡ false → ⊥
both_ways true h k = cc
both_ways false h k = cc

map_keys : {V : Type 0} (g : V → ℕ) (es : List (V × ℕ)) → map (λ c. g c.0) es ≡ map g (keys es)
map_keys g [] = refl
map_keys g (e ∷ es) = ap (λ z. g e.0 ∷ z) (map_keys g es)

map_end : {V : Type 0} (g : V → ℕ) (xs : List V) (z : V) → map g (xs ++ z ∷ []) ≡ map g xs ++ g z ∷ []
map_end g [] z = refl
map_end g (x ∷ xs) z = ap (λ r. g x ∷ r) (map_end g xs z)

map_alike : {V : Type 0} (f g : V → ℕ) (xs : List V) → ((x : V) → Among x xs → f x ≡ g x) → map f xs ≡ map g xs
map_alike f g [] h = refl
map_alike f g (x ∷ xs) h = ap (λ z. z ∷ map f xs) (h x (inl refl)) ∙ ap (λ z. g x ∷ z) (map_alike f g xs (λ y m. h y (inr m)))

pub tally_end : {V : Type 0} (eq : V → V → Bool) (es ps : List (V × ℕ)) (z : V) (w : ℕ) → tally eq es (ps ++ (z, w) ∷ []) ≡ add eq (tally eq es ps) z w
tally_end eq es [] z w = refl
tally_end eq es (p ∷ ps) z w = tally_end eq (add eq es p.0 p.1) ps z w

module _ {V : Type 0} (eq : V → V → Bool) (same : (x : V) → eq x x ≡ true) (is : (x y : V) → eq x y ≡ true → x ≡ y) where
  -- the place of the first of a list that is the same, or how many there are
  abbrev place : V → List V → ℕ
  place x xs = position_or_len (eq x) xs

  equal : (x y : V) → x ≡ y → eq x y ≡ true
  equal x y h = subst (λ z. eq x z ≡ true) h (same x)

  place_front : (x : V) (xs ys : List V) → Among x xs → place x (xs ++ ys) ≡ place x xs
  place_front x [] ys h = absurd h
  place_front x (y ∷ xs) ys h = go (eq x y) refl h (λ m. place_front x xs ys m)
    where
      go : (b : Bool) → eq x y ≡ b → Among x (y ∷ xs) → (Among x xs → place x (xs ++ ys) ≡ place x xs) → place x (y ∷ xs ++ ys) ≡ place x (y ∷ xs)
      go true e m more = cc
      go false e (inl m) more = absurd (both_ways (eq x y) (equal x y m) e)
      go false e (inr m) more = let rest = more m in cc (e, rest)

  place_end : (x : V) (xs : List V) → (Among x xs → ⊥) → place x (xs ++ x ∷ []) ≡ length xs
  place_end x [] h = let e = same x in cc (e)
  place_end x (y ∷ xs) h = go (eq x y) refl (place_end x xs (λ m. h (inr m)))
    where
      go : (b : Bool) → eq x y ≡ b → place x (xs ++ x ∷ []) ≡ length xs → place x (y ∷ xs ++ x ∷ []) ≡ length (y ∷ xs)
      go true e rest = absurd (h (inl (is x y e)))
      go false e rest =
          let one : place x (y ∷ (xs ++ x ∷ [])) ≡ 1 + place x (xs ++ x ∷ []) = cc (e) in omega (arith, one, rest)

  -- one more: its key is there, or it stands at the end
  record Old (es fs : List (V × ℕ)) (z : V) : Type 0 where
    there : Among z (keys es)
    keys_are : keys fs ≡ keys es
    long : length fs ≡ length es

  record New (es fs : List (V × ℕ)) (z : V) : Type 0 where
    none : Among z (keys es) → ⊥
    keys_are : keys fs ≡ keys es ++ z ∷ []
    long : length fs ≡ length es + 1

  grown : (es : List (V × ℕ)) (z : V) (w : ℕ) → Old es (add eq es z w) z ⊎ New es (add eq es z w) z
  grown [] z w = inr (record { none = λ m. m; keys_are = refl; long = refl })
  grown (e ∷ es) z w = go (eq z e.0) refl (grown es z w)
    where
      go : (b : Bool) → eq z e.0 ≡ b → Old es (add eq es z w) z ⊎ New es (add eq es z w) z
          → Old (e ∷ es) (cond b ((e.0, e.1 + w) ∷ es) (e ∷ add eq es z w)) z ⊎ New (e ∷ es) (cond b ((e.0, e.1 + w) ∷ es) (e ∷ add eq es z w)) z
      go true h k = inl (record { there = inl (is z e.0 h); keys_are = refl; long = refl })
      go false h (inl o) = inl (record { there = inr o.there; keys_are = ap (λ r. e.0 ∷ r) o.keys_are; long = let l = o.long in omega (arith, l) })
      go false h (inr n) = inr (record {
        none = no;
        keys_are = ap (λ r. e.0 ∷ r) n.keys_are;
        long = let l = n.long in omega (arith, l);
      })
        where
          no : Among z (e.0 ∷ keys es) → ⊥
          no (inl m) = both_ways (eq z e.0) (equal z e.0 m) h
          no (inr m) = n.none m

  -- the number of the first of each key, where these begin with the number n, from 0
  abbrev pub firsts_in : ℕ → List V → List (V × ℕ) → List ℕ
  firsts_in n xs es = map (λ c. n + (place c.0 xs + 1)) es

  pub alike_end : (es : List (V × ℕ)) (xs : List V) (z : V) (w : ℕ) → Alike (keys es) xs → Alike (keys (add eq es z w)) (xs ++ z ∷ [])
  alike_end es xs z w h = go (grown es z w)
    where
      go : Old es (add eq es z w) z ⊎ New es (add eq es z w) z → Alike (keys (add eq es z w)) (xs ++ z ∷ [])
      go (inl o) = record {
        there = λ x m. among_front x xs (z ∷ []) (h.there x (subst (Among x) o.keys_are m));
        back = λ x m. subst (Among x) (sym o.keys_are) (back_of x (among_end x z xs m));
      }
        where
          back_of : (x : V) → Among x xs ⊎ (x ≡ z) → Among x (keys es)
          back_of x (inl m) = h.back x m
          back_of x (inr e) = subst (λ y. Among y (keys es)) (sym e) o.there
      go (inr n) = record {
        there = λ x m. there_of x (among_end x z (keys es) (subst (Among x) n.keys_are m));
        back = λ x m. subst (Among x) (sym n.keys_are) (back_of x (among_end x z xs m));
      }
        where
          there_of : (x : V) → Among x (keys es) ⊎ (x ≡ z) → Among x (xs ++ z ∷ [])
          there_of x (inl m) = among_front x xs (z ∷ []) (h.there x m)
          there_of x (inr e) = among_last x z xs e

          back_of : (x : V) → Among x xs ⊎ (x ≡ z) → Among x (keys es ++ z ∷ [])
          back_of x (inl m) = among_front x (keys es) (z ∷ []) (h.back x m)
          back_of x (inr e) = among_last x z (keys es) e

  -- one more, with the next number: it stands at the end exactly where there is one key more
  pub firsts_end : (n : ℕ) (es : List (V × ℕ)) (xs : List V) (z : V) (w : ℕ) → Alike (keys es) xs
      → firsts_in n (xs ++ z ∷ []) (add eq es z w)
      ≡ cond (nat_lt (length es) (length (add eq es z w))) (firsts_in n xs es ++ (n + (length xs + 1)) ∷ []) (firsts_in n xs es)
  firsts_end n es xs z w h = go (grown es z w)
    where
      late : V → ℕ
      late x = n + (place x (xs ++ z ∷ []) + 1)

      soon : V → ℕ
      soon x = n + (place x xs + 1)

      as_before : map late (keys es) ≡ map soon (keys es)
      as_before = map_alike late soon (keys es) (λ x m. ap (λ p. n + (p + 1)) (place_front x xs (z ∷ []) (h.there x m)))

      go : Old es (add eq es z w) z ⊎ New es (add eq es z w) z
          → firsts_in n (xs ++ z ∷ []) (add eq es z w)
          ≡ cond (nat_lt (length es) (length (add eq es z w))) (firsts_in n xs es ++ (n + (length xs + 1)) ∷ []) (firsts_in n xs es)
      go (inl o) =
          map_keys late (add eq es z w) ∙ ap (map late) o.keys_are ∙ as_before ∙ sym (map_keys soon es)
          ∙ no (nat_lt (length es) (length (add eq es z w))) refl
        where
          no : (b : Bool) → nat_lt (length es) (length (add eq es z w)) ≡ b
              → firsts_in n xs es ≡ cond b (firsts_in n xs es ++ (n + (length xs + 1)) ∷ []) (firsts_in n xs es)
          no true e = let l = ltb-true (length es) (length (add eq es z w)) e in let k = o.long in absurd (omega (arith, l, k))
          no false e = refl
      go (inr m) =
          let k = m.long in
          let last : late z ≡ n + (length xs + 1) = ap (λ p. n + (p + 1)) (place_end z xs (λ i. m.none (h.back z i))) in
          map_keys late (add eq es z w) ∙ ap (map late) m.keys_are ∙ map_end late (keys es) z
          ∙ ap (λ r. r ++ late z ∷ []) (as_before ∙ sym (map_keys soon es)) ∙ ap (λ r. firsts_in n xs es ++ r ∷ []) last
          ∙ ap (λ b. cond b (firsts_in n xs es ++ (n + (length xs + 1)) ∷ []) (firsts_in n xs es))
          (sym (lt-ltb (length es) (length (add eq es z w)) (omega (arith, k))))

  keys_end : (xs : List V) (z : V) (ps : List (V × ℕ)) → (xs ++ z ∷ []) ++ keys ps ≡ xs ++ z ∷ keys ps
  keys_end xs z ps = append_assoc xs (z ∷ []) (keys ps)

  -- a tally has the keys of its list
  pub alike_tally : (es : List (V × ℕ)) (xs : List V) (ps : List (V × ℕ)) → Alike (keys es) xs → Alike (keys (tally eq es ps)) (xs ++ keys ps)
  alike_tally es xs [] h = subst (λ ys. Alike (keys es) ys) (sym (append-nil xs)) h
  alike_tally es xs (p ∷ ps) h =
      subst (λ ys. Alike (keys (tally eq (add eq es p.0 p.1) ps)) ys) (keys_end xs p.0 ps)
      (alike_tally (add eq es p.0 p.1) (xs ++ p.0 ∷ []) ps (alike_end es xs p.0 p.1 h))
