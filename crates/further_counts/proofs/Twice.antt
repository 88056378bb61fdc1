-- Two views after each other: few and few are few.
use Rattle.std.proofs.Common.{◌≡◌, ℕ, suc, ◌+◌, ◌*◌, ◌≤◌, List, [], ◌∷◌, ◌++◌, length, length-append, Bool, true, false, refl, sym, ap, ◌∙◌, subst, ◌⊎◌, inl}
use Rattle.std.proofs.Common.{inr, arith, map}
use Rattle.std.specs.Prelude.{cond, not}
use Rattle.std.specs.List.{filter}
use Rattle.std.proofs.lemmas.Bool.{both_ways}
use Rattle.std.proofs.lemmas.List.Sums.{length-filter, count_by-le-length}
use Rattle.std.proofs.Math.Nat.{mul-le-mul_right}
use Rattle.leak_bound.specs.Records.{distinct, distinct_count, Tests, Each}
use Rattle.leak_bound.proofs.Few.{Spread, Each-filter, Spread-distinct}
use Rattle.sharp_bound.specs.Guess.{that_show}
use Rattle.further_counts.specs.Twice.{both, FewTwice}
use Rattle.sharp_bound.proofs.Guess.{Has, has_filter, Covered, covered_views, covered_distinct, few_shown}

module _ {V : Type 0} (same : V → V → Bool) (tests : Tests same) where
  shorter : (v : V) (vs : List V) → Has (λ w. same w v) vs → suc (length (filter (λ w. not (same v w)) vs)) ≤ length vs
  shorter v [] h = absurd h
  shorter v (w ∷ vs) h = go (same v w) refl h (shorter v vs)
    where
      go : (b : Bool) → same v w ≡ b → (same w v ≡ true) ⊎ Has (λ z. same z v) vs
          → (Has (λ z. same z v) vs → suc (length (filter (λ z. not (same v z)) vs)) ≤ length vs)
          → suc (length (cond (not b) (w ∷ filter (λ z. not (same v z)) vs) (filter (λ z. not (same v z)) vs))) ≤ suc (length vs)
      go true e h r = omega (arith, length-filter (λ z. not (same v z)) vs, count_by-le-length (λ z. not (same v z)) vs)
      go false e (inl q) r = absurd (both_ways (same v w) e (tests.same_from v w (sym (tests.same_to w v q))))
      go false e (inr q) r = omega (arith, r q)

  -- what is not v is still there without v
  kept : (v u : V) (vs : List V) → same v u ≡ false → Has (λ w. same w u) vs → Has (λ w. same w u) (filter (λ w. not (same v w)) vs)
  kept v u vs other h = has_filter (λ w. same w u) (λ w. not (same v w)) vs (λ w e. ap (λ z. not (same v z)) (tests.same_to w u e) ∙ ap not other) h

  kept_all : (v : V) (us vs : List V) → Each (λ u. same v u ≡ false) us → Each (λ u. Has (λ w. same w u) vs) us
      → Each (λ u. Has (λ w. same w u) (filter (λ w. not (same v w)) vs)) us
  kept_all v [] vs o h = tt
  kept_all v (u ∷ us) vs o h = (kept v u vs o.0 h.0, kept_all v us vs o.1 h.1)

  -- different members of a list are no more than the list has
  once_few : (us vs : List V) → Spread same us → Each (λ u. Has (λ w. same w u) vs) us → length us ≤ length vs
  once_few [] vs o h = omega arith
  once_few (u ∷ us) vs o h = omega (arith, once_few us (filter (λ w. not (same u w)) vs) o.1 (kept_all u us vs o.0 h.1), shorter u vs h.0)

  pub distinct_few : (us vs : List V) → Each (λ u. Has (λ w. same w u) vs) us → distinct_count same us ≤ length vs
  distinct_few us vs h = once_few (distinct same us) vs (Spread-distinct same us) (each_distinct us h)
    where
      each_distinct : (us : List V) → Each (λ u. Has (λ w. same w u) vs) us → Each (λ u. Has (λ w. same w u) vs) (distinct same us)
      each_distinct [] h = tt
      each_distinct (u ∷ us) h = (h.0, Each-filter (λ u. Has (λ w. same w u) vs) (λ w. not (same u w)) (distinct same us) (each_distinct us h.1))

has_left : {V : Type 0} (t : V → Bool) (vs ws : List V) → Has t vs → Has t (vs ++ ws)
has_left t [] ws h = absurd h
has_left t (v ∷ vs) ws (inl e) = inl e
has_left t (v ∷ vs) ws (inr h) = inr (has_left t vs ws h)

has_right : {V : Type 0} (t : V → Bool) (vs ws : List V) → Has t ws → Has t (vs ++ ws)
has_right t [] ws h = h
has_right t (v ∷ vs) ws h = inr (has_right t vs ws h)

-- what holds of those that pass
each_passed : {X : Type 0} (P : X → Type 0) (t : X → Bool) (xs : List X) → Each P (filter t xs) → Each (λ x. t x ≡ true → P x) xs
each_passed P t [] h = tt
each_passed P t (x ∷ xs) h = go (t x) refl h (each_passed P t xs)
  where
    go : (b : Bool) → t x ≡ b → Each P (cond b (x ∷ filter t xs) (filter t xs)) → (Each P (filter t xs) → Each (λ x. t x ≡ true → P x) xs)
        → (t x ≡ true → P x) × Each (λ x. t x ≡ true → P x) xs
    go true e h rec = (λ q. h.0, rec h.1)
    go false e h rec = (λ q. absurd (both_ways (t x) e q), rec h)

each_for : {X V : Type 0} (P : V → X → Type 0) (xs : List X) → ((v : V) → Each (P v) xs) → Each (λ x. (v : V) → P v x) xs
each_for P [] h = tt
each_for P (x ∷ xs) h = (λ v. (h v).0, each_for P xs (λ v. (h v).1))

module _ {X V W : Type 0} (see : X → V) (next : V → X → W) (same : V → V → Bool) (same' : W → W → Bool) (alike : V × W → V × W → Bool) (tests : Tests same)
    (tests' : Tests same') (tests'' : Tests alike) (xs : List X) where
  -- the different second views after v
  abbrev seconds : V → List W
  seconds v = distinct same' (map (next v) (that_show see same v xs))

  abbrev paired : V → List W → List (V × W)
  paired v [] = []
  paired v (w ∷ ws) = (v, w) ∷ paired v ws

  abbrev pairs : List V → List (V × W)
  pairs [] = []
  pairs (v ∷ vs) = paired v (seconds v) ++ pairs vs

  length-paired : (v : V) (ws : List W) → length (paired v ws) ≡ length ws
  length-paired v [] = refl
  length-paired v (w ∷ ws) = ap suc (length-paired v ws)

  length-pairs : (m : ℕ) → ((v : V) → length (seconds v) ≤ m) → (vs : List V) → length (pairs vs) ≤ length vs * m
  length-pairs m h [] = omega arith
  length-pairs m h (v ∷ vs) =
      let one : suc (length vs) * m ≡ m + length vs * m = omega arith in
      subst (λ z. length (paired v (seconds v) ++ pairs vs) ≤ z) (sym one)
      (omega (arith, length-append (paired v (seconds v)) (pairs vs), length-paired v (seconds v), h v, length-pairs m h vs))

  has_paired : (v : V) (u : V × W) (ws : List W) → v ≡ u.0 → Has (λ w. same' w u.1) ws → Has (λ p. alike p u) (paired v ws)
  has_paired v u [] e h = absurd h
  has_paired v u (w ∷ ws) e (inl q) =
      let there : w ≡ u.1 = tests'.same_to w u.1 q in
      let first : (v, w) ≡ (u.0, w) = ap (λ z. (z, w)) e in
      let second : (u.0, w) ≡ u = ap (λ z. (u.0, z)) there in
      inl (tests''.same_from (v, w) u (first ∙ second))
  has_paired v u (w ∷ ws) e (inr h) = inr (has_paired v u ws e h)

  in_pairs : (x : X) → ((v : V) → same v (see x) ≡ true → Has (λ w. same' w (next v x)) (seconds v)) → (vs : List V) → Has (λ v. same v (see x)) vs
      → Has (λ p. alike p (both see next x)) (pairs vs)
  in_pairs x f [] h = absurd h
  in_pairs x f (v ∷ vs) (inl e) =
      let here : v ≡ see x = tests.same_to v (see x) e in
      has_left _ (paired v (seconds v)) (pairs vs)
      (has_paired v (both see next x) (seconds v) here (subst (λ z. Has (λ w. same' w (next z x)) (seconds v)) here (f v e)))
  in_pairs x f (v ∷ vs) (inr h) = has_right _ (paired v (seconds v)) (pairs vs) (in_pairs x f vs h)

  seconds_there : Each (λ x. (v : V) → same v (see x) ≡ true → Has (λ w. same' w (next v x)) (seconds v)) xs
  seconds_there =
      each_for (λ v x. same v (see x) ≡ true → Has (λ w. same' w (next v x)) (seconds v)) xs
      (λ v.
      let ys = that_show see same v xs in
      each_passed (λ x. Has (λ w. same' w (next v x)) (seconds v)) (λ x. same v (see x)) xs
      (covered_distinct (next v) same' tests' (map (next v) ys) ys (covered_views (next v) same' tests' ys)))

  in_all : (vs : List V) (ys : List X) → Covered see same vs ys → Each (λ x. (v : V) → same v (see x) ≡ true → Has (λ w. same' w (next v x)) (seconds v)) ys
      → Each (λ p. Has (λ q. alike q p) (pairs vs)) (map (both see next) ys)
  in_all vs [] c h = tt
  in_all vs (x ∷ ys) c h = (in_pairs x h.0 vs c.0, in_all vs ys c.1 h.1)

  few_pairs : (n m : ℕ) → distinct_count same (map see xs) ≤ n → ((v : V) → length (seconds v) ≤ m) → distinct_count alike (map (both see next) xs) ≤ n * m
  few_pairs n m h h' =
      let vs = distinct same (map see xs) in
      let covered = covered_distinct see same tests (map see xs) xs (covered_views see same tests xs) in
      omega (
        arith,
        distinct_few alike tests'' (map (both see next) xs) (pairs vs) (in_all vs xs covered seconds_there),
        length-pairs m h' vs,
        mul-le-mul_right m h,
      )

pub few_twice : (X V W : Type 0) → FewTwice X V W
few_twice X V W see next same same' alike tests tests' tests'' xs n m h h' =
    few_shown (both see next) alike tests'' xs (n * m) (few_pairs see next same same' alike tests tests' tests'' xs n m h.count (λ v. (h' v).count))
