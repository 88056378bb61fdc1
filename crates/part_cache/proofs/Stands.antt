-- A cache that stands for a history answers by it, and stands for the longer one after a touch.
use Rattle.std.proofs.Common.{◌≡◌, ℕ, zero, suc, ◌+◌, ◌*◌, ◌%◌, ◌<◌, ◌≤◌, List, [], ◌∷◌, ◌++◌, length, get_or, Bool, true, false, refl, sym, ap, ◌∙◌}
use Rattle.std.proofs.Common.{subst, ◌⊎◌, inl, inr, arith}
use Rattle.std.specs.Prelude.{cond, eqb, ◌&&◌, ◌||◌, reverse, slice_set}
use Rattle.std.specs.List.{list_any}
use Rattle.std.proofs.Common.{get_or-set_same, get_or-set_other, length-set}
use Rattle.std.proofs.lemmas.List.{reverse-append, append-nil, set_past}
use Rattle.std.proofs.lemmas.Nat.{mul-add-lt, same_from_place, mod_below}
use Rattle.std.proofs.Common.{add-one}
use Rattle.std.proofs.lemmas.Bool.{or_left, or_right, cases_eq, cases_lt, cases_Bool, eqb-true, eq-eqb, and_from, and_parts, both_ways}
use Rattle.label_lattice.specs.Order.{lattice_of}
use Rattle.part_cache.specs.declared.replacement.Replacement.{Replacement}
use Rattle.part_cache.specs.History.{Touched, tags_in, row_of, holds_by, some_below, hits_by, held_by}
use Rattle.part_cache.specs.Ways.{replaced}
use Rattle.part_cache.specs.Rows.{Rows, tags_at, IsCache, has, found, touched_by, StandsBy}
use Rattle.part_cache.proofs.Replaced.{row_none, row_front, any_held, length-replaced}

abbrev pub is_at : ℕ → ℕ → ℕ → Touched → Bool
is_at sets label set x = eqb x.label label && eqb (x.tag % sets) set

tags_in-push : (sets label set : ℕ) (h : List Touched) (x : Touched)
    → tags_in sets label set (h ++ x ∷ []) ≡ tags_in sets label set h ++ cond (is_at sets label set x) (x.tag ∷ []) []
tags_in-push sets label set [] x = refl
tags_in-push sets label set (y ∷ h) x = go (is_at sets label set y) (tags_in-push sets label set h x)
  where
    go : (b : Bool) → tags_in sets label set (h ++ x ∷ []) ≡ tags_in sets label set h ++ cond (is_at sets label set x) (x.tag ∷ []) [] →
        cond b (y.tag ∷ tags_in sets label set (h ++ x ∷ [])) (tags_in sets label set (h ++ x ∷ []))
        ≡ cond b (y.tag ∷ tags_in sets label set h) (tags_in sets label set h) ++ cond (is_at sets label set x) (x.tag ∷ []) []
    go true e = ap (λ t. y.tag ∷ t) e
    go false e = e

-- looking back, the touch comes first
back_here : (sets label set : ℕ) (h : List Touched) (x : Touched) → is_at sets label set x ≡ true
    → reverse (tags_in sets label set (h ++ x ∷ [])) ≡ x.tag ∷ reverse (tags_in sets label set h)
back_here sets label set h x e =
    ap reverse (tags_in-push sets label set h x ∙ ap (λ b. tags_in sets label set h ++ cond b (x.tag ∷ []) []) e)
    ∙ reverse-append (tags_in sets label set h) (x.tag ∷ [])

back_elsewhere : (sets label set : ℕ) (h : List Touched) (x : Touched) → is_at sets label set x ≡ false
    → reverse (tags_in sets label set (h ++ x ∷ [])) ≡ reverse (tags_in sets label set h)
back_elsewhere sets label set h x e =
    ap reverse (tags_in-push sets label set h x ∙ ap (λ b. tags_in sets label set h ++ cond b (x.tag ∷ []) []) e ∙ append-nil (tags_in sets label set h))

pub held_here : (r : Replacement) (sets ways : ℕ) (h : List Touched) (label tag : ℕ) → 0 < ways →
    held_by r sets ways (h ++ record { label = label; tag = tag } ∷ []) label (tag % sets)
    ≡ replaced r ways tag (held_by r sets ways h label (tag % sets))
held_here r sets ways h label tag some =
    let x : Touched = record { label = label; tag = tag } in
    let here : is_at sets label (tag % sets) x ≡ true =
    and_from (eqb label label) (eqb (tag % sets) (tag % sets)) (eq-eqb label label refl) (eq-eqb (tag % sets) (tag % sets) refl) in
    ap (row_of r ways) (back_here sets label (tag % sets) h x here) ∙ row_front r ways tag (reverse (tags_in sets label (tag % sets) h)) some

pub held_elsewhere : (r : Replacement) (sets ways : ℕ) (h : List Touched) (x : Touched) (label set : ℕ) → is_at sets label set x ≡ false →
    held_by r sets ways (h ++ x ∷ []) label set ≡ held_by r sets ways h label set
held_elsewhere r sets ways h x label set e = ap (row_of r ways) (back_elsewhere sets label set h x e)

-- ---- one row of the cache

module _ (c : Rows) (good : IsCache c) where
  set_below : (tag : ℕ) → tag % c.sets < c.sets
  set_below tag = mod_below tag c.sets good.some_set

  pub place_below : (tag ew : ℕ) → ew < c.order.size → ew * c.sets + tag % c.sets < length c.rows
  place_below tag ew h = omega (arith, good.each_set, mul-add-lt ew c.sets (tag % c.sets) c.order.size h (set_below tag))

  -- the touched row, where the label is one
  pub tags_here : (r : Replacement) (tag ew : ℕ) → ew < c.order.size
      → tags_at (touched_by r c tag ew) ew (tag % c.sets) ≡ replaced r c.ways tag (tags_at c ew (tag % c.sets))
  tags_here r tag ew h =
      get_or-set_same c.rows (ew * c.sets + tag % c.sets) (replaced r c.ways tag (tags_at c ew (tag % c.sets))) []
      (place_below tag ew h)

  pub tags_elsewhere : (r : Replacement) (tag ew label set : ℕ) → set < c.sets → ((label ≡ ew) × (set ≡ tag % c.sets) → ⊥)
      → tags_at (touched_by r c tag ew) label set ≡ tags_at c label set
  tags_elsewhere r tag ew label set h ne =
      get_or-set_other c.rows (ew * c.sets + tag % c.sets) (label * c.sets + set) (replaced r c.ways tag (tags_at c ew (tag % c.sets))) []
      (λ e. ne (same_from_place label set ew (tag % c.sets) c.sets h (set_below tag) e))

  pub IsCache-touched : (r : Replacement) (tag ew : ℕ) → IsCache (touched_by r c tag ew)
  IsCache-touched r tag ew =
      record {
        some_set = good.some_set;
        some_way = good.some_way;
        each_set = length-set c.rows (ew * c.sets + tag % c.sets) (replaced r c.ways tag (tags_at c ew (tag % c.sets))) ∙ good.each_set;
        few = λ k. short k (cases_eq k (ew * c.sets + tag % c.sets)) (cases_lt k (length c.rows));
      }
    where
      place : ℕ
      place = ew * c.sets + tag % c.sets

      row : List ℕ
      row = replaced r c.ways tag (tags_at c ew (tag % c.sets))

      short : (k : ℕ) → ((k ≡ place) ⊎ (k ≡ place → ⊥)) → ((k < length c.rows) ⊎ (length c.rows ≤ k))
          → length (get_or (slice_set c.rows place row) k []) ≤ c.ways
      short k (inr ne) q = rw (get_or-set_other c.rows place k row [] ne) (good.few k)
      short k (inl e) (inl lt) = let l : place < length c.rows = omega arith in
          rw (e, get_or-set_same c.rows place row [] l) (length-replaced r c.ways tag (tags_at c ew (tag % c.sets)) (good.few place))
      short k (inl e) (inr ge) = let l : length c.rows ≤ place = omega arith in rw (set_past c.rows place row l) (good.few k)

  -- a number that is no label touches no row, and no row's history
  pub StandsBy-touched : (r : Replacement) (tag ew : ℕ) (h : List Touched) → StandsBy r c h
      → StandsBy r (touched_by r c tag ew) (h ++ record { label = ew; tag = tag } ∷ [])
  StandsBy-touched r tag ew h stands =
      record { each = λ label set lb sb. go label set lb sb (cases_Bool (is_at c.sets label set (record { label = ew; tag = tag }))) }
    where
      go : (label set : ℕ) → label < c.order.size → set < c.sets
          → ((is_at c.sets label set (record { label = ew; tag = tag }) ≡ true) ⊎ (is_at c.sets label set (record { label = ew; tag = tag }) ≡ false)) →
          tags_at (touched_by r c tag ew) label set ≡ held_by r c.sets c.ways (h ++ record { label = ew; tag = tag } ∷ []) label set
      go label set lb sb (inl e) =
          let p = and_parts (eqb ew label) (eqb (tag % c.sets) set) e in
          let same_label : ew ≡ label = eqb-true ew label p.0 in
          let same_set : tag % c.sets ≡ set = eqb-true (tag % c.sets) set p.1 in
          let in_range : ew < c.order.size = omega (arith, same_label, lb) in
          subst (λ l. tags_at (touched_by r c tag ew) l set ≡ held_by r c.sets c.ways (h ++ record { label = ew; tag = tag } ∷ []) l set) same_label
          (subst (λ s. tags_at (touched_by r c tag ew) ew s ≡ held_by r c.sets c.ways (h ++ record { label = ew; tag = tag } ∷ []) ew s) same_set
          (tags_here r tag ew in_range ∙ ap (replaced r c.ways tag) (stands.each ew (tag % c.sets) in_range (set_below tag))
          ∙ sym (held_here r c.sets c.ways h ew tag good.some_way)))
      go label set lb sb (inr e) =
          let apart : (label ≡ ew) × (set ≡ tag % c.sets) → ⊥ =
          λ p. both_ways (is_at c.sets label set (record { label = ew; tag = tag })) e
          (and_from (eqb ew label) (eqb (tag % c.sets) set) (eq-eqb ew label (sym p.0)) (eq-eqb (tag % c.sets) set (sym p.1))) in
          tags_elsewhere r tag ew label set sb apart ∙ stands.each label set lb sb
          ∙ sym (held_elsewhere r c.sets c.ways h (record { label = ew; tag = tag }) label set e)

  pub some_below_same : (n : ℕ) (p q : ℕ → Bool) → ((k : ℕ) → k < n → p k ≡ q k) → some_below n p ≡ some_below n q
  some_below_same zero p q h = refl
  some_below_same (suc n) p q h = rw (h n (omega arith), some_below_same n p q (λ k lt. h k (omega arith))) refl

  pub has_is : (r : Replacement) (tag label : ℕ) (h : List Touched) → label < c.order.size → StandsBy r c h
      → has c tag label ≡ holds_by r c.sets c.ways h label tag
  has_is r tag label h lt stands =
      ap (list_any (eqb tag)) (stands.each label (tag % c.sets) lt (set_below tag)) ∙ any_held r c.ways tag (reverse (tags_in c.sets label (tag % c.sets) h))

  pub found_is : (r : Replacement) (tag er : ℕ) (h : List Touched) → StandsBy r c h → found c tag er ≡ hits_by r c.order c.sets c.ways h er tag
  found_is r tag er h stands =
      some_below_same c.order.size
      (λ label. (lattice_of c.order).flows label er && has c tag label)
      (λ label. (lattice_of c.order).flows label er && holds_by r c.sets c.ways h label tag)
      (λ label lt. ap (λ b. (lattice_of c.order).flows label er && b) (has_is r tag label h lt stands))

-- a cache all of whose rows are empty stands for the empty history
pub StandsBy-empty : (r : Replacement) (c : Rows) → ((k : ℕ) → get_or c.rows k [] ≡ []) → StandsBy r c []
StandsBy-empty r c none = record { each = λ label set lb sb. none (label * c.sets + set) ∙ sym (row_none r c.ways) }

-- ---- a loop over the labels
pub some_below_more : (n : ℕ) (p : ℕ → Bool) → p n ≡ false → some_below n p ≡ false → some_below (n + 1) p ≡ false
some_below_more n p h k = rw (add-one, h) k

pub some_below_at : (n : ℕ) (p : ℕ → Bool) (k : ℕ) → k < n → p k ≡ true → some_below n p ≡ true
some_below_at zero p k h e = absurd (omega arith)
some_below_at (suc n) p k h e = go (λ lt. some_below_at n p k lt e) (cases_eq k n)
  where
    go : (k < n → some_below n p ≡ true) → ((k ≡ n) ⊎ (k ≡ n → ⊥)) → (p n || some_below n p) ≡ true
    go rest (inl q) = or_left (p n) (some_below n p) (ap p (sym q) ∙ e)
    go rest (inr ne) = or_right (p n) (some_below n p) (rest (omega arith))

pub some_below_upto : (n m : ℕ) (p : ℕ → Bool) → m ≤ n → n ≤ m → some_below n p ≡ false → some_below m p ≡ false
some_below_upto n m p a b h = let e : m ≡ n = omega arith in rw e h
