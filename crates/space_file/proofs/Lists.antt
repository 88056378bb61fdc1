-- Lists of values grow.
use Rattle.std.proofs.Common.{◌≡◌, ◌∙◌, refl, sym, ap, subst, ℕ, zero, suc, ◌+◌, ◌<◌, ◌≤◌, List, [], ◌∷◌, ◌++◌, length, get_or, drop}
use Rattle.std.proofs.Common.{replicate, map, Vec, arith}
use Rattle.std.proofs.Common.{append_assoc, append-nil, inl, inr, Bool, true, false, ◌&&◌, Option, Some, None}
use Rattle.std.specs.Prelude.{All, option_map, option_and_then}
use Rattle.std.specs.Prelude.{◌==◌}
use Rattle.std.specs.List.{list_all, slice_split}
use Rattle.std.specs.declared.alloc.Global.{Global}
use Rattle.std.proofs.lemmas.Bool.{false≢true, cases_lt}
use Rattle.std.proofs.lemmas.List.{map-append, replicate_more, drop_more, drop_all, length-map}
use Rattle.std.proofs.lemmas.List.Splits.{length-slice_split}
use Rattle.std.proofs.lemmas.List.Elements.{All-nil, All-cons, All-append}
use Rattle.space_starts.specs.declared.space.Interval.{Interval}
use Rattle.space_starts.specs.Space.{lists, IsValues, apart}
use Rattle.space_file.specs.Ranges.{Values, Adds, zero_only, item_of, items_of, trimmed}

abbrev pub items : Vec Interval Global → Values
items v = v.items

pub pushed : (old new : List (Vec Interval Global)) (v : Vec Interval Global) → new ≡ old ++ v ∷ [] → lists new ≡ lists old ++ v.items ∷ []
pushed old new v e = ap lists e ∙ map-append items old (v ∷ [])

pub all_pushed : (old new : List (Vec Interval Global)) (v : Vec Interval Global) → new ≡ old ++ v ∷ [] → IsValues v.items → All IsValues (lists old)
    → All IsValues (lists new)
all_pushed old new v e is are =
    subst (All IsValues) (sym (pushed old new v e))
    (All-append IsValues (lists old) (v.items ∷ []) are (All-cons IsValues v.items [] is (All-nil IsValues)))

pub zero_put : (first old new : List (Vec Interval Global)) (v : Vec Interval Global) (n : ℕ) → new ≡ old ++ v ∷ [] → v.items ≡ zero_only
    → lists old ≡ lists first ++ replicate n zero_only → lists new ≡ lists first ++ replicate (n + 1) zero_only
zero_put first old new v n e is h =
    pushed old new v e ∙ ap (λ l. l ++ v.items ∷ []) h ∙ ap (λ z. (lists first ++ replicate n zero_only) ++ z ∷ []) is
    ∙ append_assoc (lists first) (replicate n zero_only) (zero_only ∷ []) ∙ ap (λ l. lists first ++ l) (replicate_more n zero_only)

pub scalar_put : (old new : List (Vec Interval Global)) (v : Vec Interval Global) (o : Option Values) → o ≡ Some v.items → new ≡ old ++ v ∷ []
    → Adds (lists old) (lists new) (option_map (λ w. w ∷ []) o)
scalar_put old new v o e is = subst (λ z. Adds (lists old) (lists new) (option_map (λ w. w ∷ []) z)) (sym e) (pushed old new v is)

pub scalar_none : (o : Option Values) → o ≡ None → option_map (λ w. w ∷ []) o ≡ None
scalar_none o e = ap (option_map (λ w. w ∷ [])) e

-- ---- the variables before a place have no value twice

pub none_twice : (vs : List (Vec Interval Global)) → ((k : ℕ) (d : Vec Interval Global) → k < length vs → apart (get_or vs k d).items ≡ true)
    → list_all apart (lists vs) ≡ true
none_twice [] h = refl
none_twice (v ∷ vs) h = by (apart v.items) (h 0 v (omega arith)) (none_twice vs (λ k d lt. h (suc k) d (omega (arith, lt))))
  where
    by : (b : Bool) → b ≡ true → list_all apart (lists vs) ≡ true → (b && list_all apart (lists vs)) ≡ true
    by true e r = r
    by false e r = absurd (false≢true e)

pub one_twice : (vs : List (Vec Interval Global)) (k : ℕ) (d : Vec Interval Global) → k < length vs → apart (get_or vs k d).items ≡ false
    → list_all apart (lists vs) ≡ false
one_twice [] k d lt e = absurd (omega (arith, lt))
one_twice (v ∷ vs) zero d lt e = by (apart v.items) e
  where
    by : (b : Bool) → b ≡ false → (b && list_all apart (lists vs)) ≡ false
    by true e = absurd (false≢true (sym e))
    by false e = refl
one_twice (v ∷ vs) (suc k) d lt e = by (apart v.items) (one_twice vs k d (omega (arith, lt)) e)
  where
    by : (b : Bool) → list_all apart (lists vs) ≡ false → (b && list_all apart (lists vs)) ≡ false
    by true e = e
    by false e = refl

both : (a b : Bool) → (a && b) ≡ true → (a ≡ true) × (b ≡ true)
both true true e = (refl, refl)
both true false e = absurd (false≢true e)
both false b e = absurd (false≢true e)

pub each_once : (vs : List Values) → list_all apart vs ≡ true → All (λ v. apart v ≡ true) vs
each_once [] e = All-nil (λ v. apart v ≡ true)
each_once (v ∷ vs) e =
    let h = both (apart v) (list_all apart vs) e in
    All-cons (λ v. apart v ≡ true) v vs h.0 (each_once vs h.1)

same_vec : (vs : List (Vec Interval Global)) (k : ℕ) (d e : Vec Interval Global) → k < length vs → get_or vs k d ≡ get_or vs k e
same_vec [] k d e lt = absurd (omega (arith, lt))
same_vec (v ∷ vs) zero d e lt = refl
same_vec (v ∷ vs) (suc k) d e lt = same_vec vs k d e (omega (arith, lt))

abbrev pub Once : List (Vec Interval Global) → ℕ → Type 0
Once vs i = (k : ℕ) (d : Vec Interval Global) → k < i → apart (get_or vs k d).items ≡ true

pub once_more : (vs : List (Vec Interval Global)) (i : ℕ) (v : Vec Interval Global) → i < length vs → v ≡ get_or vs i v → apart v.items ≡ true → Once vs i
    → Once vs (i + 1)
once_more vs i v lt at is h k d less =
    elim (cases_lt k i) [
      | inl l ↦ h k d l
      | inr g ↦
          let e : i ≡ k = omega (arith, g, less) in
          let here = subst (λ (w : Vec Interval Global). apart w.items ≡ true) (at ∙ same_vec vs i v d lt) is in
          subst (λ n. apart (get_or vs n d).items ≡ true) e here
    ]

-- ---- a text has an item

pub some_pieces : (long : ℕ) (w : List ℕ) → long ≡ length (slice_split (λ b. b == 44) w) → 0 < long
some_pieces long w e = let more = length-slice_split (λ b. b == 44) w in omega (arith, e, more)

-- ---- the items of a text, one after another

abbrev pub after_items : Values → Option Values → Option Values
after_items is = option_map (λ js. is ++ js)

pub after_no_items : (o : Option Values) → o ≡ after_items [] o
after_no_items None = refl
after_no_items (Some js) = refl

first_item : (i : Interval) (o : Option Values) (is : Values) → after_items is (option_map (λ js. i ∷ js) o) ≡ after_items (is ++ i ∷ []) o
first_item i None is = refl
first_item i (Some js) is = ap (λ (l : Values). Some l) (sym (append_assoc is (i ∷ []) js))

module _ (ws : List (List ℕ)) (k : ℕ) (w : List ℕ) (is : Values) (lt : k < length ws) (at : w ≡ get_or ws k w)
    (h : items_of ws ≡ after_items is (items_of (drop k ws))) where
  opened : drop k ws ≡ w ∷ drop (k + 1) ws
  opened = drop_more ws k w lt ∙ ap (λ z. z ∷ drop (k + 1) ws) (sym at)

  step : items_of ws ≡ after_items is (option_and_then (λ i. option_map (λ js. i ∷ js) (items_of (drop (k + 1) ws))) (item_of (trimmed w)))
  step = h ∙ ap (λ l. after_items is (items_of l)) opened

  pub item_more : (i : Interval) → Some i ≡ item_of (trimmed w) → items_of ws ≡ after_items (is ++ i ∷ []) (items_of (drop (k + 1) ws))
  item_more i e =
      step ∙ ap (λ o. after_items is (option_and_then (λ j. option_map (λ js. j ∷ js) (items_of (drop (k + 1) ws))) o)) (sym e)
      ∙ first_item i (items_of (drop (k + 1) ws)) is

  pub no_item : None ≡ item_of (trimmed w) → items_of ws ≡ None
  no_item e = step ∙ ap (λ o. after_items is (option_and_then (λ j. option_map (λ js. j ∷ js) (items_of (drop (k + 1) ws))) o)) (sym e)

pub all_items : (ws : List (List ℕ)) (k : ℕ) (is : Values) → length ws ≤ k → items_of ws ≡ after_items is (items_of (drop k ws)) → items_of ws ≡ Some is
all_items ws k is le h = h ∙ ap (λ (l : List (List ℕ)). after_items is (items_of l)) (drop_all k ws le) ∙ ap (λ (l : Values). Some l) (append-nil is)
