-- A tag comes to the front of a set, and the ways before the one that had it, or before the last, go one on.
use Rattle.std.proofs.Common.{◌≡◌, ℕ, zero, suc, ◌+◌, ◌-◌, ◌^◌, ◌<◌, ◌≤◌, List, [], ◌∷◌, ◌++◌, length, take, drop, get_or, set, true, false, refl, sym, ap}
use Rattle.std.proofs.Common.{◌∙◌, subst, arith}
use Rattle.std.specs.Prelude.{eqb, replicate}
use Rattle.std.specs.List.{filter, list_any}
use Rattle.std.proofs.lemmas.List.{append_assoc, length-append, length-take, length-drop, length-set, take-append-drop, take-append-le, drop-append-le}
use Rattle.std.proofs.lemmas.List.{take-replicate, drop-replicate, replicate-append-replicate, take_all, take_more, take_more_set, drop_more, drop-set-lt}
use Rattle.std.proofs.lemmas.List.{same_from_push}
use Rattle.std.proofs.lemmas.List.Elements.{All-cons, All-take, All-filter}
use Rattle.std.proofs.lemmas.Bool.{eq-eqb, ne_eqb, both_ways}
use Rattle.part_cache.specs.Ways.{empty_way, held_tags, absent, Apart, AreWays, to_front}
use Rattle.part_cache.proofs.Near.{other, filter_absent, absent-take, absent-filter, Apart-filter}
use Rattle.part_cache.proofs.Held.{held_is, any_some, way_held}

-- ---- the loop: what is carried from way to way
pub record Carried (first tags : List ℕ) (tag last way : ℕ) : Type 0 where
  pub front : tag ∷ take way first ≡ take way tags ++ last ∷ []
  pub rest : drop way tags ≡ drop way first
  pub long : length tags ≡ length first

pub Carried-start : (first : List ℕ) (tag : ℕ) → Carried first first tag tag 0
Carried-start first tag = record { front = refl; rest = refl; long = refl }

pub Carried-more : (first tags : List ℕ) (tag last way next : ℕ) → Carried first tags tag last way → way < length first → next ≡ get_or tags way 0
    → Carried first (set tags way last) tag next (way + 1)
Carried-more first tags tag last way next c lt is =
    record {
      front =
          ap (λ t. tag ∷ t) (take_more first way 0 lt)
          ∙ ap (λ t. t ++ get_or first way 0 ∷ []) c.front
          ∙ ap (λ n. (take way tags ++ last ∷ []) ++ n ∷ []) (sym (is ∙ same))
          ∙ ap (λ t. t ++ next ∷ []) (sym (take_more_set tags way last inside));
      rest = drop-set-lt (way + 1) tags way last (omega arith) ∙ later;
      long = length-set tags way last ∙ c.long;
    }
  where
    inside : way < length tags
    inside = omega (arith, c.long)

    heads : get_or tags way 0 ∷ drop (way + 1) tags ≡ get_or first way 0 ∷ drop (way + 1) first
    heads = sym (drop_more tags way 0 inside) ∙ c.rest ∙ drop_more first way 0 lt

    same : get_or tags way 0 ≡ get_or first way 0
    same = let h = heads in cc

    later : drop (way + 1) tags ≡ drop (way + 1) first
    later = let h = heads in cc

-- at the end of the loop
pub carried_all : (first tags : List ℕ) (tag last way end : ℕ) → Carried first tags tag last end → end ≡ way + 1 → way < length first
    → tags ≡ tag ∷ (take way first ++ drop (way + 1) first)
carried_all first tags tag last way end c is lt =
    let d : Carried first tags tag last (way + 1) = subst (Carried first tags tag last) is c in
    let front : (tag ∷ take way first) ++ get_or first way 0 ∷ [] ≡ take (way + 1) tags ++ last ∷ [] =
    ap (λ t. tag ∷ t) (sym (take_more first way 0 lt)) ∙ d.front in
    let heads = same_from_push (tag ∷ take way first) (take (way + 1) tags) (get_or first way 0) last front in
    sym (take-append-drop (way + 1) tags) ∙ ap (λ t. t ++ drop (way + 1) tags) (sym heads.0) ∙ ap (λ t. (tag ∷ take way first) ++ t) d.rest

-- ---- the rotated ways
abbrev pub rotated : ℕ → ℕ → List ℕ → List ℕ
rotated way tag tags = tag ∷ (take way tags ++ drop (way + 1) tags)

-- one tag taken out of tags of which no two are the same
without : (xs : List ℕ) (tag k : ℕ) → Apart xs → k < length xs → get_or xs k 0 ≡ tag → take k xs ++ drop (suc k) xs ≡ filter (other tag) xs
without [] tag k a lt e = absurd (omega arith)
without (x ∷ xs) tag zero a lt e =
    let here : eqb tag x ≡ true = eq-eqb tag x (sym e) in
    rw here (sym (filter_absent tag xs (subst (λ t. absent t xs) e a.0)))
without (x ∷ xs) tag (suc k) a lt e =
    let ne : eqb tag x ≡ false = ne_eqb tag x (λ q. both_ways (list_any (eqb x) xs) a.0 (any_some x xs k (omega arith) (e ∙ q))) in
    rw ne (ap (λ t. x ∷ t) (without xs tag k a.1 (omega arith) e))

Apart-take : (n : ℕ) (xs : List ℕ) → Apart xs → Apart (take n xs)
Apart-take zero xs a = tt
Apart-take (suc n) [] a = tt
Apart-take (suc n) (x ∷ xs) a = (absent-take x n xs a.0, Apart-take n xs a.1)

-- an empty way goes, or the last tag where there is none
shifted : (xs : List ℕ) (w m : ℕ) → length xs ≤ suc w → suc w ≤ length xs + m →
    take w (xs ++ replicate m empty_way) ++ drop (suc w) (xs ++ replicate m empty_way) ≡ take w xs
    ++ replicate (length xs + m - suc (length (take w xs))) empty_way
shifted [] zero m few fits = drop-replicate 1 m empty_way ∙ ap (λ n. replicate n empty_way) (omega arith)
shifted [] (suc w) m few fits =
    ap (λ t. t ++ drop (suc (suc w)) (replicate m empty_way)) (take-replicate (suc w) m empty_way (omega arith))
    ∙ ap (λ t. replicate (suc w) empty_way ++ t) (drop-replicate (suc (suc w)) m empty_way)
    ∙ replicate-append-replicate (suc w) (m - suc (suc w)) empty_way
    ∙ ap (λ n. replicate n empty_way) (omega arith)
shifted (x ∷ []) zero m few fits = ap (λ n. replicate n empty_way) (omega arith)
shifted (x ∷ y ∷ xs) zero m few fits = absurd (omega arith)
shifted (x ∷ xs) (suc w) m few fits =
    ap (λ t. x ∷ t) (shifted xs w m (omega arith) (omega arith)
    ∙ ap (λ n. take w xs ++ replicate n empty_way) (omega arith))

-- ---- what is so of the ways afterwards
module _ (tags : List ℕ) (s : AreWays tags) (tag ways : ℕ) (small : tag < 2 ^ 32) (few : length (held_tags tags) ≤ ways) where
  abbrev front : List ℕ
  front = to_front ways tag s.held

  count : length s.held ≤ ways
  count = omega (arith, ap length (held_is tags s))

  front_set : (after : List ℕ) → after ≡ front ++ replicate (8 - length front) empty_way → length front ≤ 8 → AreWays after
  front_set after is short =
      record {
        held = front;
        are = is;
        few = short;
        small = All-take (λ t. t < 2 ^ 32) ways (tag ∷ filter (other tag) s.held)
            (All-cons (λ t. t < 2 ^ 32) tag (filter (other tag) s.held) small (All-filter (other tag) (λ t. t < 2 ^ 32) s.held s.small));
        apart = Apart-take ways (tag ∷ filter (other tag) s.held) (absent-filter tag s.held, Apart-filter (other tag) s.held s.apart);
      }

  front_row : (after : List ℕ) → after ≡ front ++ replicate (8 - length front) empty_way → length front ≤ 8
      → held_tags after ≡ to_front ways tag (held_tags tags)
  unfolding front_set
  front_row after is short = held_is after (front_set after is short) ∙ ap (to_front ways tag) (sym (held_is tags s))

  -- a way had the tag
  module _ (way : ℕ) (within : way < 8) (has : get_or tags way 0 ≡ tag) where
    abbrev rest : List ℕ
    rest = filter (other tag) s.held

    at : (way < length s.held) × (get_or s.held way 0 ≡ tag)
    at = way_held tags s tag way small within has

    left : take way s.held ++ drop (suc way) s.held ≡ rest
    left = without s.held tag way s.apart at.0 at.1

    length-left : suc (length rest) ≡ length s.held
    length-left =
        let lt = at.0 in
        omega (arith, ap length left, length-append (take way s.held) (drop (suc way) s.held), length-take way s.held, length-drop (suc way) s.held)

    whole : front ≡ tag ∷ rest
    whole = take_all ways (tag ∷ rest) (omega (arith, length-left, count))

    brought_short : length front ≤ 8
    brought_short = omega (arith, ap length whole, length-left, s.few)

    brought_is : rotated way tag tags ≡ front ++ replicate (8 - length front) empty_way
    brought_is =
        ap (λ t. rotated way tag t) s.are
        ∙ ap (λ k. tag ∷ (take way (s.held ++ empties) ++ drop k (s.held ++ empties))) next
        ∙ ap (λ t. tag ∷ (t ++ drop (suc way) (s.held ++ empties))) (take-append-le way s.held empties (let lt = at.0 in omega arith))
        ∙ ap (λ t. tag ∷ (take way s.held ++ t)) (drop-append-le (suc way) s.held empties (let lt = at.0 in omega arith))
        ∙ ap (λ t. tag ∷ t) (sym (append_assoc (take way s.held) (drop (suc way) s.held) empties) ∙ ap (λ t. t ++ empties) left)
        ∙ ap (λ n. (tag ∷ rest) ++ replicate n empty_way) (omega (arith, length-left))
        ∙ sym (ap (λ f. f ++ replicate (8 - length f) empty_way) whole)
      where
        empties : List ℕ
        empties = replicate (8 - length s.held) empty_way

        next : way + 1 ≡ suc way
        next = omega arith

    pub brought_set : (after : List ℕ) → after ≡ rotated way tag tags → AreWays after
    brought_set after e = front_set after (e ∙ brought_is) brought_short

    pub brought_row : (after : List ℕ) → after ≡ rotated way tag tags → held_tags after ≡ to_front ways tag (held_tags tags)
    brought_row after e = front_row after (e ∙ brought_is) brought_short

  -- no way had it
  module _ (some : 0 < ways) (at_most : ways ≤ 8) (none : absent tag (held_tags tags)) where
    abbrev last : ℕ
    last = ways - 1

    ways_is : ways ≡ suc last
    ways_is = omega arith

    cut : front ≡ tag ∷ take last s.held
    cut = ap (λ n. take n (tag ∷ filter (other tag) s.held)) ways_is
        ∙ ap (λ t. tag ∷ take last t) (filter_absent tag s.held (subst (absent tag) (held_is tags s) none))

    length-cut : length (take last s.held) ≤ last
    length-cut = omega (arith, length-take last s.held)

    pushed_short : length front ≤ 8
    pushed_short = omega (arith, ap length cut, length-cut)

    pushed_is : rotated last tag tags ≡ front ++ replicate (8 - length front) empty_way
    pushed_is =
        ap (λ t. rotated last tag t) s.are
        ∙ ap (λ k. tag ∷ (take last (s.held ++ empties) ++ drop k (s.held ++ empties))) next
        ∙ ap (λ t. tag ∷ t) (shifted s.held last (8 - length s.held) (omega (arith, count)) (omega (arith, s.few)))
        ∙ ap (λ n. (tag ∷ take last s.held) ++ replicate n empty_way) (omega (arith, s.few, length-cut))
        ∙ sym (ap (λ f. f ++ replicate (8 - length f) empty_way) cut)
      where
        empties : List ℕ
        empties = replicate (8 - length s.held) empty_way

        next : last + 1 ≡ suc last
        next = omega arith

    pub pushed_set : (after : List ℕ) → after ≡ rotated last tag tags → AreWays after
    pushed_set after e = front_set after (e ∙ pushed_is) pushed_short

    pub pushed_row : (after : List ℕ) → after ≡ rotated last tag tags → held_tags after ≡ to_front ways tag (held_tags tags)
    pushed_row after e = front_row after (e ∙ pushed_is) pushed_short

-- ---- the first two ways, without a loop
pub first_is : (tags : List ℕ) (tag : ℕ) → length tags ≡ 8 → get_or tags 0 0 ≡ tag → tags ≡ rotated 0 tag tags
first_is [] tag long e = absurd (omega arith)
first_is (x ∷ xs) tag long e = ap (λ t. t ∷ xs) e

pub second_is : (tags : List ℕ) (tag wide : ℕ) → length tags ≡ 8 → wide ≡ tag → set (set tags 1 (get_or tags 0 0)) 0 wide ≡ rotated 1 tag tags
second_is [] tag wide long e = absurd (omega arith)
second_is (x ∷ []) tag wide long e = absurd (omega arith)
second_is (x ∷ y ∷ xs) tag wide long e = ap (λ t. t ∷ x ∷ xs) e
