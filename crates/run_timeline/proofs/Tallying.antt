-- Tallies of moments, one after another.
use Rattle.std.proofs.Common.{◌≡◌, ℕ, zero, suc, ◌+◌, ◌<◌, ◌≤◌, ◌⊎◌, inl, inr, List, [], ◌∷◌, ◌++◌, length, get_or, refl, sym, ap, ◌∙◌, subst, arith}
use Rattle.std.proofs.Common.{append-nil}
use Rattle.std.specs.Prelude.{Bool, true, false, cond, ◌&&◌, min, max, eqb, ltb, slice_index_or, All}
use Rattle.std.proofs.lemmas.Bool.{cases_eq, eq-eqb, ne_eqb}
use Rattle.std.proofs.lemmas.List.{length-set, length_push, get_or-set_same, get_or-set_other, get_or_default}
use Rattle.run_timeline.specs.declared.moment.Moment.{Moment}
use Rattle.run_timeline.specs.declared.moment.Moment.TheVariants.{Assigned, Begins, Ends}
use Rattle.run_timeline.specs.declared.tally.Tally.{Tally}
use Rattle.run_timeline.specs.Summary.{works, misses, least_of, shortest, longest, least_of_tally, tally_of, AreTallies, IsLeastFirst}
use Rattle.run_timeline.specs.Tallied.{no_tally, noted, noted_at, noted_moment, HasRoom, HaveRoom, Grown}

works-append : (k : ℕ) (ms ns : List Moment) → works k (ms ++ ns) ≡ works k ms ++ works k ns
works-append k [] ns = refl
works-append k (Assigned x n c ∷ ms) ns = works-append k ms ns
works-append k (Begins j n d m c ∷ ms) ns = works-append k ms ns
works-append k (Ends j w d m n c ∷ ms) ns = go (eqb j k) (works-append k ms ns)
  where
    go : (b : Bool) → works k (ms ++ ns) ≡ works k ms ++ works k ns
        → cond b (w ∷ works k (ms ++ ns)) (works k (ms ++ ns)) ≡ cond b (w ∷ works k ms) (works k ms) ++ works k ns
    go true e = ap (λ z. w ∷ z) e
    go false e = e

misses-append : (k : ℕ) (ms ns : List Moment) → misses k (ms ++ ns) ≡ misses k ms + misses k ns
misses-append k [] ns = omega arith
misses-append k (Assigned x n c ∷ ms) ns = misses-append k ms ns
misses-append k (Begins j n d m c ∷ ms) ns = misses-append k ms ns
misses-append k (Ends j w d m n c ∷ ms) ns = let e = misses-append k ms ns in omega (arith, e)

least_more : (u : ℕ) (us : List ℕ) (w : ℕ) → least_of u (us ++ w ∷ []) ≡ min (least_of u us) w
least_more u [] w = refl
least_more u (x ∷ us) w = least_more (min u x) us w

shortest_more : (ws : List ℕ) (w : ℕ) → shortest (ws ++ w ∷ []) ≡ cond (eqb (length ws) 0) w (min (shortest ws) w)
shortest_more [] w = refl
shortest_more (u ∷ us) w = least_more u us w ∙ ap (λ b. cond b w (min (least_of u us) w)) (sym (ne_eqb (length (u ∷ us)) 0 (λ e. absurd (omega (arith, e)))))

longest_more : (ws : List ℕ) (w : ℕ) → longest (ws ++ w ∷ []) ≡ max (longest ws) w
longest_more [] w = omega arith
longest_more (u ∷ us) w = let e = longest_more us w in omega (arith, e)

missed_more : (b : Bool) (n : ℕ) → n + cond b 1 0 ≡ cond b (n + 1) n
missed_more true n = refl
missed_more false n = omega arith

abbrev tally : ℕ → ℕ → ℕ → ℕ → Tally
tally a b c d = record { ended = a; shortest = b; longest = c; missed = d }

-- the tally of the mark of a mitigation that ended
tally_noted : (k : ℕ) (ms : List Moment) (w d m n c : ℕ) → tally_of k (ms ++ Ends k w d m n c ∷ []) ≡ noted (tally_of k ms) w (ltb m n)
tally_noted k ms w d m n c =
    let same : eqb k k ≡ true = eq-eqb k k refl in
    let ws : works k (ms ++ Ends k w d m n c ∷ []) ≡ works k ms ++ w ∷ [] =
    works-append k ms (Ends k w d m n c ∷ []) ∙ ap (λ b. works k ms ++ cond b (w ∷ []) []) same in
    let zs : misses k (ms ++ Ends k w d m n c ∷ []) ≡ misses k ms + cond (ltb m n) 1 0 =
    misses-append k ms (Ends k w d m n c ∷ []) ∙ (ap (λ b. misses k ms + (cond (b && ltb m n) 1 0 + 0)) same ∙ plus (misses k ms) (cond (ltb m n) 1 0)) in
    let of : List ℕ → ℕ → Tally = λ xs z. record { ended = length xs; shortest = shortest xs; longest = longest xs; missed = z } in
    ap (λ xs. of xs (misses k (ms ++ Ends k w d m n c ∷ []))) ws
    ∙ (ap (of (works k ms ++ w ∷ [])) (zs ∙ missed_more (ltb m n) (misses k ms))
    ∙ parts (works k ms) (cond (ltb m n) (misses k ms + 1) (misses k ms)))
  where
    plus : (a b : ℕ) → a + (b + 0) ≡ a + b
    plus a b = omega arith

    parts : (xs : List ℕ) (z : ℕ) →
        tally (length (xs ++ w ∷ [])) (shortest (xs ++ w ∷ [])) (longest (xs ++ w ∷ [])) z
        ≡ tally (length xs + 1) (cond (eqb (length xs) 0) w (min (shortest xs) w)) (max (longest xs) w) z
    parts xs z =
        ap (λ y. tally y (shortest (xs ++ w ∷ [])) (longest (xs ++ w ∷ [])) z) (length_push xs w)
        ∙ (ap (λ y. tally (length xs + 1) y (longest (xs ++ w ∷ [])) z) (shortest_more xs w)
        ∙ ap (λ y. tally (length xs + 1) (cond (eqb (length xs) 0) w (min (shortest xs) w)) y z) (longest_more xs w))

-- another mark's stays
tally_other : (j k : ℕ) (ms : List Moment) (w d m n c : ℕ) → eqb j k ≡ false → tally_of k (ms ++ Ends j w d m n c ∷ []) ≡ tally_of k ms
tally_other j k ms w d m n c e =
    let of : List ℕ → ℕ → Tally = λ xs z. record { ended = length xs; shortest = shortest xs; longest = longest xs; missed = z } in
    let ws : works k (ms ++ Ends j w d m n c ∷ []) ≡ works k ms =
    works-append k ms (Ends j w d m n c ∷ []) ∙ (ap (λ b. works k ms ++ cond b (w ∷ []) []) e ∙ append-nil (works k ms)) in
    let zs : misses k (ms ++ Ends j w d m n c ∷ []) ≡ misses k ms =
    misses-append k ms (Ends j w d m n c ∷ []) ∙ (ap (λ b. misses k ms + (cond (b && ltb m n) 1 0 + 0)) e ∙ plus (misses k ms)) in
    ap (λ xs. of xs (misses k (ms ++ Ends j w d m n c ∷ []))) ws ∙ ap (of (works k ms)) zs
  where
    plus : (a : ℕ) → a + (0 + 0) ≡ a
    plus a = omega arith

tally_quiet : (k : ℕ) (ms ns : List Moment) → works k ns ≡ [] → misses k ns ≡ 0 → tally_of k (ms ++ ns) ≡ tally_of k ms
tally_quiet k ms ns e f =
    let of : List ℕ → ℕ → Tally = λ xs z. record { ended = length xs; shortest = shortest xs; longest = longest xs; missed = z } in
    let ws : works k (ms ++ ns) ≡ works k ms = works-append k ms ns ∙ (ap (λ z. works k ms ++ z) e ∙ append-nil (works k ms)) in
    let q = misses-append k ms ns in
    let zs : misses k (ms ++ ns) ≡ misses k ms = omega (arith, q, f) in
    ap (λ xs. of xs (misses k (ms ++ ns))) ws ∙ ap (of (works k ms)) zs

-- one moment more
pub tallied_more : (ms : List Moment) (ts : List Tally) (m : Moment) → AreTallies ms ts → AreTallies (ms ++ m ∷ []) (noted_moment ts m)
tallied_more ms ts (Assigned x n c) h = record { each = λ k d l. h.each k d l ∙ sym (tally_quiet k ms (Assigned x n c ∷ []) refl refl) }
tallied_more ms ts (Begins j n d m c) h = record { each = λ k e l. h.each k e l ∙ sym (tally_quiet k ms (Begins j n d m c ∷ []) refl refl) }
tallied_more ms ts (Ends j w d m n c) h =
    record { each = λ k e l. at k e (omega (arith, l, length-set ts j (noted (slice_index_or ts j no_tally) w (ltb m n)))) (cases_eq k j) }
  where
    at : (k : ℕ) (e : Tally) → k < length ts → (k ≡ j) ⊎ (k ≡ j → ⊥) → slice_index_or (noted_at ts j w (ltb m n)) k e ≡ tally_of k (ms ++ Ends j w d m n c ∷ [])
    at k e l (inl q) =
        subst (λ z. slice_index_or (noted_at ts j w (ltb m n)) z e ≡ tally_of z (ms ++ Ends j w d m n c ∷ [])) (sym q)
        (get_or-set_same ts j (noted (slice_index_or ts j no_tally) w (ltb m n)) e (subst (λ z. z < length ts) q l)
        ∙ (ap (λ t. noted t w (ltb m n)) (h.each j no_tally (subst (λ z. z < length ts) q l)) ∙ sym (tally_noted j ms w d m n c)))
    at k e l (inr q) =
        get_or-set_other ts j k (noted (slice_index_or ts j no_tally) w (ltb m n)) e q
        ∙ (h.each k e l ∙ sym (tally_other j k ms w d m n c (ne_eqb j k (λ r. q (sym r)))))

-- tallies grow by at most one
pub grown_more : (a b : ℕ) (old ts : List Tally) (m : Moment) → a < b → Grown a old ts → Grown b old (noted_moment ts m)
grown_more a b old ts (Assigned x n c) l g = record { fit = g.fit; each = λ k d h. let r = g.each k d h in let p = r.0 in (omega (arith, p, l), r.1) }
grown_more a b old ts (Begins j n d m c) l g = record { fit = g.fit; each = λ k e h. let r = g.each k e h in let p = r.0 in (omega (arith, p, l), r.1) }
grown_more a b old ts (Ends j w d m n c) l g = record {
  fit = length-set ts j (noted (slice_index_or ts j no_tally) w (ltb m n)) ∙ g.fit;
  each = λ k e h. at k e h (cases_eq k j);
}
  where
    up : (t : Tally) (o : ℕ) → (t.ended ≤ o + a) × (t.missed ≤ t.ended) → ((noted t w (ltb m n)).ended ≤ o + b)
        × ((noted t w (ltb m n)).missed ≤ (noted t w (ltb m n)).ended)
    up t o r = let p = r.0 in let q = r.1 in (omega (arith, p, l), missed (ltb m n))
      where
        missed : (x : Bool) → cond x (t.missed + 1) t.missed ≤ t.ended + 1
        missed true = let q = r.1 in omega (arith, q)
        missed false = let q = r.1 in omega (arith, q)

    at : (k : ℕ) (e : Tally) → k < length old → (k ≡ j) ⊎ (k ≡ j → ⊥) →
        ((slice_index_or (noted_at ts j w (ltb m n)) k e).ended ≤ (slice_index_or old k e).ended + b)
        × ((slice_index_or (noted_at ts j w (ltb m n)) k e).missed ≤ (slice_index_or (noted_at ts j w (ltb m n)) k e).ended)
    at k e h (inl q) =
        let l' : j < length ts = omega (arith, h, q, g.fit) in
        let r : ((slice_index_or ts j no_tally).ended ≤ (slice_index_or old j no_tally).ended + a)
        × ((slice_index_or ts j no_tally).missed ≤ (slice_index_or ts j no_tally).ended) = g.each j no_tally (omega (arith, h, q)) in
        let u = up (slice_index_or ts j no_tally) (slice_index_or old j no_tally).ended r in
        let same : slice_index_or old j no_tally ≡ slice_index_or old k e =
        get_or_default old j no_tally e (omega (arith, h, q)) ∙ ap (λ z. slice_index_or old z e) (sym q) in
        subst (λ t. (t.ended ≤ (slice_index_or old k e).ended + b) × (t.missed ≤ t.ended))
        (sym (ap (λ z. slice_index_or (noted_at ts j w (ltb m n)) z e) q ∙ get_or-set_same ts j (noted (slice_index_or ts j no_tally) w (ltb m n)) e l'))
        (subst (λ t. ((noted (slice_index_or ts j no_tally) w (ltb m n)).ended ≤ t.ended + b)
        × ((noted (slice_index_or ts j no_tally) w (ltb m n)).missed ≤ (noted (slice_index_or ts j no_tally) w (ltb m n)).ended)) same u)
    at k e h (inr q) =
        let r = g.each k e h in
        subst (λ t. (t.ended ≤ (slice_index_or old k e).ended + b) × (t.missed ≤ t.ended))
        (sym (get_or-set_other ts j k (noted (slice_index_or ts j no_tally) w (ltb m n)) e q))
        (let p = r.0 in (omega (arith, p, l), r.1))

pub grown_quiet : (a b : ℕ) (old ts : List Tally) → a ≤ b → Grown a old ts → Grown b old ts
grown_quiet a b old ts l g = record { fit = g.fit; each = λ k d h. let r = g.each k d h in let p = r.0 in (omega (arith, p, l), r.1) }

pub grown_first : (n c : ℕ) (ts : List Tally) → HaveRoom n ts → Grown c ts ts
grown_first n c ts h = record { fit = refl; each = λ k d l. let r = h k d l in (omega arith, r.1) }

-- where tallies have grown by less than there is room for, there is room for one more
pub room_left : (n a : ℕ) (old ts : List Tally) → a < n → HaveRoom n old → Grown a old ts → (k : ℕ) (d : Tally) → k < length ts
    → HasRoom 1 (slice_index_or ts k d)
room_left n a old ts l h g k d q =
    let q' : k < length old = omega (arith, q, g.fit) in
    let r = g.each k d q' in
    let p = r.0 in
    let s = (h k d q').0 in
    (omega (arith, p, s, l), r.1)

above_longest : (ws : List ℕ) (k d : ℕ) → k < length ws → get_or ws k d ≤ longest ws
above_longest [] k d h = absurd (omega (arith, h))
above_longest (w ∷ ws) zero d h = omega arith
above_longest (w ∷ ws) (suc k) d h = let r = above_longest ws k d (omega (arith, h)) in omega (arith, r)

least_longest : (ws : List ℕ) (z : ℕ) → 0 < z → All (λ w. w < z) ws → longest ws < z
least_longest [] z s h = s
least_longest (w ∷ ws) z s h =
    let one = h 0 0 (omega arith) in
    let more = least_longest ws z s (λ k d l. h (suc k) d (omega (arith, l))) in
    omega (arith, one, more)

pub least_first_is : (k : ℕ) (ms : List Moment) → IsLeastFirst (works k ms) (least_of_tally (tally_of k ms))
least_first_is k ms = of (works k ms)
  where
    of : (ws : List ℕ) → IsLeastFirst ws (cond (eqb (length ws) 0) 1 (longest ws + 1))
    of [] = record { some = omega arith; above = λ j d h. absurd (omega (arith, h)); least = λ z s h. s }
    of (w ∷ ws) =
        subst (IsLeastFirst (w ∷ ws)) (ap (λ b. cond b 1 (longest (w ∷ ws) + 1)) (sym (ne_eqb (length (w ∷ ws)) 0 (λ e. absurd (omega (arith, e))))))
        (record {
          some = omega arith;
          above = λ j d h. let a = above_longest (w ∷ ws) j d h in omega (arith, a);
          least = λ z s h. let l = least_longest (w ∷ ws) z s h in omega (arith, l);
        })
