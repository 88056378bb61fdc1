-- The laws of one cache: what a touch leaves, and what two caches with equal parts answer.
use Rattle.std.proofs.Common.{◌≡◌, ℕ, zero, suc, ◌+◌, ◌*◌, ◌%◌, ◌<◌, ◌≤◌, List, [], ◌∷◌, ◌++◌, length, take, drop, get_or, Bool, true, false, refl, sym, ap}
use Rattle.std.proofs.Common.{◌∙◌, subst, ◌⊎◌, inl, inr, ⊎_elim, arith}
use Rattle.std.specs.Prelude.{map, eqb, ◌&&◌, ◌↔◌}
use Rattle.std.specs.List.{list_any, range_with_len}
use Rattle.std.proofs.lemmas.List.{take_at, drop_at, set_past}
use Rattle.std.proofs.lemmas.List.FromFn.{get_or-map-range_with_len, length-map-range_with_len}
use Rattle.std.proofs.lemmas.Nat.{mod_below}
use Rattle.std.proofs.lemmas.Bool.{cases_eq, cases_lt, cases_Bool, both_ways}
use Rattle.label_lattice.specs.Lattice.{Flows}
use Rattle.label_lattice.specs.Order.{Order, lattice_of}
use Rattle.part_cache.specs.declared.replacement.Replacement.{Replacement}
use Rattle.part_cache.specs.History.{Touched, some_below, held_by}
use Rattle.part_cache.specs.Ways.{replaced}
use Rattle.part_cache.specs.Rows.{Rows, tags_at, IsCache, IsCacheOf, StandsBy, has, found, touched_by, tag_rows, numbers_of, part_of}
use Rattle.part_cache.proofs.Stands.{tags_here, tags_elsewhere, IsCache-touched, some_below_same}

-- the numbers give the rows back
pub rows_from_numbers : (xs ys : List (List ℕ)) → numbers_of xs ≡ numbers_of ys → xs ≡ ys
rows_from_numbers [] [] e = refl
rows_from_numbers [] (y ∷ ys) e = cc
rows_from_numbers (x ∷ xs) [] e = cc
rows_from_numbers (x ∷ xs) (y ∷ ys) e =
    let n : length x ≡ length y = cc in
    let rest : x ++ numbers_of xs ≡ y ++ numbers_of ys = cc in
    let first : x ≡ y = sym (take_at x (numbers_of xs) (length x) refl) ∙ ap (take (length x)) rest ∙ take_at y (numbers_of ys) (length x) (sym n) in
    let others : numbers_of xs ≡ numbers_of ys = sym (drop_at x (numbers_of xs) (length x) refl) ∙ ap (drop (length x)) rest
    ∙ drop_at y (numbers_of ys) (length x) (sym n) in
    let tails = rows_from_numbers xs ys others in
    cc

-- equal parts are of as many sets
pub sets_from_part : (c d : Rows) (label : ℕ) → part_of label c ≡ part_of label d → c.sets ≡ d.sets
sets_from_part c d label e =
    sym (length-map-range_with_len (tags_at c label) 0 c.sets)
    ∙ ap length (rows_from_numbers (tag_rows c label) (tag_rows d label) e)
    ∙ length-map-range_with_len (tags_at d label) 0 d.sets

-- a partition that has a set is told by some number
pub some_part : (c : Rows) (label : ℕ) → 0 < c.sets → [] ≡ part_of label c → ⊥
some_part c label some e =
    let none : 0 ≡ length (tag_rows c label) = ap length (rows_from_numbers [] (tag_rows c label) e) in
    absurd (omega (arith, some, none, length-map-range_with_len (tags_at c label) 0 c.sets))

-- equal parts are equal rows
pub rows_same : (c d : Rows) (label : ℕ) → c.sets ≡ d.sets → part_of label c ≡ part_of label d → (set : ℕ) → set < c.sets
    → tags_at c label set ≡ tags_at d label set
rows_same c d label n e set h =
    sym (get_or-map-range_with_len (tags_at c label) 0 c.sets set set [] h (omega arith))
    ∙ ap (λ rs. get_or rs set []) (rows_from_numbers (tag_rows c label) (tag_rows d label) e)
    ∙ get_or-map-range_with_len (tags_at d label) 0 d.sets set set [] (omega arith) (omega arith)

map_same : (f g : ℕ → List ℕ) (a n : ℕ) → ((k : ℕ) → k < a + n → f k ≡ g k) → map f (range_with_len a n) ≡ map g (range_with_len a n)
map_same f g a zero h = refl
map_same f g a (suc n) h = rw (h a (omega arith), map_same f g (a + 1) n (λ k lt. h k (omega arith))) refl

pub part_same : (c d : Rows) (label label' : ℕ) → c.sets ≡ d.sets → ((set : ℕ) → set < c.sets → tags_at c label set ≡ tags_at d label' set)
    → part_of label c ≡ part_of label' d
part_same c d label label' n h =
    ap numbers_of (map_same (tags_at c label) (tags_at d label') 0 c.sets (λ k lt. h k (omega arith)) ∙ ap (λ m. map (tags_at d label') (range_with_len 0 m)) n)

module _ (order : Order) (sets ways : ℕ) where
  pub touched_serves : (r : Replacement) (c : Rows) (tag ew : ℕ) → IsCacheOf order sets ways c → IsCacheOf order sets ways (touched_by r c tag ew)
  touched_serves r c tag ew s =
      record { same_order = s.same_order; same_sets = s.same_sets; same_ways = s.same_ways; cache = IsCache-touched c s.cache r tag ew }

  -- each part is what the history says is held
  pub part_of_held : (r : Replacement) (c : Rows) (label : ℕ) (h : List Touched) → IsCacheOf order sets ways c → label < order.size → StandsBy r c h
      → part_of label c ≡ numbers_of (map (held_by r sets ways h label) (range_with_len 0 sets))
  part_of_held r c label h s lt stands =
      ap numbers_of
      (map_same (tags_at c label) (held_by r sets ways h label) 0 c.sets
      (λ k below. stands.each label k (subst (λ (o : Order). label < o.size) (sym s.same_order) lt) (omega arith)
      ∙ ap (λ n. held_by r n c.ways h label k) s.same_sets ∙ ap (λ n. held_by r sets n h label k) s.same_ways)
      ∙ ap (λ m. map (held_by r sets ways h label) (range_with_len 0 m)) s.same_sets)

  -- the parts of other labels stay
  pub part_elsewhere : (r : Replacement) (c : Rows) (tag ew label : ℕ) → IsCacheOf order sets ways c → (label ≡ ew → ⊥)
      → part_of label (touched_by r c tag ew) ≡ part_of label c
  part_elsewhere r c tag ew label s ne =
      part_same (touched_by r c tag ew) c label label refl (λ set h. tags_elsewhere c s.cache r tag ew label set h (λ p. ne p.0))

  -- a lookup reads the parts that flow to er
  pub found_same : (c d : Rows) (tag er : ℕ) → IsCacheOf order sets ways c → IsCacheOf order sets ways d
      → ((l : ℕ) → Flows (lattice_of order) l er → part_of l c ≡ part_of l d) → found c tag er ≡ found d tag er
  found_same c d tag er s t agree =
      let n : c.sets ≡ d.sets = s.same_sets ∙ sym t.same_sets in
      let o : c.order ≡ d.order = s.same_order ∙ sym t.same_order in
      some_below_same c s.cache c.order.size (λ label. (lattice_of c.order).flows label er && has c tag label)
      (λ label. (lattice_of d.order).flows label er && has d tag label)
      (λ label lt. go n o label (cases_Bool ((lattice_of c.order).flows label er)))
      ∙ ap (λ (o : Order). some_below o.size (λ label. (lattice_of d.order).flows label er && has d tag label)) o
    where
      go : (c.sets ≡ d.sets) → (c.order ≡ d.order) → (label : ℕ)
          → (((lattice_of c.order).flows label er ≡ true) ⊎ ((lattice_of c.order).flows label er ≡ false))
          → ((lattice_of c.order).flows label er && has c tag label) ≡ ((lattice_of d.order).flows label er && has d tag label)
      go n o label (inl f) =
          let e : (lattice_of c.order).flows label er ≡ (lattice_of d.order).flows label er = ap (λ (o : Order). (lattice_of o).flows label er) o in
          let flows : Flows (lattice_of order) label er = ap (λ (o : Order). (lattice_of o).flows label er) (sym s.same_order) ∙ f in
          let row : tags_at c label (tag % c.sets) ≡ tags_at d label (tag % c.sets) =
          rows_same c d label n (agree label flows) (tag % c.sets) (mod_below tag c.sets s.cache.some_set) in
          ap (λ b. b && has c tag label) e
          ∙ ap (λ b. (lattice_of d.order).flows label er && b) (ap (list_any (eqb tag)) (row ∙ ap (λ m. tags_at d label (tag % m)) n))
      go n o label (inr f) =
          let e : (lattice_of c.order).flows label er ≡ (lattice_of d.order).flows label er = ap (λ (o : Order). (lattice_of o).flows label er) o in
          let g : (lattice_of d.order).flows label er ≡ false = sym e ∙ f in
          ap (λ b. b && has c tag label) f ∙ sym (ap (λ b. b && has d tag label) g)

  -- the touched rows of two caches whose rows there are equal
  pub part_here : (r : Replacement) (c d : Rows) (tag ew : ℕ) → IsCacheOf order sets ways c → IsCacheOf order sets ways d → part_of ew c ≡ part_of ew d
      → part_of ew (touched_by r c tag ew) ≡ part_of ew (touched_by r d tag ew)
  part_here r c d tag ew s t e =
      let n : c.sets ≡ d.sets = s.same_sets ∙ sym t.same_sets in
      let w : c.ways ≡ d.ways = s.same_ways ∙ sym t.same_ways in
      let z : c.order.size ≡ d.order.size = ap (λ (o : Order). o.size) (s.same_order ∙ sym t.same_order) in
      part_same (touched_by r c tag ew) (touched_by r d tag ew) ew ew n (λ set h. row n w z set h (cases_lt ew c.order.size) (cases_eq set (tag % c.sets)))
    where
      -- a label that is none is not touched
      past : (x : Rows) → IsCache x → x.order.size ≤ ew → (set : ℕ) → tags_at (touched_by r x tag ew) ew set ≡ tags_at x ew set
      past x good ge set = ap (λ rs. get_or rs (ew * x.sets + set) [])
          (set_past x.rows (ew * x.sets + tag % x.sets) (replaced r x.ways tag (tags_at x ew (tag % x.sets))) (grind (arith, good.each_set)))

      row : (c.sets ≡ d.sets) → (c.ways ≡ d.ways) → (c.order.size ≡ d.order.size) → (set : ℕ) → set < c.sets → ((ew < c.order.size) ⊎ (c.order.size ≤ ew))
          → ((set ≡ tag % c.sets) ⊎ (set ≡ tag % c.sets → ⊥)) → tags_at (touched_by r c tag ew) ew set ≡ tags_at (touched_by r d tag ew) ew set
      row n w z set h (inr ge) q =
          past c s.cache ge set ∙ rows_same c d ew n e set h ∙ sym (past d t.cache (omega arith) set)
      row n w z set h (inl lt) (inr ne) =
          tags_elsewhere c s.cache r tag ew ew set h (λ p. ne p.1) ∙ rows_same c d ew n e set h
          ∙ sym (tags_elsewhere d t.cache r tag ew ew set (omega arith) (λ p. ne (p.1 ∙ ap (λ m. tag % m) (sym n))))
      row n w z set h (inl lt) (inl q) =
          let same : tag % c.sets ≡ tag % d.sets = ap (λ m. tag % m) n in
          let old : tags_at c ew (tag % c.sets) ≡ tags_at d ew (tag % d.sets) =
          rows_same c d ew n e (tag % c.sets) (mod_below tag c.sets s.cache.some_set) ∙ ap (tags_at d ew) same in
          ap (tags_at (touched_by r c tag ew) ew) q
          ∙ tags_here c s.cache r tag ew lt
          ∙ ap (replaced r c.ways tag) old ∙ ap (λ m. replaced r m tag (tags_at d ew (tag % d.sets))) w
          ∙ sym (tags_here d t.cache r tag ew (omega arith))
          ∙ ap (tags_at (touched_by r d tag ew) ew) (sym (q ∙ same))

  pub part_agrees : (r : Replacement) (c d : Rows) (tag ew label : ℕ) → IsCacheOf order sets ways c → IsCacheOf order sets ways d
      → part_of label c ≡ part_of label d
      → part_of label (touched_by r c tag ew) ≡ part_of label (touched_by r d tag ew)
  part_agrees r c d tag ew label s t e =
      ⊎_elim
      (λ (q : label ≡ ew). subst (λ l. part_of l c ≡ part_of l d → part_of l (touched_by r c tag ew) ≡ part_of l (touched_by r d tag ew)) (sym q)
      (part_here r c d tag ew s t) e)
      (λ (ne : label ≡ ew → ⊥). part_elsewhere r c tag ew label s ne ∙ e ∙ sym (part_elsewhere r d tag ew label t ne))
      (cases_eq label ew)

-- ---- a loop that compares the rows
pub differ_at : (c d : Rows) (label set : ℕ) (same : Bool) → c.sets ≡ d.sets → set < c.sets → ((same ≡ true) ↔ (tags_at c label set ≡ tags_at d label set))
    → same ≡ false → (r : Bool) → r ≡ false → (r ≡ true) ↔ (part_of label c ≡ part_of label d)
differ_at c d label set same n h iff failed r f =
    (λ t. absurd (both_ways r f t), λ e. absurd (both_ways same failed (iff.1 (rows_same c d label n e set h))))

pub same_to_end : (c d : Rows) (label end : ℕ) → c.sets ≡ d.sets → c.sets ≤ end → ((k : ℕ) → k < end → tags_at c label k ≡ tags_at d label k)
    → part_of label c ≡ part_of label d
same_to_end c d label end n le h = part_same c d label label n (λ set lt. h set (omega arith))
