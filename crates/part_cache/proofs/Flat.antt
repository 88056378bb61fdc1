-- A touch of a set of the body is a touch of the table.
use Rattle.std.proofs.Common.{◌≡◌, ℕ, zero, suc, ◌+◌, ◌*◌, ◌%◌, ◌<◌, ◌≤◌, List, [], ◌∷◌, ◌++◌, length, get_or, set, Bool, true, false, refl, sym, ap, ◌∙◌}
use Rattle.std.proofs.Common.{subst, ◌⊎◌, inl, inr, arith, length-set, length-take}
use Rattle.std.specs.Prelude.{map, eqb, cond, not, ◌&&◌, replicate}
use Rattle.std.specs.List.{All, filter, list_any}
use Rattle.std.specs.Vec.{with_item}
use Rattle.std.proofs.lemmas.List.{get_or_past, get_or-map, length-map, length-replicate, map-set, set-get_or}
use Rattle.std.proofs.lemmas.List.Elements.{All-replicate, All-set}
use Rattle.std.proofs.lemmas.Nat.{mul-add-lt, mod_below}
use Rattle.std.proofs.lemmas.Bool.{cases_lt, and_from}
use Rattle.label_lattice.specs.Order.{lattice_of, most_labels}
use Rattle.part_cache.specs.declared.replacement.Replacement.{Replacement}
use Rattle.part_cache.specs.declared.replacement.Replacement.TheVariants.{LeastRecent}
use Rattle.part_cache.specs.Ways.{held_tags, AreWays, to_front, replaced}
use Rattle.part_cache.specs.History.{Touched, hits_by}
use Rattle.part_cache.specs.Rows.{Rows, IsCache, StandsBy, tags_at, has, found, touched, touched_by, empty_cache}
use Rattle.part_cache.specs.Body.{rows_view, IsBody}
use Rattle.part_cache.specs.declared.ways.Ways.{Ways}
use Rattle.part_cache.specs.declared.cache.PartCache.TheInside.{Inside}
use Rattle.part_cache.proofs.Stands.{StandsBy-touched, some_below_at, found_is}
use Rattle.part_cache.proofs.Empty.{StandsBy-empty_cache}

abbrev holds : Ways → List ℕ
holds w = held_tags w.tags

none : Ways
none = record { tags = [] }

-- ---- the body is a cache
pub body_cache : (c : Inside) → IsBody c → IsCache (rows_view c)
body_cache c good =
    record {
      some_set = good.some_set;
      some_way = good.some_way;
      each_set = length-map c.slots.items holds ∙ good.long;
      few = λ k. go k (cases_lt k (length c.slots.items));
    }
  where
    go : (k : ℕ) → ((k < length c.slots.items) ⊎ (length c.slots.items ≤ k)) → length (get_or (map holds c.slots.items) k []) ≤ c.ways
    go k (inl lt) = omega (arith, ap length (get_or-map holds c.slots.items k none [] lt), good.few k none lt)
    go k (inr ge) = omega (arith, ap length (get_or_past (map holds c.slots.items) k [] (omega (arith, length-map c.slots.items holds))))

-- ---- a touch of a set, where the rows were read as others, and its place is a number of its own
pub place_in : (c : Inside) → IsBody c → (label tag : ℕ) → label < c.lattice.value.size → label * c.sets + tag % c.sets < length c.slots.items
place_in c good label tag lt = omega (arith, good.long, mul-add-lt label c.sets (tag % c.sets) c.lattice.value.size lt (mod_below tag c.sets good.some_set))

pub place_is : (first label sets sets' set tag : ℕ) → first ≡ label → sets ≡ sets' → set ≡ tag % sets → first * sets + set ≡ label * sets' + tag % sets'
place_is first label sets sets' set tag f n s = ap (λ l. l * sets + set) f ∙ ap (λ s. label * sets + s) s ∙ ap (λ n. label * n + tag % n) n

module _ (c : Inside) (good : IsBody c) (v : Rows) (is : rows_view c ≡ v) (tag label : ℕ) (in_range : label < v.order.size) (row : ℕ)
    (row_is : row ≡ label * c.sets + tag % c.sets) where
  pub row_in : row < length c.slots.items
  row_in = omega (arith, row_is, place_in c good label tag (subst (λ (v : Rows). label < v.order.size) (sym is) in_range))

  module _ (old : Ways) (read : old ≡ get_or c.slots.items row old) where
    pub old_set : AreWays old.tags
    old_set = subst (λ (w : Ways). AreWays w.tags) (sym read) (good.ways_are row old row_in)

    pub old_few : length (held_tags old.tags) ≤ c.ways
    old_few = subst (λ (w : Ways). length (held_tags w.tags) ≤ c.ways) (sym read) (good.few row old row_in)

    at_row : holds old ≡ get_or (map holds c.slots.items) row []
    at_row = ap holds read ∙ sym (get_or-map holds c.slots.items row old [] row_in)

    at_place : holds old ≡ tags_at (rows_view c) label (tag % c.sets)
    at_place = at_row ∙ ap (λ r. get_or (map holds c.slots.items) r []) row_is

    pub has_is : (r : Bool) → r ≡ list_any (eqb tag) (held_tags old.tags) → r ≡ has v tag label
    has_is r e = e ∙ ap (list_any (eqb tag)) at_place ∙ ap (λ v. has v tag label) is

    module _ (new : Ways) where
      abbrev pub after : Inside
      after = record c { slots = with_item c.slots row new }

      pub body_after : AreWays new.tags → length (held_tags new.tags) ≤ c.ways → IsBody after
      body_after set few =
          record {
            some_set = good.some_set;
            some_way = good.some_way;
            labels = good.labels;
            sets_below = good.sets_below;
            ways_below = good.ways_below;
            long = length-set c.slots.items row new ∙ good.long;
            ways_are = All-set (λ (w : Ways). AreWays w.tags) c.slots.items row new set good.ways_are;
            few = All-set (λ (w : Ways). length (held_tags w.tags) ≤ c.ways) c.slots.items row new few good.few;
          }

      pub view_touched : (r : Replacement) → held_tags new.tags ≡ replaced r c.ways tag (held_tags old.tags) → rows_view after ≡ touched_by r v tag label
      view_touched r e =
          ap (λ rs. record (rows_view c) { rows = rs })
          (map-set holds c.slots.items row new
          ∙ ap (set (map holds c.slots.items) row) (e ∙ ap (replaced r c.ways tag) at_place)
          ∙ ap (λ n. set (map holds c.slots.items) n (replaced r c.ways tag (tags_at (rows_view c) label (tag % c.sets)))) row_is)
          ∙ ap (λ v. touched_by r v tag label) is

      view_kept : held_tags new.tags ≡ held_tags old.tags → rows_view after ≡ v
      view_kept e =
          ap (λ rs. record (rows_view c) { rows = rs })
          (map-set holds c.slots.items row new
          ∙ ap (set (map holds c.slots.items) row) (e ∙ at_row)
          ∙ set-get_or (map holds c.slots.items) row [])
          ∙ is

      module _ (held : Bool) (brought : (ways : ℕ) → length (held_tags old.tags) ≤ ways
          → held_tags new.tags ≡ cond held (to_front ways tag (held_tags old.tags)) (held_tags old.tags)) where
        pub brought_body : AreWays new.tags → IsBody after
        brought_body set = body_after set (short held (brought c.ways old_few))
          where
            short : (b : Bool) → held_tags new.tags ≡ cond b (to_front c.ways tag (held_tags old.tags)) (held_tags old.tags)
                → length (held_tags new.tags) ≤ c.ways
            short true e = omega (arith, ap length e, length-take c.ways (tag ∷ filter (λ y. not (eqb tag y)) (held_tags old.tags)))
            short false e = omega (arith, ap length e, old_few)

        pub brought_view : rows_view after ≡ cond held (touched v tag label) v
        brought_view = go held (brought c.ways old_few)
          where
            go : (b : Bool) → held_tags new.tags ≡ cond b (to_front c.ways tag (held_tags old.tags)) (held_tags old.tags)
                → rows_view after ≡ cond b (touched v tag label) v
            go true e = view_touched LeastRecent e
            go false e = view_kept e

-- ---- a touch and the history
pub touched_history : (r : Replacement) (v w : Rows) (c : Inside) → rows_view c ≡ v → IsBody c → (tag ew : ℕ) → w ≡ touched_by r v tag ew
    → (h : List Touched) → StandsBy r v h → StandsBy r w (h ++ record { label = ew; tag = tag } ∷ [])
touched_history r v w c is good tag ew e h s =
    subst (λ w. StandsBy r w (h ++ record { label = ew; tag = tag } ∷ [])) (sym e)
    (StandsBy-touched v (subst IsCache is (body_cache c good)) r tag ew h s)

-- ---- a lookup
pub look_found : (v : Rows) (c : Inside) → rows_view c ≡ v → (tag er label size : ℕ) → size ≡ c.lattice.value.size → label < size
    → (lattice_of c.lattice.value).flows label er ≡ true → has v tag label ≡ true → found v tag er ≡ true
look_found v c e tag er label size s lt f h =
    let o : c.lattice.value ≡ v.order = ap (λ v. v.order) e in
    let n : c.lattice.value.size ≡ v.order.size = ap (λ v. v.order.size) e in
    some_below_at v.order.size (λ label. (lattice_of v.order).flows label er && has v tag label) label (omega arith)
    (and_from ((lattice_of v.order).flows label er) (has v tag label) (subst (λ o. (lattice_of o).flows label er ≡ true) o f) h)

pub look_own : (v : Rows) (c : Inside) → rows_view c ≡ v → (tag er : ℕ) → er < v.order.size → (lattice_of c.lattice.value).flows er er ≡ true
    → has v tag er ≡ true → found v tag er ≡ true
look_own v c e tag er lt = look_found v c e tag er er c.lattice.value.size refl (subst (λ (v : Rows). er < v.order.size) (sym e) lt)

pub look_history : (v : Rows) (c : Inside) → rows_view c ≡ v → IsBody c → (tag er : ℕ) (b : Bool) → b ≡ found v tag er
    → (r : Replacement) (h : List Touched) → StandsBy r v h → b ≡ hits_by r v.order v.sets v.ways h er tag
look_history v c e good tag er b f r h s = f ∙ found_is v (subst IsCache e (body_cache c good)) r tag er h s

-- ---- a new cache
map_empty : (n : ℕ) (w : Ways) → held_tags w.tags ≡ [] → map holds (replicate n w) ≡ replicate n []
map_empty zero w e = refl
map_empty (suc n) w e = rw (e, map_empty n w e) refl

module _ (c : Inside) (n : ℕ) (w : Ways) (empty : held_tags w.tags ≡ []) (filled : c.slots.items ≡ replicate n w)
    (many : n ≡ c.lattice.value.size * c.sets) where
  pub new_value : rows_view c ≡ empty_cache c.lattice.value c.sets c.ways
  new_value = ap (λ rs. record (rows_view c) { rows = rs }) (ap (map holds) filled ∙ map_empty n w empty ∙ ap (λ n. replicate n []) many)

  pub new_empty : (r : Replacement) → StandsBy r (rows_view c) []
  new_empty r = subst (λ v. StandsBy r v []) (sym new_value) (StandsBy-empty_cache r c.lattice.value c.sets c.ways)

  pub new_body : 0 < c.sets → 0 < c.ways → c.sets ≤ 4096 → c.ways ≤ 8 → c.lattice.value.size ≤ most_labels → AreWays w.tags → IsBody c
  new_body some some' few few' labels set =
      record {
        some_set = some;
        some_way = some';
        labels = labels;
        sets_below = few;
        ways_below = few';
        long = ap length filled ∙ length-replicate n w ∙ many;
        ways_are = subst (All (λ (w : Ways). AreWays w.tags)) (sym filled) (All-replicate (λ (w : Ways). AreWays w.tags) n w set);
        few = subst (All (λ (w : Ways). length (held_tags w.tags) ≤ c.ways)) (sym filled)
            (All-replicate (λ (w : Ways). length (held_tags w.tags) ≤ c.ways) n w (omega (arith, ap length empty)));
      }
