-- What a history of touches says of a partitioned cache.
use Rattle.std.specs.Prelude.{ℕ, zero, suc, ◌%◌, Bool, false, cond, not, eqb, ltb, ◌&&◌, ◌||◌, List, [], ◌∷◌, length, take, reverse, Option, Some, None}
use Rattle.std.specs.List.{filter, list_any}
use Rattle.std.specs.Option.{option_map, option_map_or}
use Rattle.label_lattice.specs.Order.{Order, lattice_of}
use Rattle.part_cache.specs.declared.replacement.Replacement.{Replacement}
use Rattle.part_cache.specs.declared.replacement.Replacement.TheVariants.{LeastRecent, FirstCome}

-- a touch: the label of the partition, and the tag. A history is a list of them, the oldest first
pub record Touched : Type 0 where
  pub label : ℕ
  pub tag : ℕ

-- the tags that were touched in a set of a partition, in their order
abbrev pub tags_in : ℕ → ℕ → ℕ → List Touched → List ℕ
tags_in sets label set [] = []
tags_in sets label set (x ∷ xs) =
    cond (eqb x.label label && eqb (x.tag % sets) set) (x.tag ∷ tags_in sets label set xs) (tags_in sets label set xs)

-- looking back, the tags that came after the last touch of this one; none where it was never touched
abbrev pub since : ℕ → List ℕ → Option (List ℕ)
since tag [] = None
since tag (x ∷ back) = cond (eqb x tag) (Some []) (option_map (λ later. x ∷ later) (since tag back))

-- without later duplicates
abbrev pub distinct : List ℕ → List ℕ
distinct [] = []
distinct (x ∷ xs) = x ∷ filter (λ y. not (eqb x y)) (distinct xs)

-- of the tags of a set, the latest first: this one was touched, and since its last touch fewer different ones than there are ways
abbrev pub is_near : ℕ → List ℕ → ℕ → Bool
is_near ways back tag = option_map_or (λ later. ltb (length (distinct later)) ways) (since tag back) false

-- looking back, the tags as they came into a set: a touch of one that is among the latest that came, as many as there are ways, brings nothing in
abbrev pub came : ℕ → List ℕ → List ℕ
came ways [] = []
came ways (tag ∷ back) = cond (list_any (eqb tag) (take ways (came ways back))) (came ways back) (tag ∷ came ways back)

-- looking back, a set holds a tag: it is near, or, where the first that came goes first, among the latest that came
abbrev pub is_held : Replacement → ℕ → List ℕ → ℕ → Bool
is_held LeastRecent ways back tag = is_near ways back tag
is_held FirstCome ways back tag = list_any (eqb tag) (take ways (came ways back))

-- looking back, the tags that a set holds: the latest touched first, or the latest that came
abbrev pub row_of : Replacement → ℕ → List ℕ → List ℕ
row_of LeastRecent ways back = filter (is_near ways back) (distinct back)
row_of FirstCome ways back = take ways (came ways back)

-- some label below n passes the test
abbrev pub some_below : ℕ → (ℕ → Bool) → Bool
some_below zero test = false
some_below (suc n) test = test n || some_below n test

-- a partition holds a tag
abbrev pub holds_by : Replacement → ℕ → ℕ → List Touched → ℕ → ℕ → Bool
holds_by r sets ways history label tag = is_held r ways (reverse (tags_in sets label (tag % sets) history)) tag

-- some partition whose label flows to er holds the tag
abbrev pub hits_by : Replacement → Order → ℕ → ℕ → List Touched → ℕ → ℕ → Bool
hits_by r order sets ways history er tag =
    some_below order.size (λ label. (lattice_of order).flows label er && holds_by r sets ways history label tag)

-- the tags that a set of a partition holds
abbrev pub held_by : Replacement → ℕ → ℕ → List Touched → ℕ → ℕ → List ℕ
held_by r sets ways history label set = row_of r ways (reverse (tags_in sets label set history))

-- the same where the least recently used goes first
abbrev pub holds : ℕ → ℕ → List Touched → ℕ → ℕ → Bool
holds = holds_by LeastRecent

abbrev pub hits : Order → ℕ → ℕ → List Touched → ℕ → ℕ → Bool
hits = hits_by LeastRecent

abbrev pub held : ℕ → ℕ → List Touched → ℕ → ℕ → List ℕ
held = held_by LeastRecent
