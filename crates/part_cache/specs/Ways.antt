-- The ways of a set in memory: the tags that it holds, the one that goes first at the end, and then empty ways.
use Rattle.std.specs.Prelude.{◌≡◌, ℕ, ◌-◌, ◌^◌, ◌<◌, ◌≤◌, false, cond, not, eqb, List, [], ◌∷◌, ◌++◌, length, take, replicate}
use Rattle.std.specs.List.{All, filter, list_any}
use Rattle.part_cache.specs.declared.replacement.Replacement.{Replacement}
use Rattle.part_cache.specs.declared.replacement.Replacement.TheVariants.{LeastRecent, FirstCome}

-- what stands in a way that has no tag
abbrev pub empty_way : ℕ
empty_way = 18446744073709551615

-- the tags that the ways hold
abbrev pub held_tags : List ℕ → List ℕ
held_tags tags = filter (λ t. not (eqb t empty_way)) tags

-- x is none of these
abbrev pub absent : ℕ → List ℕ → Type 0
absent x xs = list_any (eqb x) xs ≡ false

-- no tag stands twice
abbrev pub Apart : List ℕ → Type 0
Apart [] = Unit {0}
Apart (x ∷ xs) = absent x xs × Apart xs

-- there are 8 ways; they hold tags below 2 ^ 32, no two the same, and empty ways come last
pub record AreWays (tags : List ℕ) : Type 0 where
  pub held : List ℕ
  pub are : tags ≡ held ++ replicate (8 - length held) empty_way
  pub few : length held ≤ 8
  pub small : All (λ t. t < 2 ^ 32) held
  pub apart : Apart held

-- the tag at the front, and the latest of the others, as many as there are ways left
abbrev pub to_front : ℕ → ℕ → List ℕ → List ℕ
to_front ways tag row = take ways (tag ∷ filter (λ y. not (eqb tag y)) row)

-- a set after a touch of the tag: by the rule of the first that came, a tag that it holds changes nothing
abbrev pub replaced : Replacement → ℕ → ℕ → List ℕ → List ℕ
replaced LeastRecent ways tag row = to_front ways tag row
replaced FirstCome ways tag row = cond (list_any (eqb tag) row) row (take ways (tag ∷ row))
