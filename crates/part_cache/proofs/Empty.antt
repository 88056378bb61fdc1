-- The cache that holds nothing.
use Rattle.std.proofs.Common.{◌≡◌, ℕ, ◌*◌, ◌<◌, ◌≤◌, List, [], length, get_or, refl, ap, ◌⊎◌, inl, inr, arith}
use Rattle.std.specs.Prelude.{replicate}
use Rattle.std.proofs.lemmas.List.{get_or_past, length-replicate, get_or-replicate}
use Rattle.std.proofs.lemmas.Bool.{cases_lt}
use Rattle.label_lattice.specs.Order.{Order}
use Rattle.part_cache.specs.declared.replacement.Replacement.{Replacement}
use Rattle.part_cache.specs.Rows.{IsCacheOf, StandsBy, empty_cache}
use Rattle.part_cache.proofs.Stands.{StandsBy-empty}

-- each of its rows is empty
pub row_empty : (order : Order) (sets ways k : ℕ) → get_or (empty_cache order sets ways).rows k [] ≡ []
row_empty order sets ways k = go (cases_lt k (order.size * sets))
  where
    go : ((k < order.size * sets) ⊎ (order.size * sets ≤ k)) → get_or {A = List ℕ} (replicate (order.size * sets) []) k [] ≡ []
    go (inl lt) = get_or-replicate (order.size * sets) k [] [] lt
    go (inr ge) = get_or_past (replicate (order.size * sets) []) k [] (let l = length-replicate {A = List ℕ} (order.size * sets) [] in omega arith)

pub IsCacheOf-empty : (order : Order) (sets ways : ℕ) → 0 < sets → 0 < ways → IsCacheOf order sets ways (empty_cache order sets ways)
IsCacheOf-empty order sets ways s w =
    record {
      same_order = refl;
      same_sets = refl;
      same_ways = refl;
      cache =
          record {
            some_set = s;
            some_way = w;
            each_set = length-replicate (order.size * sets) [];
            few = λ k. let e : length (get_or (empty_cache order sets ways).rows k []) ≡ 0 = ap length (row_empty order sets ways k) in omega (arith, e);
          };
    }

-- it stands for the empty history
pub StandsBy-empty_cache : (r : Replacement) (order : Order) (sets ways : ℕ) → StandsBy r (empty_cache order sets ways) []
StandsBy-empty_cache r order sets ways = StandsBy-empty r (empty_cache order sets ways) (row_empty order sets ways)
