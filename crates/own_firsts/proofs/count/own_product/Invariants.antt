use Rattle.std.proofs.Common.{◌≡◌, map}
use Rattle.sharp_count.specs.Count.{fitting}
use Rattle.own_firsts.specs.Count.{own, first_at, many_at}
use Rattle.own_firsts.proofs.count.own_product.Given as goal

-- the product over the levels so far
abbrev pub invariant-loop-firsts : goal.invariant-loop-firsts
invariant-loop-firsts l = l.count ≡ fitting (own l.t (first_at (map (λ v. v.items) l.levels)) l.firsts-index (many_at (map (λ v. v.items) l.levels)))
