use Rattle.std.proofs.Common.{◌≡◌, ◌+◌, ◌<◌, ◌≤◌, ℕ, List, ◌∷◌, length, drop, get_or, drop-cons, add-one, sym, ap, ◌∙◌, subst, arith}
use Rattle.std.proofs.lemmas.List.{drop_all}
use Rattle.fixed_log.specs.Entropy.{AllSome, starts}
use Rattle.lab_leak.proofs.Taking.{Goes, goes_first, goes_on, goes_last}
use Rattle.lab_leak.proofs.sizes.sizes.Goals as goal

pub loop-i-init : goal.loop-i-init
loop-i-init c = record {
  count = ap starts c.new.ensures.items;
  some = subst AllSome (sym c.new.ensures.items) tt;
  goes = λ zs e. goes_first zs c.args.classes.now _ e c.new.ensures.items c.new-2.ensures.items;
}

next_is : (xs : List ℕ) (i : ℕ) → i < length xs → drop i xs ≡ get_or xs i 0 ∷ drop (i + 1) xs
next_is xs i lt = drop-cons xs i 0 lt ∙ ap (λ n. get_or xs i 0 ∷ drop n xs) (sym (add-one i))

pub loop-i-preserved : goal.loop-i-preserved
loop-i-preserved c =
    let xs = c.args.classes.now in
    let i = c.loop-i.i in
    let lt : i < length xs = omega (arith, c.loop-i-test.true) in
    record {
      count = c.in_ok-take.ensures.count ∙ ap (λ z. z + 1) c.loop-i.invariant.count;
      some = c.in_ok-take.ensures.some c.loop-i.invariant.some;
      goes = λ zs e. goes_on zs i (get_or xs i 0) (drop (i + 1) xs) c.loop-i.found c.take.new.self
          (subst (λ z. Goes zs i z c.loop-i.found) (next_is xs i lt) (c.loop-i.invariant.goes zs e)) c.in_ok-take.ensures.are;
    }

pub returns-clause-are : goal.returns-clause-are
returns-clause-are c zs e =
    let xs = c.args.classes.now in
    let i = c.loop-i.i in
    let le : length xs ≤ i = omega (arith, c.loop-i-test.false) in
    goes_last zs i c.loop-i.found (subst (λ z. Goes zs i z c.loop-i.found) (drop_all i xs le) (c.loop-i.invariant.goes zs e))
