use Rattle.std.proofs.Common.{rules, ◌≡◌, suc, ◌+◌, ◌<◌, ◌≤◌, length, subst, arith}
use Rattle.std.specs.Prelude.{true, false}
use Rattle.flow_path.specs.Ranks.{IsBefore, IsPlace}
use Rattle.flow_path.proofs.Standing.{place_goes, place_here, place_last}
use Rattle.flow_path.proofs.rank.place.Goals as goal

pub loop-i-preserved : goal.loop-i-preserved
loop-i-preserved c =
    let no : c.is_before.result ≡ false = search rules in
    let l : c.loop-i.i < length c.args.told.now = search rules in
    record {
      within = omega (arith, l);
      place = λ k p.
          let e : c.loop-i.i + suc k ≡ c.loop-i.i + 1 + k = omega arith in
          subst (λ z. IsPlace c.args.lattice.now c.args.new.now c.args.told.now z) e
          (c.loop-i.invariant.place (suc k) (place_goes c.args.lattice.now c.args.new.now c.args.told.now c.loop-i.i k c.index-told-i.result l
          (subst (λ z. IsBefore c.args.lattice.now c.args.new.now z → ⊥) c.index-told-i.is (c.is_before.ensures.no no)) p));
    }

pub returns-else-not-is_before : goal.returns-else-not-is_before
returns-else-not-is_before c =
    let yes : c.is_before.result ≡ true = search rules in
    let l : c.loop-i.i < length c.args.told.now = search rules in
    let e : c.loop-i.i + 0 ≡ c.loop-i.i = omega arith in
    subst (λ z. IsPlace c.args.lattice.now c.args.new.now c.args.told.now z) e
    (c.loop-i.invariant.place 0 (place_here c.args.lattice.now c.args.new.now c.args.told.now c.loop-i.i c.index-told-i.result l
    (subst (λ z. IsBefore c.args.lattice.now c.args.new.now z) c.index-told-i.is (c.is_before.ensures.yes yes))))

pub returns-after-loop-i : goal.returns-after-loop-i
returns-after-loop-i c =
    let l : length c.args.told.now ≤ c.loop-i.i = search rules in
    let e : c.loop-i.i + 0 ≡ c.loop-i.i = omega arith in
    subst (λ z. IsPlace c.args.lattice.now c.args.new.now c.args.told.now z) e
    (c.loop-i.invariant.place 0 (place_last c.args.lattice.now c.args.new.now c.args.told.now c.loop-i.i l))
