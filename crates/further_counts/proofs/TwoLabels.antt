-- Two labels, of which one flows to the other, are a lattice.
use Rattle.std.proofs.Common.{◌≡◌, ℕ, zero, suc, ◌<◌, ◌≤◌, refl, sym, ◌∙◌, arith}
use Rattle.std.specs.Prelude.{Bool, true, leb, max}
use Rattle.std.proofs.lemmas.Bool.{leb-true, le-leb}
use Rattle.std.proofs.Math.Nat.{le-max_left, le-max_right, max-le}
use Rattle.label_lattice.specs.Lattice.{IsTable}
use Rattle.label_lattice.specs.Order.{flows_in, join_in}
use Rattle.label_lattice.proofs.Over.{over_all_is}
use Rattle.further_counts.specs.Near.{two_labels, TwoLabels}

abbrev flows : ℕ → ℕ → Bool
flows a b = flows_in two_labels.flows a b

abbrev join : ℕ → ℕ → ℕ
join a b = join_in two_labels.joins a b

flows_leb : (a b : ℕ) → a < 2 → b < 2 → flows a b ≡ leb a b
flows_leb zero zero h k = refl
flows_leb zero (suc zero) h k = refl
flows_leb zero (suc (suc b)) h k = absurd (omega arith)
flows_leb (suc zero) zero h k = refl
flows_leb (suc zero) (suc zero) h k = refl
flows_leb (suc zero) (suc (suc b)) h k = absurd (omega arith)
flows_leb (suc (suc a)) b h k = absurd (omega arith)

join-max : (a b : ℕ) → a < 2 → b < 2 → join a b ≡ max a b
join-max zero zero h k = refl
join-max zero (suc zero) h k = refl
join-max zero (suc (suc b)) h k = absurd (omega arith)
join-max (suc zero) zero h k = refl
join-max (suc zero) (suc zero) h k = refl
join-max (suc zero) (suc (suc b)) h k = absurd (omega arith)
join-max (suc (suc a)) b h k = absurd (omega arith)

to : (a b : ℕ) → a < 2 → b < 2 → a ≤ b → flows a b ≡ true
to a b h k le = flows_leb a b h k ∙ le-leb a b le

from : (a b : ℕ) → a < 2 → b < 2 → flows a b ≡ true → a ≤ b
from a b h k f = leb-true a b (sym (flows_leb a b h k) ∙ f)

closed : (a b : ℕ) → a < 2 → b < 2 → join a b < 2
closed a b h k = let a1 : a ≤ 1 = omega arith in let b1 : b ≤ 1 = omega arith in omega (arith, join-max a b h k, max-le a1 b1)

table : IsTable 2 (flows_in two_labels.flows) (join_in two_labels.joins) 0
table =
    record {
      some = omega arith;
      closed = closed;
      same = λ a h. to a a h h (omega arith);
      chain = λ a b c h k l f f'. to a c h l (omega (arith, from a b h k f, from b c k l f'));
      anti = λ a b h k f f'. omega (arith, from a b h k f, from b a k h f');
      left = λ a b h k. to a (join a b) h (closed a b h k) (omega (arith, join-max a b h k, le-max_left a b));
      right = λ a b h k. to b (join a b) k (closed a b h k) (omega (arith, join-max a b h k, le-max_right a b));
      least = λ a b c h k l f f'. to (join a b) c (closed a b h k) l (omega (arith, join-max a b h k, max-le (from a c h l f) (from b c k l f')));
      lowest = λ a h. to 0 a (omega arith) h (omega arith);
    }

pub two_labels_are : TwoLabels
two_labels_are = (over_all_is 2 (flows_in two_labels.flows) (join_in two_labels.joins) 0 table, λ f. absurd (cc))
