-- The numbers of a report are those of its sequences.
use Rattle.std.proofs.Common.{◌≡◌, ◌≤◌, ℕ, ◌+◌, ◌*◌, ◌^◌, List, sym, ap, ◌∙◌, subst}
use Rattle.label_lattice.specs.Order.{Order, lattice_of, count_not_below}
use Rattle.label_code.specs.Machine.{Event}
use Rattle.leak_bound.specs.Digits.{digits}
use Rattle.leak_bound.specs.Records.{distinct_count}
use Rattle.leak_bound.specs.Sound.{bound}
use Rattle.leak_audit.specs.declared.measure.Measures.{Measures}
use Rattle.leak_audit.specs.Measured.{IsMeasure, SameMeasures}
use Rattle.leak_audit.specs.Sequences.{same_sequence}

-- base and exponent tell the bound
pub power_is : (order : Order) (o t k : ℕ) (seqs : List (List Event)) (m : Measures) → IsMeasure order o t k seqs m → bound order o t k ≡ m.base ^ m.exponent
power_is order o t k seqs m is =
    ap (λ z. z ^ (count_not_below (lattice_of order) o order.size * digits t)) (sym is.base)
    ∙ ap (λ z. m.base ^ z) (ap (λ z. z * digits t) (sym is.levels) ∙ sym is.exponent)

pub within : (order : Order) (o t k : ℕ) (seqs : List (List Event)) (m : Measures) → IsMeasure order o t k seqs m
    → distinct_count same_sequence seqs ≤ bound order o t k → m.distinct ≤ m.base ^ m.exponent
within order o t k seqs m is few = subst (λ z. m.distinct ≤ z) (power_is order o t k seqs m is) (subst (λ z. z ≤ bound order o t k) (sym is.distinct) few)

-- sequences have one measure
pub same_measures : (order : Order) (o t k j : ℕ) (seqs : List (List Event)) (m n : Measures) → k ≡ j → IsMeasure order o t k seqs m
    → IsMeasure order o t j seqs n → SameMeasures m n
same_measures order o t k j seqs m n e a b =
    let levels : m.levels ≡ n.levels = a.levels ∙ sym b.levels in
    record {
      levels = levels;
      distinct = a.distinct ∙ sym b.distinct;
      base = a.base ∙ (ap (λ z. z + 1) e ∙ sym b.base);
      exponent = a.exponent ∙ (ap (λ z. z * digits t) levels ∙ sym b.exponent);
      classes = a.classes ∙ sym b.classes;
    }

-- where the count of mitigations is the same, and the measures are
pub measure_of : (order : Order) (o t k j : ℕ) (seqs : List (List Event)) (m n : Measures) → k ≡ j → m ≡ n → IsMeasure order o t k seqs m
    → IsMeasure order o t j seqs n
measure_of order o t k j seqs m n e f is = subst (λ z. IsMeasure order o t j seqs z) f (subst (λ z. IsMeasure order o t z seqs m) e is)
