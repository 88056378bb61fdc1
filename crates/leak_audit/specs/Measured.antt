-- The numbers of an audit's report that speak of sequences.
use Rattle.std.specs.Prelude.{◌≡◌, ◌+◌, ◌*◌, ℕ, List}
use Rattle.label_lattice.specs.Order.{Order, lattice_of, count_not_below}
use Rattle.label_code.specs.Machine.{Event}
use Rattle.leak_bound.specs.Digits.{digits}
use Rattle.leak_bound.specs.Records.{distinct_count, classes_of}
use Rattle.leak_audit.specs.declared.measure.Measures.{Measures}
use Rattle.leak_audit.specs.Sequences.{same_sequence}

-- of these sequences that an observer has seen by T, where k mitigations count
pub record IsMeasure (order : Order) (o t k : ℕ) (seqs : List (List Event)) (m : Measures) : Type 0 where
  pub levels : m.levels ≡ count_not_below (lattice_of order) o order.size
  pub distinct : m.distinct ≡ distinct_count same_sequence seqs
  pub base : m.base ≡ k + 1
  pub exponent : m.exponent ≡ m.levels * digits t
  pub classes : m.classes.items ≡ classes_of same_sequence seqs

-- two have the same numbers and classes
pub record SameMeasures (m n : Measures) : Type 0 where
  pub levels : m.levels ≡ n.levels
  pub distinct : m.distinct ≡ n.distinct
  pub base : m.base ≡ n.base
  pub exponent : m.exponent ≡ n.exponent
  pub classes : m.classes.items ≡ n.classes.items
