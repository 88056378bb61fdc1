-- The laws of a lattice of labels, over all numbers.
use Rattle.std.proofs.Common.{◌≡◌, ◌∙◌, ℕ, ◌<◌, ◌+◌, Bool, true, false, add-one, add-zero, ap, ap₂, sym, subst}
use Rattle.std.specs.Prelude.{cond, ltb, ◌&&◌, max}
use Rattle.std.proofs.lemmas.Bool.{lt-ltb, and_from, cond-true}
use Rattle.label_lattice.specs.Lattice.{Lattice, IsLattice}
use Rattle.label_lattice.specs.Order.{Order, IsOrder, lattice_of, flows_in, join_in, count_not_below}
use Rattle.label_lattice.proofs.Over.{over_all_is}

-- whatever is a lattice by its tables is one over all numbers
pub order_is : (o : Order) → IsOrder o → IsLattice (lattice_of o)
order_is o h = over_all_is o.size (flows_in o.flows) (join_in o.joins) o.bottom h.table

-- the join of two labels is a label
pub join_below : (o : Order) → IsOrder o → (a b : ℕ) → a < o.size → b < o.size → (lattice_of o).join a b < o.size
join_below o h a b p q =
    rw (cond-true (ltb a o.size && ltb b o.size) (join_in o.joins a b) (max a b)
    (and_from (ltb a o.size) (ltb b o.size) (lt-ltb a o.size p) (lt-ltb b o.size q)))
    (h.table.closed a b p q)

-- what holds of the fields' order holds of the value
pub value_is : (o v : Order) → o ≡ v → IsOrder o → IsOrder v
value_is o v e h = subst IsOrder e h

count_more : (lat : Lattice) (a n : ℕ) → count_not_below lat a (n + 1) ≡ count_not_below lat a n + cond (lat.flows n a) 0 1
count_more lat a n = rw add-one

count_next : (lat : Lattice) (a n m k : ℕ) → m ≡ n → k ≡ count_not_below lat a n → (r : Bool) → r ≡ lat.flows m a
    → k + cond r 0 1 ≡ count_not_below lat a (n + 1)
count_next lat a n m k e h r f = ap₂ (λ (x : ℕ) (y : Bool). x + cond y 0 1) h (f ∙ ap (λ (z : ℕ). lat.flows z a) e) ∙ sym (count_more lat a n)

-- a label that does not flow there is counted, and one that does is not
pub count_one : (lat : Lattice) (a n m k : ℕ) → m ≡ n → k ≡ count_not_below lat a n → (r : Bool) → r ≡ lat.flows m a → r ≡ false
    → k + 1 ≡ count_not_below lat a (n + 1)
count_one lat a n m k e h r f g = ap (λ (b : Bool). k + cond b 0 1) (sym g) ∙ count_next lat a n m k e h r f

pub count_none : (lat : Lattice) (a n m k : ℕ) → m ≡ n → k ≡ count_not_below lat a n → (r : Bool) → r ≡ lat.flows m a → r ≡ true
    → k ≡ count_not_below lat a (n + 1)
count_none lat a n m k e h r f g = sym (add-zero k) ∙ ap (λ (b : Bool). k + cond b 0 1) (sym g) ∙ count_next lat a n m k e h r f
