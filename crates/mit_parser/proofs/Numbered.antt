-- Pairs of numbers of labels.
use Rattle.std.proofs.Common.{◌≡◌, ◌+◌, ◌<◌, refl, ap, ℕ, zero, suc, List, [], ◌∷◌, ◌++◌, length, take, get_or, Option, Some, None, arith, add-one}
use Rattle.std.specs.Str.{bytes_eq}
use Rattle.std.specs.List.{IsDistinct}
use Rattle.std.proofs.lemmas.Map.Keys.{apart_from_distinct}
use Rattle.std.proofs.lemmas.Bool.{both_ways}
use Rattle.std.proofs.lemmas.Slice.Eq.{bytes_eq-Decides}
use Rattle.std.proofs.lemmas.List.Quantifiers.{position-Some}
use Rattle.label_lattice.specs.declared.label.Label.{Label}
use Rattle.std.proofs.lemmas.List.Elements.{All-cons}
use Rattle.label_lattice.specs.Order.{AllDiffer}
use Rattle.label_lattice.specs.Chains.{AreBelow}
use Rattle.label_lattice.specs.contracts.name.NamePartialEq.TheImpl.{eq-value}
use Rattle.mit_parser.specs.Scope.{find_label, or_else, as_label}
use Rattle.mit_parser.specs.Tree.{PairTree, pair_of, MorePairs, no_more_pairs, and_pair, Ordering, no_ordering, ordering_of}
use Rattle.mit_parser.specs.Faults.{as_labels, AreNumbersBelow, pair_numbers, more_numbers, ordering_numbers}

pub as_take : (xs : List (ℕ × ℕ)) (i : ℕ) (d : ℕ × ℕ) → i < length xs
    → as_labels (take (i + 1) xs) ≡ as_labels (take i xs) ++ (as_label (get_or xs i d).0, as_label (get_or xs i d).1) ∷ []
as_take xs i d h = rw add-one (by xs i h)
  where
    by : (xs : List (ℕ × ℕ)) (i : ℕ) → i < length xs
        → as_labels (take (suc i) xs) ≡ as_labels (take i xs) ++ (as_label (get_or xs i d).0, as_label (get_or xs i d).1) ∷ []
    by [] i h = absurd (omega (arith, h))
    by (x ∷ xs) zero h = refl
    by (x ∷ xs) (suc i) h = ap (λ l. (as_label x.0, as_label x.1) ∷ l) (by xs i (omega (arith, h)))

-- names that differ as keys differ
pub keys_differ : (ks : List (List ℕ)) → IsDistinct eq-value.it ks → AllDiffer ks
keys_differ ks h i j d l k s =
    let a = get_or ks i d in
    let b = get_or ks j d in
    both_ways (bytes_eq a b) (apart_from_distinct eq-value.it ks i j d h l k) ((bytes_eq-Decides a b).1 s)

module _ (labels : List (List ℕ)) (some : 0 < length labels) where
  pub label_below : (w : List ℕ) → or_else 0 (find_label labels w) < length labels
  label_below w = by (find_label labels w) refl
    where
      by : (r : Option ℕ) → find_label labels w ≡ r → or_else 0 r < length labels
      by None e = some
      by (Some k) e = (position-Some (bytes_eq w) labels k [] e).0

  pair_below : (x : PairTree) → ((pair_numbers labels x).0 < length labels) × ((pair_numbers labels x).1 < length labels)
  pair_below (pair_of a p q b r) = (label_below a, label_below b)

  below_more : (m : MorePairs) → AreNumbersBelow (length labels) (more_numbers labels m)
  below_more no_more_pairs = λ k d h. absurd (omega (arith, h))
  below_more (and_pair p x m) = All-cons (λ n. (n.0 < length labels) × (n.1 < length labels)) (pair_numbers labels x) (more_numbers labels m)
      (pair_below x) (below_more m)

  pub numbers_below : (o : Ordering) → AreNumbersBelow (length labels) (ordering_numbers labels o)
  numbers_below no_ordering = λ k d h. absurd (omega (arith, h))
  numbers_below (ordering_of p x m q) =
      All-cons (λ n. (n.0 < length labels) × (n.1 < length labels)) (pair_numbers labels x) (more_numbers labels m) (pair_below x) (below_more m)

pub as_labels_below : (n : ℕ) (ps : List (ℕ × ℕ)) → AreNumbersBelow n ps → AreBelow n (as_labels ps)
as_labels_below n [] h = λ k d l. absurd (omega (arith, l))
as_labels_below n (p ∷ ps) h =
    All-cons (λ (q : Label × Label). (q.0.number < n) × (q.1.number < n)) (as_label p.0, as_label p.1) (as_labels ps) (h 0 p (omega arith))
    (as_labels_below n ps (λ k d l. h (suc k) d (omega (arith, l))))
