-- The runs one after another: the classes that are kept are those of the runs so far.
use Rattle.std.proofs.Common.{◌≡◌, ◌<◌, ◌≤◌, ◌+◌, ◌-◌, inl, inr, ℕ, List, [], ◌∷◌, ◌++◌, length, set, get_or}
use Rattle.std.proofs.Common.{refl, sym, ap, ◌∙◌, subst, arith, append_assoc, append-nil}
use Rattle.std.specs.List.{position_or_len}
use Rattle.std.proofs.lemmas.List.{length-map}
use Rattle.indexmap.specs.IndexSet.{insert_key}
use Rattle.label_code.specs.Machine.{Event}
use Rattle.class_counts.specs.Tally.{add}
use Rattle.leak_bound.specs.Records.{distinct, place_in, classes_of}
use Rattle.leak_audit.specs.Sequences.{same_sequence, Classed}
use Rattle.leak_audit.proofs.Classing.{tests_sequences, none_classed, one_classed, all_classed}
use Rattle.leak_classes.specs.Classes.{Classes, no_classes, with_start}
use Rattle.space_leak.specs.Text.{sizes_of}
use Rattle.lab_leak.specs.declared.sizes.ClassSizes.{ClassSizes}
use Rattle.lab_leak.specs.Classes.{classes_of_runs, shown_by, AreSizes}
use Rattle.lab_leak.proofs.Folding.{classes_from, folded}
use Rattle.lab_leak.proofs.Counting.{Grows, grown, shown_add, firsts_same, firsts_more}

-- ---- one run more

module _ (k : Classes) (z : List Event) (n : ℕ) (s new : ClassSizes) (run class place : ℕ) (h : AreSizes k s)
    (at : class ≡ place_in same_sequence (shown_by k) z) (is : place ≡ class - 1) where
  abbrev p : ℕ
  p = position_or_len (same_sequence z) (shown_by k)

  abbrev more : List (List Event × ℕ)
  more = add same_sequence k.seen z 1

  place_is : place ≡ p
  place_is = omega (arith, at, is)

  long : length s.sizes.items ≡ length k.seen
  long = ap length h.sizes ∙ length-map k.seen (λ c. c.1)

  pub take_there : place < length s.sizes.items → new.sizes.items ≡ set s.sizes.items place (get_or s.sizes.items place 0 + 1)
      → new.firsts.items ≡ s.firsts.items → AreSizes (with_start k n z 1) new
  take_there l e f = go (grown same_sequence k.seen z)
    where
      go : Grows k.seen more z p → AreSizes (with_start k n z 1) new
      go (inl r) = record {
        sizes =
            e ∙ ap (λ t. set t place (get_or t place 0 + 1)) h.sizes
            ∙ ap (λ t. set (sizes_of k) t (get_or (sizes_of k) t 0 + 1)) place_is ∙ sym r.weights;
        firsts = f ∙ h.firsts ∙ sym (firsts_same k.seen more (k.firsts ++ (n + 1) ∷ []) k.firsts r.long);
      }
      go (inr r) = let one = r.end in let two = place_is in let three = long in absurd (omega (arith, l, one, two, three))

  pub take_new : length s.sizes.items ≤ place → new.sizes.items ≡ s.sizes.items ++ 1 ∷ [] → new.firsts.items ≡ s.firsts.items ++ run ∷ []
      → run ≡ n + 1 → AreSizes (with_start k n z 1) new
  take_new l e f r₀ = go (grown same_sequence k.seen z)
    where
      go : Grows k.seen more z p → AreSizes (with_start k n z 1) new
      go (inl r) = let one = r.there in let two = place_is in let three = long in absurd (omega (arith, l, one, two, three))
      go (inr r) = record {
        sizes = e ∙ ap (λ t. t ++ 1 ∷ []) h.sizes ∙ sym r.weights;
        firsts =
            f ∙ ap (λ t. t ++ run ∷ []) h.firsts ∙ ap (λ t. k.firsts ++ t ∷ []) r₀
            ∙ sym (firsts_more k.seen more (k.firsts ++ (n + 1) ∷ []) k.firsts r.long);
      }

-- ---- all runs

-- the class of each of these, after those that are different so far
abbrev pub numbers : List (List Event) → List (List Event) → List ℕ
numbers ds [] = []
numbers ds (z ∷ zs) = place_in same_sequence ds z ∷ numbers (insert_key same_sequence ds z) zs

abbrev pub inserted : List (List Event) → List (List Event) → List (List Event)
inserted ds [] = ds
inserted ds (z ∷ zs) = inserted (insert_key same_sequence ds z) zs

all_numbered : (ys ds : List (List Event)) (cs : List ℕ) (zs : List (List Event)) → Classed same_sequence ys ds cs
    → Classed same_sequence (ys ++ zs) (inserted ds zs) (cs ++ numbers ds zs)
all_numbered ys ds cs [] h =
    subst (λ (t : List ℕ). Classed same_sequence (ys ++ []) ds t) (sym (append-nil cs))
    (subst (λ (t : List (List Event)). Classed same_sequence t ds cs) (sym (append-nil ys)) h)
all_numbered ys ds cs (z ∷ zs) h =
    let rest = all_numbered (ys ++ z ∷ []) (insert_key same_sequence ds z) (cs ++ place_in same_sequence ds z ∷ []) zs
    (one_classed same_sequence tests_sequences ys ds cs z h) in
    subst (λ (t : List ℕ). Classed same_sequence (ys ++ z ∷ zs) (inserted (insert_key same_sequence ds z) zs) t)
    (append_assoc cs (place_in same_sequence ds z ∷ []) (numbers (insert_key same_sequence ds z) zs))
    (subst (λ (t : List (List Event)). Classed same_sequence t (inserted (insert_key same_sequence ds z) zs)
    ((cs ++ place_in same_sequence ds z ∷ []) ++ numbers (insert_key same_sequence ds z) zs)) (append_assoc ys (z ∷ []) zs) rest)

pub numbered : (zs : List (List Event)) → classes_of same_sequence zs ≡ numbers [] zs
numbered zs = sym (all_classed same_sequence tests_sequences zs (inserted [] zs) (numbers [] zs)
    (all_numbered [] [] [] zs (none_classed same_sequence tests_sequences)))

-- the different ones
pub different : (zs : List (List Event)) → inserted [] zs ≡ distinct same_sequence zs
different zs = (all_numbered [] [] [] zs (none_classed same_sequence tests_sequences)).different

-- after some runs: the classes of those, and what the runs show that are left
pub record Goes (zs : List (List Event)) (i : ℕ) (left : List ℕ) (s : ClassSizes) : Type 0 where
  pub classes : Classes
  pub rest : List (List Event)
  pub are : AreSizes classes s
  pub left_are : left ≡ numbers (shown_by classes) rest
  pub all : classes_from classes i rest ≡ classes_of_runs zs

pub goes_first : (zs : List (List Event)) (cs : List ℕ) (s : ClassSizes) → cs ≡ classes_of same_sequence zs → s.sizes.items ≡ [] → s.firsts.items ≡ []
    → Goes zs 0 cs s
goes_first zs cs s e f g =
    record { classes = no_classes; rest = zs; are = record { sizes = f; firsts = g }; left_are = e ∙ numbered zs; all = folded zs }

pub goes_on : (zs : List (List Event)) (i c : ℕ) (left : List ℕ) (s new : ClassSizes) → Goes zs i (c ∷ left) s
    → ((k : Classes) (z : List Event) (n : ℕ) → AreSizes k s → c ≡ place_in same_sequence (shown_by k) z → i + 1 ≡ n + 1 → AreSizes (with_start k n z 1) new)
    → Goes zs (i + 1) left new
goes_on zs i c left s new h step = go h.rest h.left_are h.all
  where
    go : (rest : List (List Event)) → c ∷ left ≡ numbers (shown_by h.classes) rest → classes_from h.classes i rest ≡ classes_of_runs zs
        → Goes zs (i + 1) left new
    go [] e all = absurd cc
    go (z ∷ rest) e all =
        let head : c ≡ place_in same_sequence (shown_by h.classes) z = cc in
        let tail : left ≡ numbers (insert_key same_sequence (shown_by h.classes) z) rest = cc in
        record {
          classes = with_start h.classes i z 1;
          rest = rest;
          are = step h.classes z i h.are head refl;
          left_are = tail ∙ ap (λ t. numbers t rest) (sym (shown_add same_sequence h.classes.seen z));
          all = all;
        }

pub goes_last : (zs : List (List Event)) (i : ℕ) (s : ClassSizes) → Goes zs i [] s → AreSizes (classes_of_runs zs) s
goes_last zs i s h = go h.rest h.left_are h.all
  where
    go : (rest : List (List Event)) → [] ≡ numbers (shown_by h.classes) rest → classes_from h.classes i rest ≡ classes_of_runs zs
        → AreSizes (classes_of_runs zs) s
    go [] e all = subst (λ (k : Classes). AreSizes k s) all h.are
    go (z ∷ rest) e all = absurd cc
