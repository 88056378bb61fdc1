-- The classes of runs are the tally of what the runs show.
use Rattle.std.proofs.Common.{◌≡◌, ◌<◌, ◌+◌, inl, inr, ℕ, suc, List, [], ◌∷◌, ◌++◌, length, get_or, refl, sym, ap, ◌∙◌, subst, arith}
use Rattle.std.proofs.Common.{append_assoc, length-append}
use Rattle.std.specs.List.{position_or_len}
use Rattle.std.proofs.lemmas.List.{length-map}
use Rattle.label_code.specs.Machine.{Event}
use Rattle.class_counts.specs.Tally.{add}
use Rattle.leak_audit.specs.Sequences.{same_sequence}
use Rattle.leak_classes.specs.Classes.{Classes, no_classes, with_start}
use Rattle.lab_leak.specs.Classes.{classes_of_runs, shown_by, AreFirsts, AreTallied}
use Rattle.lab_leak.proofs.Folding.{classes_from, folded}
use Rattle.lab_leak.proofs.Counting.{Grows, grown, shown_add, shown_in, firsts_same, firsts_more}
use Rattle.lab_leak.proofs.Taking.{inserted, different}

shown_all : (k : Classes) (n : ℕ) (zs : List (List Event)) → shown_by (classes_from k n zs) ≡ inserted (shown_by k) zs
shown_all k n [] = refl
shown_all k n (z ∷ zs) = shown_all (with_start k n z 1) (n + 1) zs ∙ ap (λ t. inserted t zs) (shown_add same_sequence k.seen z)

-- ---- first runs

abbrev Classed : Type 0
Classed = List Event × ℕ

-- what is seen of classes does not hang on how many runs they have
firsts_shown : (zs : List (List Event)) (cs ds : List Classed) (fs : List ℕ) → shown_in cs ≡ shown_in ds → AreFirsts zs cs fs → AreFirsts zs ds fs
firsts_shown zs [] [] fs e h = h
firsts_shown zs [] (d ∷ ds) fs e h = absurd cc
firsts_shown zs (c ∷ cs) [] fs e h = absurd cc
firsts_shown zs (c ∷ cs) (d ∷ ds) [] e h = absurd h
firsts_shown zs (c ∷ cs) (d ∷ ds) (f ∷ fs) e h =
    let head : c.0 ≡ d.0 = cc in
    let tail : shown_in cs ≡ shown_in ds = cc in
    ((h.0.0, h.0.1, h.0.2, h.0.3 ∙ head), firsts_shown zs cs ds fs tail h.1)

-- one class more, whose first run shows it
firsts_end : (zs : List (List Event)) (cs ds : List Classed) (fs : List ℕ) (z : List Event) (n : ℕ) → shown_in ds ≡ shown_in cs ++ z ∷ []
    → n < length zs → get_or zs n [] ≡ z → AreFirsts zs cs fs → AreFirsts zs ds (fs ++ (n + 1) ∷ [])
firsts_end zs [] [] fs z n e l at h = absurd cc
firsts_end zs [] (d ∷ []) [] z n e l at h = let same : z ≡ d.0 = cc in ((n, refl, l, at ∙ same), tt)
firsts_end zs [] (d ∷ d' ∷ ds) fs z n e l at h = absurd cc
firsts_end zs [] (d ∷ []) (f ∷ fs) z n e l at h = absurd h
firsts_end zs (c ∷ cs) [] fs z n e l at h = absurd cc
firsts_end zs (c ∷ cs) (d ∷ ds) [] z n e l at h = absurd h
firsts_end zs (c ∷ cs) (d ∷ ds) (f ∷ fs) z n e l at h =
    let head : c.0 ≡ d.0 = cc in
    let tail : shown_in ds ≡ shown_in cs ++ z ∷ [] = cc in
    ((h.0.0, h.0.1, h.0.2, h.0.3 ∙ head), firsts_end zs cs ds fs z n tail l at h.1)

firsts_next : (zs : List (List Event)) (k : Classes) (n : ℕ) (z : List Event) → n < length zs → get_or zs n [] ≡ z → AreFirsts zs k.seen k.firsts
    → AreFirsts zs (with_start k n z 1).seen (with_start k n z 1).firsts
firsts_next zs k n z l at h = go (grown same_sequence k.seen z)
  where
    more : List Classed
    more = add same_sequence k.seen z 1

    go : Grows k.seen more z (position_or_len (same_sequence z) (shown_in k.seen)) → AreFirsts zs more (with_start k n z 1).firsts
    go (inl r) =
        subst (λ t. AreFirsts zs more t) (sym (firsts_same k.seen more (k.firsts ++ (n + 1) ∷ []) k.firsts r.long))
        (firsts_shown zs k.seen more k.firsts (sym r.shown) h)
    go (inr r) =
        subst (λ t. AreFirsts zs more t) (sym (firsts_more k.seen more (k.firsts ++ (n + 1) ∷ []) k.firsts r.long))
        (firsts_end zs k.seen more k.firsts z n r.shown l at h)

-- the runs that are left come after some that are known
firsts_all : (ys zs : List (List Event)) (k : Classes) (n : ℕ) → n ≡ length ys → AreFirsts (ys ++ zs) k.seen k.firsts
    → AreFirsts (ys ++ zs) (classes_from k n zs).seen (classes_from k n zs).firsts
firsts_all ys [] k n e h = h
firsts_all ys (z ∷ zs) k n e h =
    let all : (ys ++ z ∷ []) ++ zs ≡ ys ++ z ∷ zs = append_assoc ys (z ∷ []) zs in
    let long = length-append ys (z ∷ zs) in
    let after = length-append ys (z ∷ []) in
    let at : get_or (ys ++ z ∷ zs) n [] ≡ z = at_end ys (z ∷ zs) n e ∙ refl in
    let next = firsts_next (ys ++ z ∷ zs) k n z (omega (arith, e, long)) at h in
    subst (λ t. AreFirsts t (classes_from (with_start k n z 1) (n + 1) zs).seen (classes_from (with_start k n z 1) (n + 1) zs).firsts) all
    (firsts_all (ys ++ z ∷ []) zs (with_start k n z 1) (n + 1) (omega (arith, e, after))
    (subst (λ t. AreFirsts t (with_start k n z 1).seen (with_start k n z 1).firsts) (sym all) next))
  where
    at_end : (ys zs : List (List Event)) (n : ℕ) → n ≡ length ys → get_or (ys ++ zs) n [] ≡ get_or zs 0 []
    at_end [] zs n e = ap (λ i. get_or zs i []) e
    at_end (y ∷ ys) zs n e =
        let m : n ≡ suc (length ys) = e in
        ap (λ i. get_or (y ∷ (ys ++ zs)) i []) m ∙ at_end ys zs (length ys) refl

pub are_tallied : (zs : List (List Event)) → AreTallied zs
are_tallied zs = record {
  distinct =
      sym (length-map (classes_of_runs zs).seen (λ c. c.0))
      ∙ ap length (ap (λ (k : Classes). shown_by k) (sym (folded zs)) ∙ shown_all no_classes 0 zs ∙ different zs);
  firsts = subst (λ (k : Classes). AreFirsts zs k.seen k.firsts) (folded zs) (firsts_all [] zs no_classes 0 refl tt);
}
