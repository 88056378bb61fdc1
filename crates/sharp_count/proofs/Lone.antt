-- The choices in which each level alone fits into T.
use Rattle.std.proofs.Common.{◌≡◌, ℕ, zero, suc, ◌+◌, ◌*◌, ◌≤◌, List, [], ◌∷◌, length, Bool, true, false, refl, sym, ap, ◌∙◌, subst, inl, ⊎_elim, arith}
use Rattle.std.specs.Prelude.{◌/◌, max, cond, leb}
use Rattle.std.specs.List.{filter}
use Rattle.std.proofs.lemmas.Bool.{leb-true, le-leb, cases_eq}
use Rattle.std.proofs.lemmas.Nat.{mul-le}
use Rattle.leak_bound.specs.Records.{Each}
use Rattle.leak_bound.proofs.Few.{Each-map, Each-both, Each-pass, Each-filter}
use Rattle.leak_bound.specs.Rising.{rising, sharp}
use Rattle.sharp_count.specs.Levels.{miss_counts}
use Rattle.sharp_count.specs.Lists.{NeverFalling, IsAmong, AllDiffer}
use Rattle.sharp_count.specs.Shares.{shares}
use Rattle.sharp_count.specs.Shared.{shared_by, shared, SharedIsEnough}
use Rattle.sharp_count.specs.Ways.{IsChoice, cycles_of, cycles_in}
use Rattle.sharp_count.proofs.Alike.{each-among, no_longer, same_length}
use Rattle.sharp_count.proofs.Listing.{listing, length-listing, each_falls, has_all, all_differ}
use Rattle.sharp_count.proofs.Shares.{ways_of_level, shares_few}
use Rattle.sharp_count.proofs.Ways.{Choice, pairs, length-pairs, each-pairs, among-pairs, differ-pairs, among_passed, differ_passed, ways, are_ways}
use Rattle.sharp_count.proofs.Ways.{length-one_level}

-- ---- the lists of one level

fits : ℕ → ℕ → List ℕ → Bool
fits t e ms = leb (cycles_of e ms + 0) t

abbrev fitting_lists : ℕ → ℕ → ℕ → List (List ℕ)
fitting_lists t e k = filter (fits t e) (listing 0 (miss_counts t e) k)

abbrev lone : ℕ → ℕ → ℕ → List (List ℕ)
lone t e k = cond (leb k 64) (fitting_lists t e k) (listing 0 (miss_counts t e) k)

length-lone : (t e k : ℕ) → length (lone t e k) ≡ shared_by t e k
unfolding fits
length-lone t e k = go (leb k 64)
  where
    go : (b : Bool) → length (cond b (fitting_lists t e k) (listing 0 (miss_counts t e) k))
        ≡ cond b (shares (miss_counts t e) k (t / max e 1) 0) (rising (miss_counts t e) k)
    go true = sym (length-one_level t e k) ∙ sym (ways_of_level t e k (ways t (λ l. e) 1 (λ l. k)) (are_ways t (λ l. e) 1 (λ l. k)))
    go false = length-listing 0 (miss_counts t e) k

each_lone : (t e k : ℕ) → Each (NeverFalling 0 (miss_counts t e) k) (lone t e k)
each_lone t e k = go (leb k 64) (each_falls (miss_counts t e) 0 (miss_counts t e) k (omega arith))
  where
    go : (b : Bool) → Each (NeverFalling 0 (miss_counts t e) k) (listing 0 (miss_counts t e) k)
        → Each (NeverFalling 0 (miss_counts t e) k) (cond b (fitting_lists t e k) (listing 0 (miss_counts t e) k))
    go true h = Each-filter (NeverFalling 0 (miss_counts t e) k) (fits t e) (listing 0 (miss_counts t e) k) h
    go false h = h

among_lone : (t e k : ℕ) (ms : List ℕ) → NeverFalling 0 (miss_counts t e) k ms → cycles_of e ms ≤ t → IsAmong ms (lone t e k)
unfolding fits
among_lone t e k ms h le = go (leb k 64) (has_all (miss_counts t e) 0 (miss_counts t e) k ms (omega arith) h)
  where
    go : (b : Bool) → IsAmong ms (listing 0 (miss_counts t e) k) → IsAmong ms (cond b (fitting_lists t e k) (listing 0 (miss_counts t e) k))
    go true i = among_passed (fits t e) ms (listing 0 (miss_counts t e) k) (le-leb (cycles_of e ms + 0) t (omega (arith, le))) i
    go false i = i

differ_lone : (t e k : ℕ) → AllDiffer (lone t e k)
differ_lone t e k = go (leb k 64) (all_differ 0 (miss_counts t e) k)
  where
    go : (b : Bool) → AllDiffer (listing 0 (miss_counts t e) k) → AllDiffer (cond b (fitting_lists t e k) (listing 0 (miss_counts t e) k))
    go true h = differ_passed (fits t e) (listing 0 (miss_counts t e) k) h
    go false h = h

-- of no more than 64 mitigations they fit
lone_fits : (t e k : ℕ) → k ≤ 64 → Each (λ ms. cycles_of e ms ≤ t) (lone t e k)
unfolding fits
lone_fits t e k few =
    subst (λ b. Each (λ ms. cycles_of e ms ≤ t) (cond b (fitting_lists t e k) (listing 0 (miss_counts t e) k))) (sym (le-leb k 64 few))
    (Each-map (λ ms. NeverFalling 0 (miss_counts t e) k ms × (fits t e ms ≡ true)) (λ ms. cycles_of e ms ≤ t)
    (λ ms h. omega (arith, leb-true (cycles_of e ms + 0) t h.1)) (fitting_lists t e k)
    (Each-pass (NeverFalling 0 (miss_counts t e) k) (fits t e) (listing 0 (miss_counts t e) k)
    (each_falls (miss_counts t e) 0 (miss_counts t e) k (omega arith))))

factor_few : (t e k : ℕ) → shared_by t e k ≤ rising (miss_counts t e) k
factor_few t e k = go (leb k 64)
  where
    go : (b : Bool) → cond b (shares (miss_counts t e) k (t / max e 1) 0) (rising (miss_counts t e) k) ≤ rising (miss_counts t e) k
    go true = shares_few (miss_counts t e) k (t / max e 1) 0
    go false = omega arith

-- no list of no numbers has cycles
none_lone : (t e k : ℕ) → k ≡ 0 → Each (λ ms. cycles_of e ms ≡ 0) (lone t e k)
none_lone t e k none =
    Each-map (NeverFalling 0 (miss_counts t e) k) (λ ms. cycles_of e ms ≡ 0)
    (λ ms h. let empty : ms ≡ [] = subst (λ z. NeverFalling 0 (miss_counts t e) z ms) none h in ap (cycles_of e) empty) (lone t e k) (each_lone t e k)

-- ---- the choices of all levels

module _ (t : ℕ) (firsts counts : ℕ → ℕ) where
  abbrev values : ℕ → ℕ
  values l = miss_counts t (firsts l)

  abbrev of_level : ℕ → List (List ℕ)
  of_level l = lone t (firsts l) (counts l)

  all_lone : ℕ → List Choice
  all_lone zero = [] ∷ []
  all_lone (suc l) = pairs (of_level l) (all_lone l)

  length-all_lone : (n : ℕ) → length (all_lone n) ≡ shared t firsts n counts
  unfolding all_lone
  length-all_lone zero = refl
  length-all_lone (suc l) =
      length-pairs (of_level l) (all_lone l)
      ∙ ap (λ z. z * length (all_lone l)) (length-lone t (firsts l) (counts l))
      ∙ ap (λ z. shared_by t (firsts l) (counts l) * z) (length-all_lone l)

  each_choice : (n : ℕ) → Each (IsChoice values n counts) (all_lone n)
  unfolding all_lone
  each_choice zero = (refl, tt)
  each_choice (suc l) =
      each-pairs (NeverFalling 0 (values l) (counts l)) (IsChoice values l counts) (IsChoice values (suc l) counts) (λ ms c h k. (h, k))
      (of_level l) (all_lone l) (each_lone t (firsts l) (counts l)) (each_choice l)

  among_all : (n : ℕ) (c : Choice) → IsChoice values n counts c → cycles_in firsts n c ≤ t → IsAmong c (all_lone n)
  unfolding all_lone
  among_all zero c h le = inl h
  among_all (suc l) [] h le = absurd h
  among_all (suc l) (ms ∷ c) h le =
      among-pairs ms c (of_level l) (all_lone l) (among_lone t (firsts l) (counts l) ms h.0 (omega (arith, le))) (among_all l c h.1 (omega (arith, le)))

  differ_all : (n : ℕ) → AllDiffer (all_lone n)
  unfolding all_lone
  differ_all zero = (tt, tt)
  differ_all (suc l) = differ-pairs (of_level l) (all_lone l) (differ_lone t (firsts l) (counts l)) (differ_all l)

  within : (n : ℕ) → shared t firsts n counts ≤ sharp values n counts
  within zero = omega arith
  within (suc l) =
      mul-le (shared_by t (firsts l) (counts l)) (shared t firsts l counts) (rising (values l) (counts l)) (sharp values l counts)
      (factor_few t (firsts l) (counts l)) (within l)

  -- where no level but one has mitigations, and that one no more than 64, all of them fit
  module _ (l : ℕ) (few : counts l ≤ 64) (others : (j : ℕ) → (j ≡ l → ⊥) → counts j ≡ 0) where
    nothing : (n : ℕ) → n ≤ l → Each (λ c. cycles_in firsts n c ≡ 0) (all_lone n)
    unfolding all_lone
    nothing zero le = (refl, tt)
    nothing (suc m) le =
        each-pairs (λ ms. cycles_of (firsts m) ms ≡ 0) (λ c. cycles_in firsts m c ≡ 0) (λ c. cycles_in firsts (suc m) c ≡ 0)
        (λ ms c h k. omega (arith, h, k)) (of_level m) (all_lone m)
        (none_lone t (firsts m) (counts m) (others m (λ e. omega (arith, e, le)))) (nothing m (omega (arith, le)))

    all_fit : (n : ℕ) → Each (λ c. cycles_in firsts n c ≤ t) (all_lone n)
    unfolding all_lone
    all_fit zero = (omega arith, tt)
    all_fit (suc m) =
        ⊎_elim
        (λ (e : m ≡ l).
        each-pairs (λ ms. cycles_of (firsts m) ms ≤ t) (λ c. cycles_in firsts m c ≡ 0) (λ c. cycles_in firsts (suc m) c ≤ t)
        (λ ms c h k. omega (arith, h, k)) (of_level m) (all_lone m)
        (lone_fits t (firsts m) (counts m) (subst (λ z. counts z ≤ 64) (sym e) few)) (nothing m (omega (arith, e))))
        (λ (ne : m ≡ l → ⊥).
        each-pairs (λ ms. cycles_of (firsts m) ms ≡ 0) (λ c. cycles_in firsts m c ≤ t) (λ c. cycles_in firsts (suc m) c ≤ t)
        (λ ms c h k. omega (arith, h, k)) (of_level m) (all_lone m) (none_lone t (firsts m) (counts m) (others m ne)) (all_fit m))
        (cases_eq m l)

pub shared_is_enough : SharedIsEnough
shared_is_enough t firsts n counts found are =
    let P : Choice → Type 0 = λ c. IsChoice (values t firsts counts) n counts c × (cycles_in firsts n c ≤ t) in
    let all = all_lone t firsts counts n in
    let long = length-all_lone t firsts counts n in
    let one : length found ≤ length all =
    no_longer found all are.differ (λ c i. let p = each-among P c found are.each i in among_all t firsts counts n c p.0 p.1) in (
      omega (arith, one, long),
      within t firsts counts n,
      λ l few others. same_length P found all are.each (λ c p. are.whole c p.0 p.1) are.differ
          (Each-both (IsChoice (values t firsts counts) n counts) (λ c. cycles_in firsts n c ≤ t) all
          (each_choice t firsts counts n) (all_fit t firsts counts l few others n))
          (λ c p. among_all t firsts counts n c p.0 p.1) (differ_all t firsts counts n)
          ∙ long,
    )
