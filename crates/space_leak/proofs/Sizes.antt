-- The sizes of classes.
use Rattle.std.proofs.Common.{◌≡◌, refl, ap, ℕ, zero, suc, ◌+◌, List, [], ◌∷◌, map, Bool, true, false, cond, arith, Vec, Global}
use Rattle.fixed_log.specs.Entropy.{AllSome, starts}
use Rattle.label_code.specs.Machine.{Event}
use Rattle.cycle_machine.specs.declared.end.RunEnd.{RunEnd}
use Rattle.class_counts.specs.Tally.{add, tally, total}
use Rattle.leak_audit.specs.declared.sighting.Sighting.{Sighting}
use Rattle.leak_audit.specs.Sequences.{same_sequence}
use Rattle.leak_classes.specs.Walk.{shown}
use Rattle.leak_classes.specs.Views.{class_of}
use Rattle.leak_classes.proofs.Grown.{added_total}
use Rattle.space_walk.specs.Shown.{one}

abbrev pub sizes : {K : Type 0} → List (K × ℕ) → List ℕ
sizes es = map (λ c. c.1) es

pub sizes_shown : (es : List (Vec Sighting Global × ℕ)) → sizes (map class_of es) ≡ sizes es
sizes_shown [] = refl
sizes_shown (e ∷ es) = ap (λ z. e.1 ∷ z) (sizes_shown es)

pub total_is : {K : Type 0} (es : List (K × ℕ)) → starts (sizes es) ≡ total es
total_is [] = refl
total_is (e ∷ es) = ap (λ z. e.1 + z) (total_is es)

-- ---- no class is empty

by_add : {K : Type 0} (b : Bool) (e : K × ℕ) (es fs : List (K × ℕ)) → AllSome (sizes (e ∷ es)) → AllSome (sizes fs)
    → AllSome (sizes (cond b ((e.0, e.1 + 1) ∷ es) (e ∷ fs)))
by_add true e es fs h k = (omega arith, h.1)
by_add false e es fs h k = (h.0, k)

some_added : (es : List (List Event × ℕ)) (z : List Event) → AllSome (sizes es) → AllSome (sizes (add same_sequence es z 1))
some_added [] z h = (omega arith, h)
some_added (e ∷ es) z h = by_add (same_sequence z e.0) e es (add same_sequence es z 1) h (some_added es z h.1)

module _ (seen : ℕ → List Event) (end : ℕ → RunEnd) where
  pub some_tallied : (es : List (List Event × ℕ)) (n c : ℕ) → AllSome (sizes es)
      → AllSome (sizes (tally same_sequence es (shown seen end one n c)))
  some_tallied es n zero h = h
  some_tallied es n (suc c) h = some_tallied (add same_sequence es (seen n) 1) (n + 1) c (some_added es (seen n) h)

  added : (es : List (List Event × ℕ)) (n c : ℕ) → total (tally same_sequence es (shown seen end one n c)) ≡ total es + c
  added es n zero = omega arith
  added es n (suc c) =
      let rest = added (add same_sequence es (seen n) 1) (n + 1) c in
      let one_more = added_total same_sequence es (seen n) 1 in
      omega (arith, rest, one_more)

  -- each start is in one class
  pub all_tallied : (c : ℕ) → total (tally same_sequence [] (shown seen end one 0 c)) ≡ c
  all_tallied c = let e = added [] 0 c in omega (arith, e)
