-- What one start more makes of classes.
use Rattle.std.proofs.Common.{◌≡◌, ◌<◌, ◌+◌, ◌⊎◌, inl, inr, ℕ, List, [], ◌∷◌, length}
use Rattle.std.proofs.Common.{map, Vec, Global, Bool, true, false, cond, refl, sym, ap, ◌∙◌}
use Rattle.std.proofs.Common.{arith}
use Rattle.std.specs.Prelude.{◌&&◌}
use Rattle.std.specs.Cmp.Derive.Mapped.{pointwise-map}
use Rattle.std.specs.Cmp.Lexicographic.{pointwise}
use Rattle.label_code.specs.Machine.{Event}
use Rattle.class_counts.specs.Tally.{add, total}
use Rattle.leak_audit.specs.declared.sighting.Sighting.{Sighting}
use Rattle.leak_audit.specs.contracts.sighting.SightingPartialEq as equality
use Rattle.leak_audit.specs.Observed.{event_of, sequence_of}
use Rattle.leak_audit.specs.Sequences.{same_event, same_sequence}
use Rattle.leak_classes.specs.Classes.{events_in}
use Rattle.leak_classes.specs.Views.{class_of}

-- ---- in memory and in the definition

abbrev pub eq_of : Vec Sighting Global → Vec Sighting Global → Bool
eq_of x y = pointwise equality.TheImpl.ghosts.eq x.items y.items

shown : (x y : Vec Sighting Global) → eq_of x y ≡ same_sequence (sequence_of x) (sequence_of y)
shown x y = sym (pointwise-map event_of same_event x.items y.items)

by_shown : (b c : Bool) (e : Vec Sighting Global × ℕ) (w : ℕ) (es fs : List (Vec Sighting Global × ℕ)) (gs : List (List Event × ℕ)) → b ≡ c
    → map class_of fs ≡ gs
    → map class_of (cond b ((e.0, e.1 + w) ∷ es) (e ∷ fs)) ≡ cond c ((sequence_of e.0, e.1 + w) ∷ map class_of es) (class_of e ∷ gs)
by_shown true c e w es fs gs p h = ap (λ z. cond z ((sequence_of e.0, e.1 + w) ∷ map class_of es) (class_of e ∷ gs)) p
by_shown false c e w es fs gs p h =
    ap (λ z. class_of e ∷ z) h ∙ ap (λ z. cond z ((sequence_of e.0, e.1 + w) ∷ map class_of es) (class_of e ∷ gs)) p

pub added_shown : (es : List (Vec Sighting Global × ℕ)) (v : Vec Sighting Global) (w : ℕ)
    → map class_of (add eq_of es v w) ≡ add same_sequence (map class_of es) (sequence_of v) w
added_shown [] v w = refl
added_shown (e ∷ es) v w =
    by_shown (eq_of v e.0) (same_sequence (sequence_of v) (sequence_of e.0)) e w es (add eq_of es v w) (add same_sequence (map class_of es) (sequence_of v) w)
    (shown v e.0) (added_shown es v w)

-- ---- how much is kept

-- as many classes as before with as many events; or one class more, with the events of its sequence
abbrev pub Grows : List (List Event × ℕ) → List (List Event × ℕ) → List Event → Type 0
Grows es fs k =
    ((length fs ≡ length es) × (events_in fs ≡ events_in es)) ⊎ ((length fs ≡ length es + 1) × (events_in fs ≡ events_in es + length k))

by_grows : (b : Bool) (e : List Event × ℕ) (w : ℕ) (es fs : List (List Event × ℕ)) (k : List Event) → Grows es fs k
    → Grows (e ∷ es) (cond b ((e.0, e.1 + w) ∷ es) (e ∷ fs)) k
by_grows true e w es fs k h = inl (refl, refl)
by_grows false e w es fs k (inl h) = let l = h.0 in let v = h.1 in inl (omega (arith, l), omega (arith, v))
by_grows false e w es fs k (inr h) = let l = h.0 in let v = h.1 in inr (omega (arith, l), omega (arith, v))

pub grows : (es : List (List Event × ℕ)) (k : List Event) (w : ℕ) → Grows es (add same_sequence es k w) k
grows [] k w = inr (omega arith, omega arith)
grows (e ∷ es) k w = by_grows (same_sequence k e.0) e w es (add same_sequence es k w) k (grows es k w)

-- sequences that are the same are as long as each other
same_length : (xs ys : List Event) → same_sequence xs ys ≡ true → length xs ≡ length ys
same_length [] [] h = refl
same_length [] (y ∷ ys) h = absurd cc
same_length (x ∷ xs) [] h = absurd cc
same_length (x ∷ xs) (y ∷ ys) h = let e = same_length xs ys (second (same_event x y) (same_sequence xs ys) h) in omega (arith, e)
  where
    second : (a b : Bool) → (a && b) ≡ true → b ≡ true
    second true b h = h
    second false b h = absurd cc

-- a sequence that is longer than all kept ones together is a new one
pub long_grows : (es : List (List Event × ℕ)) (k : List Event) (w : ℕ) → events_in es < length k
    → events_in (add same_sequence es k w) ≡ events_in es + length k
long_grows [] k w h = omega arith
long_grows (e ∷ es) k w h = go (same_sequence k e.0) refl (long_grows es k w (omega (arith, h)))
  where
    go : (b : Bool) → same_sequence k e.0 ≡ b → events_in (add same_sequence es k w) ≡ events_in es + length k
        → events_in (cond b ((e.0, e.1 + w) ∷ es) (e ∷ add same_sequence es k w)) ≡ length e.0 + events_in es + length k
    go true q ih = let l = same_length k e.0 q in absurd (omega (arith, l, h))
    go false q ih = omega (arith, ih)

-- ---- how heavy it is

by_total : {K : Type 0} (b : Bool) (x : K) (n w rest more : ℕ) (es fs : List (K × ℕ)) → total es ≡ rest → total fs ≡ more → more ≡ rest + w
    → total (cond b ((x, n + w) ∷ es) ((x, n) ∷ fs)) ≡ n + rest + w
by_total true x n w rest more es fs e f h = omega (arith, e)
by_total false x n w rest more es fs e f h = omega (arith, f, h)

pub added_total : {K : Type 0} (eq : K → K → Bool) (es : List (K × ℕ)) (k : K) (w : ℕ) → total (add eq es k w) ≡ total es + w
added_total eq [] k w = omega arith
added_total eq (e ∷ es) k w = by_total (eq k e.0) e.0 e.1 w (total es) (total (add eq es k w)) es (add eq es k w) refl refl (added_total eq es k w)
