-- One run more.
use Rattle.std.proofs.Common.{◌≡◌, ◌<◌, ◌≤◌, ◌+◌, inl, inr, ℕ, List, [], ◌∷◌, ◌++◌, length}
use Rattle.std.proofs.Common.{map, take, Vec, Global, Bool, true, false, cond, refl, sym, ap, ◌∙◌}
use Rattle.std.proofs.Common.{arith, Some, None}
use Rattle.std.specs.Prelude.{nat_lt}
use Rattle.std.proofs.lemmas.Bool.{ltb-true, lt-ltb}
use Rattle.std.proofs.lemmas.List.{length-map, take_all}
use Rattle.label_code.specs.Machine.{Event}
use Rattle.cycle_machine.specs.declared.end.RunEnd.{RunEnd}
use Rattle.cycle_machine.specs.declared.end.RunEnd.TheVariants.{Halted, Limit}
use Rattle.class_counts.specs.Tally.{add}
use Rattle.leak_audit.specs.declared.sighting.Sighting.{Sighting}
use Rattle.leak_audit.specs.Observed.{event_of, sequence_of}
use Rattle.leak_audit.specs.Sequences.{same_sequence}
use Rattle.leak_classes.specs.declared.fault.WalkFault.TheVariants.{Unfinished, TooMuch}
use Rattle.leak_classes.specs.Classes.{Classes, events_in, with_start}
use Rattle.leak_classes.specs.Walk.{refusal}
use Rattle.leak_classes.specs.Views.{class_of}
use Rattle.leak_classes.proofs.Grown.{eq_of, added_shown, Grows, grows, long_grows}

module _ (es es' : List (Vec Sighting Global × ℕ)) (v : Vec Sighting Global) (w : ℕ) (is : es' ≡ add eq_of es v w) where
  abbrev more : List (List Event × ℕ)
  more = add same_sequence (map class_of es) (sequence_of v) w

  seen_put : map class_of es' ≡ more
  seen_put = ap (map class_of) is ∙ added_shown es v w

  length_put : length more ≡ length es'
  length_put = sym (ap length seen_put) ∙ length-map es' class_of

  -- the number of a first start stands at the end exactly where there is one class more
  module _ (b a n : ℕ) (before : b ≡ length es) (after : a ≡ length es') (fs : List ℕ) where
    abbrev firsts : List ℕ
    firsts = cond (nat_lt (length (map class_of es)) (length more)) (fs ++ (n + 1) ∷ []) fs

    firsts_new : b < a → firsts ≡ fs ++ (n + 1) ∷ []
    firsts_new l =
        let x = length-map es class_of in
        let y = length_put in
        ap (λ t. cond t (fs ++ (n + 1) ∷ []) fs) (lt-ltb (length (map class_of es)) (length more) (omega (arith, l, before, after, x, y)))

    firsts_old : a ≤ b → firsts ≡ fs
    firsts_old l = go (nat_lt (length (map class_of es)) (length more)) refl
      where
        go : (t : Bool) → nat_lt (length (map class_of es)) (length more) ≡ t → cond t (fs ++ (n + 1) ∷ []) fs ≡ fs
        go true h =
            let k = ltb-true (length (map class_of es)) (length more) h in
            let x = length-map es class_of in
            let y = length_put in
            absurd (omega (arith, k, l, before, after, x, y))
        go false h = refl

    pub put_new : (fs' : List ℕ) → b < a → fs' ≡ fs ++ (n + 1) ∷ []
        → ◌≡◌ {A = Classes} (record { seen = map class_of es'; firsts = fs' }) (with_start (record { seen = map class_of es; firsts = fs }) n (sequence_of v) w)
    put_new fs' l e = let one = seen_put in let two : fs' ≡ firsts = e ∙ sym (firsts_new l) in same_classes (map class_of es') more fs' firsts one two
      where
        same_classes : (s t : List (List Event × ℕ)) (f g : List ℕ) → s ≡ t → f ≡ g
            → ◌≡◌ {A = Classes} (record { seen = s; firsts = f }) (record { seen = t; firsts = g })
        same_classes s t f g p q = cc

    pub put_old : (fs' : List ℕ) → a ≤ b → fs' ≡ fs
        → ◌≡◌ {A = Classes} (record { seen = map class_of es'; firsts = fs' }) (with_start (record { seen = map class_of es; firsts = fs }) n (sequence_of v) w)
    put_old fs' l e = let one = seen_put in let two : fs' ≡ firsts = e ∙ sym (firsts_old l) in same_classes (map class_of es') more fs' firsts one two
      where
        same_classes : (s t : List (List Event × ℕ)) (f g : List ℕ) → s ≡ t → f ≡ g
            → ◌≡◌ {A = Classes} (record { seen = s; firsts = f }) (record { seen = t; firsts = g })
        same_classes s t f g p q = cc

    pub events_new : b < a → events_in (map class_of es') ≡ events_in (map class_of es) + length v.items
    events_new l = go (grows (map class_of es) (sequence_of v) w)
      where
        go : Grows (map class_of es) more (sequence_of v) → events_in (map class_of es') ≡ events_in (map class_of es) + length v.items
        go (inl h) = let k = h.0 in let x = length-map es class_of in let y = length_put in absurd (omega (arith, k, l, before, after, x, y))
        go (inr h) = ap events_in seen_put ∙ h.1 ∙ ap (λ z. events_in (map class_of es) + z) (length-map v.items event_of)

    pub events_old : a ≤ b → events_in (map class_of es') ≡ events_in (map class_of es)
    events_old l = go (grows (map class_of es) (sequence_of v) w)
      where
        go : Grows (map class_of es) more (sequence_of v) → events_in (map class_of es') ≡ events_in (map class_of es)
        go (inl h) = ap events_in seen_put ∙ h.1
        go (inr h) = let k = h.0 in let x = length-map es class_of in let y = length_put in absurd (omega (arith, k, l, before, after, x, y))

-- ---- why a run is refused, or not

halted_of : (r : RunEnd) → ((c : ℕ) → r ≡ Limit c → ⊥) → (c : ℕ) × (r ≡ Halted c)
halted_of (Halted c) h = (c, refl)
halted_of (Limit c) h = absurd (h c refl)

pub cut_refused : (r : RunEnd) (n events c : ℕ) → r ≡ Limit c → refusal r n events ≡ Some (Unfinished (n + 1) c)
cut_refused r n events c e = ap (λ z. refusal z n events) e

pub much_refused : (r : RunEnd) (n ev ev' : ℕ) → ((c : ℕ) → r ≡ Limit c → ⊥) → ev ≡ ev' → 16777216 < ev → refusal r n ev' ≡ Some (TooMuch ev)
much_refused r n ev ev' h e l =
    let k = halted_of r h in
    ap (λ z. refusal z n ev') k.1
    ∙ (ap (λ t. cond t (Some (TooMuch ev')) None) (lt-ltb 16777216 ev' (omega (arith, e, l))) ∙ ap (λ z. Some (TooMuch z)) (sym e))

pub not_refused : (r : RunEnd) (n ev ev' : ℕ) → ((c : ℕ) → r ≡ Limit c → ⊥) → ev ≡ ev' → ev ≤ 16777216 → refusal r n ev' ≡ None
not_refused r n ev ev' h e l = let k = halted_of r h in ap (λ z. refusal z n ev') k.1 ∙ go (nat_lt 16777216 ev') refl
  where
    go : (t : Bool) → nat_lt 16777216 ev' ≡ t → cond t (Some (TooMuch ev')) None ≡ None
    go true q = let m = ltb-true 16777216 ev' q in absurd (omega (arith, e, l, m))
    go false q = refl

-- a sequence of which all is kept
pub all_kept : (v : Vec Sighting Global) (s : List Event) (m : ℕ) → m ≡ length s → m ≤ 16777216 → sequence_of v ≡ take 16777216 s → sequence_of v ≡ s
all_kept v s m e l h = h ∙ take_all 16777216 s (omega (arith, e, l))

-- a sequence that is longer than may be kept is a new one
pub too_long : (es : List (Vec Sighting Global × ℕ)) (s : List Event) (w m ev : ℕ) → m ≡ length s → ev ≡ events_in (map class_of es) → ev ≤ 16777216
    → 16777216 < m
    → ev + m ≡ events_in (add same_sequence (map class_of es) s w)
too_long es s w m ev e f few l =
    let g = long_grows (map class_of es) s w (omega (arith, e, f, few, l)) in
    omega (arith, g, e, f)
