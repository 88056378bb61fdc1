-- The runs one after another: what comes out are the classes of all starts, or the first run decides that is not kept.
use Rattle.std.proofs.Common.{◌≡◌, ◌<◌, ◌≤◌, ◌+◌, ◌-◌, ◌⊎◌, inl, inr, ℕ, zero, suc, List, [], ◌∷◌, ◌++◌, length, Option, Bool, true, false, cond}
use Rattle.std.proofs.Common.{Some, None, Result, Ok, Err, refl, sym, ap, ◌∙◌, subst, arith, ⊎_elim}
use Rattle.std.specs.Prelude.{nat_lt}
use Rattle.std.proofs.lemmas.Bool.{cases_lt, ltb-true, lt-ltb}
use Rattle.label_code.specs.Machine.{Event}
use Rattle.cycle_machine.specs.declared.end.RunEnd.{RunEnd}
use Rattle.cycle_machine.specs.declared.end.RunEnd.TheVariants.{Halted, Limit}
use Rattle.class_counts.specs.Tally.{add, tally}
use Rattle.class_counts.proofs.Firsts.{Alike, keys, firsts_in, tally_end, firsts_end, alike_tally}
use Rattle.leak_audit.specs.Sequences.{same_sequence}
use Rattle.leak_audit.proofs.Classing.{tests_sequences}
use Rattle.leak_classes.specs.declared.fault.WalkFault.{WalkFault}
use Rattle.leak_classes.specs.declared.fault.WalkFault.TheVariants.{Unfinished, TooMuch, Memory}
use Rattle.leak_classes.specs.Classes.{Classes, classes_shown, no_classes, events_in, with_start}
use Rattle.leak_classes.specs.Walk.{refusal, shown, classes_at, AreKept, AreClasses, IsWalkFault}

-- ---- one start more

same_itself : (z : List Event) → same_sequence z z ≡ true
same_itself z = tests_sequences.same_from z z refl

keys_more : (ps : List (List Event × ℕ)) (z : List Event) (w : ℕ) → keys (ps ++ (z, w) ∷ []) ≡ keys ps ++ z ∷ []
keys_more [] z w = refl
keys_more (p ∷ ps) z w = ap (λ r. p.0 ∷ r) (keys_more ps z w)

keys_long : (ps : List (List Event × ℕ)) → length (keys ps) ≡ length ps
keys_long [] = refl
keys_long (p ∷ ps) = let e = keys_long ps in omega (arith, e)

-- the classes of some starts, and one more with the next number
pub one_more : (n m : ℕ) (ps : List (List Event × ℕ)) (z : List Event) (w : ℕ) → m ≡ n + length ps
    → with_start (classes_shown n ps) m z w ≡ classes_shown n (ps ++ (z, w) ∷ [])
one_more n m ps z w at =
    let es = tally same_sequence [] ps in
    let xs = keys ps in
    let all : Alike (keys es) xs = alike_tally same_sequence same_itself tests_sequences.same_to [] [] ps (record { there = λ x h. h; back = λ x h. h }) in
    let here = firsts_end same_sequence same_itself tests_sequences.same_to n es xs z w all in
    let long = keys_long ps in
    let number : n + (length xs + 1) ≡ m + 1 = omega (arith, at, long) in
    let F : List (List Event) → List (List Event × ℕ) → List ℕ = firsts_in same_sequence same_itself tests_sequences.same_to n in
    let seen : tally same_sequence [] (ps ++ (z, w) ∷ []) ≡ add same_sequence es z w = tally_end same_sequence [] ps z w in
    let firsts : F (keys (ps ++ (z, w) ∷ [])) (tally same_sequence [] (ps ++ (z, w) ∷ []))
    ≡ cond (nat_lt (length es) (length (add same_sequence es z w))) (F xs es ++ (m + 1) ∷ []) (F xs es) =
    ap (λ r. F r (tally same_sequence [] (ps ++ (z, w) ∷ []))) (keys_more ps z w)
    ∙ (ap (λ r. F (xs ++ z ∷ []) r) seen ∙ (here
    ∙ ap (λ r. cond (nat_lt (length es) (length (add same_sequence es z w))) (F xs es ++ r ∷ []) (F xs es)) number)) in
    two (add same_sequence es z w) (tally same_sequence [] (ps ++ (z, w) ∷ [])) _ _ (sym seen) (sym firsts)
  where
    two : (s t : List (List Event × ℕ)) (f g : List ℕ) → s ≡ t → f ≡ g
        → ◌≡◌ {A = Classes} (record { seen = s; firsts = f }) (record { seen = t; firsts = g })
    two s t f g p q = cc (p, q)

-- ---- the walk

abbrev pub unless : Option WalkFault → Result Classes WalkFault → Result Classes WalkFault
unless (Some f) rest = Err f
unless None rest = rest

none_refused : (r : RunEnd) (n events cycle : ℕ) → r ≡ Halted cycle → events ≤ 16777216 → refusal r n events ≡ None
none_refused r n events cycle h few = ap (λ z. refusal z n events) h ∙ go (nat_lt 16777216 events) refl
  where
    go : (t : Bool) → nat_lt 16777216 events ≡ t → cond t (Some (TooMuch events)) None ≡ None
    go true q = let m = ltb-true 16777216 events q in absurd (omega (arith, m, few))
    go false q = refl

much_refused : (r : RunEnd) (n events cycle : ℕ) → r ≡ Halted cycle → 16777216 < events → refusal r n events ≡ Some (TooMuch events)
much_refused r n events cycle h many =
    ap (λ z. refusal z n events) h ∙ ap (λ t. cond t (Some (TooMuch events)) None) (lt-ltb 16777216 events many)

cut_refused : (r : RunEnd) (n events cycle : ℕ) → r ≡ Limit cycle → refusal r n events ≡ Some (Unfinished (n + 1) cycle)
cut_refused r n events cycle h = ap (λ z. refusal z n events) h

module _ (seen : ℕ → List Event) (end : ℕ → RunEnd) (weight : ℕ → ℕ) where
  -- the classes after so many starts from the one with a number on, or why there are none
  abbrev pub walk : Classes → ℕ → ℕ → Result Classes WalkFault
  walk k n zero = Ok k
  walk k n (suc c) =
      unless (refusal (end n) n (events_in (with_start k n (seen n) (weight n)).seen)) (walk (with_start k n (seen n) (weight n)) (n + 1) c)

  shown_long : (n c : ℕ) → length (shown seen end weight n c) ≡ c
  shown_long n zero = refl
  shown_long n (suc c) = let e = shown_long (n + 1) c in omega (arith, e)

  shown_end : (n c : ℕ) → shown seen end weight n (suc c) ≡ shown seen end weight n c ++ (seen (n + c), weight (n + c)) ∷ []
  shown_end n zero = let e : n + 0 ≡ n = omega arith in ap (λ m. (seen m, weight m) ∷ []) (sym e)
  shown_end n (suc c) =
      let e : n + 1 + c ≡ n + suc c = omega arith in
      ap (λ r. (seen n, weight n) ∷ r) (shown_end (n + 1) c)
      ∙ ap (λ m. (seen n, weight n) ∷ (shown seen end weight (n + 1) c ++ (seen m, weight m) ∷ [])) e

  next_at : (n c : ℕ) → with_start (classes_at seen end weight n c) (n + c) (seen (n + c)) (weight (n + c)) ≡ classes_at seen end weight n (suc c)
  next_at n c =
      one_more n (n + c) (shown seen end weight n c) (seen (n + c)) (weight (n + c)) (ap (λ m. n + m) (sym (shown_long n c)))
      ∙ ap (classes_shown n) (sym (shown_end n c))

  -- one start more, and the rest
  pub next_walk : (j : Classes) (n e : ℕ) → n < e → refusal (end n) n (events_in (with_start j n (seen n) (weight n)).seen) ≡ None
      → walk j n (e - n) ≡ walk (with_start j n (seen n) (weight n)) (n + 1) (e - (n + 1))
  next_walk j n e l h =
      let is : e - n ≡ suc (e - (n + 1)) = omega (arith, l) in
      ap (λ z. walk j n z) is ∙ ap (λ z. unless z (walk (with_start j n (seen n) (weight n)) (n + 1) (e - (n + 1)))) h

  pub last_walk : (j : Classes) (n e : ℕ) (f : WalkFault) → n < e → refusal (end n) n (events_in (with_start j n (seen n) (weight n)).seen) ≡ Some f
      → walk j n (e - n) ≡ Err f
  last_walk j n e f l h =
      let is : e - n ≡ suc (e - (n + 1)) = omega (arith, l) in
      ap (λ z. walk j n z) is ∙ ap (λ z. unless z (walk (with_start j n (seen n) (weight n)) (n + 1) (e - (n + 1)))) h

  pub no_walk : (j : Classes) (n e : ℕ) → e ≤ n → walk j n (e - n) ≡ Ok j
  no_walk j n e l = let is : e - n ≡ 0 = omega (arith, l) in ap (λ z. walk j n z) is

  -- ---- what a walk comes to

  -- up to the runs that are kept
  kept_walk : (n d c : ℕ) → AreKept seen end weight n d → walk no_classes n (d + c) ≡ walk (classes_at seen end weight n d) (n + d) c
  kept_walk n zero c h =
      let e : n + 0 ≡ n = omega arith in
      let f : 0 + c ≡ c = omega arith in
      ap (walk no_classes n) f ∙ ap (λ m. walk no_classes m c) (sym e)
  kept_walk n (suc d) c h =
      let before : AreKept seen end weight n d =
      record { halted = λ i l. h.halted i (omega (arith, l)); few = λ i l. h.few i (omega (arith, l)) } in
      let f : suc d + c ≡ d + suc c = omega arith in
      let g : n + d + 1 ≡ n + suc d = omega arith in
      let last = h.halted d (omega arith) in
      let most : events_in (classes_at seen end weight n (suc d)).seen ≤ 16777216 = h.few (suc d) (omega arith) in
      let events : events_in (with_start (classes_at seen end weight n d) (n + d) (seen (n + d)) (weight (n + d))).seen ≤ 16777216 =
      subst (λ (k : Classes). events_in k.seen ≤ 16777216) (sym (next_at n d)) most in
      let none = none_refused (end (n + d)) (n + d)
      (events_in (with_start (classes_at seen end weight n d) (n + d) (seen (n + d)) (weight (n + d))).seen) last.0 last.1 events in
      ap (walk no_classes n) f ∙ kept_walk n d (suc c) before
      ∙ ap (λ z. unless z (walk (with_start (classes_at seen end weight n d) (n + d) (seen (n + d)) (weight (n + d))) (n + d + 1) c)) none
      ∙ ap (λ k. walk k (n + d + 1) c) (next_at n d) ∙ ap (λ m. walk (classes_at seen end weight n (suc d)) m c) g

  -- a run that is refused behind those that are kept
  refused_walk : (n d c : ℕ) (f : WalkFault) → d < c → AreKept seen end weight n d
      → refusal (end (n + d)) (n + d) (events_in (classes_at seen end weight n (suc d)).seen) ≡ Some f → walk no_classes n c ≡ Err f
  refused_walk n d c f l h r =
      let is : c ≡ d + suc (c - (d + 1)) = omega (arith, l) in
      let here : refusal (end (n + d)) (n + d)
      (events_in (with_start (classes_at seen end weight n d) (n + d) (seen (n + d)) (weight (n + d))).seen) ≡ Some f =
      ap (λ (k : Classes). refusal (end (n + d)) (n + d) (events_in k.seen)) (next_at n d) ∙ r in
      ap (walk no_classes n) is ∙ kept_walk n d (suc (c - (d + 1))) h
      ∙ ap (λ z. unless z (walk (with_start (classes_at seen end weight n d) (n + d) (seen (n + d)) (weight (n + d))) (n + d + 1) (c - (d + 1)))) here

  pub classes_walk : (n c : ℕ) (k : Classes) → AreClasses seen end weight n c k → walk no_classes n c ≡ Ok k
  classes_walk n c k h =
      let is : c ≡ c + 0 = omega arith in
      ap (walk no_classes n) is ∙ kept_walk n c 0 h.kept ∙ ap (λ z. Ok z) (sym h.classes)

  suc_at : (n d : ℕ) → events_in (classes_at seen end weight n (d + 1)).seen ≡ events_in (classes_at seen end weight n (suc d)).seen
  suc_at n d = let is : d + 1 ≡ suc d = omega arith in ap (λ m. events_in (classes_at seen end weight n m).seen) is

  pub fault_walk : (n c : ℕ) (f : WalkFault) → IsWalkFault seen end weight n c f → walk no_classes n c ≡ Err f
  fault_walk n c (Unfinished number cycle) h =
      refused_walk n h.before c (Unfinished number cycle) h.there h.kept
      (cut_refused (end (n + h.before)) (n + h.before) _ cycle h.cut ∙ ap (λ m. Some (Unfinished m cycle)) (sym h.number_is))
  fault_walk n c (TooMuch count) h =
      let events = h.events ∙ suc_at n h.before in
      let many = h.many in
      refused_walk n h.before c (TooMuch count) h.there h.kept
      (much_refused (end (n + h.before)) (n + h.before) _ h.halted.0 h.halted.1 (omega (arith, events, many)) ∙ ap (λ m. Some (TooMuch m)) (sym events))
  fault_walk n c Memory h = absurd h

  -- all of some runs are kept, or the first that is not decides
  abbrev Decided : ℕ → ℕ → Type 0
  Decided n c = AreKept seen end weight n c ⊎ ((f : WalkFault) × IsWalkFault seen end weight n c f)

  later : (n c : ℕ) (f : WalkFault) → IsWalkFault seen end weight n c f → IsWalkFault seen end weight n (suc c) f
  later n c (Unfinished number cycle) h =
      let l = h.there in record { before = h.before; there = omega (arith, l); kept = h.kept; cut = h.cut; number_is = h.number_is }
  later n c (TooMuch count) h =
      let l = h.there in record { before = h.before; there = omega (arith, l); kept = h.kept; halted = h.halted; events = h.events; many = h.many }
  later n c Memory h = absurd h

  decided : (n c : ℕ) → Decided n c
  decided n zero = inl (record { halted = λ i l. absurd (omega (arith, l)); few = λ i l. none i (omega (arith, l)) })
    where
      none : (i : ℕ) → i ≡ 0 → events_in (classes_at seen end weight n i).seen ≤ 16777216
      none i e = subst (λ m. events_in (classes_at seen end weight n m).seen ≤ 16777216) (sym e) (omega arith)
  decided n (suc c) = go (decided n c)
    where
      go : Decided n c → Decided n (suc c)
      go (inr h) = inr (h.0, later n c h.0 h.1)
      go (inl h) = by_end (end (n + c)) refl
        where
          by_events : (cycle : ℕ) → end (n + c) ≡ Halted cycle
              → (16777216 < events_in (classes_at seen end weight n (suc c)).seen) ⊎ (events_in (classes_at seen end weight n (suc c)).seen ≤ 16777216)
              → Decided n (suc c)
          by_events cycle e (inl many) = inr (
            TooMuch (events_in (classes_at seen end weight n (suc c)).seen),
            record {
              before = c;
              there = omega arith;
              kept = h;
              halted = (cycle, e);
              events = sym (suc_at n c);
              many = many;
            },
          )
          by_events cycle e (inr few) = inl (record {
            halted = λ i l. ⊎_elim (λ (lt : i < c). h.halted i lt)
                (λ (le : c ≤ i). let same : c ≡ i = omega (arith, l, le) in subst (λ m. (y : ℕ) × (end (n + m) ≡ Halted y)) same (cycle, e)) (cases_lt i c);
            few = λ i l. ⊎_elim (λ (lt : i < suc c). h.few i (omega (arith, lt)))
                (λ (le : suc c ≤ i). let same : suc c ≡ i = omega (arith, l, le) in
                subst (λ m. events_in (classes_at seen end weight n m).seen ≤ 16777216) same few) (cases_lt i (suc c));
          })

          by_end : (r : RunEnd) → end (n + c) ≡ r → Decided n (suc c)
          by_end (Halted cycle) e = by_events cycle e (cases_lt 16777216 (events_in (classes_at seen end weight n (suc c)).seen))
          by_end (Limit cycle) e = inr (Unfinished (n + c + 1) cycle, record { before = c; there = omega arith; kept = h; cut = e; number_is = refl })

  pub walk_classes : (n c : ℕ) (k : Classes) → walk no_classes n c ≡ Ok k → AreClasses seen end weight n c k
  walk_classes n c k w = go (decided n c)
    where
      go : Decided n c → AreClasses seen end weight n c k
      go (inl h) =
          let both : Ok k ≡ Ok (classes_at seen end weight n c) =
          sym w ∙ classes_walk n c (classes_at seen end weight n c) (record { kept = h; classes = refl }) in
          record { kept = h; classes = cc (both) }
      go (inr h) = let both : Ok k ≡ Err h.0 = sym w ∙ fault_walk n c h.0 h.1 in absurd (cc (both))

  pub walk_fault : (n c : ℕ) (f : WalkFault) → walk no_classes n c ≡ Err f → IsWalkFault seen end weight n c f
  walk_fault n c f w = go (decided n c)
    where
      go : Decided n c → IsWalkFault seen end weight n c f
      go (inl h) =
          let both : Err f ≡ Ok (classes_at seen end weight n c) =
          sym w ∙ classes_walk n c (classes_at seen end weight n c) (record { kept = h; classes = refl }) in
          absurd (cc (both))
      go (inr h) =
          let both : Err h.0 ≡ Err f = sym (fault_walk n c h.0 h.1) ∙ w in
          let same : h.0 ≡ f = cc (both) in
          subst (IsWalkFault seen end weight n c) same h.1
