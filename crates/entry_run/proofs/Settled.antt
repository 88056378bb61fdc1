-- What entries tell of a run hangs on the run alone.
use Rattle.std.proofs.Common.{◌≡◌, ℕ, zero, suc, ◌+◌, ◌<◌, ◌≤◌, List, [], ◌∷◌, ◌++◌, sym, ap, ◌∙◌, refl, arith}
use Rattle.std.specs.Prelude.{ℤ, Bool, true, None, slice_get}
use Rattle.std.proofs.lemmas.Bool.{cond-true}
use Rattle.env_contract.specs.Env.{Env}
use Rattle.label_code.specs.Machine.{Machine, obey, step, steps, start}
use Rattle.label_code.specs.declared.code.Instr.{Instr}
use Rattle.first_replay.specs.Replay.{Entry, Timed, entry_of, entry, trace, replay}
use Rattle.run_entries.specs.Told.{at_start, counts_told, replayed, told}
use Rattle.entry_run.specs.Runs.{work, Tells, IsTooLong}

module _ {E : Type 0} (v : Env E) (image : List Instr) where
  rests : (x : Machine E) → x.halted ≡ true → step v image x ≡ x
  rests x h = cond-true x.halted x (obey v (slice_get image x.place) x) h

  no_entry : (x : Machine E) → x.halted ≡ true → entry v image x ≡ []
  no_entry x h = cond-true x.halted [] (entry_of v (slice_get image x.place) x.place x.operands x.core.env ∷ []) h

  no_trace : (n : ℕ) (x : Machine E) → x.halted ≡ true → trace v image n x ≡ []
  no_trace zero x h = refl
  no_trace (suc n) x h =
      ap (λ z. z ++ trace v image n (step v image x)) (no_entry x h) ∙ (ap (trace v image n) (rests x h) ∙ no_trace n x h)

  -- a run that has halted has one list of entries, however many steps are made
  same_trace : (n m : ℕ) (x : Machine E) → (steps v image n x).halted ≡ true → (steps v image m x).halted ≡ true → trace v image n x ≡ trace v image m x
  same_trace zero m x h k = sym (no_trace m x h)
  same_trace (suc n) zero x h k = no_trace (suc n) x k
  same_trace (suc n) (suc m) x h k = ap (λ z. entry v image x ++ z) (same_trace n m (step v image x) h k)

  work_both : (es fs : List Entry) → work (es ++ fs) ≡ work es + work fs
  work_both [] fs = omega arith
  work_both (e ∷ es) fs = let h = work_both es fs in omega (arith, h)

  -- and no steps take more cycles
  no_more_work : (n m : ℕ) (x : Machine E) → (steps v image n x).halted ≡ true → work (trace v image m x) ≤ work (trace v image n x)
  no_more_work zero m x h = let e = ap work (no_trace m x h) in omega (arith, e)
  no_more_work (suc n) zero x h = omega arith
  no_more_work (suc n) (suc m) x h =
      let a = work_both (entry v image x) (trace v image m (step v image x)) in
      let b = work_both (entry v image x) (trace v image n (step v image x)) in
      let c = no_more_work n m (step v image x) h in
      omega (arith, a, b, c)

  -- what a run takes to its halt is not too long
  pub not_both : (limit : ℕ) (x : Machine E) (es : List Entry) → Tells v image limit x es → IsTooLong v image limit x → ⊥
  not_both limit x es h k = let more = no_more_work h.count k.count x h.halted in omega (arith, more, h.within, k.above)

  -- two lists that both tell a run tell the same, whatever numbers are pushed
  pub one_end : (limit : ℕ) (x : Machine E) (es fs : List Entry) → Tells v image limit x es → Tells v image limit x fs → (numbers : ℕ → ℤ) →
      replayed numbers es ≡ replayed numbers fs
  one_end limit x es fs h k numbers =
      h.same numbers at_start refl ∙ (ap (λ z. replay numbers z at_start) (same_trace h.count k.count x h.halted k.halted) ∙ sym (k.same numbers at_start refl))

  pub one_told : (limit : ℕ) (x : Machine E) (es fs : List Entry) → Tells v image limit x es → Tells v image limit x fs →
      (such : ℕ → Bool) (numbers : ℕ → ℤ) → told such numbers es ≡ told such numbers fs
  one_told limit x es fs h k such numbers =
      h.counts such numbers at_start refl
      ∙ (ap (λ z. counts_told such numbers z at_start) (same_trace h.count k.count x h.halted k.halted) ∙ sym (k.counts such numbers at_start refl))
