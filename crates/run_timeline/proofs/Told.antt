-- What steps tell: it does not depend on the log before, it makes up the log, and a stopped run tells no more.
use Rattle.std.proofs.Common.{◌≡◌, ℕ, zero, suc, ◌+◌, List, [], ◌∷◌, ◌++◌, refl, sym, ap, ◌∙◌, append_assoc, append-nil, zero-add, arith}
use Rattle.std.specs.Prelude.{Bool, true, false, cond, ℤ, Option, Some, None, map, slice_get}
use Rattle.std.proofs.lemmas.List.{map-append}
use Rattle.mit_syntax.specs.Todo.{Marks}
use Rattle.env_contract.specs.Env.{Env}
use Rattle.label_code.specs.declared.code.Work.{Work}
use Rattle.label_code.specs.declared.code.Work.TheVariants.{Push, Load, Store, LoadAt, StoreAt, Apply, Brz, Brnz, Jmp, Sleep, Mitb, Mite, Nop, Halt}
use Rattle.label_code.specs.declared.code.Instr.{Instr}
use Rattle.label_code.specs.Machine.{Event, Opened, Core, Machine, act, obey, step, steps, start, fetched, marks_of}
use Rattle.label_code.specs.Run.{Start, run_from}
use Rattle.label_code.proofs.Ticks.{Sane, ticks, steps_clock}
use Rattle.cycle_machine.proofs.Past.{core_past, past, step_past}
use Rattle.run_timeline.specs.declared.moment.Moment.{Moment}
use Rattle.run_timeline.specs.Timeline.{telling, told_at, told, moments, event_of, IsTimeline}

telling_past : {E : Type 0} (l : List Event) (w : Work) (ops : List ℤ) (os : List Opened) (s : Core E) (c : ℕ)
    → telling w ops os (core_past l s) c ≡ telling w ops os s c
telling_past l (Push n) ops os s c = refl
telling_past l (Load x) ops os s c = refl
telling_past l (Store x) ops os s c = refl
telling_past l (LoadAt f n) ops os s c = refl
telling_past l (StoreAt f n) ops os s c = refl
telling_past l (Apply o) ops os s c = refl
telling_past l (Brz b) ops os s c = refl
telling_past l (Brnz b) ops os s c = refl
telling_past l (Jmp b) ops os s c = refl
telling_past l Sleep ops os s c = refl
telling_past l (Mitb n k) ops os s c = refl
telling_past l Mite ops [] s c = refl
telling_past l Mite ops (o ∷ os) s c = refl
telling_past l Nop ops os s c = refl
telling_past l Halt ops os s c = refl

-- what an instruction adds to the log
act_told : {E : Type 0} (v : Env E) (w : Work) (m : Marks) (a : ℕ) (ops : List ℤ) (os : List Opened) (s : Core E) →
    (act v m w a ops os s).core.log ≡ s.log ++ map event_of (telling w ops os s (act v m w a ops os s).core.clock)
act_told v (Push n) m a ops os s = sym (append-nil s.log)
act_told v (Load x) m a ops os s = sym (append-nil s.log)
act_told v (Store x) m a ops os s = refl
act_told v (LoadAt f n) m a ops os s = sym (append-nil s.log)
act_told v (StoreAt f n) m a ops os s = refl
act_told v (Apply o) m a ops os s = sym (append-nil s.log)
act_told v (Brz b) m a ops os s = sym (append-nil s.log)
act_told v (Brnz b) m a ops os s = sym (append-nil s.log)
act_told v (Jmp b) m a ops os s = sym (append-nil s.log)
act_told v Sleep m a ops os s = sym (append-nil s.log)
act_told v (Mitb n k) m a ops os s = refl
act_told v Mite m a ops [] s = sym (append-nil s.log)
act_told v Mite m a ops (o ∷ os) s = refl
act_told v Nop m a ops os s = sym (append-nil s.log)
act_told v Halt m a ops os s = sym (append-nil s.log)

module _ {E : Type 0} (v : Env E) (code : List Instr) where
  pub told_past : (l : List Event) (x : Machine E) → told v code (past l x) ≡ told v code x
  told_past l x =
      ap (λ c. cond x.halted [] (told_at v (slice_get code x.place) (past l x) c)) (ap (λ m. m.core.clock) (step_past v code l x))
      ∙ ap (λ z. cond x.halted [] z) (at_past (slice_get code x.place))
    where
      at_past : (o : Option Instr) → told_at v o (past l x) (step v code x).core.clock ≡ told_at v o x (step v code x).core.clock
      at_past None = refl
      at_past (Some i) = telling_past l i.work x.operands x.opened (fetched v (marks_of i) x.place x.core) (step v code x).core.clock

  step_told : (x : Machine E) → (step v code x).core.log ≡ x.core.log ++ map event_of (told v code x)
  step_told x = go x.halted (slice_get code x.place)
    where
      go : (b : Bool) (o : Option Instr)
          → (cond b x (obey v o x)).core.log ≡ x.core.log ++ map event_of (cond b [] (told_at v o x (cond b x (obey v o x)).core.clock))
      go true o = sym (append-nil x.core.log)
      go false None = sym (append-nil x.core.log)
      go false (Some i) = act_told v i.work (marks_of i) x.place x.operands x.opened (fetched v (marks_of i) x.place x.core)

  pub moments_last : (k : ℕ) (x : Machine E) → moments v code (suc k) x ≡ moments v code k x ++ told v code (steps v code k x)
  moments_last zero x = append-nil (told v code x)
  moments_last (suc k) x = ap (λ z. told v code x ++ z) (moments_last k (step v code x))
      ∙ sym (append_assoc (told v code x) (moments v code k (step v code x)) (told v code (steps v code k (step v code x))))

  pub moments_add : (k j : ℕ) (x : Machine E) → moments v code (k + j) x ≡ moments v code k x ++ moments v code j (steps v code k x)
  moments_add zero j x = ap (λ n. moments v code n x) (zero-add j)
  moments_add (suc k) j x =
      let e : suc k + j ≡ suc (k + j) = omega arith in
      ap (λ n. moments v code n x) e
      ∙ (ap (λ z. told v code x ++ z) (moments_add k j (step v code x))
      ∙ sym (append_assoc (told v code x) (moments v code k (step v code x)) (moments v code j (steps v code k (step v code x)))))

  steps_told : (k : ℕ) (x : Machine E) → (steps v code k x).core.log ≡ x.core.log ++ map event_of (moments v code k x)
  steps_told zero x = sym (append-nil x.core.log)
  steps_told (suc k) x =
      steps_told k (step v code x)
      ∙ (ap (λ z. z ++ map event_of (moments v code k (step v code x))) (step_told x)
      ∙ (append_assoc x.core.log (map event_of (told v code x)) (map event_of (moments v code k (step v code x)))
      ∙ ap (λ z. x.core.log ++ z) (sym (map-append event_of (told v code x) (moments v code k (step v code x))))))

  pub tells_the_log : (t : ℕ) (s : Start E) (ms : List Moment) → IsTimeline v code t s ms → (run_from v code t s).core.log ≡ map event_of ms
  tells_the_log t s ms h = ap (λ m. m.core.log) (sym h.ends) ∙ (steps_told h.count (start s.memory s.env) ∙ ap (map event_of) (sym h.tells))

  halted_tells : (x : Machine E) → x.halted ≡ true → told v code x ≡ []
  halted_tells x e = ap (λ b. cond b [] (told_at v (slice_get code x.place) x (step v code x).core.clock)) e

  halted_step : (x : Machine E) → x.halted ≡ true → step v code x ≡ x
  halted_step x e = ap (λ b. cond b x (obey v (slice_get code x.place) x)) e

  halted_moments : (k : ℕ) (x : Machine E) → x.halted ≡ true → moments v code k x ≡ []
  halted_moments zero x e = refl
  halted_moments (suc k) x e =
      ap (λ z. z ++ moments v code k (step v code x)) (halted_tells x e)
      ∙ (ap (moments v code k) (halted_step x e) ∙ halted_moments k x e)

  -- steps that lead back tell nothing
  round_tells : (k : ℕ) (x : Machine E) → Sane x.opened x.core.clock → steps v code (suc k) x ≡ x → moments v code (suc k) x ≡ []
  round_tells k x h e = go x.halted refl
    where
      go : (b : Bool) → x.halted ≡ b → moments v code (suc k) x ≡ []
      go true q = halted_moments (suc k) x q
      go false q =
          let t = ticks v code x h in
          let more = steps_clock v code k (step v code x) t.sane in
          let tick = t.tick q in
          let same : (steps v code k (step v code x)).core.clock ≡ x.core.clock = ap (λ m. m.core.clock) e in
          absurd (omega (arith, more, tick, same))

  pub one_telling : (k j : ℕ) (x : Machine E) → Sane x.opened x.core.clock → steps v code k x ≡ steps v code j x → moments v code k x ≡ moments v code j x
  one_telling zero zero x h e = refl
  one_telling zero (suc j) x h e = sym (round_tells j x h (sym e))
  one_telling (suc k) zero x h e = round_tells k x h e
  one_telling (suc k) (suc j) x h e = ap (λ z. told v code x ++ z) (one_telling k j (step v code x) (ticks v code x h).sane e)

  pub one_timeline_is : (t : ℕ) (s : Start E) (ms ns : List Moment) → IsTimeline v code t s ms → IsTimeline v code t s ns → ms ≡ ns
  one_timeline_is t s ms ns a b = a.tells ∙ (one_telling a.count b.count (start s.memory s.env) tt (a.ends ∙ sym b.ends) ∙ sym b.tells)
