-- Runs to T from any state of the machine.
use Rattle.std.proofs.Common.{◌≡◌, ℕ, zero, suc, ◌+◌, ◌-◌, ◌<◌, ◌≤◌, List, [], ◌∷◌, refl, sym, ap, ◌∙◌, arith}
use Rattle.std.specs.Prelude.{Bool, true, false, cond, ℤ, leb, not, ◌&&◌, Option, Some, None, slice_get}
use Rattle.std.proofs.lemmas.Bool.{and_from, cond-true, cond-false, le-leb, lt-leb}
use Rattle.mit_syntax.specs.Todo.{Marks}
use Rattle.env_contract.specs.Env.{Env}
use Rattle.doubling_schedule.proofs.Settling.{misses_enough}
use Rattle.label_code.specs.declared.code.Work.{Work}
use Rattle.label_code.specs.declared.code.Work.TheVariants.{Push, Load, Store, LoadAt, StoreAt, Apply, Brz, Brnz, Jmp, Sleep, Mitb, Mite, Nop, Halt}
use Rattle.label_code.specs.declared.code.Instr.{Instr}
use Rattle.label_code.specs.Machine.{Event, Core, Machine, Opened, act, obey, step, steps, run_for, fetched, close_first, marks_of}
use Rattle.cycle_machine.proofs.Past.{past, step_past}

module _ {E : Type 0} (v : Env E) (code : List Instr) where
  close_later : (a : ℕ) (ops : List ℤ) (os : List Opened) (s : Core E) → s.clock ≤ (close_first a ops os s).core.clock
  close_later a ops [] s = omega arith
  close_later a ops (o ∷ os) s = omega (arith, misses_enough o.estimate (s.clock - o.since) (s.misses o.level))

  act_later : (w : Work) (m : Marks) (a : ℕ) (ops : List ℤ) (os : List Opened) (s : Core E) → s.clock ≤ (act v m w a ops os s).core.clock
  act_later (Push n) m a ops os s = omega arith
  act_later (Load x) m a ops os s = omega arith
  act_later (Store x) m a ops os s = omega arith
  act_later (LoadAt f n) m a ops os s = omega arith
  act_later (StoreAt f n) m a ops os s = omega arith
  act_later (Apply o) m a ops os s = omega arith
  act_later (Brz b) m a ops os s = omega arith
  act_later (Brnz b) m a ops os s = omega arith
  act_later (Jmp b) m a ops os s = omega arith
  act_later Sleep m a ops os s = omega arith
  act_later (Mitb l k) m a ops os s = omega arith
  act_later Mite m a ops os s = close_later (a + 1) ops os s
  act_later Nop m a ops os s = omega arith
  act_later Halt m a ops os s = omega arith

  -- a step takes a cycle or more if the machine has not halted
  ticks : (x : Machine E) → x.halted ≡ false → x.core.clock < (step v code x).core.clock
  ticks x e = go x.halted e (slice_get code x.place)
    where
      go : (h : Bool) → h ≡ false → (o : Option Instr) → x.core.clock < (cond h x (obey v o x)).core.clock
      go true e o = absurd cc
      go false e None = omega arith
      go false e (Some i) = omega (arith, act_later i.work (marks_of i) x.place x.operands x.opened (fetched v (marks_of i) x.place x.core))

  halted_step : (x : Machine E) → x.halted ≡ true → step v code x ≡ x
  halted_step x e = cond-true x.halted x (obey v (slice_get code x.place) x) e

  step_up : (x : Machine E) → x.core.clock ≤ (step v code x).core.clock
  step_up x = go x.halted refl
    where
      go : (h : Bool) → x.halted ≡ h → x.core.clock ≤ (step v code x).core.clock
      go true e = omega (arith, ap (λ m. m.core.clock) (halted_step x e))
      go false e = omega (arith, ticks x e)

  steps_up : (k : ℕ) (x : Machine E) → x.core.clock ≤ (steps v code k x).core.clock
  steps_up zero x = omega arith
  steps_up (suc k) x = omega (arith, step_up x, steps_up k (step v code x))

  and_false : (b : Bool) → (b && false) ≡ false
  and_false true = refl
  and_false false = refl

  -- a halted machine stays, and so does one whose next step ends after T
  pub halted_stays : (t n : ℕ) (x : Machine E) → x.halted ≡ true → run_for v code t n x ≡ x
  halted_stays t zero x e = refl
  halted_stays t (suc n) x e =
      cond-false _ (run_for v code t n (step v code x)) x (ap (λ b. leb (step v code x).core.clock t && not b) e ∙ and_false (leb (step v code x).core.clock t))

  pub late_stays : (t n : ℕ) (x : Machine E) → t < (step v code x).core.clock → run_for v code t n x ≡ x
  late_stays t zero x l = refl
  late_stays t (suc n) x l = cond-false _ (run_for v code t n (step v code x)) x (ap (λ b. b && not x.halted) (lt-leb (step v code x).core.clock t l))

  -- of two numbers of steps that are enough each gives the same run
  enough : (t n m : ℕ) (x : Machine E) → t ≤ x.core.clock + n → t ≤ x.core.clock + m → run_for v code t n x ≡ run_for v code t m x
  enough t zero m x room room' = go x.halted refl
    where
      go : (h : Bool) → x.halted ≡ h → x ≡ run_for v code t m x
      go true e = sym (halted_stays t m x e)
      go false e = sym (late_stays t m x (omega (arith, ticks x e)))
  enough t (suc n) m x room room' = go x.halted refl m room' (λ k r r'. enough t n k (step v code x) r r')
    where
      go : (h : Bool) → x.halted ≡ h → (k : ℕ) → t ≤ x.core.clock + k →
          ((j : ℕ) → t ≤ (step v code x).core.clock + n → t ≤ (step v code x).core.clock + j
          → run_for v code t n (step v code x) ≡ run_for v code t j (step v code x)) →
          run_for v code t (suc n) x ≡ run_for v code t k x
      go true e k r next = halted_stays t (suc n) x e ∙ sym (halted_stays t k x e)
      go false e zero r next = late_stays t (suc n) x (omega (arith, ticks x e))
      go false e (suc j) r next =
          let tick = ticks x e in
          ap (λ z. cond (leb (step v code x).core.clock t && not x.halted) z x) (next j (omega (arith, tick)) (omega (arith, tick)))

  goes_on : (t : ℕ) (x : Machine E) → (step v code x).core.clock ≤ t → run_for v code t t x ≡ run_for v code t t (step v code x)
  goes_on t x by = go x.halted refl
    where
      go : (h : Bool) → x.halted ≡ h → run_for v code t t x ≡ run_for v code t t (step v code x)
      go true e = ap (run_for v code t t) (sym (halted_step x e))
      go false e =
          enough t t (suc t) x (omega arith) (omega arith)
          ∙ cond-true _ (run_for v code t t (step v code x)) x (and_from _ _ (le-leb (step v code x).core.clock t by) (ap not e))

  -- a run to T goes on from where steps lead by T
  pub run_later : (t k : ℕ) (x : Machine E) → (steps v code k x).core.clock ≤ t → run_for v code t t x ≡ run_for v code t t (steps v code k x)
  run_later t zero x by = refl
  run_later t (suc k) x by = goes_on t x (omega (arith, steps_up k (step v code x))) ∙ run_later t k (step v code x) by

  -- events before the log stay there
  pub run_past : (t n : ℕ) (l : List Event) (x : Machine E) → run_for v code t n (past l x) ≡ past l (run_for v code t n x)
  run_past t zero l x = refl
  run_past t (suc n) l x =
      ap (λ z. cond (leb z.core.clock t && not x.halted) (run_for v code t n z) (past l x)) (step_past v code l x)
      ∙ go (leb (step v code x).core.clock t && not x.halted) (run_past t n l (step v code x))
    where
      go : (b : Bool) → run_for v code t n (past l (step v code x)) ≡ past l (run_for v code t n (step v code x)) →
          cond b (run_for v code t n (past l (step v code x))) (past l x) ≡ past l (cond b (run_for v code t n (step v code x)) x)
      go true r = r
      go false r = refl
