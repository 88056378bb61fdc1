-- Of the relevant mitigations that began, those that did not end are open.
use Rattle.std.proofs.Common.{◌≡◌, ℕ, zero, suc, ◌+◌, List, [], ◌∷◌, ◌++◌, sym, ap, ◌∙◌, arith}
use Rattle.std.specs.Prelude.{Bool, true, false, cond, ℤ, Option, Some, None, slice_get}
use Rattle.mit_syntax.specs.Todo.{Marks}
use Rattle.env_contract.specs.Env.{Env}
use Rattle.label_code.specs.Machine.{Core, Machine, Opened, Event, Wrote, Began, Ended, fetched, closed, act, obey, step, steps, close_first, marks_of}
use Rattle.label_code.specs.declared.code.Work.{Work}
use Rattle.label_code.specs.declared.code.Work.TheVariants.{Push, Load, Store, LoadAt, StoreAt, Apply, Brz, Brnz, Jmp, Sleep as SleepWork, Mitb, Mite, Nop}
use Rattle.label_code.specs.declared.code.Work.TheVariants.{Halt}
use Rattle.label_code.specs.declared.code.Instr.{Instr}
use Rattle.leak_bound.specs.Relevant.{begun_count, ended_count}

abbrev open_count : (ℕ → Bool) → List Opened → ℕ
open_count rel [] = 0
open_count rel (w ∷ os) = cond (rel w.mark) 1 0 + open_count rel os

pub begun-append : (rel : ℕ → Bool) (es fs : List Event) → begun_count rel (es ++ fs) ≡ begun_count rel es + begun_count rel fs
begun-append rel [] fs = omega arith
begun-append rel (Wrote x n c ∷ es) fs = begun-append rel es fs
begun-append rel (Began k c ∷ es) fs = omega (arith, begun-append rel es fs)
begun-append rel (Ended k c ∷ es) fs = begun-append rel es fs

pub ended-append : (rel : ℕ → Bool) (es fs : List Event) → ended_count rel (es ++ fs) ≡ ended_count rel es + ended_count rel fs
ended-append rel [] fs = omega arith
ended-append rel (Wrote x n c ∷ es) fs = ended-append rel es fs
ended-append rel (Began k c ∷ es) fs = ended-append rel es fs
ended-append rel (Ended k c ∷ es) fs = omega (arith, ended-append rel es fs)

module _ {E : Type 0} (v : Env E) (image : List Instr) (rel : ℕ → Bool) where
  -- a close with nothing open ends nothing, so none is lost
  abbrev Balanced : List Event → List Opened → Type 0
  Balanced es os = begun_count rel es ≡ ended_count rel es + open_count rel os

  one_event : (es : List Event) (e : Event) (os os' : List Opened)
      → begun_count rel (e ∷ []) + open_count rel os ≡ ended_count rel (e ∷ []) + open_count rel os' → Balanced es os → Balanced (es ++ e ∷ []) os'
  one_event es e os os' h b = let one : List Event = e ∷ [] in omega (arith, begun-append rel es one, ended-append rel es one)

  close_balance : (a : ℕ) (ops : List ℤ) (os : List Opened) (s : Core E) → Balanced s.log os
      → Balanced (close_first a ops os s).core.log (close_first a ops os s).opened
  close_balance a ops [] s b = b
  close_balance a ops (w ∷ os) s b = one_event s.log (Ended w.mark (closed w s).clock) (w ∷ os) os (omega arith) b

  act_balance : (w : Work) (m : Marks) (a : ℕ) (ops : List ℤ) (os : List Opened) (s : Core E) → Balanced s.log os
      → Balanced (act v m w a ops os s).core.log (act v m w a ops os s).opened
  act_balance (Push n) m a ops os s b = b
  act_balance (Load x) m a ops os s b = b
  act_balance (Store x) m a ops os s b = one_event s.log _ os os (omega arith) b
  act_balance (LoadAt f n) m a ops os s b = b
  act_balance (StoreAt f n) m a ops os s b = one_event s.log _ os os (omega arith) b
  act_balance (Apply o) m a ops os s b = b
  act_balance (Brz j) m a ops os s b = b
  act_balance (Brnz j) m a ops os s b = b
  act_balance (Jmp j) m a ops os s b = b
  act_balance SleepWork m a ops os s b = b
  act_balance (Mitb l k) m a ops os s b = one_event s.log (Began k s.clock) os (act v m (Mitb l k) a ops os s).opened (omega arith) b
  act_balance Mite m a ops os s b = close_balance (a + 1) ops os s b
  act_balance Nop m a ops os s b = b
  act_balance Halt m a ops os s b = b

  step_balance : (x : Machine E) → Balanced x.core.log x.opened → Balanced (step v image x).core.log (step v image x).opened
  step_balance x b = go x.halted
    where
      obeys : (i : Option Instr) → Balanced (obey v i x).core.log (obey v i x).opened
      obeys None = b
      obeys (Some i) = act_balance i.work (marks_of i) x.place x.operands x.opened (fetched v (marks_of i) x.place x.core) b

      go : (h : Bool) → Balanced (cond h x (obey v (slice_get image x.place) x)).core.log (cond h x (obey v (slice_get image x.place) x)).opened
      go true = b
      go false = obeys (slice_get image x.place)

  pub balance : (k : ℕ) (x : Machine E) → Balanced x.core.log x.opened → Balanced (steps v image k x).core.log (steps v image k x).opened
  balance zero x b = b
  balance (suc k) x b = balance k (step v image x) (step_balance x b)

  -- where nothing is open
  pub all_ended : (k : ℕ) (x y : Machine E) → Balanced x.core.log x.opened → steps v image k x ≡ y → y.opened ≡ []
      → begun_count rel y.core.log ≡ ended_count rel y.core.log
  all_ended k x y b e none =
      let c = balance k x b in
      ap (λ z. begun_count rel z.core.log) (sym e) ∙ c ∙ ap (λ z. ended_count rel z.core.log + open_count rel z.opened) e
      ∙ ap (λ z. ended_count rel y.core.log + open_count rel z) none ∙ omega arith
