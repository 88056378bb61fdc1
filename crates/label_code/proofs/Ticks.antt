-- What one step of the machine, and a run to T, do to the clock and the log.
use Rattle.std.proofs.Common.{◌≡◌, ℕ, zero, suc, ◌+◌, ◌-◌, ◌<◌, ◌≤◌, List, [], ◌∷◌, ◌++◌, append-nil, refl, sym, ap, ◌∙◌, ◌⊎◌, inl, inr, arith}
use Rattle.std.specs.Prelude.{Bool, true, false, cond, ℤ, leb, not, ◌&&◌, Option, Some, None, slice_get}
use Rattle.std.proofs.lemmas.Bool.{and_from, both_ways, leb-true, leb-false, cond-true, cond-false, le-leb, lt-leb}
use Rattle.mit_syntax.specs.Todo.{Marks}
use Rattle.env_contract.specs.Env.{Env}
use Rattle.label_code.specs.Machine.{Core, Machine, Opened, Event, closed, fetched, at, act, obey, start, step, steps, run_for, close_first, marks_of}
use Rattle.label_code.specs.Run.{Start, run_from, RunsTo}
use Rattle.label_code.specs.declared.code.Work.{Work}
use Rattle.label_code.specs.declared.code.Work.TheVariants.{Push, Load, Store, LoadAt, StoreAt, Apply, Brz, Brnz, Jmp, Sleep as SleepWork, Mitb, Mite, Nop}
use Rattle.label_code.specs.declared.code.Work.TheVariants.{Halt}
use Rattle.label_code.specs.declared.code.Instr.{Instr}
use Rattle.label_code.proofs.Upto.{clock_of, upto, upto-append}
use Rattle.label_code.proofs.Leads.{stays}
use Rattle.doubling_schedule.proofs.Settling.{misses_enough}

-- a mitigation ends after what it waited for
pub closed_clock : {E : Type 0} (w : Opened) (q : Core E) → w.since ≤ q.clock → q.clock ≤ (closed w q).clock
closed_clock w q h = omega (arith, misses_enough w.estimate (q.clock - w.since) (q.misses w.level))

-- each open mitigation began by now
abbrev pub Sane : List Opened → ℕ → Type 0
Sane [] c = Unit {0}
Sane (w ∷ os) c = (w.since ≤ c) × Sane os c

pub sane_later : (os : List Opened) (c c' : ℕ) → c ≤ c' → Sane os c → Sane os c'
sane_later [] c c' h s = tt
sane_later (w ∷ os) c c' h s = let x = s.0 in (omega arith, sane_later os c c' h s.1)

-- events of one cycle
abbrev pub Dated : ℕ → List Event → Type 0
Dated c [] = Unit {0}
Dated c (e ∷ es) = (clock_of e ≡ c) × Dated c es

dated_in : (lim c : ℕ) (es : List Event) → c ≤ lim → Dated c es → upto lim es ≡ es
dated_in lim c [] h d = refl
dated_in lim c (e ∷ es) h d = let q = d.0 in cond-true (leb (clock_of e) lim) (e ∷ upto lim es) (upto lim es) (le-leb (clock_of e) lim (omega arith))
    ∙ ap (λ z. e ∷ z) (dated_in lim c es h d.1)

dated_out : (lim c : ℕ) (es : List Event) → lim < c → Dated c es → upto lim es ≡ []
dated_out lim c [] h d = refl
dated_out lim c (e ∷ es) h d = let q = d.0 in
    cond-false (leb (clock_of e) lim) (e ∷ upto lim es) (upto lim es) (lt-leb (clock_of e) lim (omega arith)) ∙ dated_out lim c es h d.1

-- what a log gets
abbrev pub News : ℕ → List Event → List Event → Type 0
News c es fs = (more : List Event) × (fs ≡ es ++ more) × Dated c more

no_news : (c : ℕ) (es : List Event) → News c es es
no_news c es = ([], sym (append-nil es), tt)

news_in : (lim c : ℕ) (es fs : List Event) → c ≤ lim → News c es fs → upto lim es ≡ es → upto lim fs ≡ fs
news_in lim c es fs h n e = ap (upto lim) n.1 ∙ upto-append lim es n.0 ∙ ap (λ z. z ++ upto lim n.0) e ∙ ap (λ z. es ++ z) (dated_in lim c n.0 h n.2) ∙ sym n.1

news_out : (lim c : ℕ) (es fs : List Event) → lim < c → News c es fs → upto lim fs ≡ upto lim es
news_out lim c es fs h n = ap (upto lim) n.1 ∙ upto-append lim es n.0 ∙ ap (λ z. upto lim es ++ z) (dated_out lim c n.0 h n.2) ∙ append-nil (upto lim es)

module _ {E : Type 0} (v : Env E) (image : List Instr) where
  -- one step keeps that, turns no clock back, takes a cycle if the machine has not halted, and what it adds to the log has its cycle
  pub record Ticks (x y : Machine E) : Type 0 where
    pub sane : Sane y.opened y.core.clock
    pub clock : x.core.clock ≤ y.core.clock
    pub tick : x.halted ≡ false → x.core.clock < y.core.clock
    pub news : News y.core.clock x.core.log y.core.log

  -- an instruction after its fetch
  record Acts (c : ℕ) (es : List Event) (y : Machine E) : Type 0 where
    sane : Sane y.opened y.core.clock
    clock : c ≤ y.core.clock
    news : News y.core.clock es y.core.log

  still : (a : ℕ) (ops : List ℤ) (os : List Opened) (s : Core E) → Sane os s.clock → Acts s.clock s.log (at a ops os s)
  still a ops os s h = record { sane = h; clock = omega arith; news = no_news s.clock s.log }

  close_acts : (a : ℕ) (ops : List ℤ) (os : List Opened) (s : Core E) → Sane os s.clock → Acts s.clock s.log (close_first a ops os s)
  close_acts a ops [] s h = still a ops [] s h
  close_acts a ops (w ∷ os) s h =
      let up = closed_clock w s h.0 in
      record { sane = sane_later os s.clock _ up h.1; clock = up; news = (_, refl, (refl, tt)) }

  acts : (w : Work) (m : Marks) (a : ℕ) (ops : List ℤ) (os : List Opened) (s : Core E) → Sane os s.clock → Acts s.clock s.log (act v m w a ops os s)
  acts (Push n) m a ops os s h = still _ _ os s h
  acts (Load x) m a ops os s h = record { sane = sane_later os s.clock _ (omega arith) h; clock = omega arith; news = no_news _ s.log }
  acts (Store x) m a ops os s h = record { sane = sane_later os s.clock _ (omega arith) h; clock = omega arith; news = (_, refl, (refl, tt)) }
  acts (LoadAt f n) m a ops os s h = record { sane = sane_later os s.clock _ (omega arith) h; clock = omega arith; news = no_news _ s.log }
  acts (StoreAt f n) m a ops os s h = record { sane = sane_later os s.clock _ (omega arith) h; clock = omega arith; news = (_, refl, (refl, tt)) }
  acts (Apply o) m a ops os s h = record { sane = sane_later os s.clock _ (omega arith) h; clock = omega arith; news = no_news _ s.log }
  acts (Brz b) m a ops os s h = still _ _ os s h
  acts (Brnz b) m a ops os s h = still _ _ os s h
  acts (Jmp b) m a ops os s h = still _ _ os s h
  acts SleepWork m a ops os s h = record { sane = sane_later os s.clock _ (omega arith) h; clock = omega arith; news = no_news _ s.log }
  acts (Mitb l k) m a ops os s h = record { sane = (omega arith, h); clock = omega arith; news = (_, refl, (refl, tt)) }
  acts Mite m a ops os s h = close_acts (a + 1) ops os s h
  acts Nop m a ops os s h = still _ _ os s h
  acts Halt m a ops os s h = record { sane = h; clock = omega arith; news = no_news s.clock s.log }

  pub ticks : (x : Machine E) → Sane x.opened x.core.clock → Ticks x (step v image x)
  ticks x h = go x.halted refl
    where
      obeys : (i : Option Instr) → Ticks x (obey v i x)
      obeys None = record {
        sane = sane_later x.opened x.core.clock _ (omega arith) h;
        clock = omega arith;
        tick =
            λ f. omega arith;
        news = no_news _ x.core.log;
      }
      obeys (Some i) =
          let s = fetched v (marks_of i) x.place x.core in
          let r = acts i.work (marks_of i) x.place x.operands x.opened s (sane_later x.opened x.core.clock s.clock (omega arith) h) in
          let c = r.clock in
          record { sane = r.sane; clock = omega arith; tick = λ f. omega arith; news = r.news }

      go : (b : Bool) → x.halted ≡ b → Ticks x (cond b x (obey v (slice_get image x.place) x))
      go true e = record { sane = h; clock = omega arith; tick = λ f. absurd (both_ways x.halted f e); news = no_news _ x.core.log }
      go false e = obeys (slice_get image x.place)

  -- the same of many steps
  pub steps_clock : (k : ℕ) (x : Machine E) → Sane x.opened x.core.clock → x.core.clock ≤ (steps v image k x).core.clock
  steps_clock zero x h = omega arith
  steps_clock (suc k) x h = let t = ticks x h in let c = t.clock in omega (arith, steps_clock k (step v image x) t.sane)

  pub steps_sane : (k : ℕ) (x : Machine E) → Sane x.opened x.core.clock → Sane (steps v image k x).opened (steps v image k x).core.clock
  steps_sane zero x h = h
  steps_sane (suc k) x h = steps_sane k (step v image x) (ticks x h).sane

  -- up to a time before the cut no event is past it
  pub steps_in : (lim k : ℕ) (x : Machine E) → Sane x.opened x.core.clock → upto lim x.core.log ≡ x.core.log → (steps v image k x).core.clock ≤ lim
      → upto lim (steps v image k x).core.log ≡ (steps v image k x).core.log
  steps_in lim zero x h e by = e
  steps_in lim (suc k) x h e by =
      let t = ticks x h in
      let y = step v image x in
      let here : y.core.clock ≤ lim = omega (arith, steps_clock k y t.sane) in
      steps_in lim k y t.sane (news_in lim y.core.clock x.core.log y.core.log here t.news e) by

  -- past the cut nothing is added up to it
  pub steps_out : (lim k : ℕ) (x : Machine E) → Sane x.opened x.core.clock → lim < (step v image x).core.clock → (lim < (steps v image (suc k) x).core.clock)
      × (upto lim (steps v image (suc k) x).core.log ≡ upto lim x.core.log)
  steps_out lim zero x h l = (l, news_out lim (step v image x).core.clock x.core.log (step v image x).core.log l (ticks x h).news)
  steps_out lim (suc k) x h l =
      let t = ticks x h in
      let y = step v image x in
      let c = (ticks y t.sane).clock in
      let r = steps_out lim k y t.sane (omega arith) in
      (r.0, r.1 ∙ news_out lim y.core.clock x.core.log y.core.log l t.news)

  -- where a run to T has come to: halted, or the next step ends after T
  pub record Ran (t : ℕ) (x y : Machine E) : Type 0 where
    pub count : ℕ
    pub is : steps v image count x ≡ y
    pub by : y.core.clock ≤ t
    pub over : (y.halted ≡ true) ⊎ ((y.halted ≡ false) × (t < (step v image y).core.clock))

  pub ran : (t n : ℕ) (x : Machine E) → Sane x.opened x.core.clock → x.core.clock ≤ t → t ≤ x.core.clock + n → Ran t x (run_for v image t n x)
  ran t zero x h by room = go x.halted refl
    where
      go : (b : Bool) → x.halted ≡ b → Ran t x x
      go true e = record { count = 0; is = refl; by = by; over = inl e }
      go false e = let c = (ticks x h).tick e in record { count = 0; is = refl; by = by; over = inr (e, omega arith) }
  ran t (suc n) x h by room = go (leb (step v image x).core.clock t) x.halted refl refl (λ le r. ran t n (step v image x) (ticks x h).sane le r)
    where
      go : (b c : Bool) → leb (step v image x).core.clock t ≡ b → x.halted ≡ c
          → ((step v image x).core.clock ≤ t → t ≤ (step v image x).core.clock + n → Ran t (step v image x) (run_for v image t n (step v image x)))
          → Ran t x (cond (b && not c) (run_for v image t n (step v image x)) x)
      go true false e f rec =
          let c = (ticks x h).tick f in
          let r = rec (leb-true (step v image x).core.clock t e) (omega arith) in
          record { count = suc r.count; is = r.is; by = r.by; over = r.over }
      go true true e f rec = record { count = 0; is = refl; by = by; over = inl f }
      go false true e f rec = record { count = 0; is = refl; by = by; over = inl f }
      go false false e f rec = record { count = 0; is = refl; by = by; over = inr (f, leb-false (step v image x).core.clock t e) }

-- a run to T is some number of steps
pub run_is : {E : Type 0} (v : Env E) (image : List Instr) (t n : ℕ) (x : Machine E) → (k : ℕ) × (run_for v image t n x ≡ steps v image k x)
run_is v image t zero x = (0, refl)
run_is v image t (suc n) x = go (leb (step v image x).core.clock t && not x.halted) (run_is v image t n (step v image x))
  where
    go : (b : Bool) → (k : ℕ) × (run_for v image t n (step v image x) ≡ steps v image k (step v image x))
        → (k : ℕ) × (cond b (run_for v image t n (step v image x)) x ≡ steps v image k x)
    go true r = (suc r.0, r.1)
    go false r = (0, refl)

module _ {E : Type 0} (v : Env E) (image : List Instr) where
  -- a run to T takes each number of steps whose clock is at most T
  pub covers : (k t n : ℕ) (x : Machine E) → Sane x.opened x.core.clock → (steps v image k x).core.clock ≤ t → t ≤ x.core.clock + n
      → (j : ℕ) × (run_for v image t n x ≡ steps v image j (steps v image k x))
  covers zero t n x h le room = run_is v image t n x
  covers (suc k) t n x h le room = go x.halted refl n room (λ m r. covers k t m (step v image x) (ticks v image x h).sane le r)
    where
      over : (n : ℕ) → x.halted ≡ true → run_for v image t n x ≡ x
      over zero e = refl
      over (suc n) e = ap (λ b. cond b (run_for v image t n (step v image x)) x) (ap (λ b. leb (step v image x).core.clock t && not b) e
          ∙ falls (leb (step v image x).core.clock t))
        where
          falls : (b : Bool) → (b && false) ≡ false
          falls true = refl
          falls false = refl

      go : (b : Bool) → x.halted ≡ b → (n : ℕ) → t ≤ x.core.clock + n
          → ((m : ℕ) → t ≤ (step v image x).core.clock + m
          → (j : ℕ) × (run_for v image t m (step v image x) ≡ steps v image j (steps v image k (step v image x))))
          → (j : ℕ) × (run_for v image t n x ≡ steps v image j (steps v image (suc k) x))
      go true e n room next = (0, over n e ∙ sym (stays v image (suc k) x e))
      go false e zero room next =
          let c = (ticks v image x h).tick e in
          absurd (omega (arith, steps_clock v image k (step v image x) (ticks v image x h).sane))
      go false e (suc n) room next =
          let c = (ticks v image x h).tick e in
          let by : (step v image x).core.clock ≤ t = omega (arith, steps_clock v image k (step v image x) (ticks v image x h).sane) in
          let test = and_from _ _ (le-leb (step v image x).core.clock t by) (ap not e) in
          let r = next n (omega arith) in
          (r.0, ap (λ b. cond b (run_for v image t n (step v image x)) x) test ∙ r.1)

  -- the computed run comes to where the greatest number of steps leads
  pub runs_to : (t : ℕ) (s : Start E) → RunsTo v image t (start s.memory s.env) (run_from v image t s)
  runs_to t s =
      let x = start s.memory s.env in
      let r = ran v image t t x tt (omega arith) (omega arith) in
      record {
        count = r.count;
        is = r.is;
        by = r.by;
        greatest = λ k le. let c = covers k t t x tt le (omega arith) in (c.0, sym c.1);
      }
