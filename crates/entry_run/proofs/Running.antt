-- A run without waits, a step at a time.
use Rattle.std.proofs.Common.{◌≡◌, ◌≤◌, ℕ, suc, ◌+◌, ◌-◌, List, [], ◌∷◌, ◌++◌, sym, ap, ◌∙◌, arith, append-nil}
use Rattle.std.specs.Prelude.{ℤ, Bool, false, None, reverse, map, length, vec_capacity}
use Rattle.label_lattice.specs.Order.{Order, most_labels}
use Rattle.env_contract.specs.Env.{Env}
use Rattle.label_code.specs.Machine.{Machine, steps, start}
use Rattle.label_code.specs.Shaped.{Code, Depths, HasDepths, IsShaped}
use Rattle.label_code.specs.declared.code.Instr.{Instr}
use Rattle.cycle_machine.specs.declared.state.State.{State}
use Rattle.cycle_machine.specs.Seen.{seen, opened_of}
use Rattle.cycle_machine.specs.Took.{Stands}
use Rattle.first_replay.specs.Replay.{What, Entry, Timed, trace, after, replay}
use Rattle.run_entries.specs.declared.entry.Entry.{Entry as Line}
use Rattle.run_entries.specs.Entries.{entries_of}
use Rattle.entry_run.specs.Worked.{Pose, pose, entry_at, Passed, Worked}
use Rattle.run_entries.specs.Told.{told_at, counts_told}
use Rattle.entry_run.specs.Kept.{kept_by, counts_by, IsClosed}
use Rattle.entry_run.specs.Runs.{work, Tells, IsTooLong}
use Rattle.entry_run.specs.declared.kept.Kept.{Kept}
use Rattle.entry_run.specs.declared.work.Pace.TheVariants.{Went, Halted, Late}
use Rattle.entry_run.proofs.Joining.{replay_both}
use Rattle.entry_run.proofs.Counting.{CountsOne, counts_both}
use Rattle.entry_run.proofs.Posing.{step_posed, entry_alike, steps_more, trace_more}

-- what one step more keeps
abbrev pub PutsOne : Kept → Kept → ℕ → What → Type 0
PutsOne old new cost what =
    (numbers : ℕ → ℤ) (t : Timed) → t.last ≡ None →
    kept_by numbers new t ≡ after numbers what ((kept_by numbers old t).clock + cost) (kept_by numbers old t)

-- so many steps of the machine are kept, and the state without waits stands where the machine does
pub record Gone {E : Type 0} (v : Env E) (serves : Order → E → Type 0) (c : Code) (limit : ℕ) (x : Machine E) (kept : Kept) (s : State E) : Type 0 where
  pub stands : Stands serves c s
  pub count : ℕ
  pub posed : pose (steps v c.instrs count x) ≡ pose (seen s)
  pub closed : IsClosed kept
  pub same : (numbers : ℕ → ℤ) (t : Timed) → t.last ≡ None → kept_by numbers kept t ≡ replay numbers (trace v c.instrs count x) t
  pub counts : (such : ℕ → Bool) (numbers : ℕ → ℤ) (t : Timed) → t.last ≡ None →
      counts_by such numbers kept t ≡ counts_told such numbers (trace v c.instrs count x) t
  pub clock : work (trace v c.instrs count x) ≡ s.clock
  pub within : s.clock ≤ limit
  pub waiting : kept.waiting ≤ s.clock

work_both : (es fs : List Entry) → work (es ++ fs) ≡ work es + work fs
work_both [] fs = omega arith
work_both (e ∷ es) fs = let h = work_both es fs in omega (arith, h)

-- the entry of the step after some
entry_there : {E : Type 0} (v : Env E) (image : List Instr) (n : ℕ) (x : Machine E) (s : State E) → pose (steps v image n x) ≡ pose (seen s) →
    trace v image (suc n) x ≡ trace v image n x ++ entry_at v image s ∷ []
entry_there v image n x s e = trace_more v image n x ∙ ap (λ z. trace v image n x ++ z) (entry_alike v image (steps v image n x) (seen s) e)

work_there : {E : Type 0} (v : Env E) (image : List Instr) (n : ℕ) (x : Machine E) (s : State E) → pose (steps v image n x) ≡ pose (seen s) →
    work (trace v image (suc n) x) ≡ work (trace v image n x) + (entry_at v image s).cost
work_there v image n x s e =
    let a = ap work (entry_there v image n x s e) ∙ work_both (trace v image n x) (entry_at v image s ∷ []) in
    omega (arith, a)

kept_there : {E : Type 0} (v : Env E) (image : List Instr) (n : ℕ) (x : Machine E) (s : State E) (old new : Kept) (cost : ℕ) (what : What) →
    pose (steps v image n x) ≡ pose (seen s) → PutsOne old new cost what → cost ≡ (entry_at v image s).cost → what ≡ (entry_at v image s).what →
    ((numbers : ℕ → ℤ) (t : Timed) → t.last ≡ None → kept_by numbers old t ≡ replay numbers (trace v image n x) t) →
    (numbers : ℕ → ℤ) (t : Timed) → t.last ≡ None → kept_by numbers new t ≡ replay numbers (trace v image (suc n) x) t
kept_there v image n x s old new cost what p put c w same numbers t e =
    put numbers t e
    ∙ (ap (λ z. after numbers what (z.clock + cost) z) (same numbers t e)
    ∙ (ap (λ z. after numbers what ((replay numbers (trace v image n x) t).clock + z) (replay numbers (trace v image n x) t)) c
    ∙ (ap (λ z. after numbers z ((replay numbers (trace v image n x) t).clock + (entry_at v image s).cost) (replay numbers (trace v image n x) t)) w
    ∙ (sym (replay_both numbers (trace v image n x) (entry_at v image s ∷ []) t)
    ∙ ap (λ z. replay numbers z t) (sym (entry_there v image n x s p))))))

-- the miss counts that one step more tells
told_there : {E : Type 0} (v : Env E) (image : List Instr) (n : ℕ) (x : Machine E) (s : State E) (old new : Kept) (cost : ℕ) (what : What) →
    pose (steps v image n x) ≡ pose (seen s) → CountsOne old new cost what → cost ≡ (entry_at v image s).cost → what ≡ (entry_at v image s).what →
    ((numbers : ℕ → ℤ) (t : Timed) → t.last ≡ None → kept_by numbers old t ≡ replay numbers (trace v image n x) t) →
    ((such : ℕ → Bool) (numbers : ℕ → ℤ) (t : Timed) → t.last ≡ None → counts_by such numbers old t ≡ counts_told such numbers (trace v image n x) t) →
    (such : ℕ → Bool) (numbers : ℕ → ℤ) (t : Timed) → t.last ≡ None → counts_by such numbers new t ≡ counts_told such numbers (trace v image (suc n) x) t
told_there v image n x s old new cost what p put c w same counts such numbers t e =
    let u : Timed = replay numbers (trace v image n x) t in
    let all : List ℕ = counts_told such numbers (trace v image n x) t in
    let i : Entry = entry_at v image s in
    put such numbers t e
    ∙ (ap (λ z. z ++ told_at such what ((kept_by numbers old t).clock + cost) (kept_by numbers old t) (kept_by numbers old t).opened)
    (counts such numbers t e)
    ∙ (ap (λ (z : Timed). all ++ told_at such what (z.clock + cost) z z.opened) (same numbers t e)
    ∙ (ap (λ z. all ++ told_at such what (u.clock + z) u u.opened) c
    ∙ (ap (λ z. all ++ told_at such z (u.clock + i.cost) u u.opened) w
    ∙ (ap (λ z. all ++ z) (sym (append-nil (told_at such i.what (u.clock + i.cost) u u.opened)))
    ∙ (sym (counts_both such numbers (trace v image n x) (i ∷ []) t)
    ∙ ap (λ z. counts_told such numbers z t) (sym (entry_there v image n x s p))))))))

pub gone_more : {E : Type 0} (v : Env E) (serves : Order → E → Type 0) (c : Code) (limit : ℕ) (x : Machine E) (kept kept' : Kept) (s s' : State E) (cost : ℕ)
    (what : What) → Gone v serves c limit x kept s → Worked v serves c s limit Went s' → cost ≡ s'.clock - s.clock → what ≡ (entry_at v c.instrs s).what →
    PutsOne kept kept' cost what → CountsOne kept kept' cost what → IsClosed kept' → kept'.waiting ≤ kept.waiting + cost → Gone v serves c limit x kept' s'
gone_more v serves c limit x kept kept' s s' cost what g w d e put tell closed wait =
    let passed : Passed v c.instrs limit s s' = w.1 in
    let same : cost ≡ (entry_at v c.instrs s).cost = omega (arith, d, passed.clock) in
    record {
      stands = w.2;
      count = suc g.count;
      posed = ap pose (steps_more v c.instrs g.count x) ∙ (step_posed v c.instrs (steps v c.instrs g.count x) (seen s) g.posed ∙ w.0);
      closed = closed;
      same = kept_there v c.instrs g.count x s kept kept' cost what g.posed put same e g.same;
      counts = told_there v c.instrs g.count x s kept kept' cost what g.posed tell same e g.same g.counts;
      clock = let h = work_there v c.instrs g.count x s g.posed in omega (arith, h, g.clock, passed.clock);
      within = passed.within;
      waiting = omega (arith, wait, g.waiting, d, passed.later);
    }

pub gone_halted : {E : Type 0} (v : Env E) (serves : Order → E → Type 0) (c : Code) (limit : ℕ) (x : Machine E) (kept kept' : Kept) (s s' : State E) (cost : ℕ)
    (what : What) (es : List Line) → Gone v serves c limit x kept s → Worked v serves c s limit Halted s' → cost ≡ s'.clock - s.clock →
    what ≡ (entry_at v c.instrs s).what → PutsOne kept kept' cost what → CountsOne kept kept' cost what →
    ((numbers : ℕ → ℤ) (t : Timed) → t.last ≡ None → replay numbers (entries_of es) t ≡ kept_by numbers kept' t) →
    ((such : ℕ → Bool) (numbers : ℕ → ℤ) (t : Timed) → counts_told such numbers (entries_of es) t ≡ counts_by such numbers kept' t) →
    Tells v c.instrs limit x (entries_of es)
gone_halted v serves c limit x kept kept' s s' cost what es g w d e put tell done told =
    let passed : Passed v c.instrs limit s s' = w.1 in
    let same : cost ≡ (entry_at v c.instrs s).cost = omega (arith, d, passed.clock) in
    let there = kept_there v c.instrs g.count x s kept kept' cost what g.posed put same e g.same in
    record {
      count = suc g.count;
      halted = ap (λ z. z.halted)
          (ap pose (steps_more v c.instrs g.count x) ∙ (step_posed v c.instrs (steps v c.instrs g.count x) (seen s) g.posed ∙ w.0));
      same = λ numbers t n. done numbers t n ∙ there numbers t n;
      counts = λ such numbers t n.
          told such numbers t ∙ told_there v c.instrs g.count x s kept kept' cost what g.posed tell same e g.same g.counts such numbers t n;
      within = let h = work_there v c.instrs g.count x s g.posed in omega (arith, h, g.clock, passed.clock, passed.within);
    }

pub gone_late : {E : Type 0} (v : Env E) (serves : Order → E → Type 0) (c : Code) (limit : ℕ) (x : Machine E) (kept : Kept) (s s' : State E) →
    Gone v serves c limit x kept s → Worked v serves c s limit Late s' → IsTooLong v c.instrs limit x
gone_late v serves c limit x kept s s' g w =
    record { count = suc g.count; above = let h = work_there v c.instrs g.count x s g.posed in omega (arith, h, g.clock, w) }

abbrev posed_as : {E : Type 0} → ℕ → List ℤ → List ℤ → E → Pose E
posed_as a ops memory env = record { place = a; operands = ops; memory = memory; env = env; halted = false }

pub stands_first : {E : Type 0} (serves : Order → E → Type 0) (c : Code) (s : State E) → IsShaped c → s.place ≡ 0 → s.operands.items ≡ [] →
    s.opened.items ≡ [] → c.operands ≤ vec_capacity s.operands → c.nesting ≤ vec_capacity s.opened → length s.memory.items ≡ c.variables →
    c.order.size ≤ most_labels → serves c.order s.env → Stands serves c s
stands_first serves c s shaped place ops os a b m l e =
    let ds : Depths = shaped.0 in
    let has : HasDepths c ds = shaped.1 in
    record {
      depths = (
        ds,
        has,
        record {
          within = let some = has.some in omega (arith, place, some);
          operands = ap (λ xs. length (reverse xs)) ops ∙ (sym has.operands ∙ ap ds.operands (sym place));
          nesting = ap (λ xs. length (map opened_of (reverse xs))) os ∙ (sym has.nesting ∙ ap ds.nesting (sym place));
        },
      );
      operands = a;
      opened = b;
      memory = m;
      labels = l;
      served = e;
    }

-- as a run begins
pub gone_first : {E : Type 0} (v : Env E) (serves : Order → E → Type 0) (c : Code) (limit : ℕ) (memory : List ℤ) (env : E) (kept : Kept) (s : State E) →
    Stands serves c s → s.place ≡ 0 → s.operands.items ≡ [] → s.memory.items ≡ memory → s.env ≡ env → IsClosed kept →
    ((numbers : ℕ → ℤ) (t : Timed) → t.last ≡ None → kept_by numbers kept t ≡ t) →
    ((such : ℕ → Bool) (numbers : ℕ → ℤ) (t : Timed) → counts_by such numbers kept t ≡ []) → s.clock ≡ 0 → kept.waiting ≡ 0 →
    Gone v serves c limit (start memory env) kept s
gone_first {E} v serves c limit memory env kept s stands place ops mem e closed same none clock waiting =
    record {
      stands = stands;
      count = 0;
      posed = sym (ap (λ z. posed_as z (reverse s.operands.items) s.memory.items s.env) place
          ∙ (ap (λ z. posed_as 0 (reverse z) s.memory.items s.env) ops ∙ (ap (λ z. posed_as 0 [] z s.env) mem ∙ ap (λ z. posed_as 0 [] memory z) e)));
      closed = closed;
      same = same;
      counts = λ such numbers t n. none such numbers t;
      clock = sym clock;
      within = omega (arith, clock);
      waiting = omega (arith, clock, waiting);
    }
