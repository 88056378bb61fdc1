-- A program whose run halts by T has ended after T + 1 steps.
use Rattle.std.proofs.Common.{◌≡◌, ◌<◌, ◌≤◌, ℕ, zero, suc, ◌+◌, ◌-◌, List, [], ◌∷◌, refl, sym, ap, ◌∙◌, subst, ⊎_elim, All, arith}
use Rattle.std.specs.Prelude.{Bool, true, false}
use Rattle.std.proofs.lemmas.Bool.{cases_lt, both_ways}
use Rattle.mit_syntax.specs.Todo.{Marks, Marked, Done}
use Rattle.mit_syntax.specs.Program.{plan_of}
use Rattle.timing_types.specs.Labelled.{LabelledProgram, order_of, labels_of, bare_of}
use Rattle.source_meaning.specs.Source.{Source, source_step, source_steps, source_start, HasEnded}
use Rattle.source_meaning.proofs.Told.{done_stays}
use Rattle.label_lattice.specs.Lattice.{Lattice}
use Rattle.label_lattice.specs.Order.{Order}
use Rattle.env_contract.specs.Env.{Env}
use Rattle.env_contract.specs.declared.place.Touch.{Touch}
use Rattle.label_code.specs.Machine.{Machine, step, steps, start}
use Rattle.label_code.specs.declared.code.Instr.{Instr}
use Rattle.label_code.specs.Run.{Start}
use Rattle.label_code.proofs.Leads.{stays, steps-add}
use Rattle.label_code.proofs.Ticks.{Sane, ticks, steps_sane, steps_clock, runs_to}
use Rattle.code_lower.specs.Layout.{IsImage}
use Rattle.code_lower.specs.Lowered.{lowered}
use Rattle.code_lower.proofs.Follow.{Meets, Goes, on, over}
use Rattle.code_lower.proofs.Order.{next_of, starts_met}
use Rattle.code_lower.proofs.Stands.{image_is}
use Rattle.code_lower.proofs.Meaning.{keep_meaning}
use Rattle.leak_bound.specs.Records.{Each}
use Rattle.leak_bound.specs.Sound.{Halts}
use Rattle.start_file.specs.Starts.{StartValue}
use Rattle.leak_audit.specs.Agreement.{start_of, starts_of}
use Rattle.history_bound.specs.Over.{history_made}
use Rattle.leak_audit.specs.declared.report.AuditReport.{AuditReport}
use Rattle.tool_stages.specs.declared.envs.Environment.{Environment}
use Rattle.tool_stages.specs.Envs.{environment, ReportsIn}

module _ {E : Type 0} (v : Env E) (image : List Instr) (lat : Lattice) (g : ℕ → ℕ) where
  -- each step of the source takes a step of the machine, or more
  ends : (n : ℕ) (σ : Source Marks ℕ) (x : Machine E) → Meets v lat g image σ x → (steps v image n x).halted ≡ true → (source_steps n σ).todo ≡ Done
  ends zero σ x m h = absurd (both_ways x.halted (ap (λ z. z.halted) m.is) h)
  ends (suc n) σ x m h = go (next_of v image lat g σ x m) (λ y z k. ends n (source_step σ) y z k)
    where
      go : Goes v lat g image σ x → ((y : Machine E) → Meets v lat g image (source_step σ) y → (steps v image n y).halted ≡ true
          → (source_steps n (source_step σ)).todo ≡ Done) → (source_steps (suc n) σ).todo ≡ Done
      go (over l d e t) rec = ap (λ z. z.todo) (done_stays (suc n) σ d) ∙ d
      go (on {y = y} d l z) rec =
          let c = l.some in
          let sum : suc n + (l.count + n - suc n) ≡ l.count + n = omega arith in
          let far : steps v image (l.count + n) x ≡ steps v image n y = steps-add v image l.count n x ∙ ap (steps v image n) l.ends in
          let same : steps v image (l.count + n) x ≡ steps v image (suc n) x =
          ap (λ k. steps v image k x) (sym sum) ∙ steps-add v image (suc n) (l.count + n - suc n) x
          ∙ stays v image (l.count + n - suc n) (steps v image (suc n) x) h in
          rec y z (ap (λ w. w.halted) (sym far ∙ same) ∙ h)

  -- a machine that has not halted has taken a cycle for each step
  late : (n : ℕ) (x : Machine E) → Sane x.opened x.core.clock → (steps v image n x).halted ≡ false → x.core.clock + n ≤ (steps v image n x).core.clock
  late zero x s h = omega arith
  late (suc n) x s h = go x.halted refl (λ sane. late n (step v image x) sane h)
    where
      go : (b : Bool) → x.halted ≡ b → (Sane (step v image x).opened (step v image x).core.clock
          → (step v image x).core.clock + n ≤ (steps v image n (step v image x)).core.clock) → x.core.clock + suc n ≤ (steps v image (suc n) x).core.clock
      go true e rec = absurd (both_ways (steps v image (suc n) x).halted h (ap (λ z. z.halted) (stays v image (suc n) x e) ∙ e))
      go false e rec =
          let t = ticks v image x s in
          let c = t.tick e in
          let r = rec t.sane in
          omega (arith, c, r)

  module _ (p : Marked) (code : IsImage lat g image p) where
    ended_by : (t : ℕ) (s : Start E) → Halts v image t s → HasEnded p s.memory (suc t)
    ended_by t s h = ends (suc t) (source_start p s.memory) x (starts_met v lat g image p code s) (halted (steps v image (suc t) x).halted refl)
      where
        x : Machine E
        x = start s.memory s.env

        halted : (b : Bool) → (steps v image (suc t) x).halted ≡ b → (steps v image (suc t) x).halted ≡ true
        halted true e = e
        halted false e =
            let r = runs_to v image t s in
            let over = late (suc t) x tt e in
            let by = r.by in
            let stop : (steps v image r.count x).halted ≡ true = ap (λ z. z.halted) r.is ∙ h in
            ⊎_elim
            (λ (lt : r.count < suc t).
            let sum : r.count + (suc t - r.count) ≡ suc t = omega (arith, lt) in
            absurd (both_ways (steps v image (suc t) x).halted e
            (ap (λ k. (steps v image k x).halted) (sym sum)
            ∙ ap (λ z. z.halted) (steps-add v image r.count (suc t - r.count) x ∙ stays v image (suc t - r.count) (steps v image r.count x) stop) ∙ stop)))
            (λ (le : suc t ≤ r.count).
            let sum : suc t + (r.count - suc t) ≡ r.count = omega (arith, le) in
            let c = steps_clock v image (r.count - suc t) (steps v image (suc t) x) (steps_sane v image (suc t) x tt) in
            let d = ap (λ z. z.core.clock) (ap (λ k. steps v image k x) (sym sum) ∙ steps-add v image (suc t) (r.count - suc t) x) in
            let f = ap (λ z. z.core.clock) r.is in
            absurd (omega (arith, over, by, c, d, f)))
            (cases_lt r.count (suc t))

module _ {E : Type 0} (v : Env E) (made : Order → List Touch → E) (q : LabelledProgram) (t : ℕ) where
  one_ended : (s : Start E) → Halts v (lowered q).instrs t s → HasEnded (plan_of q.program) s.memory (t + 1)
  one_ended s h =
      let next : suc t ≡ t + 1 = omega arith in
      let a = ended_by v (lowered q).instrs (order_of q) (labels_of q) (bare_of q) (image_is (order_of q) (labels_of q) (bare_of q)) t s h in
      subst (HasEnded (plan_of q.program) s.memory) next (((keep_meaning q).ends s.memory (suc t)).0 a)

  all_ended : (ss : List StartValue) → Each (Halts v (lowered q).instrs t) (starts_of made q.program.order ss)
      → All (λ s. HasEnded (plan_of q.program) s.memory (t + 1)) ss
  all_ended [] h k d lt = absurd (omega (arith, lt))
  all_ended (s ∷ ss) h zero d lt = one_ended (start_of made q.program.order s) h.0
  all_ended (s ∷ ss) h (suc k) d lt = all_ended ss h.1 k d (omega (arith, lt))

-- runs of which there is a report
pub reported_end : (e : Environment) (q : LabelledProgram) (o t : ℕ) (ss : List StartValue) (r : AuditReport) → ReportsIn e q o t ss r
    → All (λ s. HasEnded (plan_of q.program) s.memory (t + 1)) ss
reported_end e q o t ss r h = all_ended (environment e q.program.order) history_made q t ss h.halted
