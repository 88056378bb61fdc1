-- The machine to which a run comes is the computed one.
use Rattle.std.proofs.Common.{◌≡◌, ℕ, subst, zero, suc, ◌<◌, ◌≤◌, List, sym, ap, ◌∙◌, ◌⊎◌, inl, inr, arith}
use Rattle.std.specs.Prelude.{true, false}
use Rattle.env_contract.specs.Env.{Env}
use Rattle.label_code.specs.Machine.{Machine, start, step, steps, run_for}
use Rattle.label_code.specs.Run.{Start, run_from, RunsTo}
use Rattle.label_code.specs.OneRun.{HasOneRun}
use Rattle.label_code.specs.declared.code.Instr.{Instr}
use Rattle.label_code.proofs.Leads.{stays}
use Rattle.label_code.proofs.Ticks.{Sane, steps_sane, steps_out, ran, runs_to}

module _ {E : Type 0} (v : Env E) (image : List Instr) where
  -- where the machine has halted, or the next step ends after T, steps that end by T lead nowhere else
  ends_there : (t : ℕ) (j : ℕ) (x y : Machine E) → Sane x.opened x.core.clock → (x.halted ≡ true) ⊎ ((x.halted ≡ false) × (t < (step v image x).core.clock)) →
      steps v image j x ≡ y → y.core.clock ≤ t → y ≡ x
  ends_there t zero x y h over e by = sym e
  ends_there t (suc j) x y h (inl halted) e by = sym e ∙ stays v image (suc j) x halted
  ends_there t (suc j) x y h (inr late) e by =
      let out = (steps_out v image t j x h late.1).0 in
      let by' : (steps v image (suc j) x).core.clock ≤ t = subst (λ m. m.core.clock ≤ t) (sym e) by in
      absurd (omega (arith, out, by'))

  only : (t : ℕ) (s : Start E) (y : Machine E) → RunsTo v image t (start s.memory s.env) y → y ≡ run_from v image t s
  only t s y r =
      let x : Machine E = start s.memory s.env in
      let q = ran v image t t x tt (omega arith) (omega arith) in
      let g = r.greatest q.count (subst (λ m. m.core.clock ≤ t) (sym q.is) q.by) in
      ends_there t g.0 (run_for v image t t x) y (subst (λ m. Sane m.opened m.core.clock) q.is (steps_sane v image q.count x tt)) q.over
      (ap (steps v image g.0) (sym q.is) ∙ g.1) r.by

pub has_one_run : {E : Type 0} (v : Env E) → HasOneRun v
has_one_run v image t s y = (only v image t s y, λ e. subst (RunsTo v image t (start s.memory s.env)) (sym e) (runs_to v image t s))
