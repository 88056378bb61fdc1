-- Turns, one after another, are steps of the defined machine, with the whole log.
use Rattle.std.proofs.Common.{◌≡◌, ◌≤◌, ◌<◌, ◌+◌, ℕ, subst, zero, suc, List, [], ◌∷◌, ◌++◌, refl, sym, ap, ◌∙◌, ◌⊎◌, inl, inr, arith, Bool, true, ℤ}
use Rattle.label_code.specs.declared.code.Instr.{Instr}
use Rattle.label_code.proofs.Leads.{steps-add, stays}
use Rattle.label_code.proofs.Ticks.{Sane, steps_sane, steps_out, ran, covers}
use Rattle.env_contract.specs.Env.{Env}
use Rattle.label_code.specs.Machine.{start, run_to, run_for, Event, Machine, step, steps}
use Rattle.cycle_machine.specs.declared.state.State.{State}
use Rattle.cycle_machine.specs.Seen.{seen, with_log}
use Rattle.cycle_machine.specs.Turned.{Quiet, Comes}
use Rattle.cycle_machine.specs.Reached.{Reached}
use Rattle.cycle_machine.proofs.Past.{past, step_past, steps_past, none_after}
use Rattle.cycle_machine.proofs.Quiet.{one_more}

pub go_on : {E : Type 0} (v : Env E) (code : List Instr) (shown : List Bool) (limit : ℕ) (from : Machine E) (events : List Event)
    (old new : State E) (e : Event) →
    Reached v code limit from events old → (c : Comes v code shown limit old new (with_log (e ∷ []) (seen new)))
    → Reached v code limit from (events ++ (c.quiet.hidden ++ e ∷ [])) new
go_on v code shown limit from events old new e r c =
    let k : ℕ = suc c.quiet.count in
    record {
      count = r.count + k;
      ends =
          steps-add v code r.count k from
          ∙ (ap (steps v code k) (r.ends ∙ sym (none_after events (seen old)))
          ∙ (steps_past v code events k (seen old) ∙ ap (past events) (one_more v code shown limit old c.mid (with_log (e ∷ []) (seen new)) c.quiet c.next)));
      within = inr c.within;
    }

pub quiet_on : {E : Type 0} (v : Env E) (code : List Instr) (shown : List Bool) (limit : ℕ) (from : Machine E) (events : List Event) (old mid : State E) →
    Reached v code limit from events old → (q : Quiet v code shown limit old mid) → Reached v code limit from (events ++ q.hidden) mid
quiet_on v code shown limit from events old mid r q =
    record {
      count = r.count + q.count;
      ends =
          steps-add v code r.count q.count from
          ∙ (ap (steps v code q.count) (r.ends ∙ sym (none_after events (seen old)))
          ∙ (steps_past v code events q.count (seen old) ∙ ap (past events) q.ends));
      within = elim q.within [ inl z ↦ stays_within z r.within | inr by ↦ inr by ];
    }
  where
    same_clock : q.count ≡ 0 → old.clock ≡ mid.clock
    same_clock z = ap (λ m. m.core.clock) (ap (λ k. steps v code k (seen old)) (sym z) ∙ q.ends)

    stays_within : q.count ≡ 0 → (r.count ≡ 0) ⊎ (old.clock ≤ limit) → (r.count + q.count ≡ 0) ⊎ (mid.clock ≤ limit)
    stays_within z (inl y) = inl (omega (arith, y, z))
    stays_within z (inr by) = inr (omega (arith, by, same_clock z))

-- where the next step ends after the limit, or the machine has halted, the run to the limit is there
pub limit_is : {E : Type 0} (v : Env E) (code : List Instr) (limit : ℕ) (memory : List ℤ) (e : E) (events : List Event) (s : State E) →
    Reached v code limit (start memory e) events s → limit < (step v code (seen s)).core.clock → run_to v code limit (start memory e) ≡ with_log events (seen s)
limit_is {E} v code limit memory e events s r late =
    let x : Machine E = start memory e in
    let y : Machine E = with_log events (seen s) in
    let clock : s.clock ≤ limit = elim (r.within) [ inl z ↦ first_clock z | inr l ↦ l ] in
    let here : (steps v code r.count x).core.clock ≤ limit = subst (λ m. m.core.clock ≤ limit) (sym r.ends) clock in
    let c = covers v code r.count limit limit x tt here (omega arith) in
    let is : run_for v code limit limit x ≡ steps v code c.0 y = c.1 ∙ ap (steps v code c.0) r.ends in
    let by = (ran v code limit limit x tt (omega arith) (omega arith)).by in
    let sane : Sane y.opened y.core.clock = subst (λ m. Sane m.opened m.core.clock) r.ends (steps_sane v code r.count x tt) in
    let after : limit < (step v code y).core.clock =
    subst (λ m. limit < m.core.clock) (sym (step_past v code events (seen s)) ∙ ap (step v code) (none_after events (seen s))) late in
    at_count c.0 is by sane after
  where
    first_clock : r.count ≡ 0 → s.clock ≤ limit
    first_clock z =
        let same : start memory e ≡ with_log events (seen s) = ap (λ k. steps v code k (start memory e)) (sym z) ∙ r.ends in
        let zero_clock : 0 ≡ s.clock = ap (λ m. m.core.clock) same in
        omega (arith, zero_clock)

    at_count : (j : ℕ) → run_for v code limit limit (start memory e) ≡ steps v code j (with_log events (seen s))
        → (run_for v code limit limit (start memory e)).core.clock ≤ limit →
        Sane (with_log events (seen s)).opened s.clock → limit < (step v code (with_log events (seen s))).core.clock
        → run_to v code limit (start memory e) ≡ with_log events (seen s)
    at_count zero is by sane after = is
    at_count (suc j) is by sane after =
        let out = (steps_out v code limit j (with_log events (seen s)) sane after).0 in
        let by' : (steps v code (suc j) (with_log events (seen s))).core.clock ≤ limit = subst (λ m. m.core.clock ≤ limit) is by in
        absurd (omega (arith, out, by'))

pub halt_is : {E : Type 0} (v : Env E) (code : List Instr) (shown : List Bool) (limit : ℕ) (memory : List ℤ) (e : E) (events : List Event) (old new : State E) →
    Reached v code limit (start memory e) events old → (c : Comes v code shown limit old new (record (seen new) { halted = true })) →
    run_to v code limit (start memory e) ≡ record (with_log (events ++ c.quiet.hidden) (seen new)) { halted = true }
halt_is {E} v code shown limit memory e events old new r c =
    let x : Machine E = start memory e in
    let k : ℕ = suc c.quiet.count in
    let h : Machine E = record (seen new) { halted = true } in
    let y : Machine E = with_log (events ++ c.quiet.hidden) h in
    let one : steps v code k (seen old) ≡ with_log c.quiet.hidden h =
    one_more v code shown limit old c.mid h c.quiet c.next ∙ none_after c.quiet.hidden h in
    let all : steps v code (r.count + k) x ≡ y =
    steps-add v code r.count k x
    ∙ (ap (steps v code k) (r.ends ∙ sym (none_after events (seen old))) ∙ (steps_past v code events k (seen old) ∙ ap (past events) one)) in
    let here : (steps v code (r.count + k) x).core.clock ≤ limit = subst (λ m. m.core.clock ≤ limit) (sym all) c.within in
    let s = covers v code (r.count + k) limit limit x tt here (omega arith) in
    s.1 ∙ (ap (steps v code s.0) all ∙ stays v code s.0 y refl)
