-- Walks in an environment and over histories.
use Rattle.std.proofs.Common.{◌≡◌, ◌∙◌, refl, sym, ap, ℕ, zero, suc, ◌+◌, ◌<◌, ◌≤◌, List, arith}
use Rattle.env_contract.specs.declared.place.Touch.{Touch}
use Rattle.env_contract.specs.Env.{Env}
use Rattle.label_lattice.specs.Order.{Order}
use Rattle.timing_types.specs.Labelled.{LabelledProgram, order_of, labels_of}
use Rattle.label_code.specs.Machine.{Event}
use Rattle.label_code.specs.Shaped.{IsShaped}
use Rattle.label_code.specs.Visible.{visible}
use Rattle.label_code.specs.Run.{run_from}
use Rattle.code_lower.specs.Lowered.{lowered}
use Rattle.cycle_machine.specs.declared.end.RunEnd.{RunEnd}
use Rattle.cycle_machine.specs.Rest.{Told, told_by}
use Rattle.history_bound.specs.Over.{history_made}
use Rattle.history_reports.specs.Reports.{RunsTellAlike}
use Rattle.part_tlb.specs.declared.bank.Hardware.{Hardware}
use Rattle.part_tlb.specs.Machine.{hardware_by_history}
use Rattle.start_file.specs.Starts.{IsFor}
use Rattle.leak_audit.specs.Agreement.{start_of}
use Rattle.leak_classes.specs.declared.fault.WalkFault.{WalkFault}
use Rattle.leak_classes.specs.Classes.{Classes, no_classes, with_start, events_in}
use Rattle.leak_classes.specs.Walk.{refusal, AreClasses, IsWalkFault}
use Rattle.leak_classes.proofs.Walked.{unless, walk, classes_walk, fault_walk, walk_classes, walk_fault}
use Rattle.space_starts.specs.Space.{SpaceValue, size_of, start_at, IsSpaceFor}
use Rattle.space_walk.specs.Shown.{shown_at, end_at, one}
use Rattle.space_walk.proofs.Same.{start_long}
use Rattle.tool_stages.specs.declared.envs.Environment.{Environment}
use Rattle.tool_stages.specs.Envs.{hardware_of, told_in}
use Rattle.tool_stages.proofs.EnvLemmas.{named_told}
use Rattle.space_leak.specs.Answer.{shown_in, end_in}

-- walks of runs that show and end alike are alike
alike : (seen seen' : ℕ → List Event) (end end' : ℕ → RunEnd) (k : Classes) (n c : ℕ)
    → ((i : ℕ) → n ≤ i → i < n + c → (seen i ≡ seen' i) × (end i ≡ end' i)) → walk seen end one k n c ≡ walk seen' end' one k n c
alike seen seen' end end' k n zero h = refl
alike seen seen' end end' k n (suc c) h =
    let here = h n (omega arith) (omega arith) in
    let more = alike seen seen' end end' (with_start k n (seen' n) 1) (n + 1) c (λ i l m. h i (omega (arith, l)) (omega (arith, m))) in
    ap (λ z. unless (refusal z n (events_in (with_start k n (seen n) 1).seen)) (walk seen end one (with_start k n (seen n) 1) (n + 1) c)) here.1
    ∙ ap (λ z. unless (refusal (end' n) n (events_in (with_start k n z 1).seen)) (walk seen end one (with_start k n z 1) (n + 1) c)) here.0
    ∙ ap (λ z. unless (refusal (end' n) n (events_in (with_start k n (seen' n) 1).seen)) z) more

module _ {E : Type 0} (v : Env E) (made : Order → List Touch → E) (e : Environment) (hw : Hardware) (is : hardware_of e ≡ hw) (q : LabelledProgram)
    (o t : ℕ) (s : SpaceValue) (fits : IsSpaceFor q.program s) (shaped : IsShaped (lowered q))
    (told : RunsTellAlike v made (hardware_by_history hw) history_made) where
  start_fits : (n : ℕ) → n < size_of s → IsFor q.program (start_at s n)
  start_fits n lt = record { memory = start_long s n lt ∙ fits.memory; touches = fits.touches }

  told_at : (n : ℕ) → n < size_of s
      → told_by (run_from v (lowered q).instrs t (start_of made q.program.order (start_at s n))) ≡ told_in e q.program.order (lowered q) (start_at s n) t
  told_at n lt = named_told v made e hw is q (lowered q) shaped told refl (start_at s n) (start_fits n lt) t

  walks_alike : walk (shown_at v made q o t s) (end_at v made q t s) one no_classes 0 (size_of s)
      ≡ walk (shown_in e t q o s) (end_in e t q s) one no_classes 0 (size_of s)
  walks_alike =
      alike (shown_at v made q o t s) (shown_in e t q o s) (end_at v made q t s) (end_in e t q s) no_classes 0 (size_of s)
      (λ i l m.
      let same = told_at i (omega (arith, m)) in
      (ap (λ (z : Told). visible (order_of q) (labels_of q) o z.events) same, ap (λ (z : Told). z.end) same))

  pub classes_alike : (k : Classes) → AreClasses (shown_at v made q o t s) (end_at v made q t s) one 0 (size_of s) k
      → AreClasses (shown_in e t q o s) (end_in e t q s) one 0 (size_of s) k
  classes_alike k h =
      walk_classes (shown_in e t q o s) (end_in e t q s) one 0 (size_of s) k
      (sym walks_alike ∙ classes_walk (shown_at v made q o t s) (end_at v made q t s) one 0 (size_of s) k h)

  pub faults_alike : (f : WalkFault) → IsWalkFault (shown_at v made q o t s) (end_at v made q t s) one 0 (size_of s) f
      → IsWalkFault (shown_in e t q o s) (end_in e t q s) one 0 (size_of s) f
  faults_alike f h =
      walk_fault (shown_in e t q o s) (end_in e t q s) one 0 (size_of s) f
      (sym walks_alike ∙ fault_walk (shown_at v made q o t s) (end_at v made q t s) one 0 (size_of s) f h)
