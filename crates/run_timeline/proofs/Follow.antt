-- Where a run stands, with what it has told so far.
use Rattle.std.proofs.Common.{◌≡◌, ℕ, suc, ◌+◌, ◌<◌, ◌≤◌, ◌⊎◌, inl, inr, List, [], ◌++◌, refl, sym, ap, ◌∙◌, append-nil, arith}
use Rattle.std.specs.Prelude.{true, map}
use Rattle.std.proofs.lemmas.List.{map-append}
use Rattle.std.proofs.lemmas.List.Elements.{All-nil}
use Rattle.env_contract.specs.Env.{Env}
use Rattle.label_code.specs.declared.code.Instr.{Instr}
use Rattle.label_code.specs.Machine.{Event, Machine, step, steps, start}
use Rattle.label_code.specs.Run.{Start, run_from}
use Rattle.cycle_machine.specs.declared.state.State.{State}
use Rattle.cycle_machine.specs.Seen.{seen, with_log}
use Rattle.cycle_machine.specs.Turned.{IsHidden, Quiet, Comes}
use Rattle.cycle_machine.specs.Reached.{Reached}
use Rattle.cycle_machine.proofs.Quiet.{steps_last}
use Rattle.cycle_machine.proofs.Past.{past, step_past}
use Rattle.cycle_machine.proofs.Turns.{limit_is, halt_is}
use Rattle.run_timeline.specs.declared.moment.Moment.{Moment}
use Rattle.run_timeline.specs.Timeline.{told, moments, event_of, IsTimeline}
use Rattle.run_timeline.proofs.Told.{told_past, moments_last}

-- so many steps from a start, the last within the limit, lead to the state and tell these moments
pub record Followed {E : Type 0} (v : Env E) (code : List Instr) (limit : ℕ) (from : Start E) (ms : List Moment) (s : State E) : Type 0 where
  pub count : ℕ
  pub ends : steps v code count (start from.memory from.env) ≡ with_log (map event_of ms) (seen s)
  pub within : (count ≡ 0) ⊎ (s.clock ≤ limit)
  pub tells : ms ≡ moments v code count (start from.memory from.env)

none_after : {E : Type 0} (l : List Event) (x : Machine E) → with_log (l ++ []) x ≡ with_log l x
none_after l x = ap (λ z. with_log z x) (append-nil l)

module _ {E : Type 0} (v : Env E) (code : List Instr) (limit : ℕ) (from : Start E) where
  pub follow_first : (s : State E) → seen s ≡ start from.memory from.env → Followed v code limit from [] s
  follow_first s e = record { count = 0; ends = sym e; within = inl refl; tells = refl }

  -- one step more
  ends_next : (ms : List Moment) (old : State E) (y : Machine E) (r : Followed v code limit from ms old) → step v code (seen old) ≡ y →
      steps v code (suc r.count) (start from.memory from.env) ≡ past (map event_of ms) y
  ends_next ms old y r e =
      steps_last v code r.count (start from.memory from.env)
      ∙ (ap (step v code) (r.ends ∙ sym (none_after (map event_of ms) (seen old)))
      ∙ (step_past v code (map event_of ms) (seen old) ∙ ap (past (map event_of ms)) e))

  tells_next : (ms more : List Moment) (old : State E) (r : Followed v code limit from ms old) → told v code (seen old) ≡ more →
      ms ++ more ≡ moments v code (suc r.count) (start from.memory from.env)
  tells_next ms more old r e =
      let x : Machine E = start from.memory from.env in
      let last : told v code (steps v code r.count x) ≡ more =
      ap (told v code) (r.ends ∙ sym (none_after (map event_of ms) (seen old))) ∙ (told_past v code (map event_of ms) (seen old) ∙ e) in
      ap (λ z. z ++ more) r.tells ∙ (ap (λ z. moments v code r.count x ++ z) (sym last) ∙ sym (moments_last v code r.count x))

  pub follow : (ms more : List Moment) (old new : State E) → Followed v code limit from ms old
      → step v code (seen old) ≡ with_log (map event_of more) (seen new) →
      told v code (seen old) ≡ more → new.clock ≤ limit → Followed v code limit from (ms ++ more) new
  follow ms more old new r e t w =
      record {
        count = suc r.count;
        ends = ends_next ms old (with_log (map event_of more) (seen new)) r e ∙ ap (λ z. with_log z (seen new)) (sym (map-append event_of ms more));
        within = inr w;
        tells = tells_next ms more old r t;
      }

  reached : (ms : List Moment) (s : State E) → Followed v code limit from ms s → Reached v code limit (start from.memory from.env) (map event_of ms) s
  reached ms s r = record { count = r.count; ends = r.ends; within = r.within }

  -- where the next step ends after the limit, the run is there
  pub late_is : (ms : List Moment) (s : State E) → Followed v code limit from ms s → limit < (step v code (seen s)).core.clock →
      (run_from v code limit from ≡ with_log (map event_of ms) (seen s)) × IsTimeline v code limit from ms
  late_is ms s r late =
      let run : run_from v code limit from ≡ with_log (map event_of ms) (seen s) =
      limit_is v code limit from.memory from.env (map event_of ms) s (reached ms s r) late in
      (run, record { count = r.count; ends = r.ends ∙ sym run; tells = r.tells })

  -- and after HALT
  pub halted_is : (ms : List Moment) (old new : State E) → Followed v code limit from ms old → step v code (seen old) ≡ record (seen new) { halted = true } →
      told v code (seen old) ≡ [] → new.clock ≤ limit → old.clock < new.clock →
      (run_from v code limit from ≡ record (with_log (map event_of ms) (seen new)) { halted = true }) × IsTimeline v code limit from ms
  halted_is ms old new r e t w l =
      let y : Machine E = record (seen new) { halted = true } in
      let empty : with_log (map event_of ms ++ []) y ≡ with_log (map event_of ms) y = none_after (map event_of ms) y in
      let quiet : Quiet v code [] limit old old =
      record { count = 0; hidden = []; unseen = All-nil (IsHidden []); ends = refl; within = inl refl; later = omega arith } in
      let comes : Comes v code [] limit old new y = record { mid = old; quiet = quiet; next = e; within = w; later = l } in
      let run : run_from v code limit from ≡ record (with_log (map event_of ms) (seen new)) { halted = true } =
      halt_is v code [] limit from.memory from.env (map event_of ms) old new (reached ms old r) comes ∙ empty in
      let ends : steps v code (suc r.count) (start from.memory from.env) ≡ record (with_log (map event_of ms) (seen new)) { halted = true } =
      ends_next ms old y r e ∙ empty in
      (run, record { count = suc r.count; ends = ends ∙ sym run; tells = sym (append-nil ms) ∙ tells_next ms [] old r t })
