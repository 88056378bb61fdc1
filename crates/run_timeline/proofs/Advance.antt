-- One step, with what it told.
use Rattle.std.proofs.Common.{◌≡◌, ℕ, [], ◌∷◌, sym, ap, ◌∙◌, Some}
use Rattle.std.specs.Prelude.{map, reverse, slice_get}
use Rattle.label_lattice.specs.Order.{Order}
use Rattle.env_contract.specs.Env.{Env}
use Rattle.label_code.specs.declared.code.Instr.{Instr}
use Rattle.label_code.specs.Machine.{Wrote, Began, Ended, step, fetched, marks_of}
use Rattle.label_code.specs.Shaped.{Code}
use Rattle.cycle_machine.specs.declared.state.State.{State}
use Rattle.cycle_machine.specs.declared.state.Outcome.TheVariants.{Went as DidGo, Wrote as DidWrite, Began as DidBegin, Ended as DidEnd, Halted as DidHalt}
use Rattle.cycle_machine.specs.declared.state.Outcome.TheVariants.{Late}
use Rattle.cycle_machine.specs.Seen.{seen, with_log, core_of, opened_of}
use Rattle.cycle_machine.specs.Took.{Keeps, Stands}
use Rattle.cycle_machine.proofs.Advance.{advance_is}
use Rattle.cycle_machine.specs.declared.end.RunEnd.TheVariants.{Halted, Limit}
use Rattle.run_timeline.specs.declared.moment.Moment.TheVariants.{Assigned, Begins, Ends}
use Rattle.run_timeline.specs.declared.moment.Step.{Step}
use Rattle.run_timeline.specs.declared.moment.Step.TheVariants.{Went, Told, Stopped}
use Rattle.run_timeline.specs.Timeline.{telling, told_at, told}
use Rattle.run_timeline.specs.Steps.{Tells, Stepped}

module _ {E : Type 0} (v : Env E) (serves : Order → E → Type 0) (c : Code) (i : Instr) (old new : State E) (limit : ℕ) where
  told_is : slice_get c.instrs old.place ≡ Some i → (n : ℕ) → (step v c.instrs (seen old)).core.clock ≡ n →
      told v c.instrs (seen old) ≡ telling i.work (reverse old.operands.items) (map opened_of (reverse old.opened.items))
      (fetched v (marks_of i) old.place (core_of old)) n
  told_is e n q = ap (λ o. told_at v o (seen old) (step v c.instrs (seen old)).core.clock) e ∙ ap (told_at v (Some i) (seen old)) q

  pub stepped : (d : Step) → Stands serves c old → slice_get c.instrs old.place ≡ Some i → Tells v old i limit d new → Keeps serves old new
      → Stepped v serves c old limit d new
  stepped Went h e t k =
      let s = advance_is v serves c i old new limit DidGo h e t.took k in
      (s.0, s.1, s.2, s.3, told_is e new.clock (ap (λ m. m.core.clock) s.0) ∙ t.tells)
  stepped (Told (Assigned x n a)) h e t k =
      let s = advance_is v serves c i old new limit (DidWrite x n) h e t.took k in
      (s.0 ∙ ap (λ z. with_log (Wrote x n z ∷ []) (seen new)) (sym t.clock), s.1, s.2, s.3, told_is e new.clock (ap (λ m. m.core.clock) s.0) ∙ t.tells)
  stepped (Told (Begins x n d m a)) h e t k =
      let s = advance_is v serves c i old new limit (DidBegin x) h e t.took k in
      (s.0 ∙ ap (λ z. with_log (Began x z ∷ []) (seen new)) (sym t.clock), s.1, s.2, s.3, told_is e new.clock (ap (λ m. m.core.clock) s.0) ∙ t.tells)
  stepped (Told (Ends x w d m n a)) h e t k =
      let s = advance_is v serves c i old new limit (DidEnd x) h e t.took k in
      (s.0 ∙ ap (λ z. with_log (Ended x z ∷ []) (seen new)) (sym t.clock), s.1, s.2, s.3, told_is e new.clock (ap (λ m. m.core.clock) s.0) ∙ t.tells)
  stepped (Stopped (Halted a)) h e t k =
      let s = advance_is v serves c i old new limit DidHalt h e t.took k in
      (s.0, s.1, s.2, t.clock, told_is e new.clock (ap (λ m. m.core.clock) s.0) ∙ t.tells)
  stepped (Stopped (Limit a)) h e t k =
      let s = advance_is v serves c i old new limit Late h e t.took k in
      (s.0, t.clock ∙ s.1)
