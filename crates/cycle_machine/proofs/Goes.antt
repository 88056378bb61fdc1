-- What one turn does to the rest of a run.
use Rattle.std.proofs.Common.{◌≡◌, ℕ, suc, ◌<◌, ◌≤◌, List, [], ◌∷◌, ◌++◌, refl, sym, ap, ◌∙◌, subst, inl, inr, arith, Bool, true, false}
use Rattle.std.specs.Prelude.{Option, Some, None, IfSome, All}
use Rattle.std.proofs.lemmas.List.Elements.{All-nil, All-head}
use Rattle.env_contract.specs.Env.{Env}
use Rattle.label_code.specs.declared.code.Instr.{Instr}
use Rattle.label_code.specs.Machine.{Event, Wrote, Began, Ended, Machine, step, steps, run_to}
use Rattle.label_code.specs.Shaped.{Code, IsShaped}
use Rattle.cycle_machine.specs.declared.state.State.{State}
use Rattle.cycle_machine.specs.declared.turn.Turn.{Turn}
use Rattle.cycle_machine.specs.declared.turn.Turn.TheVariants.{Event as AnEvent, Began as HasBegun, Ended as HasEnded, Halted as DidHalt, Limit as DidLimit}
use Rattle.cycle_machine.specs.Seen.{seen, with_log}
use Rattle.cycle_machine.specs.Turned.{Loaded, is_shown_in, IsHidden, Quiet, Comes, Turned, stops, IsStop, by_stopped, CallWent}
use Rattle.cycle_machine.specs.Reached.{Reached}
use Rattle.cycle_machine.proofs.Past.{past, step_past, none_after}
use Rattle.cycle_machine.proofs.Quiet.{one_more}
use Rattle.cycle_machine.proofs.Turns.{go_on}
use Rattle.cycle_machine.specs.declared.end.RunEnd.{RunEnd}
use Rattle.cycle_machine.specs.declared.end.RunEnd.TheVariants.{Halted, Limit}
use Rattle.cycle_machine.specs.Rest.{Told}
use Rattle.cycle_machine.specs.Rest.{told_by, end_of_turn, events_of, stopped_at, rest_from, rest_of, IsTurnBelow}
use Rattle.cycle_machine.proofs.Runs.{halted_stays, late_stays, run_later, run_past}
use Rattle.cycle_machine.proofs.Wrote.{wrote_below}

abbrev pub after_events : List Event → Told → Told
after_events es t = record { events = es ++ t.events; end = t.end }

-- a turn with an event: the rest of the run is what is not shown, its event, and then the new rest
pub record Next {E : Type 0} (v : Env E) (shown : List Bool) (limit : ℕ) (old new : Loaded E) (turn : Turn) : Type 0 where
  pub code : new.code ≡ old.code
  pub was : old.stopped ≡ None
  pub is : new.stopped ≡ None
  pub hidden : List Event
  pub unseen : All (IsHidden shown) hidden
  pub rest : rest_of v limit old ≡ after_events (hidden ++ events_of turn) (rest_of v limit new)
  pub later : old.state.clock < new.state.clock
  pub within : new.state.clock ≤ limit
  pub reaches : (from : Machine E) (events : List Event) → Reached v old.code.instrs limit from events old.state
      → Reached v old.code.instrs limit from (events ++ (hidden ++ events_of turn)) new.state

-- a turn that tells the end: there are no more events but those that are not shown
pub record Last {E : Type 0} (v : Env E) (shown : List Bool) (limit : ℕ) (old new : Loaded E) (turn : Turn) (end : RunEnd) : Type 0 where
  pub code : new.code ≡ old.code
  pub is : new.stopped ≡ Some turn
  pub hidden : List Event
  pub unseen : All (IsHidden shown) hidden
  pub rest : rest_of v limit old ≡ record { events = hidden; end = end }

-- where all assignments are shown, nothing is hidden
pub none_hidden : (es : List Event) → All (IsHidden []) es → es ≡ []
none_hidden [] h = refl
none_hidden (Wrote x n t ∷ es) h = let e : true ≡ false = All-head (IsHidden []) (Wrote x n t) es h in absurd cc
none_hidden (Began k t ∷ es) h = absurd (All-head (IsHidden []) (Began k t) es h)
none_hidden (Ended k t ∷ es) h = absurd (All-head (IsHidden []) (Ended k t) es h)

-- the assignment of a turn is shown
abbrev pub IsShownTurn : List Bool → Turn → Type 0
IsShownTurn shown (AnEvent x n t) = is_shown_in shown x ≡ true
IsShownTurn shown (HasBegun k t) = Unit {0}
IsShownTurn shown (HasEnded k t) = Unit {0}
IsShownTurn shown (DidHalt t) = Unit {0}
IsShownTurn shown (DidLimit t) = Unit {0}

module _ {E : Type 0} (v : Env E) (shown : List Bool) (limit : ℕ) where
  comes : (code : List Instr) (old new : State E) (m : Machine E) (c : Comes v code shown limit old new m) → m.core.clock ≡ new.clock →
      run_to v code limit (seen old) ≡ run_to v code limit (past c.quiet.hidden m)
  comes code old new m c e =
      let k : ℕ = suc c.quiet.count in
      let all : steps v code k (seen old) ≡ past c.quiet.hidden m = one_more v code shown limit old c.mid m c.quiet c.next in
      let within = c.within in
      let by : (steps v code k (seen old)).core.clock ≤ limit = omega (arith, ap (λ z. z.core.clock) all, e, within) in
      run_later v code limit k (seen old) by ∙ ap (run_to v code limit) all

  one_event : (code : List Instr) (old new : State E) (e : Event) (c : Comes v code shown limit old new (with_log (e ∷ []) (seen new))) →
      told_by (run_to v code limit (seen old)) ≡ after_events (c.quiet.hidden ++ e ∷ []) (told_by (run_to v code limit (seen new)))
  one_event code old new e c =
      ap told_by
      (comes code old new (with_log (e ∷ []) (seen new)) c refl
      ∙ (ap (run_to v code limit) (sym (none_after (c.quiet.hidden ++ e ∷ []) (seen new)))
      ∙ run_past v code limit limit (c.quiet.hidden ++ e ∷ []) (seen new)))

  halts : (code : List Instr) (old new : State E) (c : Comes v code shown limit old new (record (seen new) { halted = true })) →
      told_by (run_to v code limit (seen old)) ≡ record { events = c.quiet.hidden; end = Halted new.clock }
  halts code old new c =
      let y : Machine E = record (seen new) { halted = true } in
      ap told_by
      (comes code old new y c refl
      ∙ (halted_stays v code limit limit (past c.quiet.hidden y) refl ∙ none_after c.quiet.hidden y))

  ends_late : (code : List Instr) (old mid : State E) (q : Quiet v code shown limit old mid) → limit < (step v code (seen mid)).core.clock →
      told_by (run_to v code limit (seen old)) ≡ record { events = q.hidden; end = Limit mid.clock }
  ends_late code old mid q late = ap told_by (run_is ∙ late_stays v code limit limit (with_log q.hidden (seen mid)) after)
    where
      after : limit < (step v code (with_log q.hidden (seen mid))).core.clock
      after = subst (λ m. limit < m.core.clock) (sym (step_past v code q.hidden (seen mid)) ∙ ap (step v code) (none_after q.hidden (seen mid))) late

      run_is : run_to v code limit (seen old) ≡ run_to v code limit (with_log q.hidden (seen mid))
      run_is = elim q.within [
        | inl z ↦ ap (run_to v code limit) (ap (λ k. steps v code k (seen old)) (sym z) ∙ q.ends)
        | inr by ↦
            run_later v code limit q.count (seen old) (subst (λ m. m.core.clock ≤ limit) (sym q.ends) by)
            ∙ ap (run_to v code limit) q.ends
      ]

  same_rest : (code code' : Code) (s : State E) (o : Option Turn) → code' ≡ code → o ≡ None
      → rest_from v limit code'.instrs s o ≡ told_by (run_to v code.instrs limit (seen s))
  same_rest code code' s o e f = ap (λ c. rest_from v limit c.instrs s o) e ∙ ap (rest_from v limit code.instrs s) f

  pub next_turn : (old new : Loaded E) (turn : Turn) → IfSome old.stopped IsStop → CallWent v shown limit old turn new → end_of_turn turn ≡ None
      → Next v shown limit old new turn
  next_turn old new turn is_stop went none = by_turn turn none (open_turn turn old.stopped refl is_stop went none)
    where
      open_turn : (t : Turn) (s : Option Turn) → old.stopped ≡ s → IfSome s IsStop → by_stopped v shown limit old t new s → end_of_turn t ≡ None →
          (old.stopped ≡ None) × Turned v old.code shown old.state limit t new.state × (new.stopped ≡ stops t) × (new.code ≡ old.code)
      open_turn t None e i w n = (e, w.0, w.1, w.2)
      open_turn t (Some (AnEvent x k c)) e i w n = absurd cc
      open_turn t (Some (HasBegun k c)) e i w n = absurd cc
      open_turn t (Some (HasEnded k c)) e i w n = absurd cc
      open_turn t (Some (DidHalt c)) e i w n = let same : t ≡ DidHalt c = w.0 in let no : Some (Halted c) ≡ None = ap end_of_turn (sym same) ∙ n in absurd cc
      open_turn t (Some (DidLimit c)) e i w n = let same : t ≡ DidLimit c = w.0 in let no : Some (Limit c) ≡ None = ap end_of_turn (sym same) ∙ n in absurd cc

      one : (t : Turn) (e : Event) → events_of t ≡ e ∷ [] → old.stopped ≡ None → new.stopped ≡ None → new.code ≡ old.code →
          Comes v old.code.instrs shown limit old.state new.state (with_log (e ∷ []) (seen new.state)) → Next v shown limit old new t
      one t e told was is code c =
          let later = c.later in
          let within = c.within in
          let quiet = c.quiet.later in
          record {
            code = code;
            was = was;
            is = is;
            hidden = c.quiet.hidden;
            unseen = c.quiet.unseen;
            rest =
                same_rest old.code old.code old.state old.stopped refl was
                ∙ one_event old.code.instrs old.state new.state e c
                ∙ ap (λ z. after_events (c.quiet.hidden ++ z) (told_by (run_to v old.code.instrs limit (seen new.state)))) (sym told)
                ∙ ap (after_events (c.quiet.hidden ++ events_of t)) (sym (same_rest old.code new.code new.state new.stopped code is));
            later = omega (arith, later, quiet);
            within = within;
            reaches = λ from events r. subst (λ z. Reached v old.code.instrs limit from (events ++ (c.quiet.hidden ++ z)) new.state) (sym told)
                (go_on v old.code.instrs shown limit from events old.state new.state e r c);
          }

      by_turn : (t : Turn) → end_of_turn t ≡ None → (old.stopped ≡ None) × Turned v old.code shown old.state limit t new.state × (new.stopped ≡ stops t)
          × (new.code ≡ old.code) → Next v shown limit old new t
      by_turn (AnEvent x k c) n w = one (AnEvent x k c) (Wrote x k c) refl w.0 w.2 w.3 w.1.0
      by_turn (HasBegun k c) n w = one (HasBegun k c) (Began k c) refl w.0 w.2 w.3 w.1.0
      by_turn (HasEnded k c) n w = one (HasEnded k c) (Ended k c) refl w.0 w.2 w.3 w.1.0
      by_turn (DidHalt c) n w = absurd cc
      by_turn (DidLimit c) n w = absurd cc

  pub last_turn : (old new : Loaded E) (turn : Turn) (end : RunEnd) → IfSome old.stopped IsStop → CallWent v shown limit old turn new
      → end_of_turn turn ≡ Some end → Last v shown limit old new turn end
  last_turn old new turn end is_stop went e = by_state old.stopped refl is_stop went
    where
      told_stop : (t : Turn) → end_of_turn t ≡ Some end → stopped_at t ≡ record { events = []; end = end }
      told_stop (AnEvent x k c) q = absurd cc
      told_stop (HasBegun k c) q = absurd cc
      told_stop (HasEnded k c) q = absurd cc
      told_stop (DidHalt c) q = let same : Halted c ≡ end = cc in ap (λ z. let r : Told = record { events = []; end = z } in r) same
      told_stop (DidLimit c) q = let same : Limit c ≡ end = cc in ap (λ z. let r : Told = record { events = []; end = z } in r) same

      with_end : (a : RunEnd) → a ≡ end → (es : List Event) (r : Told) → r ≡ record { events = es; end = a } → r ≡ record { events = es; end = end }
      with_end a q es r s = s ∙ ap (λ z. let k : Told = record { events = es; end = z } in k) q

      running : (t : Turn) → end_of_turn t ≡ Some end → old.stopped ≡ None → Turned v old.code shown old.state limit t new.state → new.stopped ≡ stops t
          → new.code ≡ old.code → Last v shown limit old new t end
      running (AnEvent x k c) q was w is code = absurd cc
      running (HasBegun k c) q was w is code = absurd cc
      running (HasEnded k c) q was w is code = absurd cc
      running (DidHalt c) q was w is code =
          let same : Halted new.state.clock ≡ end = ap (λ z. Halted z) (sym w.1) ∙ cc in
          record {
            code = code;
            is = is;
            hidden = w.0.quiet.hidden;
            unseen = w.0.quiet.unseen;
            rest =
                with_end (Halted new.state.clock) same _ _ (same_rest old.code old.code old.state old.stopped refl was
                ∙ halts old.code.instrs old.state new.state w.0);
          }
      running (DidLimit c) q was w is code =
          let same : Limit w.0.clock ≡ end = ap (λ z. Limit z) (sym w.3) ∙ cc in
          record {
            code = code;
            is = is;
            hidden = w.1.hidden;
            unseen = w.1.unseen;
            rest =
                with_end (Limit w.0.clock) same _ _
                (same_rest old.code old.code old.state old.stopped refl was ∙ ends_late old.code.instrs old.state w.0 w.1 w.2);
          }

      by_state : (s : Option Turn) → old.stopped ≡ s → IfSome s IsStop → by_stopped v shown limit old turn new s → Last v shown limit old new turn end
      by_state None q i w = running turn e q w.0 w.1 w.2
      by_state (Some t) q i w =
          record {
            code = ap (λ m. m.code) w.1;
            is = ap (λ m. m.stopped) w.1 ∙ (q ∙ ap (λ z. Some z) (sym w.0));
            hidden = [];
            unseen = All-nil (IsHidden shown);
            rest = ap (rest_from v limit old.code.instrs old.state) q ∙ (ap stopped_at (sym w.0) ∙ told_stop turn e);
          }

  pub turn_below : (old new : Loaded E) (turn : Turn) → IsShaped old.code → IfSome old.stopped IsStop → CallWent v shown limit old turn new
      → IsTurnBelow old.code.variables turn
  turn_below old new turn shape is_stop went = by_state turn old.stopped is_stop went
    where
      by_state : (t : Turn) (s : Option Turn) → IfSome s IsStop → by_stopped v shown limit old t new s → IsTurnBelow old.code.variables t
      by_state (HasBegun k c) s i w = tt
      by_state (HasEnded k c) s i w = tt
      by_state (DidHalt c) s i w = tt
      by_state (DidLimit c) s i w = tt
      by_state (AnEvent x k c) None i w = wrote_below v old.code w.0.0.mid (seen new.state) x k c shape w.0.0.next
      by_state (AnEvent x k c) (Some t) i w = let same : t ≡ AnEvent x k c = sym w.0 in stuck (subst IsStop same i)
        where
          stuck : None ≡ Some (AnEvent x k c) → x < old.code.variables
          stuck q = absurd cc

  pub turn_shown : (old new : Loaded E) (turn : Turn) → IfSome old.stopped IsStop → CallWent v shown limit old turn new → IsShownTurn shown turn
  turn_shown old new turn is_stop went = by_state turn old.stopped is_stop went
    where
      by_state : (t : Turn) (s : Option Turn) → IfSome s IsStop → by_stopped v shown limit old t new s → IsShownTurn shown t
      by_state (HasBegun k c) s i w = tt
      by_state (HasEnded k c) s i w = tt
      by_state (DidHalt c) s i w = tt
      by_state (DidLimit c) s i w = tt
      by_state (AnEvent x k c) None i w = w.0.2
      by_state (AnEvent x k c) (Some t) i w = let same : t ≡ AnEvent x k c = sym w.0 in stuck (subst IsStop same i)
        where
          stuck : None ≡ Some (AnEvent x k c) → is_shown_in shown x ≡ true
          stuck q = absurd cc
