-- A timeline that is printed while its run goes on.
use Rattle.std.proofs.Common.{◌≡◌, ℕ, ◌+◌, ◌<◌, ◌≤◌, List, [], ◌∷◌, ◌++◌, sym, ap, ◌∙◌, subst, append_assoc, append-nil, arith, inl, inr}
use Rattle.std.proofs.lemmas.List.Concat.{flat_map-append}
use Rattle.std.specs.Prelude.{Option, true}
use Rattle.std.specs.Io.KnownBytes.{Appends}
use Rattle.std.proofs.KnownBytes.{Appends-nil, Appends-trans}
use Rattle.tim_base.specs.Sinks.{AppendsPrefix}
use Rattle.label_lattice.specs.declared.label.Label.{Label}
use Rattle.mit_syntax.specs.Program.{plan_of}
use Rattle.timing_types.specs.Labelled.{LabelledProgram}
use Rattle.env_contract.specs.Env.{Env}
use Rattle.label_code.specs.declared.code.Instr.{Instr}
use Rattle.label_code.specs.Machine.{Machine, step, steps, start}
use Rattle.label_code.specs.Run.{Start}
use Rattle.label_code.proofs.Leads.{steps-add}
use Rattle.label_code.proofs.Ticks.{covers}
use Rattle.cycle_machine.specs.declared.state.State.{State}
use Rattle.cycle_machine.specs.Seen.{seen, with_log}
use Rattle.cycle_machine.specs.declared.end.RunEnd.{RunEnd}
use Rattle.cycle_machine.specs.declared.end.RunEnd.TheVariants.{Halted, Limit}
use Rattle.cycle_machine.specs.Rest.{told_by}
use Rattle.event_print.specs.Text.{last_line}
use Rattle.run_timeline.specs.declared.moment.Moment.{Moment}
use Rattle.run_timeline.specs.declared.moment.Moment.TheVariants.{Assigned, Begins, Ends}
use Rattle.run_timeline.specs.declared.moment.Step.TheVariants.{Stopped}
use Rattle.label_lattice.specs.Order.{Order}
use Rattle.run_timeline.specs.declared.tally.Tally.{Tally}
use Rattle.run_timeline.specs.Steps.{IsMomentBelow, Stepped}
use Rattle.label_code.specs.Shaped.{Code, IsShaped}
use Rattle.cycle_machine.proofs.Wrote.{wrote_below}
use Rattle.run_timeline.specs.Places.{places}
use Rattle.run_timeline.specs.Timeline.{told, moments, event_of, IsTimeline}
use Rattle.run_timeline.specs.Text.{moment_text, moments_text}
use Rattle.event_print.proofs.Printed.{prefix_then}
use Rattle.run_timeline.specs.Summary.{AreTallies}
use Rattle.run_timeline.specs.Tallied.{noted_moment, HaveRoom, Grown}
use Rattle.run_timeline.specs.Printed.{Printed, PrintedPart, end_of_run}
use Rattle.run_timeline.proofs.Follow.{Followed, follow_first, follow, late_is, halted_is}
use Rattle.run_timeline.proofs.Told.{moments_add}
use Rattle.run_timeline.proofs.Tallying.{tallied_more, grown_more, grown_quiet, grown_first}

-- an assignment of a step of shaped code is to one of its variables
pub moment_below : {E : Type 0} (v : Env E) (c : Code) (s s' : State E) (m : Moment) → IsShaped c
    → step v c.instrs (seen s) ≡ with_log (event_of m ∷ []) (seen s') → IsMomentBelow c.variables m
moment_below v c s s' (Assigned x n t) shape e = wrote_below v c s (seen s') x n t shape e
moment_below v c s s' (Begins k n d m t) shape e = tt
moment_below v c s s' (Ends k w d m n t) shape e = tt

-- the lines of these moments are written, and their mitigations are in the tallies
pub record Printing {E : Type 0} (v : Env E) (code : List Instr) (limit : ℕ) (from : Start E) (p : LabelledProgram) (o : Option Label) (s : State E)
    (taken taken' : Option (List ℕ)) (old now : List Tally) : Type 0 where
  pub moments : List Moment
  pub followed : Followed v code limit from moments s
  pub written : Appends taken taken' (moments_text p (places (plan_of p.program)) o moments)
  pub tallied : (before : List Moment) → AreTallies before old → AreTallies (before ++ moments) now
  pub grown : Grown s.clock old now

module _ {E : Type 0} (v : Env E) (code : List Instr) (limit : ℕ) (from : Start E) (p : LabelledProgram) (o : Option Label) where
  abbrev lines : List Moment → List ℕ
  lines ms = moments_text p (places (plan_of p.program)) o ms

  lines-append : (ms ns : List Moment) → lines (ms ++ ns) ≡ lines ms ++ lines ns
  lines-append ms ns = flat_map-append (moment_text p (places (plan_of p.program)) o) ms ns

  one_line : (m : Moment) → lines (m ∷ []) ≡ moment_text p (places (plan_of p.program)) o m
  one_line m = append-nil (moment_text p (places (plan_of p.program)) o m)

  pub first_printing : (s : State E) (taken : Option (List ℕ)) (ts : List Tally) → seen s ≡ start from.memory from.env → HaveRoom limit ts
      → Printing v code limit from p o s taken taken ts ts
  first_printing s taken ts e room = record {
    moments = [];
    followed = follow_first v code limit from s e;
    written = Appends-nil taken;
    tallied = λ before h. subst (λ z. AreTallies z ts) (sym (append-nil before)) h;
    grown = grown_first limit s.clock ts room;
  }

  pub quiet_printing : (s s' : State E) (a b : Option (List ℕ)) (old now : List Tally) → Printing v code limit from p o s a b old now
      → step v code (seen s) ≡ seen s' → told v code (seen s) ≡ [] →
      s'.clock ≤ limit → s.clock < s'.clock → Printing v code limit from p o s' a b old now
  quiet_printing s s' a b old now r e t w l = record {
    moments = r.moments;
    followed = subst (λ ms. Followed v code limit from ms s') (append-nil r.moments) (follow v code limit from r.moments [] s s' r.followed e t w);
    written = r.written;
    tallied = r.tallied;
    grown = grown_quiet s.clock s'.clock old now (omega (arith, l)) r.grown;
  }

  pub told_followed : (s s' : State E) (m : Moment) (ms : List Moment) → Followed v code limit from ms s
      → step v code (seen s) ≡ with_log (event_of m ∷ []) (seen s') → told v code (seen s) ≡ m ∷ [] →
      s'.clock ≤ limit → Followed v code limit from (ms ++ m ∷ []) s'
  told_followed s s' m ms r e t w = follow v code limit from ms (m ∷ []) s s' r e t w

  pub told_printing : (s s' : State E) (m : Moment) (a b c : Option (List ℕ)) (old now now' : List Tally) → Printing v code limit from p o s a b old now
      → step v code (seen s) ≡ with_log (event_of m ∷ []) (seen s') →
      told v code (seen s) ≡ m ∷ [] → s'.clock ≤ limit → s.clock < s'.clock → now' ≡ noted_moment now m
      → Appends b c (moment_text p (places (plan_of p.program)) o m) →
      Printing v code limit from p o s' a c old now'
  told_printing s s' m a b c old now now' r e t w l n q = record {
    moments = r.moments ++ m ∷ [];
    followed = told_followed s s' m r.moments r.followed e t w;
    written = subst (Appends a c) (ap (λ z. lines r.moments ++ z) (sym (one_line m)) ∙ sym (lines-append r.moments (m ∷ [])))
        (Appends-trans a b c _ _ r.written q);
    tallied = λ before h. subst (AreTallies (before ++ (r.moments ++ m ∷ []))) (sym n)
        (subst (λ z. AreTallies z (noted_moment now m)) (append_assoc before r.moments (m ∷ []))
        (tallied_more (before ++ r.moments) now m (r.tallied before h)));
    grown = subst (Grown s'.clock old) (sym n) (grown_more s.clock s'.clock old now m l r.grown);
  }

  -- what is told so far begins the timeline
  completes : (ms : List Moment) (s : State E) → Followed v code limit from ms s → (more : List Moment) × IsTimeline v code limit from (ms ++ more)
  completes ms s r =
      let x : Machine E = start from.memory from.env in
      let clock : (steps v code r.count x).core.clock ≤ limit =
      elim (r.within) [ inl z ↦ first_clock z | inr l ↦ subst (λ m. m.core.clock ≤ limit) (sym r.ends) l ] in
      let c = covers v code r.count limit limit x tt clock (omega arith) in (
        moments v code c.0 (steps v code r.count x),
        record {
          count = r.count + c.0;
          ends = steps-add v code r.count c.0 x ∙ sym c.1;
          tells = ap (λ z. z ++ moments v code c.0 (steps v code r.count x)) r.tells ∙ sym (moments_add v code r.count c.0 x);
        },
      )
    where
      first_clock : r.count ≡ 0 → (steps v code r.count (start from.memory from.env)).core.clock ≤ limit
      first_clock z = subst (λ k. (steps v code k (start from.memory from.env)).core.clock ≤ limit) (sym z) (omega arith)

  -- where the sink fails in the line of a moment
  pub part_printed : (s s' : State E) (m : Moment) (a b c : Option (List ℕ)) (old now : List Tally) → Printing v code limit from p o s a b old now
      → step v code (seen s) ≡ with_log (event_of m ∷ []) (seen s') →
      told v code (seen s) ≡ m ∷ [] → s'.clock ≤ limit → AppendsPrefix b c (moment_text p (places (plan_of p.program)) o m)
      → PrintedPart v code limit from p o a c
  part_printed s s' m a b c old now r e t w q =
      let more = completes (r.moments ++ m ∷ []) s' (told_followed s s' m r.moments r.followed e t w) in
      let end : List ℕ = last_line (end_of_run v code limit from) in
      record {
        moments = (r.moments ++ m ∷ []) ++ more.0;
        timeline = more.1;
        written =
            prefix_then a b c (lines r.moments) (moment_text p (places (plan_of p.program)) o m) (lines more.0 ++ end) _ r.written q
            (ap (λ z. lines r.moments ++ z) (sym (append_assoc (moment_text p (places (plan_of p.program)) o m) (lines more.0) end))
            ∙ (sym (append_assoc (lines r.moments) (moment_text p (places (plan_of p.program)) o m ++ lines more.0) end)
            ∙ ap (λ z. z ++ end)
            (sym (append_assoc (lines r.moments) (moment_text p (places (plan_of p.program)) o m) (lines more.0))
            ∙ (ap (λ z. (lines r.moments ++ z) ++ lines more.0) (sym (one_line m))
            ∙ (ap (λ z. z ++ lines more.0) (sym (lines-append r.moments (m ∷ [])))
            ∙ sym (lines-append (r.moments ++ m ∷ []) more.0))))));
      }

  -- where the run ends
  pub end_printed : (s : State E) (end : RunEnd) (a b c : Option (List ℕ)) (old now : List Tally) (r : Printing v code limit from p o s a b old now)
      → IsTimeline v code limit from r.moments → end ≡ end_of_run v code limit from →
      Appends b c (last_line end) → Printed v code limit from p o a c old now
  end_printed s end a b c old now r t e q = record {
    moments = r.moments;
    timeline = t;
    written = subst (Appends a c) (ap (λ z. lines r.moments ++ last_line z) e) (Appends-trans a b c _ _ r.written q);
    tallied = r.tallied;
  }

  pub end_part : (s : State E) (end : RunEnd) (a b c : Option (List ℕ)) (old now : List Tally) (r : Printing v code limit from p o s a b old now)
      → IsTimeline v code limit from r.moments → end ≡ end_of_run v code limit from →
      AppendsPrefix b c (last_line end) → PrintedPart v code limit from p o a c
  end_part s end a b c old now r t e q = record {
    moments = r.moments;
    timeline = t;
    written = prefix_then a b c (lines r.moments) (last_line end) [] _ r.written q (ap (λ z. lines r.moments ++ z) (append-nil (last_line end))
        ∙ ap (λ z. lines r.moments ++ last_line z) e);
  }

  pub late_end : (s : State E) (n : ℕ) (ms : List Moment) → Followed v code limit from ms s → limit < (step v code (seen s)).core.clock → n ≡ s.clock →
      (Limit n ≡ end_of_run v code limit from) × IsTimeline v code limit from ms
  late_end s n ms r late e = let l = late_is v code limit from ms s r late in (ap (λ z. Limit z) e ∙ sym (ap (λ m. (told_by m).end) l.0), l.1)

  pub halted_end : (s s' : State E) (n : ℕ) (ms : List Moment) → Followed v code limit from ms s → step v code (seen s) ≡ record (seen s') { halted = true }
      → told v code (seen s) ≡ [] → s'.clock ≤ limit → s.clock < s'.clock → n ≡ s'.clock →
      (Halted n ≡ end_of_run v code limit from) × IsTimeline v code limit from ms
  halted_end s s' n ms r e t w l q = let h = halted_is v code limit from ms s s' r e t w l in (ap (λ z. Halted z) q ∙ sym (ap (λ m. (told_by m).end) h.0), h.1)

module _ {E : Type 0} (v : Env E) (serves : Order → E → Type 0) (c : Code) (limit : ℕ) (from : Start E) (p : LabelledProgram) (o : Option Label) where
  -- where a step stops, the run is there
  pub stopped_end : (s s' : State E) (end : RunEnd) (ms : List Moment) → Followed v c.instrs limit from ms s → Stepped v serves c s limit (Stopped end) s'
      → (end ≡ end_of_run v c.instrs limit from) × IsTimeline v c.instrs limit from ms
  stopped_end s s' (Halted n) ms r t = halted_end v c.instrs limit from p o s s' n ms r t.0 t.4 t.1 t.2 t.3
  stopped_end s s' (Limit n) ms r t = late_end v c.instrs limit from p o s n ms r t.0 t.1
