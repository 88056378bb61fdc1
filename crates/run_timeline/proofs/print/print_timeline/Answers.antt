use Rattle.std.proofs.Common.{◌≡◌, ◌≤◌, refl, sym, ap, ◌∙◌, subst, arith}
use Rattle.std.specs.Prelude.{ℕ, Result, Ok, Err, OnErr}
use Rattle.std.specs.Io.KnownBytes.{Appends}
use Rattle.tim_base.specs.Sinks.{AppendsPrefix}
use Rattle.mit_syntax.specs.Program.{plan_of}
use Rattle.env_contract.specs.Env.{Env}
use Rattle.label_code.specs.Run.{Start}
use Rattle.event_print.specs.Text.{last_line}
use Rattle.run_timeline.specs.Places.{places}
use Rattle.run_timeline.specs.Steps.{IsMomentBelow}
use Rattle.run_timeline.specs.Tallied.{Grown}
use Rattle.run_timeline.specs.Text.{moment_text}
use Rattle.run_timeline.proofs.Printing.{moment_below, first_printing, quiet_printing, told_printing, part_printed, end_printed, end_part, stopped_end}
use Rattle.run_timeline.proofs.Tallying.{grown_more, grown_quiet}
use Rattle.run_timeline.proofs.print.print_timeline.Goals as goal

on_err : {T E : Type 0} (r : Result T E) (P : Type 0) → P → OnErr r P
on_err (Ok x) P h = tt
on_err (Err e) P h = h

up_to : (a b c : ℕ) → a ≤ b → b ≤ c → a ≤ c
up_to a b c p q = omega arith

pub run-init : goal.run-init
run-init g c =
    let v : Env g.row.E.Denot = g.E.MachineEnv.env in
    let from : Start g.row.E.Denot = record { memory = c.args.state.memory.items; env = c.args.state.env } in
    let code = c.args.image.now.instrs in
    let q = c.args.p.now in
    record {
      printing = first_printing v code c.args.limit from q c.args.observer c.args.state (g.W.Sink.taken c.args.out.now) c.args.listing.now.tallies.items
          c.requires.start c.requires.room;
      stands = c.requires.stands;
      places = refl;
      later = omega arith;
    }

pub run-preserved-in-Went : goal.run-preserved-in-Went
run-preserved-in-Went g c =
    let v : Env g.row.E.Denot = g.E.MachineEnv.env in
    let from : Start g.row.E.Denot = record { memory = c.args.state.memory.items; env = c.args.state.env } in
    let code = c.args.image.now.instrs in
    let q = c.args.p.now in
    let e = c.in-Went.ensures in
    record {
      printing = quiet_printing v code c.args.limit from q c.args.observer c.run.state c.step.new.state _ _ _ _ c.run.invariant.printing e.0 e.4 e.1 e.2;
      stands = e.3;
      places = c.run.invariant.places;
      later = c.run.invariant.later;
    }

pub write_moment-requires-clause-below : goal.write_moment-requires-clause-below
write_moment-requires-clause-below g c =
    let v : Env g.row.E.Denot = g.E.MachineEnv.env in
    let from : Start g.row.E.Denot = record { memory = c.args.state.memory.items; env = c.args.state.env } in
    let code = c.args.image.now.instrs in
    let q = c.args.p.now in
    subst (λ n. IsMomentBelow n c.in-Told.moment) c.requires.variables
    (moment_below v c.args.image.now c.run.state c.step.new.state c.in-Told.moment c.laws.ensures.shaped c.in-Told.ensures.0)

pub run-preserved : goal.run-preserved
run-preserved g c =
    let v : Env g.row.E.Denot = g.E.MachineEnv.env in
    let from : Start g.row.E.Denot = record { memory = c.args.state.memory.items; env = c.args.state.env } in
    let code = c.args.image.now.instrs in
    let q = c.args.p.now in
    let e = c.in-Told.ensures in
    let at : c.as_slice-places.result.now ≡ places (plan_of q.program) =
    c.as_slice-places.ensures.value ∙ (ap (λ z. z.items) c.run.invariant.places ∙ c.requires.places) in
    let text : Appends (g.W.Sink.taken c.run.out) (g.W.Sink.taken c.write_moment.new.out)
    (moment_text q (places (plan_of q.program)) c.args.observer c.in-Told.moment) =
    subst (λ z. Appends (g.W.Sink.taken c.run.out) (g.W.Sink.taken c.write_moment.new.out) (moment_text q z c.args.observer c.in-Told.moment)) at
    c.in_ok-write_moment-in-Told.ensures.text in
    record {
      printing = told_printing v code c.args.limit from q c.args.observer c.run.state c.step.new.state c.in-Told.moment _ _ _ _ _ _ c.run.invariant.printing e.0
          e.4 e.1 e.2 c.note.ensures text;
      stands = e.3;
      places = c.run.invariant.places;
      later = up_to _ _ _ c.run.invariant.later c.write_moment.ensures.later;
    }

pub returns-in_err-write_moment-in-Told-clause-prefix : goal.returns-in_err-write_moment-in-Told-clause-prefix
returns-in_err-write_moment-in-Told-clause-prefix g c =
    let v : Env g.row.E.Denot = g.E.MachineEnv.env in
    let from : Start g.row.E.Denot = record { memory = c.args.state.memory.items; env = c.args.state.env } in
    let code = c.args.image.now.instrs in
    let q = c.args.p.now in
    let e = c.in-Told.ensures in
    let at : c.as_slice-places.result.now ≡ places (plan_of q.program) =
    c.as_slice-places.ensures.value ∙ (ap (λ z. z.items) c.run.invariant.places ∙ c.requires.places) in
    let text : AppendsPrefix (g.W.Sink.taken c.run.out) (g.W.Sink.taken c.write_moment.new.out)
    (moment_text q (places (plan_of q.program)) c.args.observer c.in-Told.moment) =
    subst (λ z. AppendsPrefix (g.W.Sink.taken c.run.out) (g.W.Sink.taken c.write_moment.new.out) (moment_text q z c.args.observer c.in-Told.moment)) at
    c.in_err-write_moment-in-Told.ensures.prefix in
    on_err _ _ (part_printed v code c.args.limit from q c.args.observer c.run.state c.step.new.state c.in-Told.moment _ _ _ _ _
    c.run.invariant.printing e.0 e.4 e.1 text)

pub returns-in_err-write_moment-in-Told-clause-grown : goal.returns-in_err-write_moment-in-Told-clause-grown
returns-in_err-write_moment-in-Told-clause-grown g c =
    let e = c.in-Told.ensures in
    let old = c.args.listing.now.tallies.items in
    subst (Grown c.args.limit old) (sym c.note.ensures)
    (grown_quiet c.step.new.state.clock c.args.limit old _ e.1
    (grown_more c.run.state.clock c.step.new.state.clock old c.run.listing.tallies.items c.in-Told.moment e.2 c.run.invariant.printing.grown))

pub returns-in_err-write_all-in-Stopped-clause-prefix : goal.returns-in_err-write_all-in-Stopped-clause-prefix
returns-in_err-write_all-in-Stopped-clause-prefix g c =
    let v : Env g.row.E.Denot = g.E.MachineEnv.env in
    let from : Start g.row.E.Denot = record { memory = c.args.state.memory.items; env = c.args.state.env } in
    let code = c.args.image.now.instrs in
    let q = c.args.p.now in
    let t = stopped_end v g.E.MachineEnv.serves c.args.image.now c.args.limit from q c.args.observer c.run.state c.step.new.state c.in-Stopped.end
    c.run.invariant.printing.moments c.run.invariant.printing.followed c.in-Stopped.ensures in
    let text : AppendsPrefix (g.W.Sink.taken c.run.out) (g.W.Sink.taken c.write_all.new.out) (last_line c.in-Stopped.end) =
    subst (AppendsPrefix (g.W.Sink.taken c.run.out) (g.W.Sink.taken c.write_all.new.out)) (c.bytes.ensures ∙ c.last_line-line.ensures)
    c.in_err-write_all-in-Stopped.ensures.prefix in
    on_err _ _ (end_part v code c.args.limit from q c.args.observer c.run.state c.in-Stopped.end _ _ _ _ _ c.run.invariant.printing t.1 t.0 text)

pub returns-in-Stopped-clause-end : goal.returns-in-Stopped-clause-end
returns-in-Stopped-clause-end g c =
    let v : Env g.row.E.Denot = g.E.MachineEnv.env in
    let from : Start g.row.E.Denot = record { memory = c.args.state.memory.items; env = c.args.state.env } in
    let code = c.args.image.now.instrs in
    let q = c.args.p.now in
    (stopped_end v g.E.MachineEnv.serves c.args.image.now c.args.limit from q c.args.observer c.run.state c.step.new.state c.in-Stopped.end
    c.run.invariant.printing.moments c.run.invariant.printing.followed c.in-Stopped.ensures).0

pub returns-in-Stopped-clause-printed : goal.returns-in-Stopped-clause-printed
returns-in-Stopped-clause-printed g c =
    let v : Env g.row.E.Denot = g.E.MachineEnv.env in
    let from : Start g.row.E.Denot = record { memory = c.args.state.memory.items; env = c.args.state.env } in
    let code = c.args.image.now.instrs in
    let q = c.args.p.now in
    let t = stopped_end v g.E.MachineEnv.serves c.args.image.now c.args.limit from q c.args.observer c.run.state c.step.new.state c.in-Stopped.end
    c.run.invariant.printing.moments c.run.invariant.printing.followed c.in-Stopped.ensures in
    let text : Appends (g.W.Sink.taken c.run.out) (g.W.Sink.taken c.write_all.new.out) (last_line c.in-Stopped.end) =
    subst (Appends (g.W.Sink.taken c.run.out) (g.W.Sink.taken c.write_all.new.out)) (c.bytes.ensures ∙ c.last_line-line.ensures)
    c.in_ok-write_all-in-Stopped.ensures.ok in
    end_printed v code c.args.limit from q c.args.observer c.run.state c.in-Stopped.end _ _ _ _ _ c.run.invariant.printing t.1 t.0 text
