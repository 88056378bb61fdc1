use Rattle.std.proofs.Common.{◌≡◌, ap₂, ◌∙◌, subst}
use Rattle.std.specs.Prelude.{ℤ, List}
use Rattle.timing_types.specs.Labelled.{LabelledProgram}
use Rattle.env_contract.specs.Env.{Env}
use Rattle.label_code.specs.Run.{Start}
use Rattle.start_file.specs.Starts.{seen}
use Rattle.leak_audit.specs.Agreement.{start_of}
use Rattle.run_timeline.specs.Printed.{PrintedPart}
use Rattle.lab_runs.specs.ShownViews.{shown_of}
use Rattle.lab_timeline.proofs.Walking.{head_breaks, rest_breaks}
use Rattle.lab_timeline.proofs.write.write_run.Goals as goal

same_start : {E : Type 0} (m n : List ℤ) (e f : E) → m ≡ n → e ≡ f → ◌≡◌ {A = Start E} (record { memory = m; env = e }) (record { memory = n; env = f })
same_start {E} m n e f p q = ap₂ (λ (a : List ℤ) (b : E). let s : Start E = record { memory = a; env = b } in s) p q

pub returns-in_default-write_all-clause-prefix : goal.returns-in_default-write_all-clause-prefix
returns-in_default-write_all-clause-prefix g c = λ e.
    let v : Env g.row.E.Denot = g.E.MachineEnv.env in
    let q = (shown_of c.args.program.now.labels).labelled in
    head_breaks v c.args.program.now.image c.args.limit (start_of (g.M.MakeEnv.made c.args.maker.now) q.program.order
    (seen c.args.start.now)) q c.args.program.now.observer
    c.args.number (g.W.Sink.taken c.args.out.now) (g.W.Sink.taken c.args.out.now) (g.W.Sink.taken c.write_all.new.out)
    c.bytes.result.now (c.bytes.ensures ∙ c.run_line-head.ensures) c.in_default-write_all.ensures.prefix

pub returns-in-Err-clause-prefix : goal.returns-in-Err-clause-prefix
returns-in-Err-clause-prefix g c = λ e.
    let v : Env g.row.E.Denot = g.E.MachineEnv.env in
    let q = (shown_of c.args.program.now.labels).labelled in
    let s = c.in-Ok.state in
    let from : Start g.row.E.Denot = record { memory = s.memory.items; env = s.env } in
    let part : PrintedPart v c.args.program.now.image.instrs c.args.limit from q c.args.program.now.observer (g.W.Sink.taken c.write_all.new.out)
    (g.W.Sink.taken c.print_timeline.new.out) =
    subst (λ (z : LabelledProgram). PrintedPart v c.args.program.now.image.instrs c.args.limit from z c.args.program.now.observer
    (g.W.Sink.taken c.write_all.new.out) (g.W.Sink.taken c.print_timeline.new.out)) c.labelled-labelled.ensures c.in-Err.ensures.prefix in
    rest_breaks v c.args.program.now.image c.args.limit (start_of (g.M.MakeEnv.made c.args.maker.now) q.program.order
    (seen c.args.start.now)) q c.args.program.now.observer
    c.args.number (g.W.Sink.taken c.args.out.now) (g.W.Sink.taken c.write_all.new.out) (g.W.Sink.taken c.print_timeline.new.out)
    c.bytes.result.now (c.bytes.ensures ∙ c.run_line-head.ensures) from (same_start s.memory.items _ s.env _ c.in-Ok.ensures.memory c.in-Ok.ensures.env)
    c.in-Ok-write_all.ensures.ok part
