use Rattle.std.proofs.Common.{subst}
use Rattle.tim_base.specs.Sinks.{AppendsPrefix}
use Rattle.env_contract.specs.Env.{Env}
use Rattle.timing_types.specs.Labelled.{LabelledProgram}
use Rattle.label_code.specs.Run.{run_from}
use Rattle.cycle_machine.specs.Rest.{Told, told_by}
use Rattle.start_file.specs.Starts.{seen}
use Rattle.leak_audit.specs.Agreement.{start_of}
use Rattle.lab_seen.specs.Seen.{line_text}
use Rattle.lab_seen.proofs.walk.run_line.Goals as goal

pub returns-clause-prefix : goal.returns-clause-prefix
returns-clause-prefix g c = λ e.
    let v : Env g.row.E.Denot = g.E.MachineEnv.env in
    let p = c.labelled-labelled.result.now in
    subst (λ (q : LabelledProgram). AppendsPrefix (g.W.Sink.taken c.args.out.now) (g.W.Sink.taken c.write_line.new.out)
    (line_text q c.args.observer c.args.number
    (told_by (run_from v c.args.p.now.program.image.instrs c.args.budget (start_of (g.M.MakeEnv.made c.args.maker.now) q.program.order
    (seen c.args.start.now))))))
    c.labelled-labelled.ensures
    (subst (λ (z : Told). AppendsPrefix (g.W.Sink.taken c.args.out.now) (g.W.Sink.taken c.write_line.new.out)
    (line_text p c.args.observer c.args.number z)) (c.in-Ok.ensures.runs c.args.budget) c.in-Err.ensures.prefix)
