use Rattle.std.proofs.Common.{refl, ap, subst, ◌∙◌}
use Rattle.env_contract.specs.Env.{Env}
use Rattle.tim_base.specs.Sinks.{AppendsPrefix}
use Rattle.label_code.specs.Run.{run_from}
use Rattle.event_print.specs.Text.{text_of}
use Rattle.cycle_machine.specs.Rest.{Told}
use Rattle.cycle_machine.specs.Rest.{told_by}
use Rattle.tool_texts.specs.Ends.{Nothing}
use Rattle.mit_tool.specs.Answers.{HasTold, status_at}
use Rattle.mit_tool.specs.Logged.{IsRunLine}
use Rattle.tool_texts.proofs.EndLemmas.{ends_memory}
use Rattle.tool_stages.proofs.RunLemmas.{loaded_runs}
use Rattle.mit_tool.proofs.RunLemmas.{told_tells}
use Rattle.std.specs.Prelude.{All}
use Rattle.mit_tool.proofs.LoggedLemmas.{run_sent, run_broken, on_ok, memory_alone}
use Rattle.label_lattice.specs.Names.{IsName}
use Rattle.mit_syntax.specs.Program.{Syntax}
use Rattle.tool_texts.specs.declared.status.Status.TheVariants.{Done, Budget}
use Rattle.mit_tool.proofs.commands.run.run_in.Goals as goal

pub returns-in_default-clause-ended : goal.returns-in_default-clause-ended
returns-in_default-clause-ended g c =
    let v : Env g.row.E.Denot = g.E.MachineEnv.env in
    let q = c.args.program.now.typed.labelled in
    let told : Told = told_by (run_from v c.args.program.now.image.instrs c.args.budget (record {
      memory = c.args.start.memory.items;
      env =
          g.M.MakeEnv.made c.args.maker.now q.program.order c.args.start.touches.items;
    })) in
    ends_memory (g.W.Sink.taken c.args.out.now) (g.W.Sink.taken c.stop_for_memory.new.out) Nothing (HasTold q c.args.program.now.observer told)
    c.stop_for_memory.result refl c.stop_for_memory.ensures.told c.stop_for_memory.ensures.prefix

pub returns-in_default-load-clause-ended : goal.returns-in_default-load-clause-ended
returns-in_default-load-clause-ended g c =
    let v : Env g.row.E.Denot = g.E.MachineEnv.env in
    let q = c.args.program.now.typed.labelled in
    let told : Told = told_by (run_from v c.args.program.now.image.instrs c.args.budget (record {
      memory = c.args.start.memory.items;
      env =
          g.M.MakeEnv.made c.args.maker.now q.program.order c.args.start.touches.items;
    })) in
    ends_memory (g.W.Sink.taken c.args.out.now) (g.W.Sink.taken c.stop_for_memory-in_default-load.new.out) Nothing (HasTold q c.args.program.now.observer told)
    c.stop_for_memory-in_default-load.result refl
    c.stop_for_memory-in_default-load.ensures.told c.stop_for_memory-in_default-load.ensures.prefix

pub returns-clause-ended : goal.returns-clause-ended
returns-clause-ended g c =
    let v : Env g.row.E.Denot = g.E.MachineEnv.env in
    let q = c.args.program.now.typed.labelled in
    let o = c.args.program.now.observer in
    let order = c.shared_lattice-lattice.ensures ∙ ap (λ p. p.order) (c.program-source.ensures.program ∙ ap (λ l. l.program) c.labelled.ensures.labelled) in
    let env = c.in-Ok.ensures.value ∙ ap (λ l. (g.M.MakeEnv.made c.args.maker.now) l c.as_slice.result.now) order
    ∙ ap (g.M.MakeEnv.made c.args.maker.now q.program.order) c.as_slice.ensures.value in
    let told : Told = told_by (run_from v c.args.program.now.image.instrs c.args.budget (record {
      memory = c.args.start.memory.items;
      env =
          g.M.MakeEnv.made c.args.maker.now q.program.order c.args.start.touches.items;
    })) in
    let runs = loaded_runs v c.args.budget c.in-Ok-load.machine c.args.program.now.image c.args.start.memory.items c.in-Ok.env
    (g.M.MakeEnv.made c.args.maker.now q.program.order c.args.start.touches.items)
    c.in-Ok-load.ensures.going c.in-Ok-load.ensures.code c.in-Ok-load.ensures.start env in (
      status_at told.end,
      text_of q o told,
      told_tells q o told,
      subst (λ (z : Told). AppendsPrefix (g.W.Sink.taken c.args.out.now) (g.W.Sink.taken c.print_run.new.out) (text_of q o z)) runs c.in-Err.ensures.prefix,
    )

pub returns-in-Ok-Halted-clause-pieces : goal.returns-in-Ok-Halted-clause-pieces
returns-in-Ok-Halted-clause-pieces g c =
    let is = c.program-source.ensures.program ∙ ap (λ l. l.program) c.labelled.ensures.labelled in
    let names = subst (λ (p : Syntax). All (λ d. IsName d.0) p.declarations) is c.laws.ensures.valid.names in
    run_sent c.args.program.now.typed.labelled.program.declarations Done (g.W.Sink.log c.args.out.now) (g.W.Sink.log c.print_run.new.out) names
    (λ e. absurd cc) (on_ok _ _ _ c.in-Ok-Halted.is c.print_run.ensures.sent)

pub returns-in-Ok-Limit-clause-pieces : goal.returns-in-Ok-Limit-clause-pieces
returns-in-Ok-Limit-clause-pieces g c =
    let is = c.program-source.ensures.program ∙ ap (λ l. l.program) c.labelled.ensures.labelled in
    let names = subst (λ (p : Syntax). All (λ d. IsName d.0) p.declarations) is c.laws.ensures.valid.names in
    run_sent c.args.program.now.typed.labelled.program.declarations Budget (g.W.Sink.log c.args.out.now) (g.W.Sink.log c.print_run.new.out) names
    (λ e. absurd cc) (on_ok _ _ _ c.in-Ok-Limit.is c.print_run.ensures.sent)

pub returns-clause-pieces : goal.returns-clause-pieces
returns-clause-pieces g c =
    let is = c.program-source.ensures.program ∙ ap (λ l. l.program) c.labelled.ensures.labelled in
    let names = subst (λ (p : Syntax). All (λ d. IsName d.0) p.declarations) is c.laws.ensures.valid.names in
    run_broken c.args.program.now.typed.labelled.program.declarations (g.W.Sink.log c.args.out.now) (g.W.Sink.log c.print_run.new.out)
    names c.in-Err.ensures.broken

pub returns-in_default-clause-pieces : goal.returns-in_default-clause-pieces
returns-in_default-clause-pieces g c =
    memory_alone IsRunLine c.stop_for_memory.result (g.W.Sink.log c.args.out.now) (g.W.Sink.log c.stop_for_memory.new.out)
    (λ n. (c.stop_for_memory.ensures.told n).0) c.stop_for_memory.ensures.sent c.stop_for_memory.ensures.broken

pub returns-in_default-load-clause-pieces : goal.returns-in_default-load-clause-pieces
returns-in_default-load-clause-pieces g c =
    memory_alone IsRunLine c.stop_for_memory-in_default-load.result (g.W.Sink.log c.args.out.now) (g.W.Sink.log c.stop_for_memory-in_default-load.new.out)
    (λ n. (c.stop_for_memory-in_default-load.ensures.told n).0) c.stop_for_memory-in_default-load.ensures.sent c.stop_for_memory-in_default-load.ensures.broken
