use Rattle.std.proofs.Common.{◌∙◌, sym, ap, Err}
use Rattle.toml.specs.View.{table_view}
use Rattle.start_file.specs.Tables.{members_in}
use Rattle.start_file.specs.Touches.{touches_in}
use Rattle.start_file.specs.Values.{memory_passes, memory_of}
use Rattle.start_file.specs.Shared.{filled}
use Rattle.start_file.proofs.FilledRuns.{run_wrong, run_untouched, run_done, run_unknown}
use Rattle.start_file.proofs.run.run_in.Goals as goal

pub returns-then-not-run_keys_pass-clause-refused : goal.returns-then-not-run_keys_pass-clause-refused
returns-then-not-run_keys_pass-clause-refused c _ ms is =
    run_unknown c.args.program.now c.args.version ms c.args.shared.now is c.args.run (table_view c.args.table.now)
    (sym c.run_keys_pass.ensures ∙ c.if-not-run_keys_pass.true)

pub returns-in-Err-clause-refused : goal.returns-in-Err-clause-refused
returns-in-Err-clause-refused c n ms is =
    run_wrong c.args.program.now c.args.version ms c.args.shared.now is c.args.run (table_view c.args.table.now)
    (sym c.run_keys_pass.ensures ∙ c.if-not-run_keys_pass.false)
    (ap (memory_passes c.args.program.now.declarations) (sym c.at.ensures) ∙ c.in-Err.ensures.refused)
    ∙ ap (λ f. Err f) (sym c.in-Err.ensures.fault)

pub returns-in-Err-touches-clause-refused : goal.returns-in-Err-touches-clause-refused
returns-in-Err-touches-clause-refused c n ms is =
    let p = c.args.program.now in
    run_untouched p c.args.version ms c.args.shared.now is c.args.run (table_view c.args.table.now)
    (sym c.run_keys_pass.ensures ∙ c.if-not-run_keys_pass.false)
    (ap (memory_passes p.declarations) (sym c.at.ensures) ∙ c.in-Ok.ensures.passes)
    (ap (touches_in c.args.version p.order) (sym c.at-2.ensures) ∙ c.in-Err-touches.ensures.refused n)
    ∙ ap (λ f. Err f) (sym (c.in-Err-touches.ensures.fault n))

pub returns-clause-ok : goal.returns-clause-ok
returns-clause-ok c ms is =
    let p = c.args.program.now in
    let ds = p.declarations in
    run_done p c.args.version ms c.args.shared.now is c.args.run (table_view c.args.table.now)
    (sym c.run_keys_pass.ensures ∙ c.if-not-run_keys_pass.false)
    (ap (memory_passes ds) (sym c.at.ensures) ∙ c.in-Ok.ensures.passes)
    c.in-Ok.memory.items
    (λ x e. c.in-Ok.ensures.values x (c.in_ok-own.ensures.items ∙ e) ∙ ap (λ o. memory_of ds (filled (members_in o) x)) c.at.ensures)
    c.in-Ok-touches.touches.items
    (ap (touches_in c.args.version p.order) (sym c.at-2.ensures) ∙ c.in-Ok-touches.ensures.ok)
