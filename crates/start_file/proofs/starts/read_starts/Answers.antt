use Rattle.std.proofs.Common.{sym, Some}
use Rattle.std.proofs.lemmas.Result.{IfOk-weaker, IfErr-weaker}
use Rattle.toml.specs.View.{table_view}
use Rattle.start_file.proofs.ForProgram.{starts_for}
use Rattle.start_file.proofs.starts.read_starts.Goals as goal

pub returns-clause-ok : goal.returns-clause-ok
returns-clause-ok c = IfOk-weaker c.starts_in.result _ _
    (λ v e. (Some (table_view c.in_ok-table.table), c.in_ok-table.ensures.ok, sym e)) c.starts_in.ensures.ok

pub returns-clause-valid : goal.returns-clause-valid
returns-clause-valid c = IfOk-weaker c.starts_in.result _ _
    (λ v e. starts_for c.args.program.now c.laws.ensures.valid.order (table_view c.in_ok-table.table) _ e) c.starts_in.ensures.ok

pub returns-clause-refused : goal.returns-clause-refused
returns-clause-refused c =
    IfErr-weaker c.starts_in.result _ _ (λ f e n. (Some (table_view c.in_ok-table.table), c.in_ok-table.ensures.ok, sym (e n))) c.starts_in.ensures.refused
