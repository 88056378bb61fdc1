use Rattle.std.proofs.Common.{sym, Some}
use Rattle.std.proofs.lemmas.Result.{IfOk-weaker, IfErr-weaker}
use Rattle.toml.specs.View.{table_view}
use Rattle.space_file.proofs.read.read_space.Goals as goal

pub returns-clause-ok : goal.returns-clause-ok
returns-clause-ok c =
    IfOk-weaker c.document_space.result _ _ (λ s h. (Some (table_view c.in_ok-table.table), c.in_ok-table.ensures.ok, sym h)) c.document_space.ensures.ok

pub returns-clause-refused : goal.returns-clause-refused
returns-clause-refused c =
    IfErr-weaker c.document_space.result _ _ (λ e h n. (Some (table_view c.in_ok-table.table), c.in_ok-table.ensures.ok, sym (h n)))
    c.document_space.ensures.refused
