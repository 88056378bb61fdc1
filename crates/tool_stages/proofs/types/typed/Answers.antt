use Rattle.tool_stages.proofs.TypeLemmas.{same_most, has_types, same_stop}
use Rattle.tool_stages.proofs.types.typed.Goals as goal

pub type_stop-requires-clause-types : goal.type_stop-requires-clause-types
type_stop-requires-clause-types c = same_most _ c.in-Ok.labelled c.in-Err.labelled c.in-Ok.ensures.program c.in-Err.ensures.kept c.in-Ok.ensures.types

pub returns-in-Ok-check-clause-ok : goal.returns-in-Ok-check-clause-ok
returns-in-Ok-check-clause-ok c =
    has_types c.args.p c.in-Ok.labelled c.in-Ok-check.typed.labelled c.in-Ok.ensures.program c.in-Ok-check.ensures.labelled
    c.in-Ok.ensures.least c.in-Ok-check.ensures.typed

pub returns-in-Err-clause-stop : goal.returns-in-Err-clause-stop
returns-in-Err-clause-stop c = same_stop c.args.p c.in-Ok.labelled c.in-Err.labelled c.type_stop.result c.in-Ok.ensures.program
    c.in-Err.ensures.kept c.type_stop.ensures
