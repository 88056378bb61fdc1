use Rattle.tool_stages.proofs.TypeLemmas.{same_most}
use Rattle.lab_runs.proofs.least.any.Goals as goal

pub refused-requires-clause-types : goal.refused-requires-clause-types
refused-requires-clause-types c = same_most _ c.in-Ok.labelled c.in-Err.labelled c.in-Ok.ensures.program c.in-Err.ensures.kept c.in-Ok.ensures.types
