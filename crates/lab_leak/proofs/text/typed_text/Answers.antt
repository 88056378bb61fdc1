use Rattle.std.proofs.Common.{subst}
use Rattle.std.specs.Prelude.{Some}
use Rattle.timing_types.specs.Labelled.{LabelledProgram}
use Rattle.space_starts.specs.Space.{seen}
use Rattle.tool_texts.specs.Ends.{IsStop}
use Rattle.space_leak.specs.Answer.{HasSpaceLeak}
use Rattle.lab_leak.proofs.text.typed_text.Goals as goal

pub returns-clause-stop : goal.returns-clause-stop
returns-clause-stop g c =
    rw c.in-Space.is
    (subst (λ (q : LabelledProgram). IsStop (HasSpaceLeak c.args.setting.env c.args.setting.budget q (Some c.args.observer) (seen c.in-Space.space))
    c.in-Err-space_leak.stop) c.labelled-p.ensures.labelled c.in-Err-space_leak.ensures.stop)
