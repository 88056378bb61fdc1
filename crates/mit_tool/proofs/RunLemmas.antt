-- What a run tells.
use Rattle.std.proofs.Common.{◌≡◌, Option, refl, sym, ap}
use Rattle.label_lattice.specs.declared.label.Label.{Label}
use Rattle.timing_types.specs.Labelled.{LabelledProgram}
use Rattle.cycle_machine.specs.declared.end.RunEnd.{RunEnd}
use Rattle.cycle_machine.specs.declared.end.RunEnd.TheVariants.{Halted, Limit}
use Rattle.event_print.specs.Text.{text_of}
use Rattle.cycle_machine.specs.Rest.{Told}
use Rattle.tool_texts.specs.Ends.{Tells, Nothing}
use Rattle.mit_tool.specs.Answers.{HasTold, status_at}

told_at : (q : LabelledProgram) (o : Option Label) (told : Told) (e : RunEnd) → told.end ≡ e → Tells Nothing (HasTold q o told) (status_at e) (text_of q o told)
told_at q o told (Halted c) is = (ap status_at (sym is), refl)
told_at q o told (Limit c) is = (ap status_at (sym is), refl)

-- the text of a run is its answer
pub told_tells : (q : LabelledProgram) (o : Option Label) (told : Told) → Tells Nothing (HasTold q o told) (status_at told.end) (text_of q o told)
told_tells q o told = told_at q o told told.end refl
