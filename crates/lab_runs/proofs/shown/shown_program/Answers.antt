use Rattle.std.proofs.Common.{ap, ◌∙◌, subst}
use Rattle.std.specs.Prelude.{option_map}
use Rattle.timing_types.specs.Labelled.{LabelledProgram}
use Rattle.code_lower.specs.Lowered.{lowered, IsLowerFault}
use Rattle.lab_runs.specs.ShownViews.{shown_of}
use Rattle.lab_runs.proofs.ShownLemmas.{show_stops, image_stops, shown_of_program}
use Rattle.lab_runs.proofs.shown.shown_program.Goals as goal

pub returns-in-Err-clause-stop : goal.returns-in-Err-clause-stop
returns-in-Err-clause-stop c =
    show_stops c.args.refused_too (option_map (λ s. s.now) c.args.name) c.args.program c.lattice.result.now c.in_ok-observer.observer c.in-Err.stop
    c.lattice.ensures c.in_ok-observer.ensures.ok c.in-Err.ensures.stop

pub returns-in-Ok-lower_labelled-clause-ok : goal.returns-in-Ok-lower_labelled-clause-ok
returns-in-Ok-lower_labelled-clause-ok c =
    shown_of_program c.args.refused_too (option_map (λ s. s.now) c.args.name) c.args.program c.lattice.result.now c.in_ok-observer.observer
    (shown_of c.in-Ok.labels) c.in-Ok-lower_labelled.image c.lattice.ensures c.in_ok-observer.ensures.ok c.in-Ok.ensures.ok
    (c.in-Ok-lower_labelled.ensures.image ∙ ap lowered c.labelled.ensures, c.in-Ok-lower_labelled.ensures.short)

pub returns-in-Err-lower_labelled-clause-stop : goal.returns-in-Err-lower_labelled-clause-stop
returns-in-Err-lower_labelled-clause-stop c =
    image_stops c.args.refused_too (option_map (λ s. s.now) c.args.name) c.args.program c.lattice.result.now c.in_ok-observer.observer
    (shown_of c.in-Ok.labels) c.image_stop.result c.lattice.ensures c.in_ok-observer.ensures.ok c.in-Ok.ensures.ok
    (c.image_stop.ensures (shown_of c.in-Ok.labels).labelled
    (subst (λ (z : LabelledProgram). IsLowerFault z c.in-Err-lower_labelled.fault) c.labelled.ensures c.in-Err-lower_labelled.ensures.fault))
