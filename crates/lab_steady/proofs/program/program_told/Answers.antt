use Rattle.lab_steady.specs.Told.{status_told, text_told}
use Rattle.lab_steady.proofs.Stages.{observer_stop, parts_stop, told_program, image_stops}
use Rattle.lab_steady.proofs.program.program_told.Goals as goal

pub returns-in_err-observer-clause-stop : goal.returns-in_err-observer-clause-stop
returns-in_err-observer-clause-stop c =
    observer_stop c.args.costing c.args.program c.lattice-lattice.result.now c.args.text.now c.args.observer.now c.args.parts.now c.args.whole
    c.lattice-lattice.ensures c.from_residual.result c.in_err-observer.field-0.0 c.from_residual.ensures.1 c.in_err-observer.ensures.stop

pub returns-in-Err-clause-stop : goal.returns-in-Err-clause-stop
returns-in-Err-clause-stop c =
    parts_stop c.args.costing c.args.program c.lattice-lattice.result.now c.args.text.now c.args.observer.now c.args.parts.now c.args.whole
    c.lattice-lattice.ensures
    c.in_ok-observer.observer c.in_ok-observer.ensures.ok c.in-Err.stop c.in-Err.ensures.stop

pub returns-in-Ok-judge-clause-ok : goal.returns-in-Ok-judge-clause-ok
returns-in-Ok-judge-clause-ok c =
    told_program c.args.costing c.args.program c.lattice-lattice.result.now c.args.text.now c.args.observer.now c.args.parts.now c.args.whole
    c.lattice-lattice.ensures
    c.in_ok-observer.observer c.in_ok-observer.ensures.ok c.in-Ok.label c.in-Ok.ensures.ok c.in-Ok-infer.labelled
    c.in-Ok-infer.ensures.program c.in-Ok-infer.ensures.least (status_told c.in-Ok-judge.told) (text_told c.in-Ok-judge.told)
    c.in-Ok-judge.ensures.short c.in-Ok-judge.ensures.ok

pub returns-clause-stop : goal.returns-clause-stop
returns-clause-stop c =
    image_stops c.args.costing c.args.program c.lattice-lattice.result.now c.args.text.now c.args.observer.now c.args.parts.now c.args.whole
    c.lattice-lattice.ensures
    c.in_ok-observer.observer c.in_ok-observer.ensures.ok c.in-Ok.label c.in-Ok.ensures.ok c.in-Ok-infer.labelled
    c.in-Ok-infer.ensures.program c.in-Ok-infer.ensures.least c.image_stop.result
    (c.image_stop.ensures c.in-Ok-infer.labelled c.in-Err-judge.ensures.fault)
