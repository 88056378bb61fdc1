use Rattle.std.proofs.Common.{ap, map, ◌∙◌}
use Rattle.timing_types.specs.Labelled.{LabelledProgram}
use Rattle.start_file.specs.Starts.{seen}
use Rattle.lab_ready.proofs.ReadyLemmas.{fits, starts_rest, faulty_rest}
use Rattle.lab_ready.proofs.rest.bytes_told.Goals as goal

pub audit_told-requires-clause-fit : goal.audit_told-requires-clause-fit
audit_told-requires-clause-fit g c =
    fits c.args.bytes.now c.args.compiled c.program-program.result.now c.args.observer (map seen c.in-Ok.starts.items)
    c.requires.short c.requires.image c.requires.observer
    (c.program-program.ensures.program ∙ ap (λ (z : LabelledProgram). z.program) c.labelled.ensures.labelled) c.in-Ok.ensures.ok c.in-Ok.ensures.valid

pub returns-in-Ok : goal.returns-in-Ok
returns-in-Ok g c =
    starts_rest c.args.bytes.now c.args.setting.env c.args.setting.budget c.args.compiled.typed.labelled c.args.observer c.program-program.result.now
    (c.program-program.ensures.program ∙ ap (λ (z : LabelledProgram). z.program) c.labelled.ensures.labelled) (map seen c.in-Ok.starts.items)
    c.audit_told.result c.requires.short c.in-Ok.ensures.ok c.audit_told.ensures

pub returns-in-Err : goal.returns-in-Err
returns-in-Err g c =
    faulty_rest c.args.bytes.now c.args.setting.env c.args.setting.budget c.args.compiled.typed.labelled c.args.observer c.program-program.result.now
    (c.program-program.ensures.program ∙ ap (λ (z : LabelledProgram). z.program) c.labelled.ensures.labelled) c.not_starts.result
    c.not_starts.ensures.status c.not_starts.ensures.told
