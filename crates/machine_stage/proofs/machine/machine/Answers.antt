use Rattle.std.proofs.Common.{refl}
use Rattle.tim_base.specs.Faults.{Rose}
use Rattle.tool_texts.specs.Texts.{machine}
use Rattle.tool_stages.proofs.FetchLemmas.{file_stops}
use Rattle.machine_stage.specs.Stage.{MachineStops}
use Rattle.machine_stage.proofs.machine.machine.Goals as goal

pub returns-in-Err-clause-stop : goal.returns-in-Err-clause-stop
returns-in-Err-clause-stop g c =
    let rises = Rose (g.S.Shelf.faults c.args.shelf.now c.args.file.now) (g.S.Shelf.faults c.bytes_of.new.shelf c.args.file.now) in
    let content = g.S.Shelf.content c.args.shelf.now c.args.file.now in
    file_stops rises content machine (MachineStops rises content) c.in-Err.stop (λ t h. h) (λ t h. h) (c.in-Err.ensures.stop machine refl)
