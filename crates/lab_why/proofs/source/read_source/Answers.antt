use Rattle.std.proofs.Common.{refl}
use Rattle.tim_base.specs.Faults.{Rose}
use Rattle.tool_texts.specs.Texts.{program}
use Rattle.tool_stages.specs.Stages.{ProgramStops}
use Rattle.tool_stages.proofs.FetchLemmas.{file_stops}
use Rattle.lab_why.proofs.ReasonLemmas.{reads_text}
use Rattle.lab_why.proofs.source.read_source.Goals as goal

pub returns-in-Ok-program_of-clause-ok : goal.returns-in-Ok-program_of-clause-ok
returns-in-Ok-program_of-clause-ok g c = reads_text _ _ _ _ c.deref.ensures.value c.in-Ok.ensures.ok c.in-Ok-program_of.ensures.ok

pub returns-in-Err-clause-stop : goal.returns-in-Err-clause-stop
returns-in-Err-clause-stop g c =
    let rises = Rose (g.S.Shelf.faults c.args.shelf.now c.args.file.now) (g.S.Shelf.faults c.bytes_of.new.shelf c.args.file.now) in
    let content = g.S.Shelf.content c.args.shelf.now c.args.file.now in
    file_stops rises content program (ProgramStops rises content) c.in-Err.stop (λ t h. h) (λ t h. h) (c.in-Err.ensures.stop program refl)
