use Rattle.std.proofs.Common.{refl}
use Rattle.tim_base.specs.Faults.{Rose}
use Rattle.tool_texts.specs.Texts.{starts}
use Rattle.tool_stages.proofs.FetchLemmas.{file_stops}
use Rattle.space_stage.specs.Given.{GivenStops}
use Rattle.space_stage.proofs.given.given.Goals as goal

pub returns-in-Err-clause-stop : goal.returns-in-Err-clause-stop
returns-in-Err-clause-stop g c =
    let rises = Rose (g.S.Shelf.faults c.args.shelf.now c.args.file.now) (g.S.Shelf.faults c.bytes_of.new.shelf c.args.file.now) in
    let content = g.S.Shelf.content c.args.shelf.now c.args.file.now in
    file_stops rises content starts (GivenStops rises content c.args.p.now) c.in-Err.stop (λ t h. h) (λ t h. h) (c.in-Err.ensures.stop starts refl)
