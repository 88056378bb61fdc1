use Rattle.std.proofs.Common.{ap}
use Rattle.tim_base.specs.Faults.{Rose}
use Rattle.tim_base.specs.declared.shelf.FetchFault.TheVariants.{Failed}
use Rattle.std.specs.Prelude.{◌≡◌, Err}
use Rattle.tool_stages.specs.Fetches.{FileStops}
use Rattle.tool_stages.proofs.FetchLemmas.{file_stops}
use Rattle.tool_stages.proofs.file.bytes_of.Goals as goal

pub returns-in-Err-clause-stop : goal.returns-in-Err-clause-stop
returns-in-Err-clause-stop g c = λ f is.
    let rises = Rose (g.S.Shelf.faults c.args.shelf.now c.args.file.now) (g.S.Shelf.faults c.fetch.new.self c.args.file.now) in
    let content = g.S.Shelf.content c.args.shelf.now c.args.file.now in
    file_stops (c.in-Err.fault ≡ Failed) content f (FileStops rises content f) c.file_stop.result
    (λ t h. (c.in-Err.ensures.failed (ap Err h.0), h.1)) (λ t h. h)
    (c.file_stop.ensures.stop f content is (λ e. c.in-Err.ensures.too_long (ap Err e)))
