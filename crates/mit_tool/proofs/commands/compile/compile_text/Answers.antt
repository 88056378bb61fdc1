use Rattle.std.proofs.Common.{ap, ◌∙◌}
use Rattle.std.specs.Prelude.{ℕ, List, [], ◌∷◌}
use Rattle.tim_base.specs.Faults.{Rose}
use Rattle.image_print.specs.ImageText.{image_text}
use Rattle.mit_tool.proofs.PrepareLemmas.{compile_tells, compile_stops_text}
use Rattle.tool_stages.proofs.FetchLemmas.{fetch_stops}
use Rattle.tool_texts.specs.Ends.{status_of}
use Rattle.tool_stages.specs.Fetches.{is_read_fault}
use Rattle.mit_tool.proofs.commands.compile.compile_text.Goals as goal

pub returns-in-Err-clause-stop : goal.returns-in-Err-clause-stop
returns-in-Err-clause-stop g c =
    compile_stops_text (λ (name : List ℕ). Rose (g.S.Shelf.faults c.args.shelf.now name) (g.S.Shelf.faults c.compile.new.shelf name))
    (g.S.Shelf.content c.args.shelf.now)
    c.args.file.now c.in-Err.stop c.in-Err.ensures.stop

pub returns-in-Ok-print_image-clause-text : goal.returns-in-Ok-print_image-clause-text
returns-in-Ok-print_image-clause-text g c =
    let compiled = c.in-Ok.compiled in
    let is = c.program-program.ensures.program ∙ ap (λ l. l.program) c.labelled.ensures.labelled in
    compile_tells (λ (name : List ℕ). Rose (g.S.Shelf.faults c.args.shelf.now name) (g.S.Shelf.faults c.compile.new.shelf name))
    (g.S.Shelf.content c.args.shelf.now)
    c.args.file.now compiled.typed.labelled compiled.observer compiled.image c.in-Ok-print_image.text.items c.in-Ok.ensures.ok
    (c.in-Ok-print_image.ensures ∙ ap (λ p. image_text p compiled.image) is)

pub returns-clause-log : goal.returns-clause-log
returns-clause-log g c =
    fetch_stops (Unit {0}) (Unit {0}) (c.args.file.now ∷ []) (g.S.Shelf.log c.args.shelf.now) (g.S.Shelf.log c.compile.new.shelf) tt c.no_memory.result
    (ap (λ e. is_read_fault (status_of e)) c.no_memory.ensures) c.in-Ok.ensures.log
