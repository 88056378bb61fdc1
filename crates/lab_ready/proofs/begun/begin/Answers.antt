use Rattle.std.proofs.Common.{refl, sym, subst, inl}
use Rattle.std.specs.Prelude.{[], ◌∷◌}
use Rattle.tim_base.specs.Faults.{Rose}
use Rattle.tim_base.specs.Told.{IsTold}
use Rattle.tool_texts.specs.Texts.{program}
use Rattle.tool_stages.proofs.FetchLemmas.{fetch_stops, file_stops, not_read}
use Rattle.lab_ready.specs.Begun.{BeginStops}
use Rattle.lab_ready.proofs.Stops.{begin_no_read, begin_stop_rise}
use Rattle.lab_ready.proofs.begun.begin.Goals as goal

pub returns-in-Err-clause-stop : goal.returns-in-Err-clause-stop
returns-in-Err-clause-stop g c =
    let rises = Rose (g.S.Shelf.faults c.args.shelf.now c.args.file.now) (g.S.Shelf.faults c.bytes_of.new.shelf c.args.file.now) in
    let content = g.S.Shelf.content c.args.shelf.now c.args.file.now in
    file_stops rises content program (BeginStops rises content c.args.observer.now) c.in-Err.stop (λ t h. inl h) (λ t h. inl h)
    (c.in-Err.ensures.stop program refl)

pub returns-in-Ok-text_begun-clause-told : goal.returns-in-Ok-text_begun-clause-told
returns-in-Ok-text_begun-clause-told g c =
    let content = g.S.Shelf.content c.args.shelf.now c.args.file.now in
    c.in-Ok-text_begun.ensures.told content (subst (IsTold content) (sym c.as_slice.ensures.value) c.in-Ok.ensures.ok)

pub returns-clause-stop : goal.returns-clause-stop
returns-clause-stop g c =
    let rises = Rose (g.S.Shelf.faults c.args.shelf.now c.args.file.now) (g.S.Shelf.faults c.bytes_of.new.shelf c.args.file.now) in
    let content = g.S.Shelf.content c.args.shelf.now c.args.file.now in
    begin_stop_rise rises content c.args.observer.now c.in-Err-text_begun.stop
    (c.in-Err-text_begun.ensures.stop content (subst (IsTold content) (sym c.as_slice.ensures.value) c.in-Ok.ensures.ok))

pub returns-clause-log : goal.returns-clause-log
returns-clause-log g c =
    let content = g.S.Shelf.content c.args.shelf.now c.args.file.now in
    let e = c.in-Err-text_begun.stop in
    fetch_stops (Unit {0}) (Unit {0}) (c.args.file.now ∷ []) (g.S.Shelf.log c.args.shelf.now) (g.S.Shelf.log c.bytes_of.new.shelf) tt e
    (not_read (BeginStops ⊥ content c.args.observer.now) (begin_no_read content c.args.observer.now) e
    (c.in-Err-text_begun.ensures.stop content (subst (IsTold content) (sym c.as_slice.ensures.value) c.in-Ok.ensures.ok))) c.in-Ok.ensures.log
