use Rattle.std.specs.Prelude.{[], ◌∷◌, map}
use Rattle.std.proofs.Common.{inl, inr}
use Rattle.tim_base.specs.Faults.{Rose}
use Rattle.start_file.specs.Starts.{seen}
use Rattle.tool_texts.specs.Ends.{status_of, stop_text}
use Rattle.tool_texts.proofs.EndLemmas.{broke_map}
use Rattle.tool_stages.proofs.FetchLemmas.{fetch_stops, not_read}
use Rattle.space_stage.specs.Given.{GivenStops, value_of}
use Rattle.space_stage.specs.Listed.{LargeStops, ListedStops}
use Rattle.space_stage.proofs.Listing.{no_large_read}
use Rattle.space_stage.proofs.Written.{fits}
use Rattle.space_stage.proofs.listed.listed.Goals as goal

pub returns-in-Err-clause-stop : goal.returns-in-Err-clause-stop
returns-in-Err-clause-stop g c =
    let rises = Rose (g.S.Shelf.faults c.args.shelf.now c.args.file.now) (g.S.Shelf.faults c.given.new.shelf c.args.file.now) in
    let content = g.S.Shelf.content c.args.shelf.now c.args.file.now in
    let e = c.in-Err.stop in
    broke_map (GivenStops rises content c.args.p.now) (ListedStops rises content c.args.p.now) (status_of e) (stop_text e) (λ k. inl k) c.in-Err.ensures.stop

pub returns-in-Ok-listed_of-clause-ok : goal.returns-in-Ok-listed_of-clause-ok
returns-in-Ok-listed_of-clause-ok g c = (value_of c.in-Ok.given, c.in-Ok.ensures.ok, c.in-Ok-listed_of.ensures.ok)

pub returns-in-Ok-listed_of-clause-valid : goal.returns-in-Ok-listed_of-clause-valid
returns-in-Ok-listed_of-clause-valid g c =
    fits (g.S.Shelf.content c.args.shelf.now c.args.file.now) c.args.p.now (value_of c.in-Ok.given) (map seen c.in-Ok-listed_of.starts.items)
    c.in-Ok.ensures.ok c.in-Ok.ensures.valid c.in-Ok-listed_of.ensures.ok

pub returns-in-Err-listed_of-clause-stop : goal.returns-in-Err-listed_of-clause-stop
returns-in-Err-listed_of-clause-stop g c =
    let rises = Rose (g.S.Shelf.faults c.args.shelf.now c.args.file.now) (g.S.Shelf.faults c.given.new.shelf c.args.file.now) in
    let content = g.S.Shelf.content c.args.shelf.now c.args.file.now in
    let e = c.in-Err-listed_of.stop in
    let v = value_of c.in-Ok.given in
    broke_map (LargeStops v) (ListedStops rises content c.args.p.now) (status_of e) (stop_text e) (λ k. inr (v, c.in-Ok.ensures.ok, k))
    c.in-Err-listed_of.ensures.stop

pub returns-in-Err-listed_of-clause-log : goal.returns-in-Err-listed_of-clause-log
returns-in-Err-listed_of-clause-log g c =
    let v = value_of c.in-Ok.given in
    let e = c.in-Err-listed_of.stop in
    fetch_stops (Unit {0}) (Unit {0}) (c.args.file.now ∷ []) (g.S.Shelf.log c.args.shelf.now) (g.S.Shelf.log c.given.new.shelf) tt e
    (not_read (LargeStops v) (no_large_read v) e c.in-Err-listed_of.ensures.stop) c.in-Ok.ensures.log
