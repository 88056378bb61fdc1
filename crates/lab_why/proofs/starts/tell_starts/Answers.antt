use Rattle.std.proofs.Common.{refl, sym, subst, inl, ℕ, List}
use Rattle.std.specs.Prelude.{[], ◌∷◌, Ok, Err}
use Rattle.tim_base.specs.Faults.{Rose}
use Rattle.tool_texts.specs.declared.status.Status.TheVariants.{Done}
use Rattle.tool_texts.specs.Ends.{Nothing, status_of, stop_text}
use Rattle.tool_texts.specs.Texts.{starts}
use Rattle.tool_texts.proofs.EndLemmas.{ends_finish, ends_stop}
use Rattle.tool_stages.specs.Fetches.{FileStops}
use Rattle.tool_stages.proofs.FetchLemmas.{fetched_by}
use Rattle.lab_why.specs.Starts.{IsTaken}
use Rattle.lab_why.proofs.StartsLemmas.{file_starts, taken_tells, never_fault, never_read_status}
use Rattle.lab_why.proofs.starts.tell_starts.Goals as goal

pub finish-requires : goal.finish-requires
finish-requires g c = never_fault c.in-Ok.told.status c.in-Ok.ensures.known

pub returns-in-Ok-clause-answered : goal.returns-in-Ok-clause-answered
returns-in-Ok-clause-answered g c =
    let rises = Rose (g.S.Shelf.faults c.args.shelf.now c.args.starts.now) (g.S.Shelf.faults c.starts_told.new.shelf c.args.starts.now) in
    let answer = IsTaken rises (g.S.Shelf.content c.args.shelf.now c.args.starts.now) c.args.program.now in
    ends_finish (g.W.Sink.taken c.args.out.now) (g.W.Sink.taken c.finish.new.out) Nothing answer c.in-Ok.told.status c.as_slice.result.now c.finish.result
    (taken_tells rises (g.S.Shelf.content c.args.shelf.now c.args.starts.now) c.args.program.now c.in-Ok.told.status c.as_slice.result.now
    c.in-Ok.ensures.known
    (subst (λ (t : List ℕ). answer c.in-Ok.told.status t) (sym c.as_slice.ensures.value) c.in-Ok.ensures.told))
    c.finish.ensures.told c.finish.ensures.prefix

pub returns-in-Err-clause-answered : goal.returns-in-Err-clause-answered
returns-in-Err-clause-answered g c =
    let rises = Rose (g.S.Shelf.faults c.args.shelf.now c.args.starts.now) (g.S.Shelf.faults c.starts_told.new.shelf c.args.starts.now) in
    let content = g.S.Shelf.content c.args.shelf.now c.args.starts.now in
    let e = c.in-Err.e in
    ends_stop (g.W.Sink.taken c.args.out.now) (g.W.Sink.taken c.stop.new.out) Nothing (FileStops rises content starts)
    (IsTaken rises content c.args.program.now) (status_of e) (stop_text e) c.stop.result refl
    (λ t h. inl (file_starts rises content c.args.program.now (status_of e) t h))
    c.in-Err.ensures.stop c.stop.ensures.told c.stop.ensures.prefix

pub returns-in-Ok-clause-fetched : goal.returns-in-Ok-clause-fetched
returns-in-Ok-clause-fetched g c =
    fetched_by {A = Unit {0}} (c.args.starts.now ∷ []) (g.S.Shelf.log c.args.shelf.now) (g.S.Shelf.log c.starts_told.new.shelf) c.in-Ok.told.status
    c.finish.result (Ok tt) (never_read_status c.in-Ok.told.status c.in-Ok.ensures.known) c.in-Ok.ensures.log (λ n. (c.finish.ensures.told n).0)

pub returns-in-Err-clause-fetched : goal.returns-in-Err-clause-fetched
returns-in-Err-clause-fetched g c =
    fetched_by {A = Unit {0}} (c.args.starts.now ∷ []) (g.S.Shelf.log c.args.shelf.now) (g.S.Shelf.log c.starts_told.new.shelf) Done c.stop.result
    (Err c.in-Err.e) (λ e. absurd cc) c.in-Err.ensures.log (λ n. (c.stop.ensures.told n).0)
