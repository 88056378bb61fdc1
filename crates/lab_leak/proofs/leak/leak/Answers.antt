use Rattle.std.specs.Prelude.{ℕ, List, [], ◌∷◌}
use Rattle.tim_base.specs.Faults.{Rose}
use Rattle.tool_texts.specs.Ends.{Nothing, told_status, told_text}
use Rattle.tool_texts.proofs.EndLemmas.{no_fault, ends_finish, result_tells}
use Rattle.tool_stages.specs.Accepted.{IsAccepted}
use Rattle.tool_stages.proofs.EarlyLemmas.{result_past}
use Rattle.tool_stages.proofs.FetchLemmas.{told_fetched}
use Rattle.lab_leak.specs.Answer.{IsLeakAnswer}
use Rattle.lab_leak.proofs.Answering.{leak_no_fault, completes}
use Rattle.lab_leak.proofs.leak.leak.Goals as goal

pub tell-requires : goal.tell-requires
tell-requires g c =
    let content = g.S.Shelf.content c.args.shelf.now in
    let rises = λ (name : List ℕ). Rose (g.S.Shelf.faults c.args.shelf.now name) (g.S.Shelf.faults c.leak_text-text.new.shelf name) in
    no_fault (IsLeakAnswer rises content c.args.file.now c.args.starts.now c.args.observer.now c.args.setting.env c.args.setting.budget c.args.refused)
    c.leak_text-text.result
    (leak_no_fault c.args.refused rises content c.args.file.now c.args.starts.now c.args.observer.now c.args.setting.env c.args.setting.budget)
    c.leak_text-text.ensures.stop

pub returns-clause-answered : goal.returns-clause-answered
returns-clause-answered g c =
    let content = g.S.Shelf.content c.args.shelf.now in
    let rises = λ (name : List ℕ). Rose (g.S.Shelf.faults c.args.shelf.now name) (g.S.Shelf.faults c.leak_text-text.new.shelf name) in
    let r = c.leak_text-text.result in
    ends_finish (g.W.Sink.taken c.args.out.now) (g.W.Sink.taken c.tell.new.out) Nothing
    (IsLeakAnswer rises content c.args.file.now c.args.starts.now c.args.observer.now c.args.setting.env c.args.setting.budget c.args.refused)
    (told_status r) (told_text r) c.tell.result
    (result_tells
    (IsLeakAnswer rises content c.args.file.now c.args.starts.now c.args.observer.now c.args.setting.env c.args.setting.budget c.args.refused) r
    c.leak_text-text.ensures.text c.leak_text-text.ensures.stop) c.tell.ensures.told c.tell.ensures.prefix

pub returns-clause-complete : goal.returns-clause-complete
returns-clause-complete g c =
    let content = g.S.Shelf.content c.args.shelf.now in
    let rises = λ (name : List ℕ). Rose (g.S.Shelf.faults c.args.shelf.now name) (g.S.Shelf.faults c.leak_text-text.new.shelf name) in
    let r = c.leak_text-text.result in
    completes (g.W.Sink.taken c.args.out.now) (g.W.Sink.taken c.tell.new.out) c.args.refused rises content c.args.file.now c.args.starts.now c.args.observer.now
    c.args.setting.env c.args.setting.budget c.tell.result (Rose (g.W.Sink.faults c.args.out.now) (g.W.Sink.faults c.tell.new.out))
    (ends_finish (g.W.Sink.taken c.args.out.now) (g.W.Sink.taken c.tell.new.out) Nothing
    (IsLeakAnswer rises content c.args.file.now c.args.starts.now c.args.observer.now c.args.setting.env c.args.setting.budget c.args.refused)
    (told_status r) (told_text r) c.tell.result
    (result_tells
    (IsLeakAnswer rises content c.args.file.now c.args.starts.now c.args.observer.now c.args.setting.env c.args.setting.budget c.args.refused) r
    c.leak_text-text.ensures.text c.leak_text-text.ensures.stop) c.tell.ensures.told c.tell.ensures.prefix)
    c.tell.ensures.fault

pub returns-clause-ordered : goal.returns-clause-ordered
returns-clause-ordered g c = c.numbers_are_ordered.ensures c.args.setting.env c.args.setting.budget

pub returns-clause-accepted : goal.returns-clause-accepted
returns-clause-accepted g c = λ e.
    result_past c.leak_text-text.result (IsAccepted (g.S.Shelf.content c.args.shelf.now c.args.file.now)) c.tell.result
    (c.leak_text-text.ensures.accepted e) (c.leak_text-text.ensures.accepted_stop e) (λ n. (c.tell.ensures.told n).0)

pub returns-clause-fetched : goal.returns-clause-fetched
returns-clause-fetched g c =
    told_fetched (c.args.file.now ∷ c.args.starts.now ∷ []) (g.S.Shelf.log c.args.shelf.now) (g.S.Shelf.log c.leak_text-text.new.shelf)
    c.leak_text-text.result c.tell.result c.leak_text-text.ensures.log (λ n. (c.tell.ensures.told n).0)
