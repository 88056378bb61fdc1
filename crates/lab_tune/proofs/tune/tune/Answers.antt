use Rattle.std.specs.Prelude.{ℕ, List, [], ◌∷◌}
use Rattle.tim_base.specs.Faults.{Rose}
use Rattle.tool_texts.specs.Ends.{Nothing, told_status, told_text}
use Rattle.tool_texts.proofs.EndLemmas.{no_fault, ends_finish, result_tells}
use Rattle.tool_stages.specs.Accepted.{IsAccepted}
use Rattle.tool_stages.proofs.EarlyLemmas.{result_past}
use Rattle.tool_stages.proofs.FetchLemmas.{told_fetched}
use Rattle.lab_tune.specs.Answer.{IsTuneAnswer}
use Rattle.lab_tune.proofs.Answering.{tune_no_fault, completes}
use Rattle.lab_tune.proofs.tune.tune.Goals as goal

pub tell-requires : goal.tell-requires
tell-requires g c =
    let content = g.S.Shelf.content c.args.shelf.now in
    let rises = λ (name : List ℕ). Rose (g.S.Shelf.faults c.args.shelf.now name) (g.S.Shelf.faults c.tune_text-text.new.shelf name) in
    no_fault (IsTuneAnswer rises content c.args.file.now c.args.starts.now c.args.observer.now c.args.setting.env c.args.setting.budget c.args.mark c.args.bits)
    c.tune_text-text.result
    (tune_no_fault rises content c.args.file.now c.args.starts.now c.args.observer.now c.args.setting.env c.args.setting.budget c.args.mark c.args.bits)
    c.tune_text-text.ensures.stop

pub returns-clause-answered : goal.returns-clause-answered
returns-clause-answered g c =
    let content = g.S.Shelf.content c.args.shelf.now in
    let rises = λ (name : List ℕ). Rose (g.S.Shelf.faults c.args.shelf.now name) (g.S.Shelf.faults c.tune_text-text.new.shelf name) in
    let r = c.tune_text-text.result in
    ends_finish (g.W.Sink.taken c.args.out.now) (g.W.Sink.taken c.tell.new.out) Nothing
    (IsTuneAnswer rises content c.args.file.now c.args.starts.now c.args.observer.now c.args.setting.env c.args.setting.budget c.args.mark c.args.bits)
    (told_status r) (told_text r) c.tell.result
    (result_tells (IsTuneAnswer rises content c.args.file.now c.args.starts.now c.args.observer.now c.args.setting.env c.args.setting.budget
    c.args.mark c.args.bits) r
    c.tune_text-text.ensures.text c.tune_text-text.ensures.stop) c.tell.ensures.told c.tell.ensures.prefix

pub returns-clause-complete : goal.returns-clause-complete
returns-clause-complete g c =
    let content = g.S.Shelf.content c.args.shelf.now in
    let rises = λ (name : List ℕ). Rose (g.S.Shelf.faults c.args.shelf.now name) (g.S.Shelf.faults c.tune_text-text.new.shelf name) in
    let r = c.tune_text-text.result in
    completes (g.W.Sink.taken c.args.out.now) (g.W.Sink.taken c.tell.new.out) rises content c.args.file.now c.args.starts.now c.args.observer.now
    c.args.setting.env c.args.setting.budget c.args.mark c.args.bits c.tell.result (Rose (g.W.Sink.faults c.args.out.now) (g.W.Sink.faults c.tell.new.out))
    (ends_finish (g.W.Sink.taken c.args.out.now) (g.W.Sink.taken c.tell.new.out) Nothing
    (IsTuneAnswer rises content c.args.file.now c.args.starts.now c.args.observer.now c.args.setting.env c.args.setting.budget c.args.mark c.args.bits)
    (told_status r) (told_text r) c.tell.result
    (result_tells (IsTuneAnswer rises content c.args.file.now c.args.starts.now c.args.observer.now c.args.setting.env c.args.setting.budget
    c.args.mark c.args.bits) r
    c.tune_text-text.ensures.text c.tune_text-text.ensures.stop) c.tell.ensures.told c.tell.ensures.prefix)
    c.tell.ensures.fault

pub returns-clause-accepted : goal.returns-clause-accepted
returns-clause-accepted g c =
    result_past c.tune_text-text.result (IsAccepted (g.S.Shelf.content c.args.shelf.now c.args.file.now)) c.tell.result c.tune_text-text.ensures.accepted
    c.tune_text-text.ensures.accepted_stop (λ n. (c.tell.ensures.told n).0)

pub returns-clause-fetched : goal.returns-clause-fetched
returns-clause-fetched g c =
    told_fetched (c.args.file.now ∷ c.args.starts.now ∷ []) (g.S.Shelf.log c.args.shelf.now) (g.S.Shelf.log c.tune_text-text.new.shelf)
    c.tune_text-text.result c.tell.result c.tune_text-text.ensures.log (λ n. (c.tell.ensures.told n).0)
