use Rattle.std.proofs.Common.{ℕ, List}
use Rattle.tim_base.specs.Faults.{Rose}
use Rattle.lab_words.specs.QuestionViews.{asked_of}
use Rattle.lab_tool.specs.Answers.{BeforeIn, IsAnswerIn}
use Rattle.lab_tool.specs.Complete.{own_files}
use Rattle.lab_tool.proofs.MachineEnds.{answer_ends, answer_fetched, no_write, stop_ends, stop_fetched}
use Rattle.lab_tool.proofs.main_call.obey_on.Goals as goal

pub returns-in-Ok-clause-answered : goal.returns-in-Ok-clause-answered
returns-in-Ok-clause-answered g c =
    answer_ends (g.W.Sink.taken c.args.out.now) (g.W.Sink.taken c.obey_in.new.out) (g.S.Shelf.content c.args.shelf.now)
    (g.S.Shelf.content c.machine.new.shelf) (g.S.Shelf.faults c.args.shelf.now) (g.S.Shelf.faults c.machine.new.shelf)
    (g.S.Shelf.faults c.obey_in.new.shelf) c.args.file.now (asked_of c.args.question) c.in-Ok.machine c.obey_in.result
    c.machine.ensures.same c.machine.ensures.later c.in-Ok.ensures.ok c.obey_in.ensures.answered

pub returns-in-Ok-clause-fetched : goal.returns-in-Ok-clause-fetched
returns-in-Ok-clause-fetched g c =
    answer_fetched c.args.file.now (own_files (asked_of c.args.question)) (g.S.Shelf.log c.args.shelf.now) (g.S.Shelf.log c.machine.new.shelf)
    (g.S.Shelf.log c.obey_in.new.shelf) c.machine.result c.in-Ok.machine c.obey_in.result c.in-Ok.is c.machine.ensures.log c.obey_in.ensures.fetched

pub stop-requires : goal.stop-requires
stop-requires g c =
    no_write (Rose (g.S.Shelf.faults c.args.shelf.now c.args.file.now) (g.S.Shelf.faults c.machine.new.shelf c.args.file.now))
    (g.S.Shelf.content c.args.shelf.now c.args.file.now) c.in-Err.e c.in-Err.ensures.stop

pub returns-in-Err-clause-answered : goal.returns-in-Err-clause-answered
returns-in-Err-clause-answered g c =
    let content = g.S.Shelf.content c.args.shelf.now in
    let rises = λ (name : List ℕ). Rose (g.S.Shelf.faults c.args.shelf.now name) (g.S.Shelf.faults c.machine.new.shelf name) in
    stop_ends (g.W.Sink.taken c.args.out.now) (g.W.Sink.taken c.stop.new.out) rises content c.args.file.now
    (λ e. BeforeIn e content (asked_of c.args.question)) (λ e. IsAnswerIn e rises content (asked_of c.args.question)) c.in-Err.e c.stop.result
    c.in-Err.ensures.stop c.stop.ensures.told c.stop.ensures.prefix

pub returns-in-Err-clause-fetched : goal.returns-in-Err-clause-fetched
returns-in-Err-clause-fetched g c =
    stop_fetched c.args.file.now (own_files (asked_of c.args.question)) (g.S.Shelf.log c.args.shelf.now) (g.S.Shelf.log c.machine.new.shelf)
    c.machine.result c.in-Err.e c.stop.result c.in-Err.is c.machine.ensures.log (λ n. (c.stop.ensures.told n).0)
