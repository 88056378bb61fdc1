use Rattle.std.proofs.Common.{◌∙◌, ◌++◌, ℕ, List, ap, subst, sym}
use Rattle.tim_base.specs.Faults.{Rose}
use Rattle.tool_texts.specs.Ends.{EndsBy}
use Rattle.tool_stages.specs.Fetches.{HasFetched}
use Rattle.lab_words.specs.QuestionAsked.{MachineAsked}
use Rattle.lab_words.specs.QuestionViews.{asked_of, machine_of}
use Rattle.lab_tool.specs.Answers.{BeforeIn, IsAnswerIn}
use Rattle.lab_tool.specs.Complete.{own_files}
use Rattle.lab_tool.specs.Machines.{BeforeOn, OnMachine, machine_files}
use Rattle.lab_tool.proofs.main_call.obey.Goals as goal

pub returns-in-Named-clause-answered : goal.returns-in-Named-clause-answered
returns-in-Named-clause-answered g c =
    let content = g.S.Shelf.content c.args.shelf.now in
    let rises = λ (name : List ℕ). Rose (g.S.Shelf.faults c.args.shelf.now name) (g.S.Shelf.faults c.obey_in.new.shelf name) in
    let a = asked_of c.args.question in
    subst (λ (x : MachineAsked). EndsBy (g.W.Sink.taken c.args.out.now) (g.W.Sink.taken c.obey_in.new.out) (BeforeOn content x (λ e. BeforeIn e content a))
    (OnMachine rises content x (λ e. IsAnswerIn e rises content a)) c.obey_in.result) (sym (ap machine_of c.in-Named.is) ∙ c.machine_in.ensures)
    c.obey_in.ensures.answered

pub returns-in-Described-clause-answered : goal.returns-in-Described-clause-answered
returns-in-Described-clause-answered g c =
    let content = g.S.Shelf.content c.args.shelf.now in
    let rises = λ (name : List ℕ). Rose (g.S.Shelf.faults c.args.shelf.now name) (g.S.Shelf.faults c.obey_on.new.shelf name) in
    let a = asked_of c.args.question in
    subst (λ (x : MachineAsked). EndsBy (g.W.Sink.taken c.args.out.now) (g.W.Sink.taken c.obey_on.new.out) (BeforeOn content x (λ e. BeforeIn e content a))
    (OnMachine rises content x (λ e. IsAnswerIn e rises content a)) c.obey_on.result) (sym (ap machine_of c.in-Described.is) ∙ c.machine_in.ensures)
    c.obey_on.ensures.answered

pub returns-in-Named-clause-fetched : goal.returns-in-Named-clause-fetched
returns-in-Named-clause-fetched g c =
    let a = asked_of c.args.question in
    subst (λ (x : MachineAsked). HasFetched (machine_files x ++ own_files a) c.obey_in.result (g.S.Shelf.log c.args.shelf.now)
    (g.S.Shelf.log c.obey_in.new.shelf)) (sym (ap machine_of c.in-Named.is) ∙ c.machine_in.ensures) c.obey_in.ensures.fetched

pub returns-in-Described-clause-fetched : goal.returns-in-Described-clause-fetched
returns-in-Described-clause-fetched g c =
    let a = asked_of c.args.question in
    subst (λ (x : MachineAsked). HasFetched (machine_files x ++ own_files a) c.obey_on.result (g.S.Shelf.log c.args.shelf.now)
    (g.S.Shelf.log c.obey_on.new.shelf)) (sym (ap machine_of c.in-Described.is) ∙ c.machine_in.ensures) c.obey_on.ensures.fetched
