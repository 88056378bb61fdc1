use Rattle.std.proofs.Common.{ℕ, List, [], Option, Bor, refl, sym, subst}
use Rattle.tim_base.specs.Faults.{Rose}
use Rattle.tool_texts.specs.declared.status.Status.TheVariants.{Done}
use Rattle.tool_texts.specs.Ends.{EndsBy}
use Rattle.tool_texts.proofs.EndLemmas.{ends_finish}
use Rattle.tool_stages.specs.Fetches.{HasFetched}
use Rattle.tool_stages.proofs.FetchLemmas.{fetched_nothing, never_read}
use Rattle.lab_words.specs.declared.question.Question.{Question}
use Rattle.lab_words.specs.declared.question.Question.TheVariants.{Why}
use Rattle.lab_words.specs.QuestionAsked.{help, version}
use Rattle.lab_words.specs.QuestionViews.{asked_of}
use Rattle.lab_tool.specs.Answers.{BeforeIn, IsAnswerIn}
use Rattle.lab_tool.specs.Complete.{own_files}
use Rattle.lab_tool.proofs.main_call.obey_in.Goals as goal

pub returns-in-None-clause-answered : goal.returns-in-None-clause-answered
returns-in-None-clause-answered g c =
    let content = g.S.Shelf.content c.args.shelf.now in
    let rises = λ (name : List ℕ). Rose (g.S.Shelf.faults c.args.shelf.now name) (g.S.Shelf.faults c.why.new.shelf name) in
    let P = λ (x : Question). EndsBy (g.W.Sink.taken c.args.out.now) (g.W.Sink.taken c.why.new.out) (BeforeIn c.args.env content (asked_of x))
    (IsAnswerIn c.args.env rises content (asked_of x)) c.why.result in
    subst P (sym c.in-Why.is) (subst (λ (o : Option (Bor (List ℕ))). P (Why c.in-Why.file o)) (sym c.in-None.is) c.why.ensures.answered)

pub returns-in-Some-clause-answered : goal.returns-in-Some-clause-answered
returns-in-Some-clause-answered g c =
    let content = g.S.Shelf.content c.args.shelf.now in
    let rises = λ (name : List ℕ). Rose (g.S.Shelf.faults c.args.shelf.now name) (g.S.Shelf.faults c.why_of.new.shelf name) in
    let P = λ (x : Question). EndsBy (g.W.Sink.taken c.args.out.now) (g.W.Sink.taken c.why_of.new.out) (BeforeIn c.args.env content (asked_of x))
    (IsAnswerIn c.args.env rises content (asked_of x)) c.why_of.result in
    subst P (sym c.in-Why.is) (subst (λ (o : Option (Bor (List ℕ))). P (Why c.in-Why.file o)) (sym c.in-Some.is) c.why_of.ensures.answered)

pub returns-in-WhyStarts-clause-answered : goal.returns-in-WhyStarts-clause-answered
returns-in-WhyStarts-clause-answered g c =
    let content = g.S.Shelf.content c.args.shelf.now in
    let rises = λ (name : List ℕ). Rose (g.S.Shelf.faults c.args.shelf.now name) (g.S.Shelf.faults c.why_starts.new.shelf name) in
    subst (λ (x : Question). EndsBy (g.W.Sink.taken c.args.out.now) (g.W.Sink.taken c.why_starts.new.out) (BeforeIn c.args.env content (asked_of x))
    (IsAnswerIn c.args.env rises content (asked_of x)) c.why_starts.result) (sym c.in-WhyStarts.is) c.why_starts.ensures.answered

pub returns-in-WhyAudit-clause-answered : goal.returns-in-WhyAudit-clause-answered
returns-in-WhyAudit-clause-answered g c =
    let content = g.S.Shelf.content c.args.shelf.now in
    let rises = λ (name : List ℕ). Rose (g.S.Shelf.faults c.args.shelf.now name) (g.S.Shelf.faults c.why_audit.new.shelf name) in
    subst (λ (x : Question). EndsBy (g.W.Sink.taken c.args.out.now) (g.W.Sink.taken c.why_audit.new.out) (BeforeIn c.args.env content (asked_of x))
    (IsAnswerIn c.args.env rises content (asked_of x)) c.why_audit.result) (sym c.in-WhyAudit.is) c.why_audit.ensures.answered

pub returns-in-Seen-clause-answered : goal.returns-in-Seen-clause-answered
returns-in-Seen-clause-answered g c =
    let content = g.S.Shelf.content c.args.shelf.now in
    let rises = λ (name : List ℕ). Rose (g.S.Shelf.faults c.args.shelf.now name) (g.S.Shelf.faults c.seen.new.shelf name) in
    subst (λ (x : Question). EndsBy (g.W.Sink.taken c.args.out.now) (g.W.Sink.taken c.seen.new.out) (BeforeIn c.args.env content (asked_of x))
    (IsAnswerIn c.args.env rises content (asked_of x)) c.seen.result) (sym c.in-Seen.is) c.seen.ensures.answered

pub returns-in-Bound-clause-answered : goal.returns-in-Bound-clause-answered
returns-in-Bound-clause-answered g c =
    let content = g.S.Shelf.content c.args.shelf.now in
    let rises = λ (name : List ℕ). Rose (g.S.Shelf.faults c.args.shelf.now name) (g.S.Shelf.faults c.bound.new.shelf name) in
    subst (λ (x : Question). EndsBy (g.W.Sink.taken c.args.out.now) (g.W.Sink.taken c.bound.new.out) (BeforeIn c.args.env content (asked_of x))
    (IsAnswerIn c.args.env rises content (asked_of x)) c.bound.result) (sym c.in-Bound.is) c.bound.ensures.answered

pub returns-in-Steady-clause-answered : goal.returns-in-Steady-clause-answered
returns-in-Steady-clause-answered g c =
    let content = g.S.Shelf.content c.args.shelf.now in
    let rises = λ (name : List ℕ). Rose (g.S.Shelf.faults c.args.shelf.now name) (g.S.Shelf.faults c.steady.new.shelf name) in
    subst (λ (x : Question). EndsBy (g.W.Sink.taken c.args.out.now) (g.W.Sink.taken c.steady.new.out) (BeforeIn c.args.env content (asked_of x))
    (IsAnswerIn c.args.env rises content (asked_of x)) c.steady.result) (sym c.in-Steady.is) c.steady.ensures.answered

pub returns-in-Leak-clause-answered : goal.returns-in-Leak-clause-answered
returns-in-Leak-clause-answered g c =
    let content = g.S.Shelf.content c.args.shelf.now in
    let rises = λ (name : List ℕ). Rose (g.S.Shelf.faults c.args.shelf.now name) (g.S.Shelf.faults c.leak.new.shelf name) in
    subst (λ (x : Question). EndsBy (g.W.Sink.taken c.args.out.now) (g.W.Sink.taken c.leak.new.out) (BeforeIn c.args.env content (asked_of x))
    (IsAnswerIn c.args.env rises content (asked_of x)) c.leak.result) (sym c.in-Leak.is) c.leak.ensures.answered

pub returns-in-Tune-clause-answered : goal.returns-in-Tune-clause-answered
returns-in-Tune-clause-answered g c =
    let content = g.S.Shelf.content c.args.shelf.now in
    let rises = λ (name : List ℕ). Rose (g.S.Shelf.faults c.args.shelf.now name) (g.S.Shelf.faults c.tune.new.shelf name) in
    subst (λ (x : Question). EndsBy (g.W.Sink.taken c.args.out.now) (g.W.Sink.taken c.tune.new.out) (BeforeIn c.args.env content (asked_of x))
    (IsAnswerIn c.args.env rises content (asked_of x)) c.tune.result) (sym c.in-Tune.is) c.tune.ensures.answered

pub returns-in-Check-clause-answered : goal.returns-in-Check-clause-answered
returns-in-Check-clause-answered g c =
    let content = g.S.Shelf.content c.args.shelf.now in
    let rises = λ (name : List ℕ). Rose (g.S.Shelf.faults c.args.shelf.now name) (g.S.Shelf.faults c.check.new.shelf name) in
    subst (λ (x : Question). EndsBy (g.W.Sink.taken c.args.out.now) (g.W.Sink.taken c.check.new.out) (BeforeIn c.args.env content (asked_of x))
    (IsAnswerIn c.args.env rises content (asked_of x)) c.check.result) (sym c.in-Check.is) c.check.ensures.answered

pub returns-in-Timeline-clause-answered : goal.returns-in-Timeline-clause-answered
returns-in-Timeline-clause-answered g c =
    let content = g.S.Shelf.content c.args.shelf.now in
    let rises = λ (name : List ℕ). Rose (g.S.Shelf.faults c.args.shelf.now name) (g.S.Shelf.faults c.timeline.new.shelf name) in
    subst (λ (x : Question). EndsBy (g.W.Sink.taken c.args.out.now) (g.W.Sink.taken c.timeline.new.out) (BeforeIn c.args.env content (asked_of x))
    (IsAnswerIn c.args.env rises content (asked_of x)) c.timeline.result) (sym c.in-Timeline.is) c.timeline.ensures.answered

pub returns-in-None-clause-fetched : goal.returns-in-None-clause-fetched
returns-in-None-clause-fetched g c =
    subst (λ (x : Question). HasFetched (own_files (asked_of x)) c.why.result (g.S.Shelf.log c.args.shelf.now) (g.S.Shelf.log c.why.new.shelf))
    (sym c.in-Why.is) c.why.ensures.fetched

pub returns-in-Some-clause-fetched : goal.returns-in-Some-clause-fetched
returns-in-Some-clause-fetched g c =
    subst (λ (x : Question). HasFetched (own_files (asked_of x)) c.why_of.result (g.S.Shelf.log c.args.shelf.now) (g.S.Shelf.log c.why_of.new.shelf))
    (sym c.in-Why.is) c.why_of.ensures.fetched

pub returns-in-WhyStarts-clause-fetched : goal.returns-in-WhyStarts-clause-fetched
returns-in-WhyStarts-clause-fetched g c =
    subst (λ (x : Question). HasFetched (own_files (asked_of x)) c.why_starts.result (g.S.Shelf.log c.args.shelf.now) (g.S.Shelf.log c.why_starts.new.shelf))
    (sym c.in-WhyStarts.is) c.why_starts.ensures.fetched

pub returns-in-WhyAudit-clause-fetched : goal.returns-in-WhyAudit-clause-fetched
returns-in-WhyAudit-clause-fetched g c =
    subst (λ (x : Question). HasFetched (own_files (asked_of x)) c.why_audit.result (g.S.Shelf.log c.args.shelf.now) (g.S.Shelf.log c.why_audit.new.shelf))
    (sym c.in-WhyAudit.is) c.why_audit.ensures.fetched

pub returns-in-Seen-clause-fetched : goal.returns-in-Seen-clause-fetched
returns-in-Seen-clause-fetched g c =
    subst (λ (x : Question). HasFetched (own_files (asked_of x)) c.seen.result (g.S.Shelf.log c.args.shelf.now) (g.S.Shelf.log c.seen.new.shelf))
    (sym c.in-Seen.is) c.seen.ensures.fetched

pub returns-in-Bound-clause-fetched : goal.returns-in-Bound-clause-fetched
returns-in-Bound-clause-fetched g c =
    subst (λ (x : Question). HasFetched (own_files (asked_of x)) c.bound.result (g.S.Shelf.log c.args.shelf.now) (g.S.Shelf.log c.bound.new.shelf))
    (sym c.in-Bound.is) c.bound.ensures.fetched

pub returns-in-Steady-clause-fetched : goal.returns-in-Steady-clause-fetched
returns-in-Steady-clause-fetched g c =
    subst (λ (x : Question). HasFetched (own_files (asked_of x)) c.steady.result (g.S.Shelf.log c.args.shelf.now) (g.S.Shelf.log c.steady.new.shelf))
    (sym c.in-Steady.is) c.steady.ensures.fetched

pub returns-in-Leak-clause-fetched : goal.returns-in-Leak-clause-fetched
returns-in-Leak-clause-fetched g c =
    subst (λ (x : Question). HasFetched (own_files (asked_of x)) c.leak.result (g.S.Shelf.log c.args.shelf.now) (g.S.Shelf.log c.leak.new.shelf))
    (sym c.in-Leak.is) c.leak.ensures.fetched

pub returns-in-Tune-clause-fetched : goal.returns-in-Tune-clause-fetched
returns-in-Tune-clause-fetched g c =
    subst (λ (x : Question). HasFetched (own_files (asked_of x)) c.tune.result (g.S.Shelf.log c.args.shelf.now) (g.S.Shelf.log c.tune.new.shelf))
    (sym c.in-Tune.is) c.tune.ensures.fetched

pub returns-in-Check-clause-fetched : goal.returns-in-Check-clause-fetched
returns-in-Check-clause-fetched g c =
    subst (λ (x : Question). HasFetched (own_files (asked_of x)) c.check.result (g.S.Shelf.log c.args.shelf.now) (g.S.Shelf.log c.check.new.shelf))
    (sym c.in-Check.is) c.check.ensures.fetched

pub returns-in-Timeline-clause-fetched : goal.returns-in-Timeline-clause-fetched
returns-in-Timeline-clause-fetched g c =
    subst (λ (x : Question). HasFetched (own_files (asked_of x)) c.timeline.result (g.S.Shelf.log c.args.shelf.now) (g.S.Shelf.log c.timeline.new.shelf))
    (sym c.in-Timeline.is) c.timeline.ensures.fetched

pub returns-in-Help-clause-answered : goal.returns-in-Help-clause-answered
returns-in-Help-clause-answered g c =
    let content = g.S.Shelf.content c.args.shelf.now in
    let rises = λ (name : List ℕ). Rose (g.S.Shelf.faults c.args.shelf.now name) (g.S.Shelf.faults c.args.shelf.now name) in
    subst (λ (x : Question). EndsBy (g.W.Sink.taken c.args.out.now) (g.W.Sink.taken c.finish.new.out) (BeforeIn c.args.env content (asked_of x))
    (IsAnswerIn c.args.env rises content (asked_of x)) c.finish.result) (sym c.in-Help.is)
    (ends_finish (g.W.Sink.taken c.args.out.now) (g.W.Sink.taken c.finish.new.out) (BeforeIn c.args.env content (help c.in-Help.command))
    (IsAnswerIn c.args.env rises content (help c.in-Help.command)) Done c.help_text.result.now c.finish.result (refl, c.help_text.ensures)
    c.finish.ensures.told c.finish.ensures.prefix)

pub returns-in-Help-clause-fetched : goal.returns-in-Help-clause-fetched
returns-in-Help-clause-fetched g c =
    subst (λ (x : Question). HasFetched (own_files (asked_of x)) c.finish.result (g.S.Shelf.log c.args.shelf.now) (g.S.Shelf.log c.args.shelf.now))
    (sym c.in-Help.is) (fetched_nothing [] (g.S.Shelf.log c.args.shelf.now) c.finish.result
    (never_read Done c.finish.result (λ e. absurd cc) (λ n. (c.finish.ensures.told n).0)))

pub returns-in-Version-clause-answered : goal.returns-in-Version-clause-answered
returns-in-Version-clause-answered g c =
    let content = g.S.Shelf.content c.args.shelf.now in
    let rises = λ (name : List ℕ). Rose (g.S.Shelf.faults c.args.shelf.now name) (g.S.Shelf.faults c.args.shelf.now name) in
    subst (λ (x : Question). EndsBy (g.W.Sink.taken c.args.out.now) (g.W.Sink.taken c.finish-in-Version.new.out) (BeforeIn c.args.env content (asked_of x))
    (IsAnswerIn c.args.env rises content (asked_of x)) c.finish-in-Version.result) (sym c.in-Version.is)
    (ends_finish (g.W.Sink.taken c.args.out.now) (g.W.Sink.taken c.finish-in-Version.new.out) (BeforeIn c.args.env content (version))
    (IsAnswerIn c.args.env rises content (version)) Done c.version_text.result.now c.finish-in-Version.result (refl, c.version_text.ensures)
    c.finish-in-Version.ensures.told c.finish-in-Version.ensures.prefix)

pub returns-in-Version-clause-fetched : goal.returns-in-Version-clause-fetched
returns-in-Version-clause-fetched g c =
    subst (λ (x : Question). HasFetched (own_files (asked_of x)) c.finish-in-Version.result (g.S.Shelf.log c.args.shelf.now)
    (g.S.Shelf.log c.args.shelf.now)) (sym c.in-Version.is) (fetched_nothing [] (g.S.Shelf.log c.args.shelf.now) c.finish-in-Version.result
    (never_read Done c.finish-in-Version.result (λ e. absurd cc) (λ n. (c.finish-in-Version.ensures.told n).0)))
