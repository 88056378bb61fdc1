use Rattle.std.proofs.Common.{ℕ, List, sym, subst}
use Rattle.tim_base.specs.Faults.{Rose}
use Rattle.std.specs.Prelude.{Some, [], ◌∷◌}
use Rattle.tool_words.specs.declared.words.Command.{Command}
use Rattle.tool_words.specs.WordsAsked.{asked_of, infer, compile, audit, cut, blackbox, certify}
use Rattle.tool_texts.specs.Ends.{EndsBy, Nothing, told_status, told_text}
use Rattle.mit_tool.specs.Answers.{HasGenerated}
use Rattle.mit_tool.specs.Commands.{files_of, IsAnswer, Before}
use Rattle.tool_texts.proofs.EndLemmas.{result_tells, no_fault, ends_finish}
use Rattle.mit_tool.proofs.TellLemmas.{made_no_fault}
use Rattle.mit_tool.proofs.CommandLemmas.{infer_no_fault, compile_no_fault, audit_no_fault, cut_no_fault, blackbox_no_fault, certify_no_fault}
use Rattle.tool_stages.specs.Fetches.{HasFetched}
use Rattle.tool_stages.proofs.FetchLemmas.{told_fetched}
use Rattle.mit_tool.proofs.LoggedLemmas.{told_piece, told_nothing, made_no_read}
use Rattle.mit_tool.specs.Logged.{HasWritten, ArePieces}
use Rattle.mit_tool.proofs.main_call.obey.Goals as goal

pub returns-in-Check-clause-answered : goal.returns-in-Check-clause-answered
returns-in-Check-clause-answered g c =
    let content = g.S.Shelf.content c.args.shelf.now in
    let rises = λ (name : List ℕ). Rose (g.S.Shelf.faults c.args.shelf.now name) (g.S.Shelf.faults c.check.new.shelf name) in
    subst (λ (x : Command). EndsBy (g.W.Sink.taken c.args.out.now) (g.W.Sink.taken c.check.new.out) (Before content (asked_of x))
    (IsAnswer rises content (asked_of x)) c.check.result) (sym c.in-Check.is) c.check.ensures.answered

pub returns-in-Run-clause-answered : goal.returns-in-Run-clause-answered
returns-in-Run-clause-answered g c =
    let content = g.S.Shelf.content c.args.shelf.now in
    let rises = λ (name : List ℕ). Rose (g.S.Shelf.faults c.args.shelf.now name) (g.S.Shelf.faults c.run.new.shelf name) in
    subst (λ (x : Command). EndsBy (g.W.Sink.taken c.args.out.now) (g.W.Sink.taken c.run.new.out) (Before content (asked_of x))
    (IsAnswer rises content (asked_of x)) c.run.result) (sym c.in-Run.is) c.run.ensures.answered

pub returns-in-Meaning-clause-answered : goal.returns-in-Meaning-clause-answered
returns-in-Meaning-clause-answered g c =
    let content = g.S.Shelf.content c.args.shelf.now in
    let rises = λ (name : List ℕ). Rose (g.S.Shelf.faults c.args.shelf.now name) (g.S.Shelf.faults c.meaning.new.shelf name) in
    subst (λ (x : Command). EndsBy (g.W.Sink.taken c.args.out.now) (g.W.Sink.taken c.meaning.new.out) (Before content (asked_of x))
    (IsAnswer rises content (asked_of x)) c.meaning.result) (sym c.in-Meaning.is) c.meaning.ensures.answered

pub tell-requires : goal.tell-requires
tell-requires g c =
    let content = g.S.Shelf.content c.args.shelf.now in
    let rises = λ (name : List ℕ). Rose (g.S.Shelf.faults c.args.shelf.now name) (g.S.Shelf.faults c.infer_text.new.shelf name) in
    no_fault (IsAnswer rises content (infer c.in-Infer.file.now)) c.infer_text.result
    (infer_no_fault rises content c.in-Infer.file.now) c.infer_text.ensures.stop

pub returns-in-Infer-clause-answered : goal.returns-in-Infer-clause-answered
returns-in-Infer-clause-answered g c =
    let content = g.S.Shelf.content c.args.shelf.now in
    let rises = λ (name : List ℕ). Rose (g.S.Shelf.faults c.args.shelf.now name) (g.S.Shelf.faults c.infer_text.new.shelf name) in
    let answer = IsAnswer rises content (infer c.in-Infer.file.now) in
    subst (λ (x : Command). EndsBy (g.W.Sink.taken c.args.out.now) (g.W.Sink.taken c.tell.new.out) (Before content (asked_of x))
    (IsAnswer rises content (asked_of x)) c.tell.result) (sym c.in-Infer.is)
    (ends_finish (g.W.Sink.taken c.args.out.now) (g.W.Sink.taken c.tell.new.out) Nothing answer (told_status c.infer_text.result)
    (told_text c.infer_text.result) c.tell.result
    (result_tells answer c.infer_text.result c.infer_text.ensures.text c.infer_text.ensures.stop) c.tell.ensures.told c.tell.ensures.prefix)

pub tell-requires-in-Compile : goal.tell-requires-in-Compile
tell-requires-in-Compile g c =
    let content = g.S.Shelf.content c.args.shelf.now in
    let rises = λ (name : List ℕ). Rose (g.S.Shelf.faults c.args.shelf.now name) (g.S.Shelf.faults c.compile_text.new.shelf name) in
    no_fault (IsAnswer rises content (compile c.in-Compile.file.now)) c.compile_text.result
    (compile_no_fault rises content c.in-Compile.file.now) c.compile_text.ensures.stop

pub returns-in-Compile-clause-answered : goal.returns-in-Compile-clause-answered
returns-in-Compile-clause-answered g c =
    let content = g.S.Shelf.content c.args.shelf.now in
    let rises = λ (name : List ℕ). Rose (g.S.Shelf.faults c.args.shelf.now name) (g.S.Shelf.faults c.compile_text.new.shelf name) in
    let answer = IsAnswer rises content (compile c.in-Compile.file.now) in
    subst (λ (x : Command). EndsBy (g.W.Sink.taken c.args.out.now) (g.W.Sink.taken c.tell-in-Compile.new.out) (Before content (asked_of x))
    (IsAnswer rises content (asked_of x)) c.tell-in-Compile.result) (sym c.in-Compile.is)
    (ends_finish (g.W.Sink.taken c.args.out.now) (g.W.Sink.taken c.tell-in-Compile.new.out) Nothing answer (told_status c.compile_text.result)
    (told_text c.compile_text.result) c.tell-in-Compile.result
    (result_tells answer c.compile_text.result c.compile_text.ensures.text c.compile_text.ensures.stop) c.tell-in-Compile.ensures.told
    c.tell-in-Compile.ensures.prefix)

pub tell-requires-in-Audit : goal.tell-requires-in-Audit
tell-requires-in-Audit g c =
    let content = g.S.Shelf.content c.args.shelf.now in
    let rises = λ (name : List ℕ). Rose (g.S.Shelf.faults c.args.shelf.now name) (g.S.Shelf.faults c.audit_text-text.new.shelf name) in
    no_fault (IsAnswer rises content (audit c.in-Audit.file.now c.in-Audit.starts.now c.in-Audit.observer.now c.in-Audit.env c.in-Audit.budget))
    c.audit_text-text.result (audit_no_fault rises content c.in-Audit.file.now c.in-Audit.starts.now c.in-Audit.observer.now c.in-Audit.env
    c.in-Audit.budget) c.audit_text-text.ensures.stop

pub returns-in-Audit-clause-answered : goal.returns-in-Audit-clause-answered
returns-in-Audit-clause-answered g c =
    let content = g.S.Shelf.content c.args.shelf.now in
    let rises = λ (name : List ℕ). Rose (g.S.Shelf.faults c.args.shelf.now name) (g.S.Shelf.faults c.audit_text-text.new.shelf name) in
    let answer = IsAnswer rises content (audit c.in-Audit.file.now c.in-Audit.starts.now c.in-Audit.observer.now c.in-Audit.env c.in-Audit.budget) in
    subst (λ (x : Command). EndsBy (g.W.Sink.taken c.args.out.now) (g.W.Sink.taken c.tell-in-Audit.new.out) (Before content (asked_of x))
    (IsAnswer rises content (asked_of x)) c.tell-in-Audit.result) (sym c.in-Audit.is)
    (ends_finish (g.W.Sink.taken c.args.out.now) (g.W.Sink.taken c.tell-in-Audit.new.out) Nothing answer (told_status c.audit_text-text.result)
    (told_text c.audit_text-text.result) c.tell-in-Audit.result
    (result_tells answer c.audit_text-text.result c.audit_text-text.ensures.text c.audit_text-text.ensures.stop) c.tell-in-Audit.ensures.told
    c.tell-in-Audit.ensures.prefix)

pub tell-requires-in-Gen : goal.tell-requires-in-Gen
tell-requires-in-Gen g c =
    let content = g.S.Shelf.content c.args.shelf.now in
    let rises = λ (name : List ℕ). Rose (g.S.Shelf.faults c.args.shelf.now name) (g.S.Shelf.faults c.args.shelf.now name) in
    no_fault (HasGenerated c.in-Gen.size c.in-Gen.number) c.gen_text-text.result (made_no_fault c.in-Gen.size c.in-Gen.number) c.gen_text-text.ensures.stop

pub returns-in-Gen-clause-answered : goal.returns-in-Gen-clause-answered
returns-in-Gen-clause-answered g c =
    let content = g.S.Shelf.content c.args.shelf.now in
    let rises = λ (name : List ℕ). Rose (g.S.Shelf.faults c.args.shelf.now name) (g.S.Shelf.faults c.args.shelf.now name) in
    let answer = HasGenerated c.in-Gen.size c.in-Gen.number in
    subst (λ (x : Command). EndsBy (g.W.Sink.taken c.args.out.now) (g.W.Sink.taken c.tell-in-Gen.new.out) (Before content (asked_of x))
    (IsAnswer rises content (asked_of x)) c.tell-in-Gen.result) (sym c.in-Gen.is)
    (ends_finish (g.W.Sink.taken c.args.out.now) (g.W.Sink.taken c.tell-in-Gen.new.out) Nothing answer (told_status c.gen_text-text.result)
    (told_text c.gen_text-text.result) c.tell-in-Gen.result
    (result_tells answer c.gen_text-text.result c.gen_text-text.ensures.text c.gen_text-text.ensures.stop) c.tell-in-Gen.ensures.told
    c.tell-in-Gen.ensures.prefix)

pub tell-requires-in-Blackbox : goal.tell-requires-in-Blackbox
tell-requires-in-Blackbox g c =
    let content = g.S.Shelf.content c.args.shelf.now in
    let rises = λ (name : List ℕ). Rose (g.S.Shelf.faults c.args.shelf.now name) (g.S.Shelf.faults c.blackbox_text.new.shelf name) in
    no_fault (IsAnswer rises content (blackbox c.in-Blackbox.ready.now c.in-Blackbox.first c.in-Blackbox.budget)) c.blackbox_text.result
    (blackbox_no_fault rises content c.in-Blackbox.ready.now c.in-Blackbox.first c.in-Blackbox.budget) c.blackbox_text.ensures.stop

pub returns-in-Blackbox-clause-answered : goal.returns-in-Blackbox-clause-answered
returns-in-Blackbox-clause-answered g c =
    let content = g.S.Shelf.content c.args.shelf.now in
    let rises = λ (name : List ℕ). Rose (g.S.Shelf.faults c.args.shelf.now name) (g.S.Shelf.faults c.blackbox_text.new.shelf name) in
    let answer = IsAnswer rises content (blackbox c.in-Blackbox.ready.now c.in-Blackbox.first c.in-Blackbox.budget) in
    subst (λ (x : Command). EndsBy (g.W.Sink.taken c.args.out.now) (g.W.Sink.taken c.tell-in-Blackbox.new.out) (Before content (asked_of x))
    (IsAnswer rises content (asked_of x)) c.tell-in-Blackbox.result) (sym c.in-Blackbox.is)
    (ends_finish (g.W.Sink.taken c.args.out.now) (g.W.Sink.taken c.tell-in-Blackbox.new.out) Nothing answer (told_status c.blackbox_text.result)
    (told_text c.blackbox_text.result) c.tell-in-Blackbox.result
    (result_tells answer c.blackbox_text.result c.blackbox_text.ensures.text c.blackbox_text.ensures.stop) c.tell-in-Blackbox.ensures.told
    c.tell-in-Blackbox.ensures.prefix)

pub tell-requires-in-Cut : goal.tell-requires-in-Cut
tell-requires-in-Cut g c =
    let content = g.S.Shelf.content c.args.shelf.now in
    let rises = λ (name : List ℕ). Rose (g.S.Shelf.faults c.args.shelf.now name) (g.S.Shelf.faults c.cut_text-text.new.shelf name) in
    no_fault (IsAnswer rises content (cut c.in-Cut.file.now c.in-Cut.starts.now c.in-Cut.observer.now c.in-Cut.env c.in-Cut.budget)) c.cut_text-text.result
    (cut_no_fault rises content c.in-Cut.file.now c.in-Cut.starts.now c.in-Cut.observer.now c.in-Cut.env c.in-Cut.budget) c.cut_text-text.ensures.stop

pub returns-in-Cut-clause-answered : goal.returns-in-Cut-clause-answered
returns-in-Cut-clause-answered g c =
    let content = g.S.Shelf.content c.args.shelf.now in
    let rises = λ (name : List ℕ). Rose (g.S.Shelf.faults c.args.shelf.now name) (g.S.Shelf.faults c.cut_text-text.new.shelf name) in
    let answer = IsAnswer rises content (cut c.in-Cut.file.now c.in-Cut.starts.now c.in-Cut.observer.now c.in-Cut.env c.in-Cut.budget) in
    subst (λ (x : Command). EndsBy (g.W.Sink.taken c.args.out.now) (g.W.Sink.taken c.tell-in-Cut.new.out) (Before content (asked_of x))
    (IsAnswer rises content (asked_of x)) c.tell-in-Cut.result) (sym c.in-Cut.is)
    (ends_finish (g.W.Sink.taken c.args.out.now) (g.W.Sink.taken c.tell-in-Cut.new.out) Nothing answer (told_status c.cut_text-text.result)
    (told_text c.cut_text-text.result) c.tell-in-Cut.result
    (result_tells answer c.cut_text-text.result c.cut_text-text.ensures.text c.cut_text-text.ensures.stop) c.tell-in-Cut.ensures.told
    c.tell-in-Cut.ensures.prefix)

pub tell-requires-in-Certify : goal.tell-requires-in-Certify
tell-requires-in-Certify g c =
    let content = g.S.Shelf.content c.args.shelf.now in
    let rises = λ (name : List ℕ). Rose (g.S.Shelf.faults c.args.shelf.now name) (g.S.Shelf.faults c.certify_text.new.shelf name) in
    no_fault (IsAnswer rises content (certify c.in-Certify.file.now)) c.certify_text.result
    (certify_no_fault rises content c.in-Certify.file.now) c.certify_text.ensures.stop

pub returns-in-Certify-clause-answered : goal.returns-in-Certify-clause-answered
returns-in-Certify-clause-answered g c =
    let content = g.S.Shelf.content c.args.shelf.now in
    let rises = λ (name : List ℕ). Rose (g.S.Shelf.faults c.args.shelf.now name) (g.S.Shelf.faults c.certify_text.new.shelf name) in
    let answer = IsAnswer rises content (certify c.in-Certify.file.now) in
    subst (λ (x : Command). EndsBy (g.W.Sink.taken c.args.out.now) (g.W.Sink.taken c.tell-in-Certify.new.out) (Before content (asked_of x))
    (IsAnswer rises content (asked_of x)) c.tell-in-Certify.result) (sym c.in-Certify.is)
    (ends_finish (g.W.Sink.taken c.args.out.now) (g.W.Sink.taken c.tell-in-Certify.new.out) Nothing answer (told_status c.certify_text.result)
    (told_text c.certify_text.result) c.tell-in-Certify.result
    (result_tells answer c.certify_text.result c.certify_text.ensures.text c.certify_text.ensures.stop) c.tell-in-Certify.ensures.told
    c.tell-in-Certify.ensures.prefix)

pub returns-in-Recheck-clause-answered : goal.returns-in-Recheck-clause-answered
returns-in-Recheck-clause-answered g c =
    let content = g.S.Shelf.content c.args.shelf.now in
    let rises = λ (name : List ℕ). Rose (g.S.Shelf.faults c.args.shelf.now name) (g.S.Shelf.faults c.recheck.new.shelf name) in
    subst (λ (x : Command). EndsBy (g.W.Sink.taken c.args.out.now) (g.W.Sink.taken c.recheck.new.out) (Before content (asked_of x))
    (IsAnswer rises content (asked_of x)) c.recheck.result) (sym c.in-Recheck.is) c.recheck.ensures.answered

pub returns-in-Run-clause-pieces : goal.returns-in-Run-clause-pieces
returns-in-Run-clause-pieces g c =
    subst (λ (x : Command). HasWritten (ArePieces (Some (asked_of x))) c.run.result (g.W.Sink.log c.args.out.now) (g.W.Sink.log c.run.new.out))
    (sym c.in-Run.is) c.run.ensures.pieces

pub returns-in-Meaning-clause-pieces : goal.returns-in-Meaning-clause-pieces
returns-in-Meaning-clause-pieces g c =
    subst (λ (x : Command). HasWritten (ArePieces (Some (asked_of x))) c.meaning.result (g.W.Sink.log c.args.out.now) (g.W.Sink.log c.meaning.new.out))
    (sym c.in-Meaning.is) c.meaning.ensures.pieces

pub returns-in-Infer-clause-fetched : goal.returns-in-Infer-clause-fetched
returns-in-Infer-clause-fetched g c =
    subst (λ (x : Command). HasFetched (files_of (asked_of x)) c.tell.result (g.S.Shelf.log c.args.shelf.now) (g.S.Shelf.log c.infer_text.new.shelf))
    (sym c.in-Infer.is)
    (told_fetched (c.in-Infer.file.now ∷ []) (g.S.Shelf.log c.args.shelf.now) (g.S.Shelf.log c.infer_text.new.shelf) c.infer_text.result c.tell.result
    c.infer_text.ensures.log (λ n. (c.tell.ensures.told n).0))

pub returns-in-Compile-clause-fetched : goal.returns-in-Compile-clause-fetched
returns-in-Compile-clause-fetched g c =
    subst (λ (x : Command). HasFetched (files_of (asked_of x)) c.tell-in-Compile.result (g.S.Shelf.log c.args.shelf.now)
    (g.S.Shelf.log c.compile_text.new.shelf)) (sym c.in-Compile.is)
    (told_fetched (c.in-Compile.file.now ∷ []) (g.S.Shelf.log c.args.shelf.now) (g.S.Shelf.log c.compile_text.new.shelf) c.compile_text.result
    c.tell-in-Compile.result c.compile_text.ensures.log (λ n. (c.tell-in-Compile.ensures.told n).0))

pub returns-in-Audit-clause-fetched : goal.returns-in-Audit-clause-fetched
returns-in-Audit-clause-fetched g c =
    subst (λ (x : Command). HasFetched (files_of (asked_of x)) c.tell-in-Audit.result (g.S.Shelf.log c.args.shelf.now)
    (g.S.Shelf.log c.audit_text-text.new.shelf)) (sym c.in-Audit.is)
    (told_fetched (c.in-Audit.file.now ∷ c.in-Audit.starts.now ∷ []) (g.S.Shelf.log c.args.shelf.now) (g.S.Shelf.log c.audit_text-text.new.shelf)
    c.audit_text-text.result c.tell-in-Audit.result c.audit_text-text.ensures.log (λ n. (c.tell-in-Audit.ensures.told n).0))

pub returns-in-Audit-clause-pieces : goal.returns-in-Audit-clause-pieces
returns-in-Audit-clause-pieces g c =
    subst (λ (x : Command). HasWritten (ArePieces (Some (asked_of x))) c.tell-in-Audit.result (g.W.Sink.log c.args.out.now)
    (g.W.Sink.log c.tell-in-Audit.new.out)) (sym c.in-Audit.is)
    (told_piece c.audit_text-text.result c.tell-in-Audit.result (g.W.Sink.log c.args.out.now) (g.W.Sink.log c.tell-in-Audit.new.out)
    (λ n. (c.tell-in-Audit.ensures.told n).0) c.tell-in-Audit.ensures.sent c.tell-in-Audit.ensures.broken)

pub returns-in-Gen-clause-fetched : goal.returns-in-Gen-clause-fetched
returns-in-Gen-clause-fetched g c =
    subst (λ (x : Command). HasFetched (files_of (asked_of x)) c.tell-in-Gen.result (g.S.Shelf.log c.args.shelf.now) (g.S.Shelf.log c.args.shelf.now))
    (sym c.in-Gen.is)
    (told_nothing (HasGenerated c.in-Gen.size c.in-Gen.number) (g.S.Shelf.log c.args.shelf.now) c.gen_text-text.result c.tell-in-Gen.result
    (made_no_read c.in-Gen.size c.in-Gen.number) c.gen_text-text.ensures.stop (λ n. (c.tell-in-Gen.ensures.told n).0))

pub returns-in-Gen-clause-pieces : goal.returns-in-Gen-clause-pieces
returns-in-Gen-clause-pieces g c =
    subst (λ (x : Command). HasWritten (ArePieces (Some (asked_of x))) c.tell-in-Gen.result (g.W.Sink.log c.args.out.now) (g.W.Sink.log c.tell-in-Gen.new.out))
    (sym c.in-Gen.is)
    (told_piece c.gen_text-text.result c.tell-in-Gen.result (g.W.Sink.log c.args.out.now) (g.W.Sink.log c.tell-in-Gen.new.out)
    (λ n. (c.tell-in-Gen.ensures.told n).0) c.tell-in-Gen.ensures.sent c.tell-in-Gen.ensures.broken)

pub returns-in-Blackbox-clause-fetched : goal.returns-in-Blackbox-clause-fetched
returns-in-Blackbox-clause-fetched g c =
    subst (λ (x : Command). HasFetched (files_of (asked_of x)) c.tell-in-Blackbox.result (g.S.Shelf.log c.args.shelf.now)
    (g.S.Shelf.log c.blackbox_text.new.shelf)) (sym c.in-Blackbox.is)
    (told_fetched (c.in-Blackbox.ready.now ∷ []) (g.S.Shelf.log c.args.shelf.now) (g.S.Shelf.log c.blackbox_text.new.shelf) c.blackbox_text.result
    c.tell-in-Blackbox.result c.blackbox_text.ensures.log (λ n. (c.tell-in-Blackbox.ensures.told n).0))

pub returns-in-Cut-clause-fetched : goal.returns-in-Cut-clause-fetched
returns-in-Cut-clause-fetched g c =
    subst (λ (x : Command). HasFetched (files_of (asked_of x)) c.tell-in-Cut.result (g.S.Shelf.log c.args.shelf.now) (g.S.Shelf.log c.cut_text-text.new.shelf))
    (sym c.in-Cut.is)
    (told_fetched (c.in-Cut.file.now ∷ c.in-Cut.starts.now ∷ []) (g.S.Shelf.log c.args.shelf.now) (g.S.Shelf.log c.cut_text-text.new.shelf)
    c.cut_text-text.result c.tell-in-Cut.result c.cut_text-text.ensures.log (λ n. (c.tell-in-Cut.ensures.told n).0))

pub returns-in-Cut-clause-pieces : goal.returns-in-Cut-clause-pieces
returns-in-Cut-clause-pieces g c =
    subst (λ (x : Command). HasWritten (ArePieces (Some (asked_of x))) c.tell-in-Cut.result (g.W.Sink.log c.args.out.now) (g.W.Sink.log c.tell-in-Cut.new.out))
    (sym c.in-Cut.is)
    (told_piece c.cut_text-text.result c.tell-in-Cut.result (g.W.Sink.log c.args.out.now) (g.W.Sink.log c.tell-in-Cut.new.out)
    (λ n. (c.tell-in-Cut.ensures.told n).0) c.tell-in-Cut.ensures.sent c.tell-in-Cut.ensures.broken)

pub returns-in-Certify-clause-fetched : goal.returns-in-Certify-clause-fetched
returns-in-Certify-clause-fetched g c =
    subst (λ (x : Command). HasFetched (files_of (asked_of x)) c.tell-in-Certify.result (g.S.Shelf.log c.args.shelf.now)
    (g.S.Shelf.log c.certify_text.new.shelf)) (sym c.in-Certify.is)
    (told_fetched (c.in-Certify.file.now ∷ []) (g.S.Shelf.log c.args.shelf.now) (g.S.Shelf.log c.certify_text.new.shelf) c.certify_text.result
    c.tell-in-Certify.result c.certify_text.ensures.log (λ n. (c.tell-in-Certify.ensures.told n).0))
