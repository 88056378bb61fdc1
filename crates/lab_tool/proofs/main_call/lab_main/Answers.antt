use Rattle.std.proofs.Common.{◌≡◌, ◌⊎◌, inr, refl}
use Rattle.std.specs.Prelude.{ℕ, List, map, string_bytes}
use Rattle.tim_base.specs.Faults.{Rose}
use Rattle.tool_texts.specs.declared.status.Status.{Status}
use Rattle.tool_texts.specs.declared.status.Status.TheVariants.{Memory}
use Rattle.tool_texts.specs.Ends.{EndsBy, Nothing}
use Rattle.tool_texts.proofs.EndLemmas.{ends_memory}
use Rattle.tool_stages.specs.Content.{NoneRises}
use Rattle.tool_stages.specs.Fetches.{named_by}
use Rattle.tool_stages.proofs.AskedLemmas.{any_some, asked_some}
use Rattle.tool_stages.proofs.FetchLemmas.{fetched_nothing, never_read}
use Rattle.lab_words.specs.QuestionAsked.{Asked, question_of}
use Rattle.lab_words.specs.QuestionViews.{asked_of}
use Rattle.lab_tool.specs.Answers.{Before, IsAnswer, IsUsage}
use Rattle.lab_tool.specs.Complete.{CanEnd, files_of}
use Rattle.lab_tool.proofs.AskedLemmas.{nothing_before}
use Rattle.lab_tool.proofs.EndsLemmas.{completes}
use Rattle.lab_tool.proofs.main_call.lab_main.Goals as goal

pub returns-in-Err-Memory-clause-answered : goal.returns-in-Err-Memory-clause-answered
returns-in-Err-Memory-clause-answered g c =
    let content = g.S.Shelf.content c.args.shelf.now in
    let rises = λ (name : List ℕ). Rose (g.S.Shelf.faults c.args.shelf.now name) (g.S.Shelf.faults c.args.shelf.now name) in
    any_some (question_of (map string_bytes c.args.words.now))
    (λ (a : Asked). EndsBy (g.W.Sink.taken c.args.out.now) (g.W.Sink.taken c.stop_for_memory.new.out) (Before content a) (IsAnswer rises content a)
    c.stop_for_memory.result)
    (λ a. ends_memory (g.W.Sink.taken c.args.out.now) (g.W.Sink.taken c.stop_for_memory.new.out) (Before content a) (IsAnswer rises content a)
    c.stop_for_memory.result (nothing_before content a) c.stop_for_memory.ensures.told c.stop_for_memory.ensures.prefix)

pub returns-in-Err-Memory-clause-usage : goal.returns-in-Err-Memory-clause-usage
returns-in-Err-Memory-clause-usage g c =
    λ e. ends_memory (g.W.Sink.taken c.args.out.now) (g.W.Sink.taken c.stop_for_memory.new.out) Nothing (IsUsage (map string_bytes c.args.words.now))
    c.stop_for_memory.result refl c.stop_for_memory.ensures.told c.stop_for_memory.ensures.prefix

pub returns-in-Ok-clause-complete : goal.returns-in-Ok-clause-complete
returns-in-Ok-clause-complete g c =
    let content = g.S.Shelf.content c.args.shelf.now in
    let rises = λ (name : List ℕ). Rose (g.S.Shelf.faults c.args.shelf.now name) (g.S.Shelf.faults c.obey.new.shelf name) in
    asked_some (question_of (map string_bytes c.args.words.now)) (asked_of c.in-Ok.question)
    (λ (a : Asked). (s : Status) → CanEnd content a s → NoneRises rises (files_of a)
    → (Rose (g.W.Sink.faults c.args.out.now) (g.W.Sink.faults c.obey.new.out) → ⊥)
    → (c.obey.result ≡ s) ⊎ (c.obey.result ≡ Memory))
    c.in-Ok.ensures.asked
    (completes (g.W.Sink.taken c.args.out.now) (g.W.Sink.taken c.obey.new.out) rises content (asked_of c.in-Ok.question) c.obey.result
    (Rose (g.W.Sink.faults c.args.out.now) (g.W.Sink.faults c.obey.new.out)) c.obey.ensures.answered c.obey.ensures.write)

pub returns-in-Err-Memory-clause-complete : goal.returns-in-Err-Memory-clause-complete
returns-in-Err-Memory-clause-complete g c =
    let content = g.S.Shelf.content c.args.shelf.now in
    let rises = λ (name : List ℕ). Rose (g.S.Shelf.faults c.args.shelf.now name) (g.S.Shelf.faults c.args.shelf.now name) in
    let risen = Rose (g.W.Sink.faults c.args.out.now) (g.W.Sink.faults c.stop_for_memory.new.out) in
    any_some (question_of (map string_bytes c.args.words.now)) (λ (a : Asked). (s : Status) → CanEnd content a s → NoneRises rises (files_of a) → (risen → ⊥)
    → (c.stop_for_memory.result ≡ s) ⊎ (c.stop_for_memory.result ≡ Memory))
    (λ a s can none n. inr (c.stop_for_memory.ensures.told (λ e. n (c.stop_for_memory.ensures.fault e))).0)

pub returns-in-Err-Usage-clause-fetched : goal.returns-in-Err-Usage-clause-fetched
returns-in-Err-Usage-clause-fetched g c =
    fetched_nothing (named_by files_of (question_of (map string_bytes c.args.words.now))) (g.S.Shelf.log c.args.shelf.now) c.refuse.result c.refuse.ensures.read

pub returns-in-Err-Memory-clause-fetched : goal.returns-in-Err-Memory-clause-fetched
returns-in-Err-Memory-clause-fetched g c =
    fetched_nothing (named_by files_of (question_of (map string_bytes c.args.words.now))) (g.S.Shelf.log c.args.shelf.now) c.stop_for_memory.result
    (never_read Memory c.stop_for_memory.result (λ e. absurd cc) (λ n. (c.stop_for_memory.ensures.told n).0))
