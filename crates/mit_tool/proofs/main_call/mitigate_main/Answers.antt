use Rattle.std.proofs.Common.{◌≡◌, ◌⊎◌, inr, refl, ap, Err}
use Rattle.std.specs.Prelude.{ℕ, List, IfSome, map, string_bytes}
use Rattle.tim_base.specs.Faults.{Rose}
use Rattle.tool_words.specs.WordsAsked.{Asked, asked_of, command_of}
use Rattle.tool_texts.specs.declared.status.Status.TheVariants.{Done, Usage, Memory}
use Rattle.tool_texts.specs.Texts.{usage_text, memory_line}
use Rattle.tool_texts.specs.Ends.{EndsBy, Nothing}
use Rattle.mit_tool.specs.Answers.{IsUsage}
use Rattle.mit_tool.specs.Commands.{files_of, IsAnswer, Before, typed_content, HeldTypes, AreWithin}
use Rattle.mit_tool.specs.Complete.{CanBeDone}
use Rattle.tool_texts.proofs.EndLemmas.{ends_finish, ends_memory}
use Rattle.mit_tool.proofs.AskedLemmas.{ends_past, ends_rechecked, ends_held, completes}
use Rattle.mit_tool.proofs.RanLemmas.{RanSoundly, ends_ran, runs_soundly, no_words_run}
use Rattle.mit_tool.proofs.CommandLemmas.{nothing_before, memory_pieces, within}
use Rattle.mit_tool.specs.Held.{EndsByOne, told_all}
use Rattle.tool_stages.specs.Content.{NoneRises}
use Rattle.tool_stages.specs.Accepted.{IsAccepted}
use Rattle.tool_stages.specs.Fetches.{named_by}
use Rattle.tool_stages.proofs.AskedLemmas.{any_some, asked_some}
use Rattle.tool_stages.proofs.FetchLemmas.{fetched_nothing, never_read}
use Rattle.mit_tool.proofs.LoggedLemmas.{one_piece}
use Rattle.mit_tool.specs.Logged.{ArePieces}
use Rattle.mit_tool.proofs.main_call.mitigate_main.Goals as goal

pub returns-in-Err-Usage-clause-usage : goal.returns-in-Err-Usage-clause-usage
returns-in-Err-Usage-clause-usage g c =
    λ e. ends_finish (g.W.Sink.taken c.args.out.now) (g.W.Sink.taken c.stop.new.out) Nothing IsUsage Usage usage_text c.stop.result (
      refl,
      refl,
    ) c.stop.ensures.told c.stop.ensures.prefix

pub returns-in-Err-Memory-clause-answered : goal.returns-in-Err-Memory-clause-answered
returns-in-Err-Memory-clause-answered g c =
    let content = g.S.Shelf.content c.args.shelf.now in
    let rises = λ (name : List ℕ). Rose (g.S.Shelf.faults c.args.shelf.now name) (g.S.Shelf.faults c.args.shelf.now name) in
    any_some (command_of (map string_bytes c.args.words.now))
    (λ (a : Asked). EndsBy (g.W.Sink.taken c.args.out.now) (g.W.Sink.taken c.stop_for_memory.new.out) (Before content a) (IsAnswer rises content a)
    c.stop_for_memory.result)
    (λ a. ends_memory (g.W.Sink.taken c.args.out.now) (g.W.Sink.taken c.stop_for_memory.new.out) (Before content a) (IsAnswer rises content a)
    c.stop_for_memory.result (nothing_before content a) c.stop_for_memory.ensures.told c.stop_for_memory.ensures.prefix)

pub returns-in-Err-Memory-clause-usage : goal.returns-in-Err-Memory-clause-usage
returns-in-Err-Memory-clause-usage g c =
    λ e. ends_memory (g.W.Sink.taken c.args.out.now) (g.W.Sink.taken c.stop_for_memory.new.out) Nothing IsUsage c.stop_for_memory.result refl
    c.stop_for_memory.ensures.told c.stop_for_memory.ensures.prefix

pub returns-in-Ok-clause-complete : goal.returns-in-Ok-clause-complete
returns-in-Ok-clause-complete g c =
    let content = g.S.Shelf.content c.args.shelf.now in
    let rises = λ (name : List ℕ). Rose (g.S.Shelf.faults c.args.shelf.now name) (g.S.Shelf.faults c.obey.new.shelf name) in
    asked_some (command_of (map string_bytes c.args.words.now)) (asked_of c.in-Ok.command)
    (λ (a : Asked). CanBeDone content a → NoneRises rises (files_of a) → (Rose (g.W.Sink.faults c.args.out.now) (g.W.Sink.faults c.obey.new.out) → ⊥)
    → (c.obey.result ≡ Done) ⊎ (c.obey.result ≡ Memory))
    c.in-Ok.ensures.asked
    (completes (g.W.Sink.taken c.args.out.now) (g.W.Sink.taken c.obey.new.out) rises content (asked_of c.in-Ok.command) c.obey.result
    (Rose (g.W.Sink.faults c.args.out.now) (g.W.Sink.faults c.obey.new.out)) c.obey.ensures.answered c.obey.ensures.write c.in-Ok.ensures.range)

pub returns-in-Err-Memory-clause-complete : goal.returns-in-Err-Memory-clause-complete
returns-in-Err-Memory-clause-complete g c =
    let content = g.S.Shelf.content c.args.shelf.now in
    let rises = λ (name : List ℕ). Rose (g.S.Shelf.faults c.args.shelf.now name) (g.S.Shelf.faults c.args.shelf.now name) in
    let risen = Rose (g.W.Sink.faults c.args.out.now) (g.W.Sink.faults c.stop_for_memory.new.out) in
    any_some (command_of (map string_bytes c.args.words.now)) (λ (a : Asked). CanBeDone content a → NoneRises rises (files_of a) → (risen → ⊥)
    → (c.stop_for_memory.result ≡ Done) ⊎ (c.stop_for_memory.result ≡ Memory))
    (λ a can none n. inr (c.stop_for_memory.ensures.told (λ e. n (c.stop_for_memory.ensures.fault e))).0)

pub returns-in-Ok-clause-accepted : goal.returns-in-Ok-clause-accepted
returns-in-Ok-clause-accepted g c = λ past.
    let content = g.S.Shelf.content c.args.shelf.now in
    let rises = λ (name : List ℕ). Rose (g.S.Shelf.faults c.args.shelf.now name) (g.S.Shelf.faults c.obey.new.shelf name) in
    let a = asked_of c.in-Ok.command in
    asked_some (command_of (map string_bytes c.args.words.now)) a (λ (a : Asked). IfSome (typed_content content a) IsAccepted) c.in-Ok.ensures.asked
    (ends_past rises content a (g.W.Sink.taken c.args.out.now) (g.W.Sink.taken c.obey.new.out) (Before content a)
    c.obey.result c.obey.ensures.answered past)

pub returns-in-Ok-clause-ran : goal.returns-in-Ok-clause-ran
returns-in-Ok-clause-ran g c =
    let content = g.S.Shelf.content c.args.shelf.now in
    let rises = λ (name : List ℕ). Rose (g.S.Shelf.faults c.args.shelf.now name) (g.S.Shelf.faults c.obey.new.shelf name) in
    let old = g.W.Sink.taken c.args.out.now in
    let new = g.W.Sink.taken c.obey.new.out in
    let a = asked_of c.in-Ok.command in
    runs_soundly content old new c.obey.result (map string_bytes c.args.words.now)
    (asked_some (command_of (map string_bytes c.args.words.now)) a (RanSoundly content old new c.obey.result) c.in-Ok.ensures.asked
    (ends_ran c.typed_are_sound.ensures rises content old new (Before content a) c.obey.result a c.obey.ensures.answered))

pub returns-in-Err-Memory-clause-ran : goal.returns-in-Err-Memory-clause-ran
returns-in-Err-Memory-clause-ran g c =
    let content = g.S.Shelf.content c.args.shelf.now in
    let rises = λ (name : List ℕ). Rose (g.S.Shelf.faults c.args.shelf.now name) (g.S.Shelf.faults c.args.shelf.now name) in
    let old = g.W.Sink.taken c.args.out.now in
    let new = g.W.Sink.taken c.stop_for_memory.new.out in
    runs_soundly content old new c.stop_for_memory.result (map string_bytes c.args.words.now)
    (any_some (command_of (map string_bytes c.args.words.now)) (RanSoundly content old new c.stop_for_memory.result)
    (λ a. ends_ran c.typed_are_sound.ensures rises content old new (Before content a) c.stop_for_memory.result a
    (ends_memory old new (Before content a) (IsAnswer rises content a) c.stop_for_memory.result (nothing_before content a)
    c.stop_for_memory.ensures.told c.stop_for_memory.ensures.prefix)))

pub returns-in-Err-Usage-clause-ran : goal.returns-in-Err-Usage-clause-ran
returns-in-Err-Usage-clause-ran g c =
    no_words_run (g.S.Shelf.content c.args.shelf.now) (g.W.Sink.taken c.args.out.now) (g.W.Sink.taken c.stop.new.out) c.stop.result
    (map string_bytes c.args.words.now) (c.in-Err-Usage.ensures.usage (ap Err c.in-Err-Usage.field-0-is))

pub returns-in-Ok-clause-rechecked : goal.returns-in-Ok-clause-rechecked
returns-in-Ok-clause-rechecked g c = λ past.
    let content = g.S.Shelf.content c.args.shelf.now in
    let rises = λ (name : List ℕ). Rose (g.S.Shelf.faults c.args.shelf.now name) (g.S.Shelf.faults c.obey.new.shelf name) in
    let a = asked_of c.in-Ok.command in
    asked_some (command_of (map string_bytes c.args.words.now)) a (HeldTypes content) c.in-Ok.ensures.asked
    (ends_rechecked rises content a (g.W.Sink.taken c.args.out.now) (g.W.Sink.taken c.obey.new.out) (Before content a)
    c.obey.result c.obey.ensures.answered past)

pub returns-in-Ok-clause-one : goal.returns-in-Ok-clause-one
returns-in-Ok-clause-one g c =
    let content = g.S.Shelf.content c.args.shelf.now in
    let rises = λ (name : List ℕ). Rose (g.S.Shelf.faults c.args.shelf.now name) (g.S.Shelf.faults c.obey.new.shelf name) in
    let risen = Rose (g.W.Sink.faults c.args.out.now) (g.W.Sink.faults c.obey.new.out) in
    let old = g.W.Sink.taken c.args.out.now in
    let new = g.W.Sink.taken c.obey.new.out in
    let a = asked_of c.in-Ok.command in
    asked_some (command_of (map string_bytes c.args.words.now)) a (λ (a : Asked). EndsByOne content rises risen old new a c.obey.result)
    c.in-Ok.ensures.asked
    (λ alike.
    let k = ends_held rises content a old new c.obey.result alike c.obey.ensures.answered in
    record {
      held = k.0;
      told = k.1;
      answered = k.2;
      accepted = ends_past rises (told_all k.0) a old new (Before (told_all k.0) a) c.obey.result k.2;
      rechecked = ends_rechecked rises (told_all k.0) a old new (Before (told_all k.0) a) c.obey.result k.2;
      complete = completes old new rises (told_all k.0) a c.obey.result risen k.2 c.obey.ensures.write c.in-Ok.ensures.range;
    })

pub returns-in-Err-Memory-clause-one : goal.returns-in-Err-Memory-clause-one
returns-in-Err-Memory-clause-one g c =
    let content = g.S.Shelf.content c.args.shelf.now in
    let rises = λ (name : List ℕ). Rose (g.S.Shelf.faults c.args.shelf.now name) (g.S.Shelf.faults c.args.shelf.now name) in
    let risen = Rose (g.W.Sink.faults c.args.out.now) (g.W.Sink.faults c.stop_for_memory.new.out) in
    let old = g.W.Sink.taken c.args.out.now in
    let new = g.W.Sink.taken c.stop_for_memory.new.out in
    any_some (command_of (map string_bytes c.args.words.now)) (λ (a : Asked). EndsByOne content rises risen old new a c.stop_for_memory.result)
    (λ a alike.
    let k = ends_held rises content a old new c.stop_for_memory.result alike
    (ends_memory old new (Before content a) (IsAnswer rises content a) c.stop_for_memory.result (nothing_before content a)
    c.stop_for_memory.ensures.told c.stop_for_memory.ensures.prefix) in
    record {
      held = k.0;
      told = k.1;
      answered = k.2;
      accepted = ends_past rises (told_all k.0) a old new (Before (told_all k.0) a) c.stop_for_memory.result k.2;
      rechecked = ends_rechecked rises (told_all k.0) a old new (Before (told_all k.0) a) c.stop_for_memory.result k.2;
      complete = λ can none n. inr (c.stop_for_memory.ensures.told (λ e. n (c.stop_for_memory.ensures.fault e))).0;
    })

pub returns-in-Ok-clause-bounded : goal.returns-in-Ok-clause-bounded
returns-in-Ok-clause-bounded g c =
    any_some (command_of (map string_bytes c.args.words.now)) AreWithin (within c.typed_are_sound.ensures c.few_release_lists.ensures.few)

pub returns-in-Err-Memory-clause-bounded : goal.returns-in-Err-Memory-clause-bounded
returns-in-Err-Memory-clause-bounded g c =
    any_some (command_of (map string_bytes c.args.words.now)) AreWithin (within c.typed_are_sound.ensures c.few_release_lists.ensures.few)

pub returns-in-Err-Usage-clause-bounded : goal.returns-in-Err-Usage-clause-bounded
returns-in-Err-Usage-clause-bounded g c =
    any_some (command_of (map string_bytes c.args.words.now)) AreWithin (within c.typed_are_sound.ensures c.few_release_lists.ensures.few)

pub returns-in-Err-Usage-clause-fetched : goal.returns-in-Err-Usage-clause-fetched
returns-in-Err-Usage-clause-fetched g c =
    fetched_nothing (named_by files_of (command_of (map string_bytes c.args.words.now))) (g.S.Shelf.log c.args.shelf.now) c.stop.result
    (never_read Usage c.stop.result (λ e. absurd cc) (λ n. (c.stop.ensures.told n).0))

pub returns-in-Err-Memory-clause-fetched : goal.returns-in-Err-Memory-clause-fetched
returns-in-Err-Memory-clause-fetched g c =
    fetched_nothing (named_by files_of (command_of (map string_bytes c.args.words.now))) (g.S.Shelf.log c.args.shelf.now) c.stop_for_memory.result
    (never_read Memory c.stop_for_memory.result (λ e. absurd cc) (λ n. (c.stop_for_memory.ensures.told n).0))

pub returns-in-Err-Memory-clause-pieces : goal.returns-in-Err-Memory-clause-pieces
returns-in-Err-Memory-clause-pieces g c =
    one_piece (ArePieces (command_of (map string_bytes c.args.words.now))) Memory c.stop_for_memory.result memory_line (g.W.Sink.log c.args.out.now)
    (g.W.Sink.log c.stop_for_memory.new.out)
    (memory_pieces (command_of (map string_bytes c.args.words.now)) memory_line)
    (λ n. (c.stop_for_memory.ensures.told n).0) c.stop_for_memory.ensures.sent c.stop_for_memory.ensures.broken
