-- A question that can end in some way ends so.
use Rattle.std.proofs.Common.{◌≡◌, ◌⊎◌, ℕ, List, [], ◌∷◌, Option, Some, None, refl, inl, inr}
use Rattle.std.specs.Bool.{⊤}
use Rattle.tool_texts.specs.declared.status.Status.{Status}
use Rattle.tool_texts.specs.declared.status.Status.TheVariants as status
use Rattle.tool_texts.specs.Ends.{EndsBy}
use Rattle.tool_stages.specs.declared.envs.Environment.{Environment}
use Rattle.tool_stages.specs.Content.{Content, IsKnown, AreKnown, NoneRises}
use Rattle.tool_stages.proofs.ChainLemmas.{first_file, second_file}
use Rattle.lab_bound.specs.Complete.{CanBound}
use Rattle.lab_ready.specs.Complete.{CanReady}
use Rattle.lab_bound.proofs.Answering.{completes as bound_completes}
use Rattle.lab_leak.specs.Complete.{CanLeak}
use Rattle.lab_leak.proofs.Answering.{completes as leak_completes}
use Rattle.lab_runs.specs.Shown.{CanShow}
use Rattle.lab_runs.proofs.ShownLemmas.{show_completes}
use Rattle.lab_seen.specs.Seen.{AreLines, SeenBefore}
use Rattle.lab_steady.specs.Answer.{parts_or}
use Rattle.lab_steady.proofs.OneAnswer.{steady_ends}
use Rattle.lab_timeline.specs.Timed.{AreTimelines, TimelinesBefore}
use Rattle.lab_tune.specs.Complete.{CanTune}
use Rattle.lab_tune.proofs.Answering.{completes as tune_completes}
use Rattle.lab_words.specs.QuestionAsked.{Asked, why, why_starts, why_audit, seen, timeline, bound, steady, leak, tune, check, help, version}
use Rattle.lab_tool.specs.Answers.{Before, BeforeIn, IsAnswer, IsAnswerIn}
use Rattle.lab_tool.specs.Complete.{CanEnd, GoesIn, IsDoneIf, Names, files_of, own_files}
use Rattle.lab_tool.specs.Machines.{machine_in}
use Rattle.lab_tool.proofs.AskedLemmas.{nothing_before_in}
use Rattle.lab_tool.proofs.OnMachine.{ends_on, split_files}
use Rattle.lab_tool.proofs.ReadyLemmas.{ready_done}
use Rattle.lab_tool.proofs.StartsLemmas.{starts_ends}
use Rattle.lab_tool.proofs.WhyLemmas.{check_ends, origin_ends, why_ends}

-- a call whose answer has one status, and whose writes do not fail
ends_as : (old new : Option (List ℕ)) (Before : List ℕ → Type 0) (A : Status → List ℕ → Type 0) (r e : Status) → EndsBy old new Before A r
    → (r ≡ status.WriteFault → ⊥) → ((t : List ℕ) → A r t → r ≡ e) → (r ≡ e) ⊎ (r ≡ status.Memory)
ends_as old new Before A status.Done e h n f = inl (f h.0 h.1)
ends_as old new Before A status.Refused e h n f = inl (f h.0 h.1)
ends_as old new Before A status.Syntax e h n f = inl (f h.0 h.1)
ends_as old new Before A status.Starts e h n f = inl (f h.0 h.1)
ends_as old new Before A status.Usage e h n f = inl (f h.0 h.1)
ends_as old new Before A status.ReadFault e h n f = inl (f h.0 h.1)
ends_as old new Before A status.WriteFault e h n f = absurd (n refl)
ends_as old new Before A status.TooLong e h n f = inl (f h.0 h.1)
ends_as old new Before A status.Budget e h n f = inl (f h.0 h.1)
ends_as old new Before A status.Disagree e h n f = inl (f h.0 h.1)
ends_as old new Before A status.Unfinished e h n f = inl (f h.0 h.1)
ends_as old new Before A status.Memory e h n f = inr refl
ends_as old new Before A status.Rejected e h n f = inl (f h.0 h.1)

-- what ends well only where it can
done_if : (Can : Type 0) (r e : Status) → IsDoneIf Can e → (Can → (r ≡ status.Done) ⊎ (r ≡ status.Memory)) → (r ≡ e) ⊎ (r ≡ status.Memory)
done_if Can r status.Done h f = f h
done_if Can r status.Refused h f = absurd h
done_if Can r status.Syntax h f = absurd h
done_if Can r status.Starts h f = absurd h
done_if Can r status.Usage h f = absurd h
done_if Can r status.ReadFault h f = absurd h
done_if Can r status.WriteFault h f = absurd h
done_if Can r status.TooLong h f = absurd h
done_if Can r status.Budget h f = absurd h
done_if Can r status.Disagree h f = absurd h
done_if Can r status.Unfinished h f = absurd h
done_if Can r status.Memory h f = absurd h
done_if Can r status.Rejected h f = absurd h

completes_in : (env : Environment) (old new : Option (List ℕ)) (Rises : List ℕ → Type 0) (content : Content) (a : Asked) (r : Status) (Rose : Type 0)
    → EndsBy old new (BeforeIn env content a) (IsAnswerIn env Rises content a) r → (r ≡ status.WriteFault → Rose)
    → (e : Status) → AreKnown content (own_files a) → GoesIn env content a e → NoneRises Rises (own_files a) → (Rose → ⊥) → (r ≡ e) ⊎ (r ≡ status.Memory)
completes_in env old new Rises content (why file None) r Rose ends write e known can none n =
    let k = first_file Rises content file [] none known in
    ends_as old new (BeforeIn env content (why file None)) (IsAnswerIn env Rises content (why file None)) r e ends (λ f. n (write f))
    (λ t h. why_ends Rises content file r e t k.0 k.1 can h)
completes_in env old new Rises content (why file (Some name)) r Rose ends write e known can none n =
    let k = first_file Rises content file [] none known in
    done_if (Names (content file) name) r e can (λ goes.
    ends_as old new (BeforeIn env content (why file (Some name))) (IsAnswerIn env Rises content (why file (Some name))) r status.Done ends (λ f. n (write f))
    (λ t h. origin_ends Rises content file name r t k.0 k.1 goes h))
completes_in env old new Rises content (why_starts file starts) r Rose ends write e known can none n =
    let k = first_file Rises content file (starts ∷ []) none known in
    let m = second_file Rises content file starts [] none known in
    ends_as old new (BeforeIn env content (why_starts file starts)) (IsAnswerIn env Rises content (why_starts file starts)) r e ends (λ f. n (write f))
    (λ t h. starts_ends Rises content file starts r e t k.0 m.0 k.1 m.1 can h)
completes_in env old new Rises content (why_audit file starts observer machine budget) r Rose ends write e known can none n =
    let k = first_file Rises content file (starts ∷ []) none known in
    let m = second_file Rises content file starts [] none known in
    done_if (CanReady content file starts observer env budget) r e can (λ goes.
    ends_as old new (BeforeIn env content (why_audit file starts observer machine budget))
    (IsAnswerIn env Rises content (why_audit file starts observer machine budget)) r status.Done ends (λ f. n (write f))
    (λ t h. ready_done Rises content file starts observer env budget r t k.0 m.0 goes h))
completes_in env old new Rises content (seen file starts observer machine budget refused) r Rose ends write e known can none n =
    let k = first_file Rises content file (starts ∷ []) none known in
    let m = second_file Rises content file starts [] none known in
    done_if (CanShow refused content file starts (Some observer)) r e can (λ goes.
    show_completes refused Rises content file starts (Some observer) (AreLines env budget) old new
    (SeenBefore content file starts observer env budget refused) r
    Rose ends write goes k.0 m.0 n)
completes_in env old new Rises content (timeline file starts observer machine budget refused) r Rose ends write e known can none n =
    let k = first_file Rises content file (starts ∷ []) none known in
    let m = second_file Rises content file starts [] none known in
    done_if (CanShow refused content file starts observer) r e can (λ goes.
    show_completes refused Rises content file starts observer (AreTimelines env budget) old new
    (TimelinesBefore content file starts observer env budget refused) r
    Rose ends write goes k.0 m.0 n)
completes_in env old new Rises content (bound file starts observer machine budget) r Rose ends write e known can none n =
    let k = first_file Rises content file (starts ∷ []) none known in
    let m = second_file Rises content file starts [] none known in
    done_if (CanBound content file starts observer env budget) r e can (λ goes.
    bound_completes old new Rises content file starts observer env budget r Rose ends write goes k.0 m.0 n)
completes_in env old new Rises content (steady file observer parts constant whole) r Rose ends write e known can none n =
    let k = first_file Rises content file [] none known in
    ends_as old new (BeforeIn env content (steady file observer parts constant whole))
    (IsAnswerIn env Rises content (steady file observer parts constant whole)) r e
    ends (λ f. n (write f)) (λ t h. steady_ends constant Rises content file observer (parts_or parts observer) whole r e t k.0 k.1 can h)
completes_in env old new Rises content (leak file starts observer machine budget refused) r Rose ends write e known can none n =
    let k = first_file Rises content file (starts ∷ []) none known in
    let m = second_file Rises content file starts [] none known in
    done_if (CanLeak refused content file starts observer env budget) r e can (λ goes.
    leak_completes old new refused Rises content file starts observer env budget r Rose ends write goes k.0 m.0 n)
completes_in env old new Rises content (tune file starts observer machine budget mark bits) r Rose ends write e known can none n =
    let k = first_file Rises content file (starts ∷ []) none known in
    let m = second_file Rises content file starts [] none known in
    done_if (CanTune content file starts observer env budget mark bits) r e can (λ goes.
    tune_completes old new Rises content file starts observer env budget mark bits r Rose ends write goes k.0 m.0 n)
completes_in env old new Rises content (check file) r Rose ends write e known can none n =
    let k = first_file Rises content file [] none known in
    ends_as old new (BeforeIn env content (check file)) (IsAnswerIn env Rises content (check file)) r e ends (λ f. n (write f))
    (λ t h. check_ends Rises content file r e t k.0 k.1 can h)
completes_in env old new Rises content (help command) r Rose ends write e known can none n =
    done_if ⊤ r e can (λ goes.
    ends_as old new (BeforeIn env content (help command)) (IsAnswerIn env Rises content (help command)) r status.Done ends (λ f. n (write f)) (λ t h. h.0))
completes_in env old new Rises content version r Rose ends write e known can none n =
    done_if ⊤ r e can (λ goes.
    ends_as old new (BeforeIn env content version) (IsAnswerIn env Rises content version) r status.Done ends (λ f. n (write f)) (λ t h. h.0))

pub completes : (old new : Option (List ℕ)) (Rises : List ℕ → Type 0) (content : Content) (a : Asked) (r : Status) (Rose : Type 0)
    → EndsBy old new (Before content a) (IsAnswer Rises content a) r → (r ≡ status.WriteFault → Rose)
    → (e : Status) → CanEnd content a e → NoneRises Rises (files_of a) → (Rose → ⊥) → (r ≡ e) ⊎ (r ≡ status.Memory)
completes old new Rises content a r Rose ends write e can none n =
    let told = split_files (λ name. IsKnown (content name)) (machine_in a) (own_files a) can.known in
    let kept = split_files (λ name. Rises name → ⊥) (machine_in a) (own_files a) none in
    ends_on old new Rises content (machine_in a) (λ env. BeforeIn env content a) (λ env. IsAnswerIn env Rises content a) (λ env. GoesIn env content a e) r
    ((r ≡ e) ⊎ (r ≡ status.Memory)) told.0 kept.0 (λ env. nothing_before_in env content a)
    (λ env goes h. completes_in env old new Rises content a r Rose h write e told.1 goes kept.1 n) can.goes ends
