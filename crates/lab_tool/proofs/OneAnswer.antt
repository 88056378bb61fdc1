-- A question has one answer at most.
use Rattle.std.proofs.Common.{◌≡◌, ℕ, List, [], ◌∷◌, Option, Some, None, sym, subst, ◌∙◌, inl, inr}
use Rattle.std.proofs.lemmas.Option.{none-some, same_Some}
use Rattle.tim_base.specs.Faults.{Rose}
use Rattle.mit_syntax.specs.Program.{Syntax}
use Rattle.flow_path.specs.declared.step.Spot.{Spot}
use Rattle.tool_texts.specs.declared.status.Status.{Status}
use Rattle.tool_texts.specs.declared.status.Status.TheVariants.{Done}
use Rattle.tool_stages.specs.declared.envs.Environment.{Environment}
use Rattle.tool_stages.specs.Accepted.{HasChecked}
use Rattle.tool_stages.specs.Stages.{Then, Types}
use Rattle.tool_stages.specs.Content.{Content, IsKnown, AreKnown, NoneRises}
use Rattle.tool_stages.proofs.ChainLemmas.{first_file, second_file, reads_one}
use Rattle.lab_words.specs.QuestionAsked.{Asked, why, why_starts, why_audit, seen, timeline, bound, steady, leak, tune, check, help, version}
use Rattle.lab_bound.proofs.Single.{bound_once}
use Rattle.lab_leak.proofs.Single.{one_leak_in_lab}
use Rattle.lab_check.proofs.OneFound.{one_check}
use Rattle.lab_seen.proofs.OneSeen.{seen_once}
use Rattle.lab_steady.specs.Answer.{parts_or}
use Rattle.lab_steady.proofs.OneAnswer.{one_in}
use Rattle.lab_timeline.proofs.OneTimeline.{timeline_once}
use Rattle.lab_tune.proofs.Single.{one_tune}
use Rattle.lab_why.proofs.FaultLemmas.{why_one}
use Rattle.lab_why.proofs.OneReason.{one_reason}
use Rattle.lab_why.proofs.OneOrigins.{one_origins}
use Rattle.lab_why.specs.Answers.{ReasonStops}
use Rattle.lab_why.specs.Names.{named}
use Rattle.lab_why.specs.Reasons.{HasReason}
use Rattle.lab_why.specs.Origins.{HasOrigins, NameStops}
use Rattle.lab_tool.specs.Answers.{IsAnswer, IsAnswerIn}
use Rattle.lab_tool.specs.Complete.{files_of, own_files}
use Rattle.lab_tool.specs.Machines.{machine_in}
use Rattle.lab_tool.proofs.OnMachine.{one_on, split_files}
use Rattle.lab_tool.proofs.ReadyLemmas.{ready_once}
use Rattle.lab_tool.proofs.StartsLemmas.{starts_once}
use Rattle.lab_tool.proofs.WhyLemmas.{is_typable, name_stops, reason_stops}

reason_one : (c : Option (Option (List ℕ))) (p : Syntax) (s u : Status) (t x : List ℕ)
    → (HasReason c p t → HasReason c p x → t ≡ x) → Then (ReasonStops c p) (Types p) (λ q. HasChecked p) s t
    → Then (ReasonStops c p) (Types p) (λ q. HasChecked p) u x → (s ≡ u) × (t ≡ x)
reason_one c p s u t x same (inl h) (inl k) =
    let one = reason_stops c p s t h in
    let other = reason_stops c p u x k in
    (one.0 ∙ sym other.0, same one.1 other.1)
reason_one c p s u t x same (inl h) (inr k) =
    let can = is_typable p k.0 k.1 in
    absurd ((reason_stops c p s t h).1.refused.none can.0 can.1 can.2)
reason_one c p s u t x same (inr h) (inl k) =
    let can = is_typable p h.0 h.1 in
    absurd ((reason_stops c p u x k).1.refused.none can.0 can.1 can.2)
reason_one c p s u t x same (inr h) (inr k) = (h.2.0 ∙ sym k.2.0, h.2.1 ∙ sym k.2.1)

origin_one : (c : Option (Option (List ℕ))) (p : Syntax) (w : List ℕ) (s u : Status) (t x : List ℕ)
    → ((spot : Spot) → HasOrigins c p w spot t → HasOrigins c p w spot x → t ≡ x)
    → Then (NameStops p w) (λ spot. named p w ≡ Some spot) (λ spot s t. (s ≡ Done) × HasOrigins c p w spot t) s t
    → Then (NameStops p w) (λ spot. named p w ≡ Some spot) (λ spot s t. (s ≡ Done) × HasOrigins c p w spot t) u x → (s ≡ u) × (t ≡ x)
origin_one c p w s u t x same (inl h) (inl k) =
    let one = name_stops p w s t h in
    let other = name_stops p w u x k in
    (one.0 ∙ sym other.0, one.2 ∙ sym other.2)
origin_one c p w s u t x same (inl h) (inr k) = absurd (none-some k.0 (sym (name_stops p w s t h).1 ∙ k.1))
origin_one c p w s u t x same (inr h) (inl k) = absurd (none-some h.0 (sym (name_stops p w u x k).1 ∙ h.1))
origin_one c p w s u t x same (inr h) (inr k) =
    let spot : k.0 ≡ h.0 = same_Some k.0 h.0 (sym k.1 ∙ h.1) in
    (h.2.0 ∙ sym k.2.0, same h.0 h.2.1 (subst (λ z. HasOrigins c p w z x) spot k.2.1))

answers_one_in : (env : Environment) (content : Content) (before now : List ℕ → ℕ) (a : Asked) (s u : Status) (t x : List ℕ)
    → AreKnown content (own_files a) → NoneRises (λ name. Rose (before name) (now name)) (own_files a)
    → IsAnswerIn env (λ name. Rose (before name) (now name)) content a s t → IsAnswerIn env (λ name. Rose (before name) (now name)) content a u x
    → (s ≡ u) × (t ≡ x)
answers_one_in env content before now (why file None) s u t x known none h k =
    let rises = λ (name : List ℕ). Rose (before name) (now name) in
    let good = first_file rises content file [] none known in
    let one = why_one s u t x (rises file) (content file) (λ p. Then (ReasonStops (content file) p) (Types p) (λ q. HasChecked p)) good.0 good.1
    (λ p o. reason_one (content file) p s u t x (one_reason (content file) p t x good.1 o)) h k in
    one
answers_one_in env content before now (why file (Some name)) s u t x known none h k =
    let rises = λ (name : List ℕ). Rose (before name) (now name) in
    let good = first_file rises content file [] none known in
    reads_one s u t x (rises file) (content file)
    (λ p. Then (NameStops p name) (λ spot. named p name ≡ Some spot) (λ spot s t. (s ≡ Done) × HasOrigins (content file) p name spot t)) good.0 good.1
    (λ p o. origin_one (content file) p name s u t x (λ spot. one_origins (content file) p name spot t x good.1 o)) h k
answers_one_in env content before now (why_starts file starts) s u t x known none h k =
    let rises = λ (name : List ℕ). Rose (before name) (now name) in
    let good = first_file rises content file (starts ∷ []) none known in
    let other = second_file rises content file starts [] none known in
    let one = starts_once rises content file starts s u t x good.0 other.0 good.1 other.1 h k in
    one
answers_one_in env content before now (why_audit file starts observer machine budget) s u t x known none h k =
    let rises = λ (name : List ℕ). Rose (before name) (now name) in
    let good = first_file rises content file (starts ∷ []) none known in
    let other = second_file rises content file starts [] none known in
    let one = ready_once rises content file starts observer env budget s u t x good.0 other.0 good.1 other.1 h k in
    one
answers_one_in env content before now (seen file starts observer machine budget refused) s u t x known none h k =
    let rises = λ (name : List ℕ). Rose (before name) (now name) in
    let good = first_file rises content file (starts ∷ []) none known in
    let other = second_file rises content file starts [] none known in
    let one = seen_once rises content file starts observer env budget refused s u t x good.0 other.0 good.1 other.1 h k in
    one
answers_one_in env content before now (timeline file starts observer machine budget refused) s u t x known none h k =
    let rises = λ (name : List ℕ). Rose (before name) (now name) in
    let good = first_file rises content file (starts ∷ []) none known in
    let other = second_file rises content file starts [] none known in
    let one = timeline_once rises content file starts observer env budget refused s u t x good.0 other.0 good.1 other.1 h k in
    one
answers_one_in env content before now (bound file starts observer machine budget) s u t x known none h k =
    let rises = λ (name : List ℕ). Rose (before name) (now name) in
    let good = first_file rises content file (starts ∷ []) none known in
    let other = second_file rises content file starts [] none known in
    let one = bound_once content before now file starts observer env budget s u t x good.1 other.1 good.0 other.0 h k in
    one
answers_one_in env content before now (steady file observer parts constant whole) s u t x known none h k =
    let rises = λ (name : List ℕ). Rose (before name) (now name) in
    let good = first_file rises content file [] none known in
    let one = one_in constant file observer (parts_or parts observer) whole rises content s u t x good.0 good.1 h k in
    one
answers_one_in env content before now (leak file starts observer machine budget refused) s u t x known none h k =
    let rises = λ (name : List ℕ). Rose (before name) (now name) in
    let good = first_file rises content file (starts ∷ []) none known in
    let other = second_file rises content file starts [] none known in
    let one = one_leak_in_lab content before now file starts observer env budget refused s u t x good.1 other.1 good.0 other.0 h k in
    one
answers_one_in env content before now (tune file starts observer machine budget mark bits) s u t x known none h k =
    let rises = λ (name : List ℕ). Rose (before name) (now name) in
    let good = first_file rises content file (starts ∷ []) none known in
    let other = second_file rises content file starts [] none known in
    let one = one_tune content before now file starts observer env budget mark bits s u t x good.1 other.1 good.0 other.0 h k in
    one
answers_one_in env content before now (check file) s u t x known none h k =
    let rises = λ (name : List ℕ). Rose (before name) (now name) in
    let good = first_file rises content file [] none known in
    one_check rises content file s u t x good.0 good.1 h k
answers_one_in env content before now (help command) s u t x known none h k = (h.0 ∙ sym k.0, h.1 ∙ sym k.1)
answers_one_in env content before now version s u t x known none h k = (h.0 ∙ sym k.0, h.1 ∙ sym k.1)

pub answers_one : (content : Content) (before now : List ℕ → ℕ) (a : Asked) (s u : Status) (t x : List ℕ) → AreKnown content (files_of a)
    → NoneRises (λ name. Rose (before name) (now name)) (files_of a)
    → IsAnswer (λ name. Rose (before name) (now name)) content a s t → IsAnswer (λ name. Rose (before name) (now name)) content a u x
    → (s ≡ u) × (t ≡ x)
answers_one content before now a s u t x known none h k =
    let rises = λ (name : List ℕ). Rose (before name) (now name) in
    let told = split_files (λ name. IsKnown (content name)) (machine_in a) (own_files a) known in
    let kept = split_files (λ name. rises name → ⊥) (machine_in a) (own_files a) none in
    one_on rises content (machine_in a) (λ e. IsAnswerIn e rises content a) s u t x told.0 kept.0
    (λ e. answers_one_in e content before now a s u t x told.1 kept.1) h k
