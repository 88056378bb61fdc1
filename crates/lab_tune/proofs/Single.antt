-- There is one answer.
use Rattle.std.proofs.Common.{◌≡◌, ◌^◌, ℕ, List, [], ◌∷◌, ◌++◌, length, Option, Some, None, inl, inr, refl, sym, ap, ◌∙◌}
use Rattle.tim_base.specs.Faults.{Rose}
use Rattle.label_lattice.specs.declared.label.Label.{Label}
use Rattle.timing_types.specs.Labelled.{LabelledProgram}
use Rattle.code_lower.specs.Lowered.{lowered}
use Rattle.history_bound.specs.Over.{history_made}
use Rattle.start_file.specs.Starts.{StartValue}
use Rattle.first_front.specs.declared.interval.Interval.{Interval}
use Rattle.start_tune.proofs.Enough.{one_enough, none_else}
use Rattle.start_tune.proofs.Single.{one_best}
use Rattle.tool_texts.specs.declared.status.Status.{Status}
use Rattle.tool_texts.specs.declared.status.Status.TheVariants as status
use Rattle.tool_stages.specs.declared.envs.Environment.{Environment}
use Rattle.tool_stages.specs.Envs.{environment}
use Rattle.tool_stages.specs.Stages.{Then}
use Rattle.tool_stages.proofs.OneLemmas.{Same, then_one}
use Rattle.machine_stage.specs.Lines.{machine_head}
use Rattle.audit_stage.proofs.Once.{audit_stops, one_audit_stop, not_fault}
use Rattle.lab_runs.proofs.NamedChains.{prepares_one}
use Rattle.lab_tune.specs.Answer.{relevant_in, BestIn, AreTold, FewStops, TuneStops, HasTune}
use Rattle.lab_tune.specs.Text.{choice_lines, head_lines, tune_line}
use Rattle.lab_tune.specs.Complete.{HasOneTune}
use Rattle.lab_tune.proofs.Answering.{tune_next}

one_stop : (e : Environment) (t : ℕ) (q : LabelledProgram) (o mark : ℕ) (ss : List StartValue) (s u : Status) (x y : List ℕ)
    → TuneStops e t q o mark ss s x → TuneStops e t q o mark ss u y → Same s u x y
one_stop e t q o mark ss status.Refused status.Refused x y h k = (refl, h.1 ∙ sym k.1)
one_stop e t q o mark ss status.Refused status.TooLong x y h k = absurd (h.0 k.0)
one_stop e t q o mark ss status.Refused _ x y h k = absurd k
one_stop e t q o mark ss status.TooLong status.Refused x y h k = absurd (k.0 h.0)
one_stop e t q o mark ss status.TooLong status.TooLong x y h k = (refl, h.2 ∙ sym k.2)
one_stop e t q o mark ss status.TooLong _ x y h k = absurd k
one_stop e t q o mark ss _ u x y h k = absurd h

-- where the best choices are told, nothing stops
none_stops : (e : Environment) (t : ℕ) (q : LabelledProgram) (o mark : ℕ) (ss : List StartValue) (is : List Interval) (s : Status) (x : List ℕ)
    → BestIn e t q o mark ss is → TuneStops e t q o mark ss s x → ⊥
none_stops e t q o mark ss is status.Refused x h k = k.0 (h.varied.place, h.at.place)
none_stops e t q o mark ss is status.TooLong x h k =
    let one = one_best (environment e q.program.order) history_made t (lowered q) mark (relevant_in q o) ss is h in
    elim k.1 [
      | inl long ↦ one.1 long
      | inr late ↦ one.2 late
    ]
none_stops e t q o mark ss is _ x h k = k

one_few_stop : (e : Environment) (t : ℕ) (q : LabelledProgram) (o mark : ℕ) (bits : Option ℕ) (ss : List StartValue) (s u : Status) (x y : List ℕ)
    → FewStops e t q o mark bits ss s x → FewStops e t q o mark bits ss u y → Same s u x y
one_few_stop e t q o mark None ss s u x y h k = absurd h
one_few_stop e t q o mark (Some n) ss status.Refused status.Refused x y h k = (refl, h.1 ∙ sym k.1)
one_few_stop e t q o mark (Some n) ss status.Refused _ x y h k = absurd k
one_few_stop e t q o mark (Some n) ss _ u x y h k = absurd h

-- where a choice tells so little, not all tell more
few_or_none : (e : Environment) (t : ℕ) (q : LabelledProgram) (o mark : ℕ) (bits : Option ℕ) (ss : List StartValue) (best is : List Interval) (s : Status)
    (x : List ℕ) → AreTold e t q o mark bits ss best is → FewStops e t q o mark bits ss s x → ⊥
few_or_none e t q o mark None ss best is s x h k = k
few_or_none e t q o mark (Some n) ss best is status.Refused x h k =
    none_else (environment e q.program.order) history_made t (lowered q) mark (relevant_in q o) ss (2 ^ n) h.0 h.1 k.0
few_or_none e t q o mark (Some n) ss best is _ x h k = k

one_told : (e : Environment) (t : ℕ) (q : LabelledProgram) (o mark : ℕ) (bits : Option ℕ) (ss : List StartValue) (best is js : List Interval)
    → AreTold e t q o mark bits ss best is → AreTold e t q o mark bits ss best js → is ≡ js
one_told e t q o mark None ss best is js h k = h ∙ sym k
one_told e t q o mark (Some n) ss best is js h k =
    let none : List Interval = [] in
    h.2
    ∙ (ap (λ z. z ∷ none) (one_enough (environment e q.program.order) history_made t (lowered q) mark (relevant_in q o) ss (2 ^ n) h.0 k.0 h.1 k.1)
    ∙ sym k.2)

-- what is told of choices
abbrev Tells : Environment → ℕ → LabelledProgram → Label → ℕ → ℕ → List Interval → Status → List ℕ → Type 0
Tells e t q l mark runs is s x =
    (s ≡ status.Done) × (x ≡ machine_head e ++ (tune_line mark ++ (head_lines q.program.order l t runs ++ choice_lines runs is)))

abbrev Chosen : Environment → ℕ → LabelledProgram → Label → ℕ → Option ℕ → List StartValue → List Interval → Status → List ℕ → Type 0
Chosen e t q l mark bits ss best = Then (FewStops e t q l.number mark bits ss) (AreTold e t q l.number mark bits ss best) (Tells e t q l mark (length ss))

one_chosen : (e : Environment) (t : ℕ) (q : LabelledProgram) (l : Label) (mark : ℕ) (bits : Option ℕ) (ss : List StartValue) (best : List Interval)
    (s u : Status) (x y : List ℕ) → Chosen e t q l mark bits ss best s x → Chosen e t q l mark bits ss best u y → Same s u x y
one_chosen e t q l mark bits ss best s u x y h k =
    then_one (FewStops e t q l.number mark bits ss) (AreTold e t q l.number mark bits ss best) (Tells e t q l mark (length ss)) s u x y
    (one_few_stop e t q l.number mark bits ss s u x y) (few_or_none e t q l.number mark bits ss best)
    (λ is js a b. one_told e t q l.number mark bits ss best is js a b) (λ is a b c. (b.0 ∙ sym c.0, b.1 ∙ sym c.1)) h k

one_of : (e : Environment) (t mark : ℕ) (bits : Option ℕ) (q : LabelledProgram) (o : Option Label) (ss : List StartValue) (s u : Status) (x y : List ℕ)
    → HasTune e t mark bits q o ss s x → HasTune e t mark bits q o ss u y → Same s u x y
one_of e t mark bits q None ss s u x y h k = absurd h
one_of e t mark bits q (Some l) ss s u x y (inl h) (inl k) = one_audit_stop e t q l ss s u x y h k
one_of e t mark bits q (Some l) ss s u x y (inl h) (inr k) =
    let a = audit_stops e t q l ss s x h in absurd (a.none (not_fault e q l.number t ss k.0 a.fault k.1 a.is))
one_of e t mark bits q (Some l) ss s u x y (inr h) (inl k) =
    let a = audit_stops e t q l ss u y k in absurd (a.none (not_fault e q l.number t ss h.0 a.fault h.1 a.is))
one_of e t mark bits q (Some l) ss s u x y (inr h) (inr k) =
    then_one (TuneStops e t q l.number mark ss) (BestIn e t q l.number mark ss) (Chosen e t q l mark bits ss) s u x y
    (one_stop e t q l.number mark ss s u x y) (none_stops e t q l.number mark ss)
    (λ is js a b. (one_best (environment e q.program.order) history_made t (lowered q) mark (relevant_in q l.number) ss is a).0 js b)
    (λ best a b c. one_chosen e t q l mark bits ss best s u x y b c) h.2 k.2

pub one_tune : HasOneTune
one_tune content before now file starts observer e t mark bits s u x y known known_starts one other =
    let rises = λ (name : List ℕ). Rose (before name) (now name) in
    prepares_one s u x y rises content file observer (rises starts) (content starts) (tune_next e t mark bits) one known other known_starts
    (λ p q o code ss. one_of e t mark bits q o ss s u x y)
