-- The answer of `tune`: its status and its text, from what the files are told to hold.
use Rattle.std.specs.Prelude.{◌≡◌, ◌⊎◌, ◌^◌, ℕ, List, [], ◌∷◌, ◌++◌, length, Bool, Option, Some, None}
use Rattle.label_lattice.specs.declared.label.Label.{Label}
use Rattle.mit_syntax.specs.Program.{plan_of}
use Rattle.timing_types.specs.Labelled.{LabelledProgram, order_of, labels_of, levels_of}
use Rattle.code_lower.specs.Lowered.{lowered}
use Rattle.history_bound.specs.Over.{history_made}
use Rattle.leak_bound.specs.Relevant.{relevances}
use Rattle.start_file.specs.Starts.{StartValue}
use Rattle.first_front.specs.declared.interval.Interval.{Interval}
use Rattle.first_image.specs.Tuned.{IsPlaceOf}
use Rattle.tool_stages.specs.declared.envs.Environment.{Environment}
use Rattle.tool_texts.specs.declared.status.Status.{Status}
use Rattle.tool_texts.specs.declared.status.Status.TheVariants as status
use Rattle.tool_stages.specs.Content.{Content}
use Rattle.tool_stages.specs.Stages.{Then}
use Rattle.tool_stages.specs.Envs.{environment, ReportsIn}
use Rattle.machine_stage.specs.Lines.{machine_head}
use Rattle.audit_stage.specs.Audited.{AuditStops}
use Rattle.lab_runs.specs.Labels.{NamesAndPrepares}
use Rattle.start_tune.specs.Enough.{IsCheapestFew, NoneTellsFew}
use Rattle.start_tune.specs.Runs.{AreBest, IsTooLate, OneIsUnending}
use Rattle.lab_tune.specs.Text.{choice_lines, head_lines, tune_line, no_number_line, none_line, too_late_line}

-- of each mitigate, by its mark, whether it is relevant for an observer
abbrev pub relevant_in : LabelledProgram → ℕ → List Bool
relevant_in q o = relevances (order_of q) (labels_of q) (levels_of q) o (order_of q).bottom (plan_of q.program)

-- The best choices for the mitigate with a mark in an environment. Where two runs from starts that agree for the observer have
-- one list of miss counts of the relevant mitigates, it sees the same of both: so it can tell no more things than are told.
abbrev pub BestIn : Environment → ℕ → LabelledProgram → ℕ → ℕ → List StartValue → List Interval → Type 0
BestIn e t q o mark ss = AreBest (environment e q.program.order) history_made t (lowered q) mark (relevant_in q o) ss

-- the interval of the cheapest of all first predictions that tell at most 2^bits things
abbrev pub CheapestIn : Environment → ℕ → LabelledProgram → ℕ → ℕ → ℕ → List StartValue → Interval → Type 0
CheapestIn e t q o mark bits ss i = IsCheapestFew (environment e q.program.order) history_made t (lowered q) mark (relevant_in q o) ss (2 ^ bits) i

-- no first prediction tells at most 2^bits things
abbrev pub NoneIn : Environment → ℕ → LabelledProgram → ℕ → ℕ → ℕ → List StartValue → Type 0
NoneIn e t q o mark bits ss = NoneTellsFew (environment e q.program.order) history_made t (lowered q) mark (relevant_in q o) ss (2 ^ bits)

-- a run would be too long to be told
abbrev pub TooLongIn : Environment → ℕ → LabelledProgram → ℕ → ℕ → List StartValue → Type 0
TooLongIn e t q o mark ss =
    OneIsUnending (environment e q.program.order) history_made t (lowered q) ss
    ⊎ IsTooLate (environment e q.program.order) history_made t (lowered q) mark (relevant_in q o) ss

-- a number is pushed for the estimate of a mitigate with this mark
abbrev pub HasNumber : LabelledProgram → ℕ → Type 0
HasNumber q mark = (place : ℕ) × IsPlaceOf (lowered q).instrs mark place

-- none is; or one is, and a run would be too long to be told
abbrev pub TuneStops : Environment → ℕ → LabelledProgram → ℕ → ℕ → List StartValue → Status → List ℕ → Type 0
TuneStops e t q o mark ss status.Refused x = (HasNumber q mark → ⊥) × (x ≡ no_number_line mark)
TuneStops e t q o mark ss status.TooLong x = HasNumber q mark × TooLongIn e t q o mark ss × (x ≡ too_late_line mark)
TuneStops e t q o mark ss _ x = ⊥

-- a number of bits is given, and no first prediction tells as little as that
abbrev pub FewStops : Environment → ℕ → LabelledProgram → ℕ → ℕ → Option ℕ → List StartValue → Status → List ℕ → Type 0
FewStops e t q o mark (Some bits) ss status.Refused x = NoneIn e t q o mark bits ss × (x ≡ none_line mark bits)
FewStops e t q o mark _ ss _ x = ⊥

-- the choices that are told: the best ones; or with a number of bits the cheapest of all that tell at most 2^bits things
abbrev pub AreTold : Environment → ℕ → LabelledProgram → ℕ → ℕ → Option ℕ → List StartValue → List Interval → List Interval → Type 0
AreTold e t q o mark None ss best is = is ≡ best
AreTold e t q o mark (Some bits) ss best is = (i : Interval) × CheapestIn e t q o mark bits ss i × (is ≡ i ∷ [])

-- The runs as written are those of an audit, and stop where and as one does. Of the mitigate with a mark choices are told.
abbrev pub HasTune : Environment → ℕ → ℕ → Option ℕ → LabelledProgram → Option Label → List StartValue → Status → List ℕ → Type 0
HasTune e t mark bits q None ss = λ s x. ⊥
HasTune e t mark bits q (Some l) ss =
    Then (AuditStops e t q l ss) (ReportsIn e q l.number t ss) (λ r.
    Then (TuneStops e t q l.number mark ss) (BestIn e t q l.number mark ss) (λ best.
    Then (FewStops e t q l.number mark bits ss) (AreTold e t q l.number mark bits ss best) (λ is s x.
    (s ≡ status.Done) × (x ≡ machine_head e ++ (tune_line mark ++ (head_lines q.program.order l t (length ss) ++ choice_lines (length ss) is))))))

-- The answer of `tune`, in the order of its refusals. `Rises` tells the names whose counts of faults rose.
abbrev pub IsTuneAnswer : (List ℕ → Type 0) → Content → List ℕ → List ℕ → List ℕ → Environment → ℕ → ℕ → Option ℕ → Status → List ℕ → Type 0
IsTuneAnswer Rises content file starts observer e t mark bits =
    NamesAndPrepares Rises content file observer (Rises starts) (content starts) (λ p q o code ss.
    HasTune e t mark bits q o ss)
