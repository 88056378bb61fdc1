-- Two answers of `timeline` are one.
use Rattle.std.proofs.Common.{◌≡◌, ◌<◌, ℕ, List, [], ◌∷◌, ◌++◌, Bool, Option, refl, sym, ap₂, ◌∙◌, subst}
use Rattle.std.specs.List.{AllZip}
use Rattle.std.proofs.lemmas.List.{ext_get_or}
use Rattle.label_lattice.specs.declared.label.Label.{Label}
use Rattle.label_lattice.specs.Order.{Order}
use Rattle.mit_syntax.specs.Program.{plan_of}
use Rattle.timing_types.specs.Labelled.{LabelledProgram}
use Rattle.label_code.specs.Shaped.{Code}
use Rattle.history_bound.specs.Over.{history_made}
use Rattle.start_file.specs.Starts.{StartValue}
use Rattle.leak_audit.specs.Agreement.{start_of}
use Rattle.cycle_machine.specs.declared.end.RunEnd.{RunEnd}
use Rattle.run_timeline.specs.declared.moment.Moment.{Moment}
use Rattle.run_timeline.specs.declared.tally.Tally.{Tally}
use Rattle.run_timeline.specs.Places.{places}
use Rattle.run_timeline.specs.Summary.{AreTallies, summary_text}
use Rattle.run_timeline.specs.Tallied.{no_tally}
use Rattle.run_timeline.proofs.Told.{one_timeline_is}
use Rattle.tool_stages.specs.declared.envs.Environment.{Environment}
use Rattle.tool_texts.specs.declared.status.Status.{Status}
use Rattle.tool_stages.specs.Content.{Content, IsKnown}
use Rattle.tool_stages.specs.Envs.{environment}
use Rattle.tool_stages.proofs.OneLemmas.{Same}
use Rattle.lab_runs.specs.Runs.{texts}
use Rattle.lab_runs.proofs.ShownLemmas.{one_shows}
use Rattle.lab_timeline.specs.Timed.{Timed, IsTimelineIn, IsTimed, run_lines, all_moments, AreTimelines, TellsTimelines}

one_list_of_moments : (e : Environment) (t : ℕ) (o : Order) (code : Code) (s : StartValue) (ms ns : List Moment) → IsTimelineIn e t o code s ms
    → IsTimelineIn e t o code s ns → ms ≡ ns
one_list_of_moments e t o code s ms ns h k = one_timeline_is (environment e o) code.instrs t (start_of history_made o s) ms ns h k

one_timed : (e : Environment) (t : ℕ) (o : Order) (code : Code) (s : StartValue) (r u : Timed) → IsTimed e t o code s r → IsTimed e t o code s u → r ≡ u
one_timed e t o code s r u h k =
    ap₂ (λ (ms : List Moment) (end : RunEnd). let run : Timed = record { moments = ms; end = end } in run)
    (one_list_of_moments e t o code s r.moments u.moments h.timeline k.timeline) (h.ends ∙ sym k.ends)

all_timed : (e : Environment) (t : ℕ) (o : Order) (code : Code) (ss : List StartValue) (rs us : List Timed) → AllZip (IsTimed e t o code) ss rs
    → AllZip (IsTimed e t o code) ss us → rs ≡ us
all_timed e t o code [] [] [] h k = refl
all_timed e t o code [] [] (u ∷ us) h k = absurd k
all_timed e t o code [] (r ∷ rs) us h k = absurd h
all_timed e t o code (s ∷ ss) [] us h k = absurd h
all_timed e t o code (s ∷ ss) (r ∷ rs) [] h k = absurd k
all_timed e t o code (s ∷ ss) (r ∷ rs) (u ∷ us) h k =
    ap₂ (λ (z : Timed) (zs : List Timed). z ∷ zs) (one_timed e t o code s r u h.0 k.0) (all_timed e t o code ss rs us h.1 k.1)

one_text : (e : Environment) (t : ℕ) (q : LabelledProgram) (o : Option Label) (code : Code) (ss : List StartValue) (y z : List ℕ)
    → AreTimelines e t q o code ss y
    → AreTimelines e t q o code ss z → y ≡ z
one_text e t q o code ss y z h k =
    let runs : h.runs ≡ k.runs = all_timed e t q.program.order code ss h.runs k.runs h.timed k.timed in
    let tallied : AreTallies (all_moments k.runs) h.tallies = subst (λ (rs : List Timed). AreTallies (all_moments rs) h.tallies) runs h.tallied in
    let count = h.count ∙ sym k.count in
    let tallies : h.tallies ≡ k.tallies =
    ext_get_or no_tally h.tallies k.tallies count (λ i lt. tallied.each i no_tally lt ∙ sym (k.tallied.each i no_tally (subst (λ n. i < n) count lt))) in
    h.text
    ∙ ap₂ (λ (rs : List Timed) (ts : List Tally). texts (run_lines q o) rs ++ summary_text (places (plan_of q.program)) ts) runs tallies
    ∙ sym k.text

pub timeline_once : (Rises : List ℕ → Type 0) (content : Content) (file starts : List ℕ) (observer : Option (List ℕ)) (e : Environment) (budget : ℕ)
    (refused : Bool) (s u : Status) (t x : List ℕ)
    → (Rises file → ⊥) → (Rises starts → ⊥) → IsKnown (content file) → IsKnown (content starts)
    → TellsTimelines Rises content file starts observer e budget refused s t → TellsTimelines Rises content file starts observer e budget refused u x
    → Same s u t x
timeline_once Rises content file starts observer e budget refused s u t x n m known kept =
    one_shows refused Rises content file starts observer (AreTimelines e budget) s u t x n m known kept (one_text e budget)
