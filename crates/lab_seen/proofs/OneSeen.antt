-- Two answers of `seen` are one.
use Rattle.std.proofs.Common.{◌≡◌, ℕ, List, Bool, Option, Some, None, sym, ◌∙◌}
use Rattle.label_lattice.specs.declared.label.Label.{Label}
use Rattle.timing_types.specs.Labelled.{LabelledProgram}
use Rattle.label_code.specs.Shaped.{Code}
use Rattle.start_file.specs.Starts.{StartValue}
use Rattle.tool_stages.specs.declared.envs.Environment.{Environment}
use Rattle.tool_texts.specs.declared.status.Status.{Status}
use Rattle.tool_stages.specs.Content.{Content, IsKnown}
use Rattle.tool_stages.proofs.OneLemmas.{Same}
use Rattle.lab_runs.proofs.ShownLemmas.{one_shows}
use Rattle.lab_seen.specs.Seen.{AreLines, IsSeen}

one_text : (e : Environment) (budget : ℕ) (q : LabelledProgram) (o : Option Label) (code : Code) (ss : List StartValue) (y z : List ℕ)
    → AreLines e budget q o code ss y → AreLines e budget q o code ss z → y ≡ z
one_text e budget q None code ss y z h k = absurd h
one_text e budget q (Some l) code ss y z h k = h ∙ sym k

pub seen_once : (Rises : List ℕ → Type 0) (content : Content) (file starts observer : List ℕ) (e : Environment) (budget : ℕ) (refused : Bool) (s u : Status)
    (t x : List ℕ)
    → (Rises file → ⊥) → (Rises starts → ⊥) → IsKnown (content file) → IsKnown (content starts)
    → IsSeen Rises content file starts observer e budget refused s t → IsSeen Rises content file starts observer e budget refused u x → Same s u t x
seen_once Rises content file starts observer e budget refused s u t x n m known kept =
    one_shows refused Rises content file starts (Some observer) (AreLines e budget) s u t x n m known kept (one_text e budget)
