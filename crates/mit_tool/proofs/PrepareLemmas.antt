-- What comes after the stages.
use Rattle.std.proofs.Common.{◌≡◌, ◌^◌, ℕ, List, [], length, Option, None, refl}
use Rattle.label_lattice.specs.declared.label.Label.{Label}
use Rattle.mit_syntax.specs.Program.{Syntax, plan_of}
use Rattle.timing_types.specs.Labelled.{LabelledProgram}
use Rattle.label_code.specs.Shaped.{Code}
use Rattle.start_file.specs.Starts.{StartValue}
use Rattle.image_print.specs.ImageText.{image_text}
use Rattle.mit_syntax.specs.Plan.{count}
use Rattle.tool_words.specs.WordsAsked.{compile}
use Rattle.tool_words.specs.declared.words.EnvName.{EnvName}
use Rattle.tool_words.specs.declared.words.EnvName.TheVariants.{Part}
use Rattle.tool_texts.specs.declared.status.Status.{Status}
use Rattle.tool_texts.specs.declared.status.Status.TheVariants as status
use Rattle.tool_texts.specs.declared.stop.Stop.{Stop}
use Rattle.tool_texts.specs.Ends.{IsStop, status_of, stop_text}
use Rattle.tool_texts.specs.Reports.{made_lines}
use Rattle.tool_stages.specs.Stages.{Then, FirstStops, FirstStart}
use Rattle.tool_stages.specs.Content.{Content}
use Rattle.tool_stages.specs.Begins.{NoMore, CompileStops, HasCompiled}
use Rattle.mit_tool.specs.Answers.{HasListed, HasRun}
use Rattle.mit_tool.specs.Commands.{IsAnswer}
use Rattle.mit_tool.specs.Audited.{HasAudited, HasCut}
use Rattle.tool_texts.proofs.EndLemmas.{broke_map}
use Rattle.tool_stages.proofs.StopLemmas.{compiles_map, compiled_goes}

-- ---- an image

abbrev pub listed : Syntax → LabelledProgram → Option Label → Code → Status → List ℕ → Type 0
listed p q o code = HasListed q code

-- the text of the image is the answer
pub compile_tells : (Rises : List ℕ → Type 0) (content : Content) (file : List ℕ) (q : LabelledProgram) (o : Option Label) (code : Code) (t : List ℕ)
    → HasCompiled content file None q o code → t ≡ image_text q.program code → IsAnswer Rises content (compile file) status.Done t
compile_tells Rises content file q o code t h e = compiled_goes Rises content file None q o code listed status.Done t h (refl, e)

pub compile_stops_text : (Rises : List ℕ → Type 0) (content : Content) (file : List ℕ) (e : Stop) → IsStop (CompileStops Rises content file None) e
    → IsStop (IsAnswer Rises content (compile file)) e
compile_stops_text Rises content file e h =
    broke_map (CompileStops Rises content file None) (IsAnswer Rises content (compile file)) (status_of e) (stop_text e)
    (compiles_map Rises content file None (λ p q o code. NoMore) listed (status_of e) (stop_text e) (λ p q o code n. absurd n)) h

-- ---- audits

abbrev pub audit_next : EnvName → ℕ → Syntax → LabelledProgram → Option Label → Code → List StartValue → Status → List ℕ → Type 0
audit_next e t p q o code ss = HasAudited e t q o ss []

abbrev pub made_next : ℕ → ℕ → Syntax → LabelledProgram → Option Label → Code → List StartValue → Status → List ℕ → Type 0
made_next size number p q o code ss = HasAudited Part (2 ^ 40) q o ss (made_lines size number (count (plan_of p)) (length code.instrs))

abbrev pub cut_next : EnvName → ℕ → Syntax → LabelledProgram → Option Label → Code → List StartValue → Status → List ℕ → Type 0
cut_next e t p q o code ss = HasCut e t q o ss

-- ---- a run

abbrev pub run_next : (List ℕ → Type 0) → Content → Option (List ℕ) → EnvName → ℕ → Syntax → LabelledProgram → Option Label → Code → Status → List ℕ → Type 0
run_next Rises content starts env budget p q o code =
    Then (FirstStops Rises content starts p) (FirstStart content starts p) (λ start. HasRun env budget q o code start)
