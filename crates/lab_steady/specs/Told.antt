-- The status and the text of what is told of a program.
use Rattle.std.specs.Prelude.{ℕ, List}
use Rattle.tool_texts.specs.declared.status.Status.{Status}
use Rattle.tool_texts.specs.declared.status.Status.TheVariants as status
use Rattle.lab_steady.specs.declared.judge.Verdict.{Verdict}
use Rattle.lab_steady.specs.declared.judge.Verdict.TheVariants as verdict

abbrev pub status_told : Verdict → Status
status_told (verdict.Steady text) = status.Done
status_told (verdict.Unsteady text) = status.Refused

abbrev pub text_told : Verdict → List ℕ
text_told (verdict.Steady text) = text.items
text_told (verdict.Unsteady text) = text.items
