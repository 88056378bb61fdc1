-- What runs ask of what they begin with.
use Rattle.std.specs.Prelude.{◌≡◌, ◌<◌, ◌≤◌, List, All, length, Option, IfSome}
use Rattle.label_lattice.specs.declared.label.Label.{Label}
use Rattle.timing_types.specs.Labelled.{LabelledProgram}
use Rattle.label_code.specs.Shaped.{Code}
use Rattle.code_lower.specs.Lowered.{lowered}
use Rattle.start_file.specs.Starts.{StartValue, IsFor}

-- the program's own image, a label of the program where an observer is named, and at most 4096 starts for it
pub record CanRun (q : LabelledProgram) (o : Option Label) (code : Code) (ss : List StartValue) : Type 0 where
  pub image : code ≡ lowered q
  pub observer : IfSome o (λ l. l.number < q.program.order.size)
  pub few : length ss ≤ 4096
  pub starts : All (IsFor q.program) ss
