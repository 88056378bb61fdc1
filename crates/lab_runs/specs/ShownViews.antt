-- What is told of a program with its least labels.
use Rattle.std.specs.Prelude.{[]}
use Rattle.lab_runs.specs.declared.least.LeastLabelled.{LeastLabelled}
use Rattle.lab_runs.specs.declared.least.LeastLabelled.TheVariants.{Accepted, Refused}
use Rattle.lab_runs.specs.Shown.{Shown, head_line}

abbrev pub shown_of : LeastLabelled → Shown
shown_of (Accepted typed) = record { labelled = typed.labelled; head = [] }
shown_of (Refused labelled refusal) = record { labelled = labelled; head = head_line refusal }
