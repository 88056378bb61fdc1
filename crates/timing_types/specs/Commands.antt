-- Labels leave a program's commands.
use Rattle.std.specs.Prelude.{◌≡◌}
use Rattle.mit_syntax.specs.Todo.{commands_of}
use Rattle.mit_syntax.specs.Program.{plan_of}
use Rattle.timing_types.specs.Labelled.{LabelledProgram, bare_of}

-- a labelled program has the commands of the program that is labelled
abbrev pub LabelsKeepCommands : Type 0
LabelsKeepCommands = (q : LabelledProgram) → commands_of (bare_of q) ≡ commands_of (plan_of q.program)
