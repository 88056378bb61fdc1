-- What labelled and typed programs keep in memory.
use Rattle.timing_types.specs.declared.labels.Labels.TheInside.{Inside as LabelsInside}
use Rattle.timing_types.specs.declared.labelled.Labelled.TheInside.{Inside as LabelledInside}
use Rattle.timing_types.specs.declared.typed.Typed.TheInside.{Inside as TypedInside}
use Rattle.timing_types.specs.Labelling.{Labelling, IsLabelling}
use Rattle.timing_types.specs.Labelled.{LabelledProgram, HasType, AreContexts, TypedProgram}

abbrev pub labelling_of : LabelsInside → Labelling
labelling_of l = record { variables = l.variables.items; commands = l.commands.items; levels = l.levels.items }

abbrev pub labelled_of : LabelledInside → LabelledProgram
labelled_of p = record { program = p.program; labels = p.labels }

abbrev pub IsLabelled : LabelledInside → Type 0
IsLabelled p = IsLabelling p.program p.labels

abbrev pub typed_of : TypedInside → TypedProgram
typed_of p = record { labelled = p.labelled; contexts = p.contexts.items }

pub record IsKeptTyped (p : TypedInside) : Type 0 where
  pub typed : HasType p.labelled
  pub contexts : AreContexts p.labelled p.contexts.items
