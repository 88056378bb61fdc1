-- A list of sequences of which each different one is kept once.
use Rattle.std.specs.Prelude.{List, map}
use Rattle.label_code.specs.Machine.{Event}
use Rattle.leak_audit.specs.declared.kinds.Kinds.{Kinds}
use Rattle.leak_audit.specs.Observed.{sequence_of}
use Rattle.leak_audit.specs.Sequences.{same_sequence, Classed}

-- they are the kinds of these sequences
abbrev pub AreKinds : List (List Event) → Kinds → Type 0
AreKinds seqs k = Classed same_sequence seqs (map sequence_of k.different.keys) k.classes.items
