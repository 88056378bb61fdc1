-- What is kept in memory, as classes.
use Rattle.std.specs.Prelude.{◌≡◌, ◌≤◌, ℕ, List, map, Vec}
use Rattle.std.specs.declared.alloc.Global.{Global}
use Rattle.label_code.specs.Machine.{Event}
use Rattle.leak_audit.specs.declared.sighting.Sighting.{Sighting}
use Rattle.leak_audit.specs.Observed.{sequence_of}
use Rattle.leak_classes.specs.declared.known.Known.{Known}
use Rattle.leak_classes.specs.Classes.{Classes, events_in}

abbrev pub class_of : Vec Sighting Global × ℕ → List Event × ℕ
class_of c = (sequence_of c.0, c.1)

abbrev pub classes_of : Known → Classes
classes_of k = record { seen = map class_of k.classes.entries; firsts = k.firsts.items }

-- the count of all kept events is right, and is not above the limit
pub record IsCounted (k : Known) : Type 0 where
  pub events : k.events ≡ events_in (map class_of k.classes.entries)
  pub few : k.events ≤ 16777216
