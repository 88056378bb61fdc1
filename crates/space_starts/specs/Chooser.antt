-- What a chooser keeps of a space.
use Rattle.std.specs.Prelude.{◌≡◌, length}
use Rattle.space_starts.specs.declared.space.Chooser.{Chooser}
use Rattle.space_starts.specs.Space.{SpaceValue, counts}

-- how many values each variable has, and as much room
pub record IsChooser (s : SpaceValue) (c : Chooser) : Type 0 where
  pub counts_are : c.counts.items ≡ counts s.memory
  pub room : length c.choice.items ≡ length (counts s.memory)
