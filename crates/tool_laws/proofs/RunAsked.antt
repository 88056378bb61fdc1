-- What the words ask for.
use Rattle.std.proofs.Common.{◌≡◌, refl, Some, None}
use Rattle.clap.specs.Walk.{walked, bundle_met}
use Rattle.clap.specs.Faults.{walk_fault, flags_fault, defaults_fault}
use Rattle.tool_words.specs.declared.words.EnvName.TheVariants.{Flat}
use Rattle.tool_words.specs.WordsAsked.{command_of, run}
use Rattle.tool_laws.specs.FirstRun.{first_file, first_words}

pub asks : command_of first_words ≡ Some (run first_file None Flat 1000000 None)
unfolding walked bundle_met walk_fault flags_fault defaults_fault
asks = refl
