-- What the words ask for.
use Rattle.std.proofs.Common.{◌≡◌, refl, Some, codes}
use Rattle.clap.specs.Walk.{walked, bundle_met}
use Rattle.clap.specs.Faults.{walk_fault, flags_fault, defaults_fault}
use Rattle.tool_words.specs.declared.words.EnvName.TheVariants.{Part}
use Rattle.tool_words.specs.WordsAsked.{command_of, audit}
use Rattle.tool_laws.specs.FirstAudit.{program_file, starts_file, audit_words, budget}

pub asks : command_of audit_words ≡ Some (audit program_file starts_file (codes "L") Part budget)
unfolding walked bundle_met walk_fault flags_fault defaults_fault
asks = refl
