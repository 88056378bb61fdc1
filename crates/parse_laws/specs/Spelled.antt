-- Words that spell a program.
use Rattle.std.specs.Prelude.{List, length}
use Rattle.label_lattice.specs.Chains.{Chain, IsSound}
use Rattle.mit_parser.specs.Words.{Told}
use Rattle.mit_parser.specs.Tree.{ProgramTree}
use Rattle.mit_parser.specs.Limits.{CommandsWithin}
use Rattle.mit_parser.specs.Named.{label_names, label_pairs, IsNamed}
use Rattle.mit_parser.specs.Spells.{Spells}

-- a tree within the limits spells the words, its names are right, and its labels make a lattice
pub record IsSpelled (words : List Told) : Type 0 where
  pub tree : ProgramTree
  pub spells : Spells tree words
  pub within : CommandsWithin 0 tree.commands
  pub named : IsNamed tree
  pub sound : IsSound (length (label_names tree.header)) (Chain (label_pairs tree.header))
