-- The tokens spell the program.
use Rattle.std.proofs.Common.{refl, ℕ, pos, codes, arith}
use Rattle.text_base.specs.declared.pos.Pos.{Pos}
use Rattle.mit_parser.specs.Words.{told}
use Rattle.mit_parser.specs.Tree.{no_index, no_marks, CommandTree, assign_of, commands_of, no_more, number_of, no_header, label_of, scalar_of}
use Rattle.mit_parser.specs.Tree.{DeclarationTree, declaration_of, no_declarations, and_declaration, ProgramTree}
use Rattle.mit_parser.specs.Limits.{CommandsWithin}
use Rattle.mit_parser.specs.Spells.{Spells, Resolves, IsProgram}
use Rattle.mit_parser.proofs.NamedWhole.{named_of}
use Rattle.made_laws.proofs.Order.{two_sound}
use Rattle.tool_laws.specs.FirstRun.{first_text}
use Rattle.tool_laws.proofs.Order.{two_built}
use Rattle.tool_laws.proofs.RunCut.{tokens}
use Rattle.tool_laws.proofs.RunProgram.{program}

abbrev pub place : ℕ → ℕ → Pos
place line column = record { line = line; column = column }

-- `var l : L;`
abbrev declaration : DeclarationTree
declaration = declaration_of (place 2 1) (codes "l") (place 2 5) (scalar_of (label_of (place 2 7) (codes "L") (place 2 9))) (place 2 10)

-- `l := 7`
abbrev command : CommandTree
command = assign_of (codes "l") (place 3 1) no_index (place 3 3) (number_of (pos 7) (place 3 6)) no_marks

abbrev tree : ProgramTree
tree = record { header = no_header; declarations = and_declaration declaration no_declarations; commands = commands_of command no_more }

spells : Spells tree (told first_text tokens)
spells = (place 4 1, refl)

within : CommandsWithin 0 tree.commands
within = ((tt, (omega arith, omega arith)), tt)

resolves : Resolves tree program
resolves = record { named = named_of tree refl refl; order = two_built two_sound; pairs = refl; declarations = refl; plan = refl }

pub spelled : IsProgram (told first_text tokens) program
spelled = record { tree = tree; spells = spells; within = within; resolves = resolves }
