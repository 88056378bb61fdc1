-- The tokens spell the program.
use Rattle.std.proofs.Common.{refl, pos, codes, arith}
use Rattle.mit_parser.specs.Words.{told}
use Rattle.mit_parser.specs.Tree.{no_index, and_name, no_marks, CommandTree, number_of, name_of, assign_of, sleep_of, mitigate_of, block_of, commands_of}
use Rattle.mit_parser.specs.Tree.{no_more, and_more, no_header, label_of, scalar_of, DeclarationTree, declaration_of, no_declarations, and_declaration}
use Rattle.mit_parser.specs.Tree.{ProgramTree}
use Rattle.mit_parser.specs.Limits.{CommandsWithin}
use Rattle.mit_parser.specs.Spells.{Spells, Resolves, IsProgram}
use Rattle.mit_parser.proofs.NamedWhole.{named_of}
use Rattle.made_laws.proofs.Order.{two_sound}
use Rattle.tool_laws.specs.FirstAudit.{program_text}
use Rattle.tool_laws.proofs.Order.{two_built}
use Rattle.tool_laws.proofs.RunSpelled.{place}
use Rattle.tool_laws.proofs.AuditCut.{tokens}
use Rattle.tool_laws.proofs.AuditProgram.{program}

-- `var h : H;` and `var l : L;`
abbrev secret : DeclarationTree
secret = declaration_of (place 2 1) (codes "h") (place 2 5) (scalar_of (label_of (place 2 7) (codes "H") (place 2 9))) (place 2 10)

abbrev public : DeclarationTree
public = declaration_of (place 3 1) (codes "l") (place 3 5) (scalar_of (label_of (place 3 7) (codes "L") (place 3 9))) (place 3 10)

-- `sleep h`
abbrev sleeps : CommandTree
sleeps = sleep_of (place 4 19) (name_of (codes "h") (place 4 25) no_index) no_marks

-- `mitigate (1, H) { sleep h }`
abbrev mitigated : CommandTree
mitigated =
    mitigate_of (place 4 1) (place 4 10) (number_of (pos 1) (place 4 11)) (and_name (place 4 12) (codes "H") (place 4 14)) (place 4 15) no_marks
    (block_of (place 4 17) (commands_of sleeps no_more) (place 4 27))

-- `l := 1`
abbrev assigns : CommandTree
assigns = assign_of (codes "l") (place 5 1) no_index (place 5 3) (number_of (pos 1) (place 5 6)) no_marks

abbrev tree : ProgramTree
tree =
    record {
      header = no_header;
      declarations = and_declaration secret (and_declaration public no_declarations);
      commands = commands_of mitigated (and_more (place 4 28) assigns no_more);
    }

spells : Spells tree (told program_text tokens)
spells = (place 6 1, refl)

within : CommandsWithin 0 tree.commands
within = (((omega arith, omega arith), (omega arith, ((omega arith, omega arith), tt))), ((tt, (omega arith, omega arith)), tt))

resolves : Resolves tree program
resolves = record { named = named_of tree refl refl; order = two_built two_sound; pairs = refl; declarations = refl; plan = refl }

pub spelled : IsProgram (told program_text tokens) program
spelled = record { tree = tree; spells = spells; within = within; resolves = resolves }
