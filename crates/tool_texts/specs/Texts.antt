-- The lines that commands write.
use Rattle.std.specs.Prelude.{ℕ, List, ◌++◌, codes, decimal, [], ◌∷◌, slice_get, ◌+◌, ◌*◌, Option, Some, None, ℤ}
use Rattle.text_base.specs.declared.pos.Pos.{Pos}
use Rattle.label_lattice.specs.declared.fault.LatticeFault.{LatticeFault}
use Rattle.label_lattice.specs.declared.fault.LatticeFault.TheVariants as lattice
use Rattle.label_lattice.specs.declared.label.Label.{Label}
use Rattle.label_lattice.specs.Order.{Order, name_of}
use Rattle.mit_syntax.specs.declared.fault.TextFault.{TextFault}
use Rattle.mit_syntax.specs.declared.fault.TextFault.TheVariants as text
use Rattle.mit_parser.specs.declared.fault.ParseFault.{ParseFault}
use Rattle.mit_parser.specs.declared.fault.ParseFault.TheVariants as parse
use Rattle.start_file.specs.declared.fault.StartFault.{StartFault}
use Rattle.start_file.specs.declared.fault.StartFault.TheVariants as start
use Rattle.timing_types.specs.declared.rule.Rule.{Rule}
use Rattle.timing_types.specs.Rules.{rule_name}
use Rattle.mit_syntax.specs.declared.token.Token.{Token}
use Rattle.mit_syntax.specs.declared.token.TokenKind.{TokenKind}
use Rattle.mit_syntax.specs.declared.token.TokenKind.TheVariants.{Name as NameKind}
use Rattle.mit_syntax.specs.Cut.{token_bytes}
use Rattle.std.specs.Fmt.{signed_decimal}
use Rattle.mit_syntax.specs.Declarations.{Declaration, cell_at}
use Rattle.event_print.specs.Text.{cell_text}

-- the usage text
unfoldable pub usage_text : List ℕ
usage_text =
    codes "usage: mitigate check FILE\n"
    ++ (codes "       mitigate infer FILE\n"
    ++ (codes "       mitigate compile FILE\n"
    ++ (codes "       mitigate run FILE [STARTS] [--env flat|part|part2] [--budget T] [--observer L]\n"
    ++ (codes "       mitigate meaning FILE [STARTS] --steps N\n"
    ++ (codes "       mitigate audit FILE STARTS --observer L [--env flat|part|part2] [--budget T]\n"
    ++ (codes "       mitigate gen SIZE NUMBER\n"
    ++ (codes "       mitigate cut FILE STARTS --observer L [--env flat|part|part2] [--budget T]\n"
    ++ (codes "       mitigate blackbox READY --first Q [--budget T]\n"
    ++ (codes "       mitigate certify FILE\n"
    ++ codes "       mitigate recheck FILE CERTIFICATE\n")))))))))

-- the line where memory was wanting
abbrev pub memory_line : List ℕ
memory_line = codes "memory\n"

-- the files that words name
pub data File : Type 0 where
  program : File
  starts : File
  ready : File
  certificate : File
  machine : File

abbrev pub file_name : File → List ℕ
file_name program = codes "program"
file_name starts = codes "starts"
file_name ready = codes "ready"
file_name certificate = codes "certificate"
file_name machine = codes "machine"

abbrev pub read_fault_line : File → List ℕ
read_fault_line f = codes "read fault: " ++ (file_name f ++ codes "\n")

abbrev pub too_long_line : File → List ℕ
too_long_line f = codes "too long: " ++ (file_name f ++ codes "\n")

-- some words, a number and the end of the line
abbrev pub number_line : List ℕ → ℕ → List ℕ
number_line words n = words ++ (decimal n ++ codes "\n")

-- a position: LINE:COLUMN
abbrev pub pos_text : Pos → List ℕ
pos_text p = decimal p.line ++ (codes ":" ++ decimal p.column)

-- what is wrong with a text, and where
abbrev pub at_line : List ℕ → Pos → List ℕ
at_line words p = codes "syntax: " ++ (words ++ (codes " at " ++ (pos_text p ++ codes "\n")))

abbrev pub text_fault_line : TextFault → List ℕ
text_fault_line (text.NotUtf8 n) = number_line (codes "syntax: not UTF-8 at byte ") n
text_fault_line (text.BadByte p) = at_line (codes "bad byte") p
text_fault_line (text.WideNumber p) = at_line (codes "wide number") p
text_fault_line (text.LongName p) = at_line (codes "long name") p
text_fault_line text.Memory = memory_line

-- the name that the header of a text gives to a label: labels stand at every second token behind the first
abbrev pub named_at : List ℕ → List Token → ℕ → List ℕ
named_at bytes tokens i = named (slice_get tokens i)
  where
    of_kind : TokenKind → Token → List ℕ
    of_kind NameKind t = token_bytes bytes t
    of_kind _ t = []

    named : Option Token → List ℕ
    named None = []
    named (Some t) = of_kind t.kind t

abbrev pub header_name : List ℕ → List Token → Label → List ℕ
header_name bytes tokens a = named_at bytes tokens (2 * a.number + 1)

-- what is wrong with two labels, by their names
abbrev pub labels_line : List ℕ → List ℕ → List ℕ → List ℕ
labels_line words a b = codes "syntax: " ++ (words ++ (a ++ (codes " and " ++ (b ++ codes "\n"))))

abbrev pub lattice_fault_line : (Label → List ℕ) → LatticeFault → List ℕ
lattice_fault_line name (lattice.TooMany n) = number_line (codes "syntax: too many labels: ") n
lattice_fault_line name (lattice.Cycle a b) = labels_line (codes "order cycle between ") (name a) (name b)
lattice_fault_line name (lattice.NoBottom a b) = labels_line (codes "no bottom below ") (name a) (name b)
lattice_fault_line name (lattice.NoJoin a b) = labels_line (codes "no join of ") (name a) (name b)

abbrev pub parse_fault_line : (Label → List ℕ) → ParseFault → List ℕ
parse_fault_line name (parse.Unexpected p) = at_line (codes "unexpected") p
parse_fault_line name (parse.TooDeep p) = at_line (codes "too deep") p
parse_fault_line name (parse.TooMany n) = number_line (codes "syntax: too many variables: ") n
parse_fault_line name (parse.Unknown p) = at_line (codes "unknown name") p
parse_fault_line name (parse.Twice p) = at_line (codes "name twice") p
parse_fault_line name (parse.Lattice f) = lattice_fault_line name f
parse_fault_line name parse.Memory = memory_line
parse_fault_line name (parse.Size p) = at_line (codes "array size") p
parse_fault_line name (parse.Misuse p) = at_line (codes "wrong use of a name") p

-- the rule whose condition is broken, where, and the two labels
abbrev pub refused_line : Order → Rule → Pos → Label → Label → List ℕ
refused_line o r p a b =
    codes "refused " ++ (rule_name r ++ (codes " at " ++ (pos_text p ++ (codes ": " ++ (name_of o a.number
    ++ (codes " does not flow to " ++ (name_of o b.number ++ codes "\n")))))))

abbrev pub run_line : ℕ → List ℕ → List ℕ
run_line n words = codes "starts: run " ++ (decimal n ++ (codes ": " ++ (words ++ codes "\n")))

abbrev pub start_fault_line : StartFault → List ℕ
start_fault_line start.NotToml = codes "starts: not TOML\n"
start_fault_line start.Version = codes "starts: version\n"
start_fault_line (start.UnknownKey n) = run_line n (codes "unknown key")
start_fault_line start.NoRuns = codes "starts: no runs\n"
start_fault_line (start.TooMany n) = number_line (codes "starts: too many runs: ") n
start_fault_line (start.NotNumber n) = run_line n (codes "not a number")
start_fault_line (start.BadTouch n) = run_line n (codes "bad touch")
start_fault_line start.Memory = memory_line

-- some words, a number of commands, and a number of mitigates
abbrev pub counted_line : List ℕ → ℕ → ℕ → List ℕ
counted_line words commands mitigates =
    words ++ (decimal commands ++ (codes ", mitigates " ++ (decimal mitigates ++ codes "\n")))

-- what `check` tells of an accepted program
abbrev pub accepted_line : ℕ → ℕ → List ℕ
accepted_line commands mitigates = counted_line (codes "accepted: commands ") commands mitigates

-- what `recheck` tells of a program whose certificate is accepted
abbrev pub rechecked_line : ℕ → ℕ → List ℕ
rechecked_line commands mitigates = counted_line (codes "rechecked: commands ") commands mitigates

-- the first wrong line of bytes that are no certificate
abbrev pub rejected_line : ℕ → List ℕ
rejected_line n = number_line (codes "rejected: line ") n

-- ---- a run without its time

-- `X = V`
abbrev pub value_line : List Declaration → ℕ → ℤ → List ℕ
value_line ds x n = cell_text (cell_at ds x) ++ (codes " = " ++ (signed_decimal n ++ codes "\n"))

abbrev pub value_lines : List Declaration → List (ℕ × ℤ) → List ℕ
value_lines ds [] = []
value_lines ds (e ∷ es) = value_line ds e.0 e.1 ++ value_lines ds es

abbrev pub ended_line : ℕ → List ℕ
ended_line n = codes "ended after " ++ (decimal n ++ codes " steps\n")

abbrev pub not_ended_line : ℕ → List ℕ
not_ended_line n = codes "not ended after " ++ (decimal n ++ codes " steps\n")
