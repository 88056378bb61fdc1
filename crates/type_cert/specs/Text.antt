-- The text of a certificate.
use Rattle.std.specs.Prelude.{ℕ, ◌+◌, List, [], ◌∷◌, ◌++◌, Option, None, Some, codes, decimal}
use Rattle.label_lattice.specs.declared.label.Label.{Label}
use Rattle.label_lattice.specs.Order.{Order, name_of}
use Rattle.mit_syntax.specs.Declarations.{Declaration}
use Rattle.timing_types.specs.declared.rule.Rule.{Rule}
use Rattle.timing_types.specs.Rules.{rule_name}
use Rattle.type_cert.specs.declared.line.Line.{Line}

-- words, and the name of a label
abbrev pub named : Order → List ℕ → Label → List ℕ
named o words l = words ++ name_of o l.number

abbrev pub level_text : Order → Option Label → List ℕ
level_text o None = []
level_text o (Some l) = named o (codes " level ") l

-- the number of a command and its rule
abbrev pub head_text : ℕ → Rule → List ℕ
head_text i r = decimal i ++ (codes " " ++ rule_name r)

-- the labels of a line, and its end
abbrev pub tail_text : Order → Line → List ℕ
tail_text o x =
    named o (codes " pc ") x.pc ++ (named o (codes " start ") x.start ++ (named o (codes " er ") x.read
    ++ (named o (codes " ew ") x.write ++ (named o (codes " end ") x.end ++ (level_text o x.level ++ codes "\n")))))

-- the line of the command with number i
abbrev pub line_text : Order → ℕ → Line → List ℕ
line_text o i x = head_text i x.rule ++ tail_text o x

abbrev pub lines_text : Order → ℕ → List Line → List ℕ
lines_text o i [] = []
lines_text o i (x ∷ xs) = line_text o i x ++ lines_text o (i + 1) xs

-- the line of a declaration; an array's name stands without its length
abbrev pub variable_text : Order → List ℕ → Label → List ℕ
variable_text o w l = codes "var " ++ (w ++ (named o (codes " ") l ++ codes "\n"))

-- the lines of the first declarations, one for each of the labels
abbrev pub variables_text : Order → List Declaration → List Label → List ℕ
variables_text o [] ls = []
variables_text o (d ∷ ds) [] = []
variables_text o (d ∷ ds) (l ∷ ls) = variable_text o d.0 l ++ variables_text o ds ls

-- the first line, the lines of declarations, and the lines of commands
abbrev pub certificate_text : Order → List Declaration → List Label → List Line → List ℕ
certificate_text o ds ls xs = codes "certificate 1\n" ++ (variables_text o ds ls ++ lines_text o 0 xs)
