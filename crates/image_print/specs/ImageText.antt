-- The text of an image: a line for each instruction.
use Rattle.std.specs.Prelude.{ℕ, ◌+◌, List, [], ◌∷◌, ◌++◌, codes, decimal}
use Rattle.std.specs.Fmt.{signed_decimal}
use Rattle.label_lattice.specs.declared.label.Label.{Label}
use Rattle.label_lattice.specs.Order.{Order, name_of}
use Rattle.mit_syntax.specs.Declarations.{Declaration, cell_at}
use Rattle.mit_syntax.specs.Operators.{op_sign}
use Rattle.mit_syntax.specs.Lexemes.{sign_text}
use Rattle.mit_syntax.specs.Program.{Syntax}
use Rattle.label_code.specs.declared.code.Work.{Work}
use Rattle.label_code.specs.declared.code.Work.TheVariants.{Push, Load, Store, LoadAt, StoreAt, Apply, Brz, Brnz, Jmp, Sleep, Mitb, Mite, Nop, Halt}
use Rattle.label_code.specs.declared.code.Instr.{Instr}
use Rattle.label_code.specs.Shaped.{Code}

-- the name of an instruction
abbrev pub mnemonic : Work → List ℕ
mnemonic (Push n) = codes "PUSH"
mnemonic (Load x) = codes "LOAD"
mnemonic (Store x) = codes "STORE"
mnemonic (LoadAt f n) = codes "LOADX"
mnemonic (StoreAt f n) = codes "STOREX"
mnemonic (Apply o) = codes "OP"
mnemonic (Brz b) = codes "BRZ"
mnemonic (Brnz b) = codes "BRNZ"
mnemonic (Jmp b) = codes "JMP"
mnemonic Sleep = codes "SLEEP"
mnemonic (Mitb l k) = codes "MITB"
mnemonic Mite = codes "MITE"
mnemonic Nop = codes "NOP"
mnemonic Halt = codes "HALT"

-- a level and a mark
abbrev pub level_text : Order → Label → ℕ → List ℕ
level_text o l k = codes " " ++ (name_of o l.number ++ (codes " " ++ decimal k))

-- a space and the operand, where an instruction has one
abbrev pub operand_text : Order → List Declaration → Work → List ℕ
operand_text o ds (Push n) = codes " " ++ signed_decimal n
operand_text o ds (Load x) = codes " " ++ (cell_at ds x).name
operand_text o ds (Store x) = codes " " ++ (cell_at ds x).name
operand_text o ds (LoadAt f n) = codes " " ++ (cell_at ds f).name
operand_text o ds (StoreAt f n) = codes " " ++ (cell_at ds f).name
operand_text o ds (Apply op) = codes " " ++ sign_text (op_sign op)
operand_text o ds (Brz b) = codes " " ++ decimal b
operand_text o ds (Brnz b) = codes " " ++ decimal b
operand_text o ds (Jmp b) = codes " " ++ decimal b
operand_text o ds Sleep = []
operand_text o ds (Mitb l k) = level_text o l k
operand_text o ds Mite = []
operand_text o ds Nop = []
operand_text o ds Halt = []

abbrev pub work_text : Order → List Declaration → Work → List ℕ
work_text o ds w = mnemonic w ++ operand_text o ds w

-- ` [READ, WRITE]` and a line feed
abbrev pub labels_text : Order → Label → Label → List ℕ
labels_text o er ew = codes " [" ++ (name_of o er.number ++ (codes ", " ++ (name_of o ew.number ++ codes "]\n")))

-- the line of the instruction with a number
abbrev pub line_text : Order → List Declaration → ℕ → Instr → List ℕ
line_text o ds k i = decimal k ++ (codes " " ++ (work_text o ds i.work ++ labels_text o i.er i.ew))

-- the lines of instructions, of which the first has a number
abbrev pub lines_from : Order → List Declaration → ℕ → List Instr → List ℕ
lines_from o ds k [] = []
lines_from o ds k (i ∷ rest) = line_text o ds k i ++ lines_from o ds (k + 1) rest

-- the text of code, with the names of a program
abbrev pub image_text : Syntax → Code → List ℕ
image_text p c = lines_from p.order p.declarations 0 c.instrs
