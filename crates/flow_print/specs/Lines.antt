-- The lines that tell a chain: for each step how its part comes in, and then its right side. Each line begins with its
-- place. T is the text of the program, and ts are its tokens.
use Rattle.std.specs.Prelude.{ℕ, if◌then◌else◌, nat_lt, List, [], ◌∷◌, ◌++◌, Option, None, Some, codes, decimal}
use Rattle.text_base.specs.declared.pos.Pos.{Pos}
use Rattle.label_lattice.specs.declared.label.Label.{Label}
use Rattle.label_lattice.specs.Order.{Order, name_of}
use Rattle.mit_syntax.specs.declared.token.Token.{Token}
use Rattle.mit_syntax.specs.Declarations.{variables, cell_at}
use Rattle.mit_syntax.specs.Program.{Syntax}
use Rattle.flow_path.specs.declared.step.Spot.{Spot}
use Rattle.flow_path.specs.declared.step.Spot.TheVariants.{Variable, Command, Level}
use Rattle.flow_path.specs.declared.step.How.{How}
use Rattle.flow_path.specs.declared.step.How.TheVariants.{Reads, ReadsInIndex, HasReadLabel, UnderGuard}
use Rattle.flow_path.specs.declared.step.How.TheVariants.{AfterReading, AfterComputing, AfterReadLabel, AfterAssigning}
use Rattle.flow_path.specs.declared.step.Step.{Step}
use Rattle.flow_path.specs.declared.origins.Origin.{Origin}
use Rattle.flow_path.specs.Steps.{written}
use Rattle.flow_print.specs.Places.{next_place, declared_place, noun, reader, kind_at}

-- the name of a label
abbrev pub label_text : Order → ℕ → List ℕ
label_text o a = if nat_lt a o.size then name_of o a else []

abbrev pub maybe_label : Order → Option ℕ → List ℕ
maybe_label o None = []
maybe_label o (Some a) = label_text o a

-- the name of a variable or an array
abbrev pub variable_text : Syntax → ℕ → List ℕ
variable_text s x = if nat_lt x (variables s.declarations) then (cell_at s.declarations x).name else []

-- what stands at a spot: a variable's name, or the label that a command writes
abbrev pub spot_text : Syntax → Spot → List ℕ
spot_text s (Variable x) = variable_text s x
spot_text s (Command l) = label_text s.order l.number
spot_text s (Level k l) = []

-- the label that the program writes there
abbrev pub written_text : Syntax → Spot → List ℕ
written_text s p = maybe_label s.order (written s p)

abbrev pub place_text : Pos → List ℕ
place_text q = decimal q.line ++ (codes ":" ++ (decimal q.column ++ codes " "))

abbrev pub place_if : Option Pos → List ℕ
place_if None = []
place_if (Some q) = place_text q

-- words, and at the end of the line others
abbrev pub line : List ℕ → List ℕ → List ℕ
line v w = v ++ (w ++ codes "\n")

-- a line on where a command reads a variable
abbrev pub reads_line : List ℕ → List Token → Pos → List ℕ → List ℕ → List ℕ
reads_line T ts q v w = place_text (next_place T ts q w) ++ line v w

-- on the time of a command
abbrev pub time_line : List Token → Pos → List ℕ → List ℕ
time_line ts q a = place_text q ++ (codes "so how long this " ++ (noun (kind_at ts q) ++ line (codes " takes is ") a))

-- on the time of an assignment, which by the rules has the label of each variable that the assignment reads
abbrev pub counts_line : Pos → List ℕ → List ℕ
counts_line q a = place_text q ++ line (codes "so how long this assignment takes counts as ") a

-- on its read label
abbrev pub label_line : List Token → Pos → List ℕ → List ℕ
label_line ts q w = place_text q ++ (codes "this " ++ (noun (kind_at ts q) ++ line (codes " has the read label ") w))

abbrev pub reader_line : List ℕ → List Token → Pos → List ℕ → List ℕ
reader_line T ts q w = place_text (next_place T ts q w) ++ (codes "this " ++ (reader (kind_at ts q) ++ line (codes " reads ") w))

-- how a part comes into the left side, by the position of its command and its name; a is the label with which the
-- chain begins
abbrev pub part_lines : List ℕ → List Token → How → Pos → List ℕ → List ℕ → List ℕ
part_lines T ts Reads q w a = reads_line T ts q (codes "this value reads ") w
part_lines T ts ReadsInIndex q w a = reads_line T ts q (codes "this index reads ") w
part_lines T ts HasReadLabel q w a = label_line ts q w
part_lines T ts UnderGuard q w a = reads_line T ts q (codes "this guard reads ") w
part_lines T ts AfterReading q w a = reader_line T ts q w ++ time_line ts q a
part_lines T ts AfterComputing q w a = reader_line T ts q w ++ counts_line q a
part_lines T ts AfterReadLabel q w a = label_line ts q w ++ time_line ts q a
part_lines T ts AfterAssigning q w a = place_text q ++ (line (codes "this assigns to ") w ++ (place_text q ++ line (codes "so when it is done is ") a))

-- how the right side stands to the part
abbrev pub bound : How → List ℕ
bound Reads = codes "from it"
bound ReadsInIndex = codes "with it"
bound HasReadLabel = codes "with it"
bound UnderGuard = codes "under it"
bound AfterReading = codes "after it"
bound AfterComputing = codes "after it"
bound AfterReadLabel = codes "after it"
bound AfterAssigning = codes "after it"

-- the right side: a variable, by its name, or the write label of a command, or the level of a mitigate; v is the label
-- that is written there, if one is
abbrev pub variable_line : List ℕ → Option ℕ → Order → List ℕ → List ℕ → List ℕ
variable_line w (Some v) o b a = w ++ (codes ", which is " ++ (label_text o v ++ line (codes ", gets its value ") b))
variable_line w None o b a = codes "so " ++ (w ++ (codes ", which gets its value " ++ (b ++ line (codes ", is at least ") a)))

abbrev pub command_line : List Token → Pos → List ℕ → List ℕ → List ℕ
command_line ts q v b = codes "this " ++ (noun (kind_at ts q) ++ (codes ", whose write label is " ++ (v ++ line (codes ", runs ") b)))

abbrev pub level_line : Option Label → Order → List ℕ → List ℕ → List ℕ
level_line (Some l) o b a = codes "this mitigate, whose level is " ++ (label_text o l.number ++ line (codes ", ends ") b)
level_line None o b a = codes "so the level of this mitigate, which ends " ++ (b ++ line (codes ", is at least ") a)

abbrev pub side_line : List Token → Syntax → Pos → Spot → List ℕ → List ℕ → List ℕ
side_line ts s q (Variable y) b a = variable_line (variable_text s y) (written s (Variable y)) s.order b a
side_line ts s q (Command l) b a = command_line ts q (label_text s.order l.number) b
side_line ts s q (Level k l) b a = level_line l s.order b a

abbrev pub step_lines : List ℕ → List Token → Syntax → Step → List ℕ → List ℕ
step_lines T ts s x a =
    part_lines T ts x.part.how x.part.pos (spot_text s x.part.spot) a ++ (place_text x.pos ++ side_line ts s x.pos x.side (bound x.part.how) a)

abbrev pub steps_lines : List ℕ → List Token → Syntax → List Step → List ℕ → List ℕ
steps_lines T ts s [] a = []
steps_lines T ts s (x ∷ xs) a = step_lines T ts s x a ++ steps_lines T ts s xs a

-- where a chain begins: a variable is declared with this label; a label that a command writes stands in its own line
abbrev pub first_line : List ℕ → List Token → Spot → List ℕ → List ℕ → List ℕ
first_line T ts (Variable x) w a = place_if (declared_place T ts w) ++ (w ++ line (codes " is declared ") a)
first_line T ts (Command l) w a = []
first_line T ts (Level k l) w a = []

-- a chain
abbrev pub chain_text : List ℕ → List Token → Syntax → List Step → List ℕ
chain_text T ts s [] = []
chain_text T ts s (x ∷ xs) =
    first_line T ts x.part.spot (spot_text s x.part.spot) (written_text s x.part.spot) ++ steps_lines T ts s (x ∷ xs) (written_text s x.part.spot)

-- the chains of origins, one after another
abbrev pub origins_text : List ℕ → List Token → Syntax → List Origin → List ℕ
origins_text T ts s [] = []
origins_text T ts s (w ∷ ws) = chain_text T ts s w.chain.items ++ origins_text T ts s ws
