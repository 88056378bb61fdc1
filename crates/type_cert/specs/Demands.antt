-- What is demanded of the line of a command.
use Rattle.std.specs.Prelude.{◌≡◌, ℕ, ◌<◌, Option, None, Some}
use Rattle.label_lattice.specs.declared.label.Label.{Label}
use Rattle.label_lattice.specs.Lattice.{Lattice, Flows}
use Rattle.mit_syntax.specs.Todo.{Marks}
use Rattle.mit_syntax.specs.Valid.{IsBelow}
use Rattle.timing_types.specs.declared.rule.Rule.{Rule}
use Rattle.timing_types.specs.declared.rule.Rule.TheVariants.{Skip as RSkip, Asgn as RAsgn, If as RIf, While as RWhile, Mtg as RMtg, Sleep as RSleep}
use Rattle.timing_types.specs.Labelling.{IsKept}
use Rattle.label_infer.specs.Least.{own}
use Rattle.type_cert.specs.declared.line.Line.{Line}
use Rattle.type_cert.specs.declared.place.Act.{Act}
use Rattle.type_cert.specs.declared.place.Act.TheVariants.{Skip, Assign, Sleep, If, While, Mitigate}
use Rattle.type_cert.specs.declared.place.Start.{Start}
use Rattle.type_cert.specs.declared.place.Start.TheVariants.{First, After, Within, Around}
use Rattle.type_cert.specs.declared.place.Close.{Close}
use Rattle.type_cert.specs.declared.place.Close.TheVariants.{Open, If as ClosesIf, While as ClosesWhile, Mitigate as ClosesMitigate}
use Rattle.type_cert.specs.declared.place.Place.{Place}

abbrev pub rule_of : Act → Rule
rule_of Skip = RSkip
rule_of (Assign r x) = RAsgn
rule_of (Sleep l) = RSleep
rule_of (If l) = RIf
rule_of (While l) = RWhile
rule_of (Mitigate l v) = RMtg

-- the two labels of the command
abbrev pub marks_in : Line → Marks
marks_in x = record { er = x.read.number; ew = x.write.number }

-- the level of a mitigate; where no level stands, bottom
abbrev pub level_in : ℕ → Option Label → ℕ
level_in bottom None = bottom
level_in bottom (Some l) = l.number

-- a mitigate has a level, and no other command has one
abbrev pub HasLevel : Act → Option Label → Type 0
HasLevel (Mitigate l w) v = (f : Label) × (v ≡ Some f)
HasLevel a v = v ≡ None

-- a written level is kept
abbrev pub KeepsLevel : ℕ → Act → Option Label → Type 0
KeepsLevel b (Mitigate l w) v = IsKept w (level_in b v)
KeepsLevel b a v = Unit {0}

-- the start label that the lines before give: bottom, the end of the command before, `t | le | er` of an `if` or
-- a `mitigate` around it, or the end of a `while` around it
abbrev pub start_of : Lattice → (ℕ → Line) → Start → ℕ
start_of lat lines First = lat.bottom
start_of lat lines (After j) = (lines j).end.number
start_of lat lines (Within j le) = lat.join (lat.join (lines j).start.number le.number) (lines j).read.number
start_of lat lines (Around j) = (lines j).end.number

-- what the rule of the command demands beside `pc | li <= ew`
abbrev pub KeepsRule : Lattice → Act → Line → Type 0
KeepsRule lat Skip x = x.end.number ≡ lat.join x.start.number x.read.number
KeepsRule lat (Assign reads to) x = Flows lat (lat.join (lat.join reads.number x.start.number) x.read.number) to.number × (x.end.number ≡ to.number)
KeepsRule lat (Sleep le) x = x.end.number ≡ lat.join (lat.join x.start.number le.number) x.read.number
KeepsRule lat (If le) x = Unit {0}
KeepsRule lat (While le) x = Flows lat (lat.join (lat.join le.number x.start.number) x.read.number) x.end.number
KeepsRule lat (Mitigate le v) x = x.end.number ≡ lat.join (lat.join x.start.number le.number) x.read.number

-- what this end label closes: the end of an `if` is the join of the ends of both lists, the body of a `while`
-- ends at the end of the `while`, and the end of a `mitigate`'s body flows to its level
abbrev pub Closes : Lattice → (ℕ → Line) → Close → ℕ → Type 0
Closes lat lines Open end = Unit {0}
Closes lat lines (ClosesIf j k) end = (lines j).end.number ≡ lat.join (lines k).end.number end
Closes lat lines (ClosesWhile j) end = end ≡ (lines j).end.number
Closes lat lines (ClosesMitigate j) end = Flows lat end (level_in lat.bottom (lines j).level)

-- its labels are labels below n
pub record HasLabels (n : ℕ) (x : Line) : Type 0 where
  pub pc : x.pc.number < n
  pub start : x.start.number < n
  pub read : x.read.number < n
  pub write : x.write.number < n
  pub end : x.end.number < n
  pub level : IsBelow n x.level

-- the form of a line: its rule is the command's, its labels are labels below n, and a level stands where it has to
pub record IsFormed (n : ℕ) (act : Act) (x : Line) : Type 0 where
  pub rule : x.rule ≡ rule_of act
  pub labels : HasLabels n x
  pub level : HasLevel act x.level

-- The demands on the line of a command at a place, where the lines before are given.
pub record Meets (lat : Lattice) (lines : ℕ → Line) (p : Place) (x : Line) : Type 0 where
  pub pc : x.pc.number ≡ p.pc.number
  pub start : x.start.number ≡ start_of lat lines p.start
  -- the written labels are kept, and without marks both labels are `pc | li`
  pub marks : marks_in x ≡ own p.written p.here.number
  pub level : KeepsLevel lat.bottom p.act x.level
  pub writes : Flows lat p.here.number x.write.number
  pub rule : KeepsRule lat p.act x
  pub close : Closes lat lines p.close x.end.number
