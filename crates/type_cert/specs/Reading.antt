-- What is read at the front of a text, and what follows it.
use Rattle.std.specs.Prelude.{◌≡◌, ℕ, ◌<◌, List, ◌++◌, Option}
use Rattle.label_lattice.specs.declared.label.Label.{Label}
use Rattle.label_lattice.specs.Names.{is_name_byte}
use Rattle.label_lattice.specs.Order.{Order}
use Rattle.mit_syntax.specs.Lexemes.{StopsAt}
use Rattle.mit_syntax.specs.Valid.{IsBelow}
use Rattle.type_cert.specs.declared.line.Line.{Line}
use Rattle.type_cert.specs.declared.place.Act.{Act}
use Rattle.type_cert.specs.Text.{named, level_text, line_text, variable_text}
use Rattle.type_cert.specs.Demands.{HasLevel, IsFormed}

-- words and the name of a label, and then q, which begins with no byte of a name
pub record ReadsLabel (o : Order) (words text : List ℕ) (l : Label) (q : List ℕ) : Type 0 where
  pub below : l.number < o.size
  pub is : text ≡ named o words l ++ q
  pub stops : StopsAt is_name_byte q

-- the level where the command has one
pub record ReadsLevel (o : Order) (act : Act) (text : List ℕ) (v : Option Label) (q : List ℕ) : Type 0 where
  pub has : HasLevel act v
  pub below : IsBelow o.size v
  pub is : text ≡ level_text o v ++ q
  pub stops : StopsAt is_name_byte q

-- the line of the command with number i
pub record ReadsLine (o : Order) (i : ℕ) (act : Act) (text : List ℕ) (x : Line) (q : List ℕ) : Type 0 where
  pub formed : IsFormed o.size act x
  pub is : text ≡ line_text o i x ++ q

-- the line of a declaration
pub record ReadsVariable (o : Order) (w text : List ℕ) (l : Label) (q : List ℕ) : Type 0 where
  pub below : l.number < o.size
  pub is : text ≡ variable_text o w l ++ q
