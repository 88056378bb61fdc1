use Rattle.mit_parser.proofs.Heads.{number_some, number_none}
use Rattle.mit_parser.proofs.parser.Parser.label_number.Goals as goal

pub returns-in-Some : goal.returns-in-Some
returns-in-Some c = number_some c.args.labels.now.keys c.in_ok-name.name c.in_ok-name.pos c.args.self.now c.name.new.self c.in_ok-name.ensures
    c.in-Some.number c.in-Some.ensures.index

pub returns-in-None : goal.returns-in-None
returns-in-None c = rw c.note.ensures (number_none c.args.labels.now.keys c.in_ok-name.name c.in_ok-name.pos c.args.self.now c.name.new.self
    c.in_ok-name.ensures c.in-None.ensures.index)
