-- A parser's fields, and the state that they stand for.
use Rattle.std.specs.Prelude.{◌≤◌, ◌+◌, ◌^◌, length}
use Rattle.mit_parser.specs.declared.parser.Parser.TheInside.{Inside}
use Rattle.mit_parser.specs.Words.{told}
use Rattle.mit_parser.specs.State.{State, AreSound}

abbrev pub state_of : Inside → State
state_of p = record { counts = p.counts; words = told p.text.now p.rest.now; fault = p.fault; marks = p.marks }

pub record IsKept (p : Inside) : Type 0 where
  pub depth : p.counts.depth ≤ 100
  pub operators : p.counts.operators ≤ 256
  pub sound : AreSound p.text.now p.rest.now
  pub marks : p.marks + length p.rest.now ≤ 2 ^ 31
