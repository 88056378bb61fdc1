use Rattle.std.proofs.Common.{◌≡◌, ◌≤◌, drop}
use Rattle.std.specs.Char.{is_ascii_digit}
use Rattle.label_lattice.specs.Names.{Each}
use Rattle.mit_syntax.specs.Lexemes.{value, value_after}
use Rattle.mit_syntax.proofs.lexeme.number_of.Given as goal

abbrev pub invariant-loop-b : goal.invariant-loop-b
invariant-loop-b l = record {
  so_far : value_after l.n (drop l.b-index l.digits) ≡ value l.digits;
  small : l.n ≤ 9223372036854775807;
  rest : Each is_ascii_digit (drop l.b-index l.digits);
}
