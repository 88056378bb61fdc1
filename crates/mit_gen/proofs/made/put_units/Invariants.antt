use Rattle.std.proofs.Common.{◌≡◌, ◌++◌, ◌*◌, string_bytes}
use Rattle.mit_gen.specs.Made.{units, state_after}
use Rattle.mit_gen.proofs.made.put_units.Given as goal

abbrev pub invariant-loop-k : goal.invariant-loop-k
invariant-loop-k l = record {
  text : string_bytes l.text ≡ string_bytes l.initial.text ++ units l.number l.k;
  state : l.draws.state ≡ state_after l.number (4 * l.k);
}
