use Rattle.std.proofs.Common.{◌≡◌, string_bytes}
use Rattle.mit_gen.specs.Made.{runs}
use Rattle.mit_gen.proofs.starts.starts.Given as goal

abbrev pub invariant-loop-run : goal.invariant-loop-run
invariant-loop-run l = string_bytes l.text ≡ runs l.run
