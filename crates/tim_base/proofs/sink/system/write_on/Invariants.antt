use Rattle.std.specs.Io.KnownBytes.{Keeps}
use Rattle.tim_base.proofs.sink.system.write_on.Given as goal

-- what was interrupted wrote nothing
abbrev pub invariant-loop : goal.invariant-loop
invariant-loop g l = Keeps (g.O.Write.contents l.fn.out) (g.O.Write.contents l.out)
