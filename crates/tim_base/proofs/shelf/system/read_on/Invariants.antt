use Rattle.std.specs.Io.KnownBytes.{Keeps}
use Rattle.tim_base.proofs.shelf.system.read_on.Given as goal

-- what was interrupted read nothing
abbrev pub invariant-loop : goal.invariant-loop
invariant-loop g l = Keeps (g.F.Read.remaining l.fn.file) (g.F.Read.remaining l.file)
