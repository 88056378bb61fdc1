use Rattle.std.proofs.Common.{◌≡◌, ◌++◌, drop}
use Rattle.type_cert.specs.Certificate.{spread}
use Rattle.type_cert.proofs.recheck.spread.Given as goal

abbrev pub invariant-loop-k : goal.invariant-loop-k
invariant-loop-k l = spread l.declarations l.declared ≡ l.found.items ++ spread (drop l.k l.declarations) (drop l.k l.declared)
