use Rattle.std.proofs.Common.{◌≡◌, length, []}
use Rattle.type_cert.specs.Certificate.{BeginsWith}
use Rattle.type_cert.proofs.recheck.read_variables.Given as goal

abbrev pub invariant-loop-k : goal.invariant-loop-k
invariant-loop-k l = record {
  begins : BeginsWith l.p l.found.items [] l.bytes l.rest;
  count : length l.found.items ≡ l.k;
}
