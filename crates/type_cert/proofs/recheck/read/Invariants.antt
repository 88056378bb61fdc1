use Rattle.std.proofs.Common.{◌≡◌, length}
use Rattle.type_cert.specs.Certificate.{BeginsWith}
use Rattle.type_cert.proofs.recheck.read.Given as goal

abbrev pub invariant-loop-number : goal.invariant-loop-number
invariant-loop-number l = record {
  begins : BeginsWith l.p l.declared.items l.lines.items l.bytes l.rest;
  count : length l.lines.items ≡ l.number;
}
