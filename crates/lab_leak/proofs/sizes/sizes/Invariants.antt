use Rattle.std.proofs.Common.{◌≡◌, drop}
use Rattle.std.specs.Prelude.{List}
use Rattle.label_code.specs.Machine.{Event}
use Rattle.fixed_log.specs.Entropy.{AllSome, starts}
use Rattle.leak_bound.specs.Records.{classes_of}
use Rattle.leak_audit.specs.Sequences.{same_sequence}
use Rattle.lab_leak.proofs.Taking.{Goes}
use Rattle.lab_leak.proofs.sizes.sizes.Given as goal

abbrev pub invariant-loop-i : goal.invariant-loop-i
invariant-loop-i l = record {
  count : starts l.found.sizes.items ≡ l.i;
  some : AllSome l.found.sizes.items;
  goes : (zs : List (List Event)) → l.classes ≡ classes_of same_sequence zs → Goes zs l.i (drop l.i l.classes) l.found;
}
