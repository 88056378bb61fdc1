use Rattle.std.proofs.Common.{◌≡◌, length, false}
use Rattle.label_infer.specs.Holders.{Tell}
use Rattle.label_infer.proofs.variables.no_holders.Given as goal

abbrev pub invariant-loop : goal.invariant-loop
invariant-loop l = record {
  fit : length l.holders.items ≡ l.counter;
  told : Tell l.holders.items (λ a y. false);
}
