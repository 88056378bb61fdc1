use Rattle.std.proofs.Common.{map}
use Rattle.black_box.specs.Audits.{shown}
use Rattle.black_box.proofs.Gathered.{IsGathered}
use Rattle.black_box.proofs.class.classify.Given as goal

abbrev pub invariant-loop-run : goal.invariant-loop-run
invariant-loop-run l = IsGathered (shown l.runs) l.run-index (map (λ k. k.now) l.seen.keys) l.places.items
