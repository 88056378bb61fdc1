use Rattle.std.specs.Prelude.{◌≤◌, take, map}
use Rattle.start_file.specs.Starts.{seen}
use Rattle.level_counts.specs.Begun.{memories_of}
use Rattle.level_counts.specs.Listed.{lists, AreListed}
use Rattle.level_counts.proofs.firsts.first_predictions.Given as goal

abbrev pub invariant-loop-i : goal.invariant-loop-i
invariant-loop-i l = record {
  from : 1 ≤ l.i;
  listed : AreListed l.p.labelled l.fn.observer.number (take l.i (memories_of (map seen l.starts))) (lists l.listed.items);
}
