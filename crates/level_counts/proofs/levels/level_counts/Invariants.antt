use Rattle.std.specs.Prelude.{◌≤◌, take, map}
use Rattle.start_file.specs.Starts.{seen}
use Rattle.level_counts.specs.Begun.{AreTold, memories_of}
use Rattle.level_counts.proofs.levels.level_counts.Given as goal

abbrev pub invariant-loop-i : goal.invariant-loop-i
invariant-loop-i l = record {
  from : 1 ≤ l.i;
  told : AreTold l.p.labelled l.fn.observer.number (take l.i (memories_of (map seen l.starts))) l.levels.items;
}
