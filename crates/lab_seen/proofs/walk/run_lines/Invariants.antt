use Rattle.std.proofs.Common.{◌≤◌, map, take}
use Rattle.std.specs.Io.KnownBytes.{Appends}
use Rattle.start_file.specs.Starts.{seen}
use Rattle.lab_runs.specs.Runs.{texts}
use Rattle.lab_runs.specs.ShownViews.{shown_of}
use Rattle.lab_seen.specs.Seen.{line_in}
use Rattle.lab_seen.proofs.walk.run_lines.Given as goal

abbrev pub invariant-loop-i : goal.invariant-loop-i
invariant-loop-i g l = record {
  written :
      Appends (g.W.Sink.taken l.fn.out) (g.W.Sink.taken l.out)
      (texts (line_in l.fn.setting.env l.fn.setting.budget (shown_of l.fn.p.program.labels).labelled l.fn.observer l.fn.p.program.image)
      (take l.i (map seen l.fn.p.starts.items)));
  later : g.W.Sink.faults l.fn.out ≤ g.W.Sink.faults l.out;
}
