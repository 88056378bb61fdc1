use Rattle.std.proofs.Common.{◌≡◌, ◌≤◌, map}
use Rattle.start_file.specs.Starts.{seen}
use Rattle.lab_runs.specs.ShownViews.{shown_of}
use Rattle.lab_timeline.proofs.Walking.{Walking}
use Rattle.lab_timeline.proofs.walk.write_runs.Given as goal

abbrev pub invariant-loop-i : goal.invariant-loop-i
invariant-loop-i g l = record {
  walking :
      Walking l.fn.setting.env l.fn.setting.budget (shown_of l.fn.p.program.labels).labelled l.fn.p.program.observer l.fn.p.program.image
      (map seen l.fn.p.starts.items) l.i
      (g.W.Sink.taken l.fn.out) (g.W.Sink.taken l.out) l.listing.tallies.items;
  places : l.listing.places ≡ l.fn.listing.places;
  later : g.W.Sink.faults l.fn.out ≤ g.W.Sink.faults l.out;
}
