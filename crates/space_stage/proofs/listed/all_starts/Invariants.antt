use Rattle.std.proofs.Common.{◌≡◌, map}
use Rattle.start_file.specs.Starts.{seen}
use Rattle.space_starts.specs.Space.{seen as seen_space, starts_from}
use Rattle.space_starts.specs.Chooser.{IsChooser}
use Rattle.space_stage.proofs.listed.all_starts.Given as goal

-- the starts before a number are written out
abbrev pub invariant-loop-number : goal.invariant-loop-number
invariant-loop-number l = record {
  written : map seen l.starts.items ≡ starts_from (seen_space l.space) 0 l.number;
  chooser : IsChooser (seen_space l.space) l.chooser;
}
