use Rattle.std.proofs.Common.{◌≡◌, ◌≤◌}
use Rattle.space_starts.specs.Space.{seen}
use Rattle.space_starts.specs.Chooser.{IsChooser}
use Rattle.space_walk.proofs.Walking.{Walking}
use Rattle.space_walk.proofs.walk.walk_space.Given as goal

-- the runs before a number are taken in
abbrev pub invariant-loop-number : goal.invariant-loop-number
invariant-loop-number g l = record {
  walking : Walking g.E.MachineEnv.env (g.M.MakeEnv.made l.make) l.p l.fn.label.number l.limit (seen l.space) l.numbers.begin l.numbers.end l.known l.number;
  chooser : IsChooser (seen l.space) l.chooser;
  inside : l.numbers.end ≤ l.numbers.begin → l.number ≡ l.numbers.begin;
}
