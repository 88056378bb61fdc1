use Rattle.std.proofs.Common.{◌≡◌, ◌<◌, ℕ, Vec, get_or, true}
use Rattle.std.specs.declared.alloc.Global.{Global}
use Rattle.space_starts.specs.declared.space.Interval.{Interval}
use Rattle.space_starts.specs.Space.{apart}
use Rattle.space_file.proofs.read.have_none_twice.Given as goal

-- no variable so far has a value twice
abbrev pub invariant-loop-values : goal.invariant-loop-values
invariant-loop-values l = (k : ℕ) (d : Vec Interval Global) → k < l.values-index → apart (get_or l.memory k d).items ≡ true
