use Rattle.std.proofs.Common.{ℕ, List}
use Rattle.tim_base.specs.Faults.{Rose}
use Rattle.lab_timeline.proofs.OneTimeline.{timeline_once}
use Rattle.lab_timeline.proofs.laws.one_timeline.Goals as goal

pub returns : goal.returns
returns c = λ content before now file starts observer e budget refused s u t x known kept n m.
    timeline_once (λ (name : List ℕ). Rose (before name) (now name)) content file starts observer e budget refused s u t x n m known kept
