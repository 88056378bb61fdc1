use Rattle.std.proofs.Common.{◌≡◌, map, take}
use Rattle.black_box.specs.Outcomes.{seen, outcome}
use Rattle.black_box.specs.Files.{ready_lists}
use Rattle.black_box.proofs.audit.all_releases.Given as goal

abbrev pub invariant-loop-ready : goal.invariant-loop-ready
invariant-loop-ready l = map seen l.runs.items ≡ map (outcome l.first l.limit) (ready_lists (take l.ready-index l.all))
