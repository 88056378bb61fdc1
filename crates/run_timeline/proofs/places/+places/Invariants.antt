use Rattle.std.proofs.Common.{◌≡◌, ◌++◌, drop}
use Rattle.mit_syntax.specs.Plan.{list_plan}
use Rattle.run_timeline.specs.Places.{places}
use Rattle.run_timeline.proofs.places.+places.Given as goal

abbrev pub invariant-list_places-loop-c : goal.invariant-list_places-loop-c
invariant-list_places-loop-c l = l.fn.found.items ++ places (list_plan l.commands) ≡ l.found.items ++ places (list_plan (drop l.c-index l.commands))
