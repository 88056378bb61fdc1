use Rattle.std.proofs.Common.{◌≡◌, ◌++◌, drop}
use Rattle.mit_syntax.specs.Plan.{list_plan}
use Rattle.timing_types.specs.Labelling.{contexts_of}
use Rattle.timing_types.proofs.contexts.+contexts.Given as goal

abbrev pub invariant-list_contexts-loop-c : goal.invariant-list_contexts-loop-c
invariant-list_contexts-loop-c l =
    l.fn.found.items ++ contexts_of l.order l.p (list_plan l.commands) l.pc ≡ l.found.items
    ++ contexts_of l.order l.p (list_plan (drop l.c-index l.commands)) l.pc
