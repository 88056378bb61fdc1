use Rattle.std.proofs.Common.{◌≡◌, ◌+◌, ◌*◌, ◌++◌, length, drop}
use Rattle.label_lattice.specs.Order.{lattice_of}
use Rattle.mit_syntax.specs.Todo.{Done}
use Rattle.mit_syntax.specs.Plan.{list_plan, command_plan, count}
use Rattle.timing_types.specs.Labelling.{variable_of}
use Rattle.code_lower.specs.Layout.{size}
use Rattle.code_lower.specs.Code.{code_of}
use Rattle.code_lower.specs.Emitted.{marked_of}
use Rattle.code_lower.proofs.emit.+emit.Given as goal

-- the code so far and that of what is left are all the code
abbrev pub invariant-emit_list-loop-c : goal.invariant-emit_list-loop-c
invariant-emit_list-loop-c l = record {
  code :
      l.code.items ++ code_of (lattice_of l.order) (variable_of l.order l.p) (marked_of l.order l.p (list_plan (drop l.c-index l.commands)) l.next)
      (length l.code.items)
      ≡ l.initial.code.items ++ code_of (lattice_of l.order) (variable_of l.order l.p) (marked_of l.order l.p (list_plan l.commands) l.number)
      (length l.initial.code.items);
  count : l.next + count (list_plan (drop l.c-index l.commands)) ≡ l.number + count (list_plan l.commands);
  room : length l.code.items + size (list_plan (drop l.c-index l.commands)) ≡ length l.initial.code.items + size (list_plan l.commands);
}

abbrev pub decreases-emit_command : goal.decreases-emit_command
decreases-emit_command l = 2 * count (command_plan l.c.now Done)

abbrev pub decreases-emit_list : goal.decreases-emit_list
decreases-emit_list l = 2 * count (list_plan l.commands.now) + 1
