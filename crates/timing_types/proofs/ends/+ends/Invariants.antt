use Rattle.std.proofs.Common.{◌≡◌, ◌+◌, ◌*◌, drop}
use Rattle.mit_syntax.specs.Plan.{list_plan, form_count, count}
use Rattle.timing_types.specs.Labelling.{end_of}
use Rattle.timing_types.proofs.ends.+ends.Given as goal

abbrev pub invariant-list_end-loop-c : goal.invariant-list_end-loop-c
invariant-list_end-loop-c l = record {
  count : l.next + count (list_plan (drop l.c-index l.commands)) ≡ l.number + count (list_plan l.commands);
  end : end_of l.order l.p (list_plan (drop l.c-index l.commands)) l.next l.pc.number l.end.number
      ≡ end_of l.order l.p (list_plan l.commands) l.number l.pc.number l.fn.t.number;
}

abbrev pub decreases-command_end : goal.decreases-command_end
decreases-command_end l = 2 * form_count l.c.now.form (record { pos = l.c.now.pos; labels = l.c.now.labels })

abbrev pub decreases-list_end : goal.decreases-list_end
decreases-list_end l = 2 * count (list_plan l.commands.now) + 1
