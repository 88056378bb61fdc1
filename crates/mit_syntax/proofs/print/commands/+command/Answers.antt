use Rattle.std.proofs.Common.{◌<◌, ◌+◌, sym, subst, arith, List}
use Rattle.mit_syntax.specs.declared.ast.Command.{Command}
use Rattle.mit_syntax.specs.Plan.{list_plan}
use Rattle.mit_syntax.specs.Printable.{IsPrintable}
use Rattle.mit_syntax.proofs.Putting.{puts_then}
use Rattle.mit_syntax.proofs.Commanding.{assigned_below, put_below, if_shallow, if_then, if_else, while_shallow, while_body, mitigate_shallow, mitigate_body}
use Rattle.mit_syntax.proofs.Commanding.{puts_assign, puts_put, puts_sleep, puts_if, puts_while, puts_mitigate, next_put, next_printable, all_put}
use Rattle.mit_syntax.proofs.print.commands.+command.Goals as goal

pub put_block-returns : goal.put_block-returns
put_block-returns t c =
    puts_then c.in_ok-put_sign.ensures
    (puts_then c.in_ok-put_new_line.ensures (puts_then c.in_ok-put_commands.ensures (puts_then c.in_ok-put_new_line-2.ensures c.in_ok-put_sign-2.ensures)))

pub put_command-name-requires : goal.put_command-name-requires
put_command-name-requires t c =
    assigned_below c.args.labels.now.size c.args.variables.now c.args.depth c.args.c.now c.requires c.in-Assign.variable c.in-Assign.value c.in-Assign.is

pub put_command-name-requires-in-Put : goal.put_command-name-requires-in-Put
put_command-name-requires-in-Put t c =
    put_below c.args.labels.now.size c.args.variables.now c.args.depth c.args.c.now c.requires c.in-Put.first c.in-Put.length
    c.in-Put.index c.in-Put.value c.in-Put.is

pub put_command-put_block-requires : goal.put_command-put_block-requires
put_command-put_block-requires t c =
    let low : c.args.depth < 100 = if_shallow c.args.labels.now.size c.args.variables.now c.args.depth c.args.c.now c.in-If.guard c.in-If.then_part c.requires
    c.in-If.else_part c.in-If.is in (
      omega (arith, low),
      (
        subst (λ (l : List Command). IsPrintable c.args.labels.now.size c.args.variables.now (c.args.depth + 1) (list_plan l))
            (sym c.deref.ensures.value)
            (if_then c.args.labels.now.size c.args.variables.now c.args.depth c.args.c.now c.in-If.guard c.in-If.then_part c.requires
            c.in-If.else_part c.in-If.is),
        low,
      ),
    )

pub put_command-put_block-requires-in-If : goal.put_command-put_block-requires-in-If
put_command-put_block-requires-in-If t c =
    let low : c.args.depth < 100 = if_shallow c.args.labels.now.size c.args.variables.now c.args.depth c.args.c.now c.in-If.guard c.in-If.then_part c.requires
    c.in-If.else_part c.in-If.is in (
      omega (arith, low),
      (
        subst (λ (l : List Command). IsPrintable c.args.labels.now.size c.args.variables.now (c.args.depth + 1) (list_plan l))
            (sym c.deref-in-If.ensures.value) (if_else c.args.labels.now.size c.args.variables.now c.args.depth c.args.c.now c.in-If.guard c.in-If.then_part
            c.requires c.in-If.else_part c.in-If.is),
        low,
      ),
    )

pub put_command-put_block-requires-in-While : goal.put_command-put_block-requires-in-While
put_command-put_block-requires-in-While t c =
    let low : c.args.depth < 100 = while_shallow c.args.labels.now.size c.args.variables.now c.args.depth c.args.c.now c.in-While.guard
    c.in-While.body c.requires c.in-While.is in (
      omega (arith, low),
      (
        subst (λ (l : List Command). IsPrintable c.args.labels.now.size c.args.variables.now (c.args.depth + 1) (list_plan l))
            (sym c.deref-in-While.ensures.value)
            (while_body c.args.labels.now.size c.args.variables.now c.args.depth c.args.c.now c.in-While.guard c.in-While.body
            c.requires c.in-While.is),
        low,
      ),
    )

pub put_command-put_block-requires-in-Mitigate : goal.put_command-put_block-requires-in-Mitigate
put_command-put_block-requires-in-Mitigate t c =
    let low : c.args.depth < 100 = mitigate_shallow c.args.labels.now.size c.args.variables.now c.args.depth c.args.c.now c.in-Mitigate.estimate
    c.in-Mitigate.body c.requires c.in-Mitigate.mark c.in-Mitigate.level c.in-Mitigate.is in (
      omega (arith, low),
      (
        subst (λ (l : List Command). IsPrintable c.args.labels.now.size c.args.variables.now (c.args.depth + 1) (list_plan l))
            (sym c.deref-in-Mitigate.ensures.value) (mitigate_body c.args.labels.now.size c.args.variables.now c.args.depth c.args.c.now c.in-Mitigate.estimate
            c.in-Mitigate.body c.requires c.in-Mitigate.mark c.in-Mitigate.level c.in-Mitigate.is),
        low,
      ),
    )

pub put_command-returns-in_ok-put_marks-in-Assign : goal.put_command-returns-in_ok-put_marks-in-Assign
put_command-returns-in_ok-put_marks-in-Assign t c =
    puts_assign c.args.labels.now c.args.variables.now c.args.depth c.args.c.now c.in-Assign.variable c.in-Assign.value c.name.result
    c.in-Assign.is c.name.ensures
    c.in_ok-put_name-in-Assign.ensures c.in_ok-put_spaced-in-Assign.ensures c.in_ok-put_expression-in-Assign.ensures c.in_ok-put_marks-in-Assign.ensures

pub put_command-returns-in_ok-put_marks-in-Put : goal.put_command-returns-in_ok-put_marks-in-Put
put_command-returns-in_ok-put_marks-in-Put t c =
    puts_put c.args.labels.now c.args.variables.now c.args.depth c.args.c.now c.in-Put.first c.in-Put.length c.in-Put.index c.in-Put.value c.name-in-Put.result
    c.in-Put.is c.name-in-Put.ensures
    c.in_ok-put_name-in-Put.ensures c.in_ok-put_index-in-Put.ensures c.in_ok-put_spaced-in-Put.ensures c.in_ok-put_expression-in-Put.ensures
    c.in_ok-put_marks-in-Put.ensures

pub put_command-returns-in_ok-put_marks-in-Sleep : goal.put_command-returns-in_ok-put_marks-in-Sleep
put_command-returns-in_ok-put_marks-in-Sleep t c =
    puts_sleep c.args.labels.now c.args.variables.now c.args.depth c.args.c.now c.in-Sleep.time c.in-Sleep.is
    c.in_ok-put_key-in-Sleep.ensures c.in_ok-put_space-in-Sleep.ensures c.in_ok-put_expression-in-Sleep.ensures c.in_ok-put_marks-in-Sleep.ensures

pub put_command-returns-in_ok-put_block-in-If-2 : goal.put_command-returns-in_ok-put_block-in-If-2
put_command-returns-in_ok-put_block-in-If-2 t c =
    puts_if c.args.labels.now c.args.variables.now c.args.depth c.args.c.now c.in-If.guard c.in-If.then_part c.in-If.else_part c.deref.result.now
    c.deref-in-If.result.now c.in-If.is c.deref.ensures.value c.deref-in-If.ensures.value
    c.in_ok-put_key-in-If.ensures c.in_ok-put_space-in-If.ensures c.in_ok-put_expression-in-If.ensures c.in_ok-put_marks-in-If.ensures
    c.in_ok-put_spaced_key-in-If.ensures
    c.in_ok-put_block-in-If.ensures c.in_ok-put_spaced_key-in-If-2.ensures c.in_ok-put_block-in-If-2.ensures

pub put_command-returns-in_ok-put_block-in-While : goal.put_command-returns-in_ok-put_block-in-While
put_command-returns-in_ok-put_block-in-While t c =
    puts_while c.args.labels.now c.args.variables.now c.args.depth c.args.c.now c.in-While.guard c.in-While.body c.deref-in-While.result.now c.in-While.is
    c.deref-in-While.ensures.value
    c.in_ok-put_key-in-While.ensures c.in_ok-put_space-in-While.ensures c.in_ok-put_expression-in-While.ensures c.in_ok-put_marks-in-While.ensures
    c.in_ok-put_spaced_key-in-While.ensures c.in_ok-put_block-in-While.ensures

pub put_command-returns-in_ok-put_block-in-Mitigate : goal.put_command-returns-in_ok-put_block-in-Mitigate
put_command-returns-in_ok-put_block-in-Mitigate t c =
    puts_mitigate c.args.labels.now c.args.variables.now c.args.depth c.args.c.now c.in-Mitigate.mark c.in-Mitigate.estimate c.in-Mitigate.level
    c.in-Mitigate.body c.deref-in-Mitigate.result.now c.in-Mitigate.is c.deref-in-Mitigate.ensures.value
    c.in_ok-put_key-in-Mitigate.ensures c.in_ok-put_space-in-Mitigate.ensures c.in_ok-put_sign-in-Mitigate.ensures c.in_ok-put_expression-in-Mitigate.ensures
    c.in_ok-put_level-in-Mitigate.ensures
    c.in_ok-put_sign-in-Mitigate-2.ensures c.in_ok-put_marks-in-Mitigate.ensures c.in_ok-put_space-in-Mitigate-2.ensures c.in_ok-put_block-in-Mitigate.ensures

pub put_commands-put_command-requires : goal.put_commands-put_command-requires
put_commands-put_command-requires t c = (
  omega arith,
  next_printable c.args.labels.now c.args.variables.now c.args.depth c.args.list.now c.index-list-i.result c.loop-i.i c.loop-i-test.true
      c.index-list-i.is c.loop-i.invariant,
)

pub put_commands-loop-i-preserved : goal.put_commands-loop-i-preserved
put_commands-loop-i-preserved t c =
    next_put c.args.labels.now c.args.variables.now c.args.depth c.args.list.now c.index-list-i.result c.loop-i.i c.loop-i-test.true
    c.index-list-i.is c.loop-i.invariant
    c.in_ok-put_separator.ensures c.in_ok-put_command.ensures

pub put_commands-returns : goal.put_commands-returns
put_commands-returns t c = all_put c.args.labels.now c.args.variables.now c.args.depth c.args.list.now c.loop-i.i c.loop-i-test.false c.loop-i.invariant
