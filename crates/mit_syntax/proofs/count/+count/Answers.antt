use Rattle.std.proofs.Common.{◌≡◌, ◌<◌, ◌≤◌, ◌+◌, ◌^◌, ap, arith}
use Rattle.mit_syntax.specs.Todo.{Done}
use Rattle.mit_syntax.specs.Plan.{count, mitigates, list_plan, command_plan}
use Rattle.mit_syntax.proofs.Counting.{if_plan, while_plan, mitigate_plan, count_front, mitigates_front, all_counted, mitigates_below}
use Rattle.mit_syntax.proofs.count.+count.Goals as goal

pub count_command-count_list-requires : goal.count_command-count_list-requires
count_command-count_list-requires t c =
    let n : count (command_plan c.args.command.now Done) ≡ 1 + count (list_plan c.in-If.then_part.items) + count (list_plan c.in-If.else_part.items) + 0 =
    ap count (if_plan c.args.command.now c.in-If.guard c.in-If.then_part c.in-If.else_part c.in-If.is) in
    let h : count (command_plan c.args.command.now Done) < 2 ^ 32 = c.requires in
    let d1 : count (list_plan c.deref.result.now) ≡ count (list_plan c.in-If.then_part.items) = ap (λ l. count (list_plan l)) c.deref.ensures.value in
    let f1 : mitigates (list_plan c.deref.result.now) ≡ mitigates (list_plan c.in-If.then_part.items) =
    ap (λ l. mitigates (list_plan l)) c.deref.ensures.value in
    (omega (arith, n, d1), omega (arith, n, d1, h))

pub count_command-count_list-requires-in-If : goal.count_command-count_list-requires-in-If
count_command-count_list-requires-in-If t c =
    let n : count (command_plan c.args.command.now Done) ≡ 1 + count (list_plan c.in-If.then_part.items) + count (list_plan c.in-If.else_part.items) + 0 =
    ap count (if_plan c.args.command.now c.in-If.guard c.in-If.then_part c.in-If.else_part c.in-If.is) in
    let h : count (command_plan c.args.command.now Done) < 2 ^ 32 = c.requires in
    let d1 : count (list_plan c.deref-in-If.result.now) ≡ count (list_plan c.in-If.else_part.items) =
    ap (λ l. count (list_plan l)) c.deref-in-If.ensures.value in
    let f1 : mitigates (list_plan c.deref-in-If.result.now) ≡ mitigates (list_plan c.in-If.else_part.items) =
    ap (λ l. mitigates (list_plan l)) c.deref-in-If.ensures.value in
    (omega (arith, n, d1), omega (arith, n, d1, h))

pub count_command-sum-requires-clause-commands : goal.count_command-sum-requires-clause-commands
count_command-sum-requires-clause-commands t c =
    let n : count (command_plan c.args.command.now Done) ≡ 1 + count (list_plan c.in-If.then_part.items) + count (list_plan c.in-If.else_part.items) + 0 =
    ap count (if_plan c.args.command.now c.in-If.guard c.in-If.then_part c.in-If.else_part c.in-If.is) in
    let h : count (command_plan c.args.command.now Done) < 2 ^ 32 = c.requires in
    let d1 : count (list_plan c.deref.result.now) ≡ count (list_plan c.in-If.then_part.items) = ap (λ l. count (list_plan l)) c.deref.ensures.value in
    let f1 : mitigates (list_plan c.deref.result.now) ≡ mitigates (list_plan c.in-If.then_part.items) =
    ap (λ l. mitigates (list_plan l)) c.deref.ensures.value in
    let r1 = c.count_list.ensures.commands in
    let s1 = c.count_list.ensures.mitigates in
    omega (arith, n, d1, h, r1)

pub count_command-sum-requires-in-If-clause-commands : goal.count_command-sum-requires-in-If-clause-commands
count_command-sum-requires-in-If-clause-commands t c =
    let n : count (command_plan c.args.command.now Done) ≡ 1 + count (list_plan c.in-If.then_part.items) + count (list_plan c.in-If.else_part.items) + 0 =
    ap count (if_plan c.args.command.now c.in-If.guard c.in-If.then_part c.in-If.else_part c.in-If.is) in
    let h : count (command_plan c.args.command.now Done) < 2 ^ 32 = c.requires in
    let m : mitigates (command_plan c.args.command.now Done) ≡ mitigates (list_plan c.in-If.then_part.items) + mitigates (list_plan c.in-If.else_part.items) +
    0 = ap mitigates (if_plan c.args.command.now c.in-If.guard c.in-If.then_part c.in-If.else_part c.in-If.is) in
    let b : mitigates (command_plan c.args.command.now Done) ≤ count (command_plan c.args.command.now Done) =
    mitigates_below (command_plan c.args.command.now Done) in
    let d1 : count (list_plan c.deref.result.now) ≡ count (list_plan c.in-If.then_part.items) = ap (λ l. count (list_plan l)) c.deref.ensures.value in
    let f1 : mitigates (list_plan c.deref.result.now) ≡ mitigates (list_plan c.in-If.then_part.items) =
    ap (λ l. mitigates (list_plan l)) c.deref.ensures.value in
    let d2 : count (list_plan c.deref-in-If.result.now) ≡ count (list_plan c.in-If.else_part.items) =
    ap (λ l. count (list_plan l)) c.deref-in-If.ensures.value in
    let f2 : mitigates (list_plan c.deref-in-If.result.now) ≡ mitigates (list_plan c.in-If.else_part.items) =
    ap (λ l. mitigates (list_plan l)) c.deref-in-If.ensures.value in
    let r1 = c.count_list.ensures.commands in
    let s1 = c.count_list.ensures.mitigates in
    let r2 = c.count_list-in-If.ensures.commands in
    let s2 = c.count_list-in-If.ensures.mitigates in
    let r3 = c.sum.ensures.commands in
    let s3 = c.sum.ensures.mitigates in
    omega (arith, n, h, d1, d2, r1, r2, r3)

pub count_command-sum-requires-in-If-clause-mitigates : goal.count_command-sum-requires-in-If-clause-mitigates
count_command-sum-requires-in-If-clause-mitigates t c =
    let n : count (command_plan c.args.command.now Done) ≡ 1 + count (list_plan c.in-If.then_part.items) + count (list_plan c.in-If.else_part.items) + 0 =
    ap count (if_plan c.args.command.now c.in-If.guard c.in-If.then_part c.in-If.else_part c.in-If.is) in
    let h : count (command_plan c.args.command.now Done) < 2 ^ 32 = c.requires in
    let m : mitigates (command_plan c.args.command.now Done) ≡ mitigates (list_plan c.in-If.then_part.items) + mitigates (list_plan c.in-If.else_part.items) +
    0 = ap mitigates (if_plan c.args.command.now c.in-If.guard c.in-If.then_part c.in-If.else_part c.in-If.is) in
    let b : mitigates (command_plan c.args.command.now Done) ≤ count (command_plan c.args.command.now Done) =
    mitigates_below (command_plan c.args.command.now Done) in
    let d1 : count (list_plan c.deref.result.now) ≡ count (list_plan c.in-If.then_part.items) = ap (λ l. count (list_plan l)) c.deref.ensures.value in
    let f1 : mitigates (list_plan c.deref.result.now) ≡ mitigates (list_plan c.in-If.then_part.items) =
    ap (λ l. mitigates (list_plan l)) c.deref.ensures.value in
    let d2 : count (list_plan c.deref-in-If.result.now) ≡ count (list_plan c.in-If.else_part.items) =
    ap (λ l. count (list_plan l)) c.deref-in-If.ensures.value in
    let f2 : mitigates (list_plan c.deref-in-If.result.now) ≡ mitigates (list_plan c.in-If.else_part.items) =
    ap (λ l. mitigates (list_plan l)) c.deref-in-If.ensures.value in
    let r1 = c.count_list.ensures.commands in
    let s1 = c.count_list.ensures.mitigates in
    let r2 = c.count_list-in-If.ensures.commands in
    let s2 = c.count_list-in-If.ensures.mitigates in
    let r3 = c.sum.ensures.commands in
    let s3 = c.sum.ensures.mitigates in
    omega (arith, n, m, b, h, f1, f2, s1, s2, s3)

pub count_command-returns-in-If : goal.count_command-returns-in-If
count_command-returns-in-If t c =
    let n : count (command_plan c.args.command.now Done) ≡ 1 + count (list_plan c.in-If.then_part.items) + count (list_plan c.in-If.else_part.items) + 0 =
    ap count (if_plan c.args.command.now c.in-If.guard c.in-If.then_part c.in-If.else_part c.in-If.is) in
    let h : count (command_plan c.args.command.now Done) < 2 ^ 32 = c.requires in
    let m : mitigates (command_plan c.args.command.now Done) ≡ mitigates (list_plan c.in-If.then_part.items) + mitigates (list_plan c.in-If.else_part.items) +
    0 = ap mitigates (if_plan c.args.command.now c.in-If.guard c.in-If.then_part c.in-If.else_part c.in-If.is) in
    let b : mitigates (command_plan c.args.command.now Done) ≤ count (command_plan c.args.command.now Done) =
    mitigates_below (command_plan c.args.command.now Done) in
    let d1 : count (list_plan c.deref.result.now) ≡ count (list_plan c.in-If.then_part.items) = ap (λ l. count (list_plan l)) c.deref.ensures.value in
    let f1 : mitigates (list_plan c.deref.result.now) ≡ mitigates (list_plan c.in-If.then_part.items) =
    ap (λ l. mitigates (list_plan l)) c.deref.ensures.value in
    let d2 : count (list_plan c.deref-in-If.result.now) ≡ count (list_plan c.in-If.else_part.items) =
    ap (λ l. count (list_plan l)) c.deref-in-If.ensures.value in
    let f2 : mitigates (list_plan c.deref-in-If.result.now) ≡ mitigates (list_plan c.in-If.else_part.items) =
    ap (λ l. mitigates (list_plan l)) c.deref-in-If.ensures.value in
    let r1 = c.count_list.ensures.commands in
    let s1 = c.count_list.ensures.mitigates in
    let r2 = c.count_list-in-If.ensures.commands in
    let s2 = c.count_list-in-If.ensures.mitigates in
    let r3 = c.sum.ensures.commands in
    let s3 = c.sum.ensures.mitigates in
    let r4 = c.sum-in-If.ensures.commands in
    let s4 = c.sum-in-If.ensures.mitigates in
    record { commands = omega (arith, n, d1, d2, r1, r2, r3, r4); mitigates = omega (arith, m, f1, f2, s1, s2, s3, s4) }

pub count_command-count_list-requires-in-While : goal.count_command-count_list-requires-in-While
count_command-count_list-requires-in-While t c =
    let n : count (command_plan c.args.command.now Done) ≡ 1 + count (list_plan c.in-While.body.items) + 0 =
    ap count (while_plan c.args.command.now c.in-While.guard c.in-While.body c.in-While.is) in
    let h : count (command_plan c.args.command.now Done) < 2 ^ 32 = c.requires in
    let d1 : count (list_plan c.deref-in-While.result.now) ≡ count (list_plan c.in-While.body.items) =
    ap (λ l. count (list_plan l)) c.deref-in-While.ensures.value in
    let f1 : mitigates (list_plan c.deref-in-While.result.now) ≡ mitigates (list_plan c.in-While.body.items) =
    ap (λ l. mitigates (list_plan l)) c.deref-in-While.ensures.value in
    (omega (arith, n, d1), omega (arith, n, d1, h))

pub count_command-sum-requires-in-While-clause-commands : goal.count_command-sum-requires-in-While-clause-commands
count_command-sum-requires-in-While-clause-commands t c =
    let n : count (command_plan c.args.command.now Done) ≡ 1 + count (list_plan c.in-While.body.items) + 0 =
    ap count (while_plan c.args.command.now c.in-While.guard c.in-While.body c.in-While.is) in
    let h : count (command_plan c.args.command.now Done) < 2 ^ 32 = c.requires in
    let d1 : count (list_plan c.deref-in-While.result.now) ≡ count (list_plan c.in-While.body.items) =
    ap (λ l. count (list_plan l)) c.deref-in-While.ensures.value in
    let f1 : mitigates (list_plan c.deref-in-While.result.now) ≡ mitigates (list_plan c.in-While.body.items) =
    ap (λ l. mitigates (list_plan l)) c.deref-in-While.ensures.value in
    let r1 = c.count_list-in-While.ensures.commands in
    let s1 = c.count_list-in-While.ensures.mitigates in
    omega (arith, n, d1, h, r1)

pub count_command-returns-in-While : goal.count_command-returns-in-While
count_command-returns-in-While t c =
    let n : count (command_plan c.args.command.now Done) ≡ 1 + count (list_plan c.in-While.body.items) + 0 =
    ap count (while_plan c.args.command.now c.in-While.guard c.in-While.body c.in-While.is) in
    let h : count (command_plan c.args.command.now Done) < 2 ^ 32 = c.requires in
    let m : mitigates (command_plan c.args.command.now Done) ≡ mitigates (list_plan c.in-While.body.items) + 0 =
    ap mitigates (while_plan c.args.command.now c.in-While.guard c.in-While.body c.in-While.is) in
    let b : mitigates (command_plan c.args.command.now Done) ≤ count (command_plan c.args.command.now Done) =
    mitigates_below (command_plan c.args.command.now Done) in
    let d1 : count (list_plan c.deref-in-While.result.now) ≡ count (list_plan c.in-While.body.items) =
    ap (λ l. count (list_plan l)) c.deref-in-While.ensures.value in
    let f1 : mitigates (list_plan c.deref-in-While.result.now) ≡ mitigates (list_plan c.in-While.body.items) =
    ap (λ l. mitigates (list_plan l)) c.deref-in-While.ensures.value in
    let r1 = c.count_list-in-While.ensures.commands in
    let s1 = c.count_list-in-While.ensures.mitigates in
    let r2 = c.sum-in-While.ensures.commands in
    let s2 = c.sum-in-While.ensures.mitigates in
    record { commands = omega (arith, n, d1, r1, r2); mitigates = omega (arith, m, f1, s1, s2) }

pub count_command-count_list-requires-in-Mitigate : goal.count_command-count_list-requires-in-Mitigate
count_command-count_list-requires-in-Mitigate t c =
    let n : count (command_plan c.args.command.now Done) ≡ 1 + count (list_plan c.in-Mitigate.body.items) + 0 =
    ap count (mitigate_plan c.args.command.now c.in-Mitigate.estimate c.in-Mitigate.body c.in-Mitigate.mark c.in-Mitigate.level c.in-Mitigate.is) in
    let h : count (command_plan c.args.command.now Done) < 2 ^ 32 = c.requires in
    let d1 : count (list_plan c.deref-in-Mitigate.result.now) ≡ count (list_plan c.in-Mitigate.body.items) =
    ap (λ l. count (list_plan l)) c.deref-in-Mitigate.ensures.value in
    let f1 : mitigates (list_plan c.deref-in-Mitigate.result.now) ≡ mitigates (list_plan c.in-Mitigate.body.items) =
    ap (λ l. mitigates (list_plan l)) c.deref-in-Mitigate.ensures.value in
    (omega (arith, n, d1), omega (arith, n, d1, h))

pub count_command-sum-requires-in-Mitigate-clause-commands : goal.count_command-sum-requires-in-Mitigate-clause-commands
count_command-sum-requires-in-Mitigate-clause-commands t c =
    let n : count (command_plan c.args.command.now Done) ≡ 1 + count (list_plan c.in-Mitigate.body.items) + 0 =
    ap count (mitigate_plan c.args.command.now c.in-Mitigate.estimate c.in-Mitigate.body c.in-Mitigate.mark c.in-Mitigate.level c.in-Mitigate.is) in
    let h : count (command_plan c.args.command.now Done) < 2 ^ 32 = c.requires in
    let d1 : count (list_plan c.deref-in-Mitigate.result.now) ≡ count (list_plan c.in-Mitigate.body.items) =
    ap (λ l. count (list_plan l)) c.deref-in-Mitigate.ensures.value in
    let f1 : mitigates (list_plan c.deref-in-Mitigate.result.now) ≡ mitigates (list_plan c.in-Mitigate.body.items) =
    ap (λ l. mitigates (list_plan l)) c.deref-in-Mitigate.ensures.value in
    let r1 = c.count_list-in-Mitigate.ensures.commands in
    let s1 = c.count_list-in-Mitigate.ensures.mitigates in
    omega (arith, n, d1, h, r1)

pub count_command-sum-requires-in-Mitigate-clause-mitigates : goal.count_command-sum-requires-in-Mitigate-clause-mitigates
count_command-sum-requires-in-Mitigate-clause-mitigates t c =
    let n : count (command_plan c.args.command.now Done) ≡ 1 + count (list_plan c.in-Mitigate.body.items) + 0 =
    ap count (mitigate_plan c.args.command.now c.in-Mitigate.estimate c.in-Mitigate.body c.in-Mitigate.mark c.in-Mitigate.level c.in-Mitigate.is) in
    let h : count (command_plan c.args.command.now Done) < 2 ^ 32 = c.requires in
    let m : mitigates (command_plan c.args.command.now Done) ≡ 1 + mitigates (list_plan c.in-Mitigate.body.items) + 0 =
    ap mitigates (mitigate_plan c.args.command.now c.in-Mitigate.estimate c.in-Mitigate.body c.in-Mitigate.mark c.in-Mitigate.level c.in-Mitigate.is) in
    let b : mitigates (command_plan c.args.command.now Done) ≤ count (command_plan c.args.command.now Done) =
    mitigates_below (command_plan c.args.command.now Done) in
    let d1 : count (list_plan c.deref-in-Mitigate.result.now) ≡ count (list_plan c.in-Mitigate.body.items) =
    ap (λ l. count (list_plan l)) c.deref-in-Mitigate.ensures.value in
    let f1 : mitigates (list_plan c.deref-in-Mitigate.result.now) ≡ mitigates (list_plan c.in-Mitigate.body.items) =
    ap (λ l. mitigates (list_plan l)) c.deref-in-Mitigate.ensures.value in
    let r1 = c.count_list-in-Mitigate.ensures.commands in
    let s1 = c.count_list-in-Mitigate.ensures.mitigates in
    omega (arith, n, m, b, f1, h, s1)

pub count_command-returns-in-Mitigate : goal.count_command-returns-in-Mitigate
count_command-returns-in-Mitigate t c =
    let n : count (command_plan c.args.command.now Done) ≡ 1 + count (list_plan c.in-Mitigate.body.items) + 0 =
    ap count (mitigate_plan c.args.command.now c.in-Mitigate.estimate c.in-Mitigate.body c.in-Mitigate.mark c.in-Mitigate.level c.in-Mitigate.is) in
    let h : count (command_plan c.args.command.now Done) < 2 ^ 32 = c.requires in
    let m : mitigates (command_plan c.args.command.now Done) ≡ 1 + mitigates (list_plan c.in-Mitigate.body.items) + 0 =
    ap mitigates (mitigate_plan c.args.command.now c.in-Mitigate.estimate c.in-Mitigate.body c.in-Mitigate.mark c.in-Mitigate.level c.in-Mitigate.is) in
    let b : mitigates (command_plan c.args.command.now Done) ≤ count (command_plan c.args.command.now Done) =
    mitigates_below (command_plan c.args.command.now Done) in
    let d1 : count (list_plan c.deref-in-Mitigate.result.now) ≡ count (list_plan c.in-Mitigate.body.items) =
    ap (λ l. count (list_plan l)) c.deref-in-Mitigate.ensures.value in
    let f1 : mitigates (list_plan c.deref-in-Mitigate.result.now) ≡ mitigates (list_plan c.in-Mitigate.body.items) =
    ap (λ l. mitigates (list_plan l)) c.deref-in-Mitigate.ensures.value in
    let r1 = c.count_list-in-Mitigate.ensures.commands in
    let s1 = c.count_list-in-Mitigate.ensures.mitigates in
    let r2 = c.sum-in-Mitigate.ensures.commands in
    let s2 = c.sum-in-Mitigate.ensures.mitigates in
    record { commands = omega (arith, n, d1, r1, r2); mitigates = omega (arith, m, f1, s1, s2) }

pub count_list-count_command-requires : goal.count_list-count_command-requires
count_list-count_command-requires t c =
    let n = count_front c.args.commands.now c.c-item.result c.loop-c.c-index c.loop-c-test.true c.c-item.is in
    let m = mitigates_front c.args.commands.now c.c-item.result c.loop-c.c-index c.loop-c-test.true c.c-item.is in
    let i = c.loop-c.invariant.commands in
    let j = c.loop-c.invariant.mitigates in
    let h : count (list_plan c.args.commands.now) < 2 ^ 32 = c.requires in
    (omega (arith, n, i), omega (arith, n, i, h))

pub count_list-sum-total-requires-clause-commands : goal.count_list-sum-total-requires-clause-commands
count_list-sum-total-requires-clause-commands t c =
    let n = count_front c.args.commands.now c.c-item.result c.loop-c.c-index c.loop-c-test.true c.c-item.is in
    let i = c.loop-c.invariant.commands in
    let h : count (list_plan c.args.commands.now) < 2 ^ 32 = c.requires in
    let r = c.count_command.ensures.commands in
    omega (arith, n, i, h, r)

pub count_list-sum-total-requires-clause-mitigates : goal.count_list-sum-total-requires-clause-mitigates
count_list-sum-total-requires-clause-mitigates t c =
    let m = mitigates_front c.args.commands.now c.c-item.result c.loop-c.c-index c.loop-c-test.true c.c-item.is in
    let j = c.loop-c.invariant.mitigates in
    let h : count (list_plan c.args.commands.now) < 2 ^ 32 = c.requires in
    let b : mitigates (list_plan c.args.commands.now) ≤ count (list_plan c.args.commands.now) = mitigates_below (list_plan c.args.commands.now) in
    let s = c.count_command.ensures.mitigates in
    omega (arith, m, j, h, b, s)

pub count_list-loop-c-preserved : goal.count_list-loop-c-preserved
count_list-loop-c-preserved t c =
    let n = count_front c.args.commands.now c.c-item.result c.loop-c.c-index c.loop-c-test.true c.c-item.is in
    let m = mitigates_front c.args.commands.now c.c-item.result c.loop-c.c-index c.loop-c-test.true c.c-item.is in
    let i = c.loop-c.invariant.commands in
    let j = c.loop-c.invariant.mitigates in
    let r = c.count_command.ensures.commands in
    let s = c.count_command.ensures.mitigates in
    let a = c.sum-total.ensures.commands in
    let b = c.sum-total.ensures.mitigates in
    record { commands = omega (arith, n, i, r, a); mitigates = omega (arith, m, j, s, b) }

pub count_list-returns : goal.count_list-returns
count_list-returns t c = all_counted c.loop-c.total c.loop-c.c-index c.args.commands.now c.loop-c-test.false c.loop-c.invariant
