use Rattle.std.proofs.Common.{rules, ◌≤◌, refl, arith}
use Rattle.std.specs.Prelude.{vec_capacity}
use Rattle.label_code.specs.Machine.{start}
use Rattle.run_entries.specs.Entries.{what_of}
use Rattle.entry_run.proofs.Running.{stands_first, gone_first, gone_more, gone_halted, gone_late}
use Rattle.entry_run.proofs.run.entries.Goals as goal

pub run-init : goal.run-init
run-init g c =
    let a : c.args.image.now.operands ≤ vec_capacity c.in_ok-operands.operands = search (rules, c.in_ok-operands.ensures.exact) in
    let b : c.args.image.now.nesting ≤ vec_capacity c.in_ok-opened.opened = search (rules, c.in_ok-opened.ensures.exact) in
    gone_first g.E.MachineEnv.env g.E.MachineEnv.serves c.args.image.now c.args.limit c.args.memory.items c.args.env c.new-kept.result _
    (stands_first g.E.MachineEnv.serves c.args.image.now _ c.laws.ensures.shaped refl c.in_ok-operands.ensures.items c.in_ok-opened.ensures.items
    a b c.requires.values c.laws.ensures.labels c.requires.serves) refl c.in_ok-operands.ensures.items refl refl
    c.new-kept.ensures.closed c.new-kept.ensures.none c.new-kept.ensures.counts refl c.new-kept.ensures.waiting

pub deed_at-deed-requires : goal.deed_at-deed-requires
deed_at-deed-requires g c = c.run.invariant.stands

pub work-requires : goal.work-requires
work-requires g c = c.run.invariant.stands

pub overflow_sub-state : goal.overflow_sub-state
overflow_sub-state g c = omega (arith, (c.in-Went.ensures).1.later)

pub put-requires-clause-room : goal.put-requires-clause-room
put-requires-clause-room g c =
    omega (arith, c.run.invariant.waiting, (c.in-Went.ensures).1.later, (c.in-Went.ensures).1.within, c.ranges.limit.fits)

pub put-requires-clause-closed : goal.put-requires-clause-closed
put-requires-clause-closed g c = c.run.invariant.closed

pub run-smaller : goal.run-smaller
run-smaller g c = omega (arith, (c.in-Went.ensures).1.later, (c.in-Went.ensures).1.within)

pub run-preserved : goal.run-preserved
run-preserved g c =
    gone_more g.E.MachineEnv.env g.E.MachineEnv.serves c.args.image.now c.args.limit (start c.args.memory.items c.args.env) c.run.kept c.put.new.self
    c.run.state c.work.new.state _ (what_of c.deed_at-deed.result) c.run.invariant c.in-Went.ensures refl c.deed_at-deed.ensures
    c.in_ok-put-in-Went.ensures.step c.in_ok-put-in-Went.ensures.counts c.in_ok-put-in-Went.ensures.closed c.in_ok-put-in-Went.ensures.waiting

pub overflow_sub-state-in-Halted : goal.overflow_sub-state-in-Halted
overflow_sub-state-in-Halted g c = omega (arith, (c.in-Halted.ensures).1.later)

pub put-requires-in-Halted-clause-room : goal.put-requires-in-Halted-clause-room
put-requires-in-Halted-clause-room g c =
    omega (arith, c.run.invariant.waiting, (c.in-Halted.ensures).1.later, (c.in-Halted.ensures).1.within, c.ranges.limit.fits)

pub put-requires-in-Halted-clause-closed : goal.put-requires-in-Halted-clause-closed
put-requires-in-Halted-clause-closed g c = c.run.invariant.closed

pub returns-in-Halted-clause-tells : goal.returns-in-Halted-clause-tells
returns-in-Halted-clause-tells g c =
    gone_halted g.E.MachineEnv.env g.E.MachineEnv.serves c.args.image.now c.args.limit (start c.args.memory.items c.args.env) c.run.kept
    c.put-in-Halted.new.self c.run.state c.work.new.state _ (what_of c.deed_at-deed.result) c.in_ok-entries-in-Halted.entries.items
    c.run.invariant c.in-Halted.ensures refl c.deed_at-deed.ensures c.in_ok-put-in-Halted.ensures.step c.in_ok-put-in-Halted.ensures.counts
    c.in_ok-entries-in-Halted.ensures.same c.in_ok-entries-in-Halted.ensures.counts

pub returns-in-Late-clause-fault : goal.returns-in-Late-clause-fault
returns-in-Late-clause-fault g c e =
    gone_late g.E.MachineEnv.env g.E.MachineEnv.serves c.args.image.now c.args.limit (start c.args.memory.items c.args.env) c.run.kept
    c.run.state c.work.new.state c.run.invariant c.in-Late.ensures
