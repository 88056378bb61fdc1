use Rattle.std.proofs.Common.{rules, ◌≡◌, true, false}
use Rattle.run_entries.specs.Views.{numbers_of}
use Rattle.run_entries.proofs.Going.{begins, goes_on, goes_late, goes_to_the_end}
use Rattle.run_entries.proofs.replay.Replay.of.Goals as goal

pub loop-entry-init : goal.loop-entry-init
loop-entry-init c =
    begins (numbers_of c.args.numbers.now) c.args.marked.now c.args.entries.now c.args.limit c.new-run.result c.new-run.ensures.timed c.new-run.ensures.counts
    c.new-run.ensures.shown c.new-run.ensures.clock

pub loop-entry-preserved : goal.loop-entry-preserved
loop-entry-preserved c =
    let b : c.in_ok-went.went ≡ true = search (rules, c.if-not-went.false) in
    goes_on (numbers_of c.args.numbers.now) c.args.marked.now c.args.entries.now c.args.limit c.loop-entry.entry-index c.entry-item.result
    c.loop-entry.run c.step.new.self _
    c.loop-entry-test.true c.entry-item.is b c.in_ok-went.ensures c.loop-entry.invariant

pub returns-then-not-went : goal.returns-then-not-went
returns-then-not-went c =
    let b : c.in_ok-went.went ≡ false = search (rules, c.if-not-went.true) in
    goes_late (numbers_of c.args.numbers.now) c.args.marked.now c.args.entries.now c.args.limit c.loop-entry.entry-index c.entry-item.result
    c.loop-entry.run c.step.new.self _
    c.loop-entry-test.true c.entry-item.is b c.in_ok-went.ensures c.loop-entry.invariant

pub returns : goal.returns
returns c =
    goes_to_the_end (numbers_of c.args.numbers.now) c.args.marked.now c.args.entries.now c.args.limit c.loop-entry.entry-index c.loop-entry.run
    c.loop-entry-test.false
    c.loop-entry.invariant
