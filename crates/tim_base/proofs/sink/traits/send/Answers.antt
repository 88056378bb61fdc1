use Rattle.std.proofs.Common.{◌<◌, length, drop, arith}
use Rattle.std.proofs.lemmas.List.{take_rest, length-drop}
use Rattle.std.proofs.lemmas.Grind.{common_steps}
use Rattle.tim_base.proofs.SinkLemmas.{Appends-take, written_more, written_broken}
use Rattle.tim_base.proofs.sink.traits.send.Goals as goal

pub loop-done-preserved : goal.loop-done-preserved
loop-done-preserved g c =
    let all = c.args.bytes.now in
    let done = c.loop-done.done in
    let n = c.in-Ok.count in
    let some : 0 < n = grind (arith, common_steps, take_rest, length-drop, c.in-Ok.ensures.some, c.loop-done-test.true) in
    record {
      within = grind (arith, common_steps);
      sent = Appends-take _ _ _ all done n c.loop-done.invariant.sent c.in-Ok.ensures.appended;
      written = written_more _ _ _ all done n c.loop-done.invariant.written c.in-Ok.ensures.log some c.in-Ok.ensures.bound;
      later = omega arith;
    }

pub returns-in-Err-clause-broken : goal.returns-in-Err-clause-broken
returns-in-Err-clause-broken g c =
    let all = c.args.bytes.now in
    let done = c.loop-done.done in
    let some : 0 < length (drop done all) = grind (arith, length-drop, c.loop-done-test.true) in
    written_broken _ _ _ all done c.loop-done.invariant.written c.in-Err.ensures.log some
