use Rattle.std.proofs.Common.{◌≡◌, ◌≤◌, length, arith}
use Rattle.std.proofs.lemmas.Grind.{common_steps}
use Rattle.tim_base.proofs.ShelfLemmas.{read_more}
use Rattle.tim_base.proofs.shelf.system.read_whole.Goals as goal

pub returns-then-count-len-clause-reads : goal.returns-then-count-len-clause-reads
returns-then-count-len-clause-reads g c =
    let more = read_more _ _ _ _ c.read_on.new.buffer c.in_ok-count.count c.loop-bytes.invariant.read c.in_ok-count.ensures.bytes.0
    c.in_ok-count.ensures.bound.0 in
    let within : length more.bytes ≤ 1048577 =
    grind (arith, common_steps, more.long, c.in_ok-count.ensures.bound, c.min-room.ensures, c.len.ensures, c.loop-bytes.invariant.within) in
    (more.bytes, within, more.consumes)

pub returns-then-count-len-clause-long : goal.returns-then-count-len-clause-long
returns-then-count-len-clause-long g c =
    let more = read_more _ _ _ _ c.read_on.new.buffer c.in_ok-count.count c.loop-bytes.invariant.read c.in_ok-count.ensures.bytes.0
    c.in_ok-count.ensures.bound.0 in
    let exact : length more.bytes ≡ 1048577 =
    grind (
      arith,
      common_steps,
      more.long,
      c.in_ok-count.ensures.bound,
      c.min-room.ensures,
      c.len.ensures,
      c.len-in-loop-bytes.ensures,
      c.if-count-len.true,
      c.loop-bytes.invariant.within,
    ) in
    λ _. (more.bytes, more.consumes, exact)

pub returns-then-is_err-clause-reads : goal.returns-then-is_err-clause-reads
returns-then-is_err-clause-reads g c =
    let more = read_more _ _ _ _ c.read_on.new.buffer c.in_ok-count.count c.loop-bytes.invariant.read c.in_ok-count.ensures.bytes.0
    c.in_ok-count.ensures.bound.0 in
    let within : length more.bytes ≤ 1048577 =
    grind (arith, common_steps, more.long, c.len-in-loop-bytes.ensures, c.if-count-len.false, c.loop-bytes.invariant.within) in
    (more.bytes, within, more.consumes)

pub returns-then-is_err-clause-within : goal.returns-then-is_err-clause-within
returns-then-is_err-clause-within g c =
    let more = read_more _ _ _ _ c.read_on.new.buffer c.in_ok-count.count c.loop-bytes.invariant.read c.in_ok-count.ensures.bytes.0
    c.in_ok-count.ensures.bound.0 in
    let within : length more.bytes ≤ 1048576 =
    grind (arith, common_steps, more.long, c.len-in-loop-bytes.ensures, c.if-count-len.false, c.loop-bytes.invariant.within) in
    λ _. (more.bytes, within, more.consumes)
