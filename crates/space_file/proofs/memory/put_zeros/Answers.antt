use Rattle.space_file.proofs.Lists.{zero_put, all_pushed}
use Rattle.space_file.proofs.memory.put_zeros.Goals as goal

pub loop-placed-preserved : goal.loop-placed-preserved
loop-placed-preserved c = record {
  put = zero_put c.args.memory.now.items c.loop-placed.memory.items c.push.new.self.items c.in_ok-zero.zero c.loop-placed.placed c.in_ok-push.ensures.items
      c.in_ok-zero.ensures.value c.loop-placed.invariant.put;
  are = λ h. all_pushed c.loop-placed.memory.items c.push.new.self.items c.in_ok-zero.zero c.in_ok-push.ensures.items c.in_ok-zero.ensures.are
      (c.loop-placed.invariant.are h);
}
