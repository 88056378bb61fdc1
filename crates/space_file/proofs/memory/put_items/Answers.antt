use Rattle.std.proofs.Common.{subst}
use Rattle.std.specs.Prelude.{None, Some}
use Rattle.toml.specs.View.{view}
use Rattle.space_starts.specs.Space.{lists}
use Rattle.space_file.specs.Ranges.{Adds, values_of}
use Rattle.space_file.proofs.Filling.{one_put}
use Rattle.space_file.proofs.memory.put_items.Goals as goal

pub loop-value-preserved : goal.loop-value-preserved
loop-value-preserved c =
    let put = subst (λ v. Adds (lists c.loop-value.memory.items) (lists c.put_scalar.new.memory.items) (values_of None (Some (view v)))) c.value-item.is
    c.in_ok-put_scalar.ensures.put in
    record {
      put = one_put (lists c.args.memory.now.items) (lists c.loop-value.memory.items) c.args.values.now c.loop-value.value-index c.loop-value.invariant.put
          c.value-item.result (lists c.put_scalar.new.memory.items) c.loop-value-test.true put;
      are = λ h. c.in_ok-put_scalar.ensures.are (c.loop-value.invariant.are h);
    }
