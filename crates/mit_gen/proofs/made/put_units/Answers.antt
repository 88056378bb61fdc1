use Rattle.std.proofs.Common.{ap, ◌∙◌}
use Rattle.mit_gen.specs.Made.{unit_from}
use Rattle.mit_gen.proofs.Units.{units_then, state_then}
use Rattle.mit_gen.proofs.made.put_units.Goals as goal

pub loop-k-preserved : goal.loop-k-preserved
loop-k-preserved c = record {
  text =
      units_then _ c.args.number c.loop-k.k c.unit.result c.loop-k.invariant.text c.in_ok-put_separator.ensures c.in_ok-put_unit.ensures
      (c.unit.ensures.unit ∙ ap unit_from c.loop-k.invariant.state);
  state = state_then c.args.number c.loop-k.k c.loop-k.draws.state c.unit.new.self.state c.loop-k.invariant.state c.unit.ensures.state;
}
