use Rattle.type_cert.proofs.Held.{commands_step, levels_step, pcs_step}
use Rattle.type_cert.proofs.recheck.tables.Goals as goal

pub loop-line-preserved : goal.loop-line-preserved
loop-line-preserved c =
    let xs = c.args.lines.now in
    let i = c.loop-line.line-index in
    let h = c.loop-line-test.true in
    let v = c.loop-line.invariant in
    record {
      commands = commands_step xs i _ c.loop-line.commands.items c.push.new.self.items h v.commands c.in_ok-push.ensures.items;
      levels = levels_step xs i _ c.loop-line.levels.items c.push_level.new.levels.items h v.levels c.in_ok-push_level.ensures.levels;
      pcs = pcs_step xs i _ c.loop-line.pcs.items c.push_level.new.pcs.items h v.pcs c.in_ok-push_level.ensures.pcs;
    }
