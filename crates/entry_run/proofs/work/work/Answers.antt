use Rattle.std.proofs.Common.{◌≡◌, ap, arith}
use Rattle.label_code.specs.Shaped.{closes}
use Rattle.cycle_machine.proofs.Advance.{fits_from, served_from}
use Rattle.entry_run.proofs.Costs.{closes_none}
use Rattle.entry_run.proofs.Stepping.{end_went, end_late}
use Rattle.entry_run.proofs.work.work.Goals as goal

pub close_at_once-requires-clause-place : goal.close_at_once-requires-clause-place
close_at_once-requires-clause-place g c =
    (fits_from g.E.MachineEnv.serves c.args.image.now c.at-i.result c.args.state.now c.requires c.at-i.ensures c.laws.ensures.operands
    c.laws.ensures.opened c.laws.ensures.memory).place

pub close_at_once-requires-clause-served : goal.close_at_once-requires-clause-served
close_at_once-requires-clause-served g c = served_from g.E.MachineEnv.serves c.args.image.now c.at-i.result c.args.state.now c.requires c.at-i.ensures

pub close_at_once-requires-clause-open : goal.close_at_once-requires-clause-open
close_at_once-requires-clause-open g c =
    let fits = fits_from g.E.MachineEnv.serves c.args.image.now c.at-i.result c.args.state.now c.requires c.at-i.ensures c.laws.ensures.operands
    c.laws.ensures.opened c.laws.ensures.memory in
    let one : closes c.at-i.result.work ≡ 1 = ap closes c.in-Mite.is in
    omega (arith, one, fits.opened)

pub obey_other-requires-clause-other : goal.obey_other-requires-clause-other
obey_other-requires-clause-other g c = closes_none c.at-i.result.work c.in_default.not-Mite

pub returns-then-close_at_once : goal.returns-then-close_at_once
returns-then-close_at_once g c =
    end_went g.E.MachineEnv.env g.E.MachineEnv.serves c.args.image.now c.at-i.result c.args.limit c.args.state.now c.close_at_once.new.state
    c.close_at_once.result _ c.requires c.at-i.ensures c.in-Mite.is c.if-close_at_once.true c.close_at_once.ensures

pub returns-else-close_at_once : goal.returns-else-close_at_once
returns-else-close_at_once g c =
    end_late g.E.MachineEnv.env c.args.image.now.instrs c.at-i.result c.args.limit c.args.state.now c.close_at_once.result _ c.at-i.ensures c.in-Mite.is
    c.if-close_at_once.false c.close_at_once.ensures
