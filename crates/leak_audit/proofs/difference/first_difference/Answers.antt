use Rattle.std.proofs.Common.{arith}
use Rattle.leak_audit.proofs.Differing.{place_at, first_place}
use Rattle.leak_audit.proofs.difference.first_difference.Goals as goal

pub returns-in-Some-first_label : goal.returns-in-Some-first_label
returns-in-Some-first_label g c =
    let found = c.in-Some-first_label.ensures in
    first_place g.E.MachineEnv.env c.args.p.now c.args.observer.number
    (record { memory = c.args.one.now; env = c.args.one_env.now }) (record { memory = c.args.other.now; env = c.args.other_env.now })
    c.lattice-lattice.result.now c.loop-place.place-index _ c.in-Some-first_label.label (cc) (place_at c.loop-place.place-index _ (omega arith))
    found.0 found.1 c.in_default.ensures c.loop-place.invariant found.2
