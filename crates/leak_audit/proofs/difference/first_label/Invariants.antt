use Rattle.std.proofs.Common.{◌≡◌, ◌<◌, ℕ}
use Rattle.label_lattice.specs.Lattice.{Flows}
use Rattle.label_lattice.specs.Order.{lattice_of}
use Rattle.leak_audit.proofs.difference.first_label.Given as goal

abbrev pub invariant-loop-number : goal.invariant-loop-number
invariant-loop-number g l = (k : ℕ) → k < l.number → Flows (lattice_of l.lattice) k l.observer.number
    → g.E.MachineEnv.env.part l.place k l.one ≡ g.E.MachineEnv.env.part l.place k l.other
