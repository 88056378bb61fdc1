use Rattle.std.proofs.Common.{◌≡◌, drop}
use Rattle.part_tlb.specs.Structures.{IsMadeFor, warmed}
use Rattle.part_tlb.specs.Envs.{part_structure, part_touched, empty_part}
use Rattle.part_tlb.proofs.part.PartEnv.warm.Given as goal

abbrev pub invariant-loop-touch : goal.invariant-loop-touch
invariant-loop-touch l = record {
  serves : IsMadeFor part_structure l.fn.lattice.value l.env;
  rest : warmed part_touched l.env (drop l.touch-index l.touches) ≡ warmed part_touched (empty_part l.fn.lattice.value) l.touches;
}
