use Rattle.std.proofs.Common.{◌≡◌, drop}
use Rattle.part_tlb.specs.Structures.{IsMadeFor, warmed}
use Rattle.part_tlb.specs.Envs.{part2_structure, part2_touched, empty_part2}
use Rattle.part_tlb.proofs.part2.Part2Env.warm.Given as goal

abbrev pub invariant-loop-touch : goal.invariant-loop-touch
invariant-loop-touch l = record {
  serves : IsMadeFor part2_structure l.fn.lattice.value l.env;
  rest : warmed part2_touched l.env (drop l.touch-index l.touches) ≡ warmed part2_touched (empty_part2 l.fn.lattice.value) l.touches;
}
