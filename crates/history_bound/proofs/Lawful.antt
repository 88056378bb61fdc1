-- What accesses cost at most on the machines that have names.
use Rattle.std.proofs.Common.{◌≤◌, ℕ, arith}
use Rattle.env_contract.specs.declared.place.Kind.{Kind}
use Rattle.env_contract.specs.declared.place.Kind.TheVariants as kind
use Rattle.part_tlb.specs.declared.bank.Hardware.{Hardware}
use Rattle.part_tlb.specs.Machine.{access_cost, hardware_by_history}
use Rattle.part_tlb.specs.Named.{flat_machine, part_machine, part2_machine}
use Rattle.hardware.specs.Limits as limits
use Rattle.history_bound.specs.Over.{CostsAtMost}

most_flat : (k : Kind) → limits.most_cost flat_machine k ≤ 0
most_flat kind.Code = omega arith
most_flat kind.Data = omega arith

most_one : (k : Kind) → limits.most_cost part_machine k ≤ 32
most_one kind.Code = omega arith
most_one kind.Data = omega arith

most_two : (k : Kind) → limits.most_cost part2_machine k ≤ 62
most_two kind.Code = omega arith
most_two kind.Data = omega arith

costs : (hw : Hardware) (most : ℕ) → limits.CostsAtMost hw → ((k : Kind) → limits.most_cost hw k ≤ most) → CostsAtMost (hardware_by_history hw) most
costs hw most each few order k a er ew h =
    let one : access_cost hw order k a er h ≤ limits.most_cost hw k = each order k a er h in
    let other = few k in omega (arith, one, other)

pub none_costs : limits.CostsAtMost flat_machine → CostsAtMost (hardware_by_history flat_machine) 0
none_costs each = costs flat_machine 0 each most_flat

pub one_costs : limits.CostsAtMost part_machine → CostsAtMost (hardware_by_history part_machine) 32
one_costs each = costs part_machine 32 each most_one

pub two_cost : limits.CostsAtMost part2_machine → CostsAtMost (hardware_by_history part2_machine) 62
two_cost each = costs part2_machine 62 each most_two
