-- The machines that have names are within the limits.
use Rattle.std.proofs.Common.{◌<◌, ◌≤◌, arith}
use Rattle.part_tlb.specs.declared.bank.Bank.{Bank}
use Rattle.part_tlb.specs.Named.{buffer_bank, code_bank, data_bank, second_bank, flat_machine, part_machine, part2_machine}
use Rattle.hardware.specs.Limits.{IsGoodBank, IsWithin}
use Rattle.hardware.proofs.Within.{within, cheap_from}

good : (b : Bank) → 0 < b.sets → 0 < b.ways → 0 < b.bytes → b.sets ≤ 4096 → b.ways ≤ 8 → IsGoodBank b
good b s w y few narrow = record { bank = record { some_set = s; some_way = w; some_byte = y }; small = record { few_sets = few; few_ways = narrow } }

is_buffer : IsGoodBank buffer_bank
is_buffer = good buffer_bank (omega arith) (omega arith) (omega arith) (omega arith) (omega arith)

is_code : IsGoodBank code_bank
is_code = good code_bank (omega arith) (omega arith) (omega arith) (omega arith) (omega arith)

is_data : IsGoodBank data_bank
is_data = good data_bank (omega arith) (omega arith) (omega arith) (omega arith) (omega arith)

is_second : IsGoodBank second_bank
is_second = good second_bank (omega arith) (omega arith) (omega arith) (omega arith) (omega arith)

pub flat_within : IsWithin flat_machine
flat_within = within flat_machine (record { buffer = tt; code = tt; line = tt; second = tt }) (cheap_from flat_machine (omega arith) (omega arith))

pub part_within : IsWithin part_machine
part_within = within part_machine (record { buffer = is_buffer; code = is_code; line = is_data; second = tt })
    (cheap_from part_machine (omega arith) (omega arith))

pub part2_within : IsWithin part2_machine
part2_within = within part2_machine (record { buffer = is_buffer; code = is_code; line = is_data; second = is_second })
    (cheap_from part2_machine (omega arith) (omega arith))
