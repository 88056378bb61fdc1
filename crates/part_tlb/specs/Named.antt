-- The machines that have names.
use Rattle.std.specs.Prelude.{Some, None}
use Rattle.part_cache.specs.declared.replacement.Replacement.TheVariants.{LeastRecent}
use Rattle.part_tlb.specs.declared.bank.Bank.{Bank}
use Rattle.part_tlb.specs.declared.bank.Hardware.{Hardware}
use Rattle.part_tlb.specs.declared.bank.Sharing.TheVariants.{Partitioned}

abbrev pub buffer_bank : Bank
buffer_bank = record { sets = 1; ways = 4; bytes = 1024; hit = 0; miss = 20; replacement = LeastRecent }

abbrev pub code_bank : Bank
code_bank = record { sets = 8; ways = 2; bytes = 32; hit = 0; miss = 8; replacement = LeastRecent }

abbrev pub data_bank : Bank
data_bank = record { sets = 8; ways = 2; bytes = 32; hit = 0; miss = 12; replacement = LeastRecent }

abbrev pub second_bank : Bank
second_bank = record { sets = 32; ways = 4; bytes = 32; hit = 0; miss = 30; replacement = LeastRecent }

abbrev pub flat_machine : Hardware
flat_machine = record { buffer = None; code_cache = None; data_cache = None; second = None; sharing = Partitioned }

abbrev pub part_machine : Hardware
part_machine = record { buffer = Some buffer_bank; code_cache = Some code_bank; data_cache = Some data_bank; second = None; sharing = Partitioned }

abbrev pub part2_machine : Hardware
part2_machine = record { buffer = Some buffer_bank; code_cache = Some code_bank; data_cache = Some data_bank; second = Some second_bank; sharing = Partitioned }
