-- A machine whose banks are good ones is within the limits.
use Rattle.std.proofs.Common.{◌+◌, ◌≤◌, Option, Some, None, arith}
use Rattle.std.specs.Prelude.{IfSome}
use Rattle.env_contract.specs.declared.place.Kind.TheVariants as kind
use Rattle.env_contract.specs.declared.place.Place.{Place}
use Rattle.env_contract.specs.declared.place.Place.TheVariants.{Page, Code, Data, Second}
use Rattle.part_tlb.specs.declared.bank.Bank.{Bank}
use Rattle.part_tlb.specs.declared.bank.Hardware.{Hardware}
use Rattle.part_tlb.specs.Machine.{bank_at}
use Rattle.hardware.specs.Limits.{IsBank, IsSmall, IsGoodBank, HasGoodBanks, IsCheap, IsWithin, dearest}

one : (o : Option Bank) → IfSome o IsGoodBank → IfSome o IsBank × IfSome o IsSmall
one None g = (tt, tt)
one (Some b) g = (g.bank, g.small)

both : (o : Option Bank) → IfSome o IsBank → IfSome o IsSmall → IfSome o IsGoodBank
both None b s = tt
both (Some b) i s = record { bank = i; small = s }

module _ (hw : Hardware) where
  pub within : HasGoodBanks hw → IsCheap hw → IsWithin hw
  within good cheap =
      record {
        banks = record { each = λ p. (one (bank_at hw p) (at p)).0 };
        small = record { each = λ p. (one (bank_at hw p) (at p)).1 };
        cheap = cheap;
      }
    where
      at : (p : Place) → IfSome (bank_at hw p) IsGoodBank
      at Page = good.buffer
      at Code = good.code
      at Data = good.line
      at Second = good.second

  pub good_banks : IsWithin hw → HasGoodBanks hw
  good_banks w = record { buffer = at Page; code = at Code; line = at Data; second = at Second }
    where
      at : (p : Place) → IfSome (bank_at hw p) IsGoodBank
      at p = both (bank_at hw p) (w.banks.each p) (w.small.each p)

  pub cheap_from : dearest hw.buffer + dearest hw.second + dearest hw.code_cache ≤ 1000 → dearest hw.buffer + dearest hw.second + dearest hw.data_cache ≤ 1000
      → IsCheap hw
  cheap_from c d kind.Code = omega arith
  cheap_from c d kind.Data = omega arith

  pub cheap_code : IsCheap hw → dearest hw.buffer + dearest hw.second + dearest hw.code_cache ≤ 1000
  cheap_code w = let k : dearest hw.buffer + dearest hw.code_cache + dearest hw.second ≤ 1000 = w kind.Code in omega arith

  pub cheap_data : IsCheap hw → dearest hw.buffer + dearest hw.second + dearest hw.data_cache ≤ 1000
  cheap_data w = let k : dearest hw.buffer + dearest hw.data_cache + dearest hw.second ≤ 1000 = w kind.Data in omega arith
