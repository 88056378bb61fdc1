-- A machine that breaks no limit is within them.
use Rattle.std.proofs.Common.{◌≡◌, ℕ, ◌≤◌, Bool, true, false, Option, Some, None, refl, arith}
use Rattle.std.specs.Prelude.{IfSome, ltb, leb, ◌&&◌, if◌then◌else◌}
use Rattle.std.specs.Option.{option_or}
use Rattle.std.proofs.lemmas.Bool.{and_parts, ltb-true, leb-true}
use Rattle.std.proofs.Math.Nat.{le-max_left, le-max_right}
use Rattle.env_contract.specs.declared.place.Place.{Place}
use Rattle.env_contract.specs.declared.place.Place.TheVariants as place
use Rattle.part_tlb.specs.declared.bank.Bank.{Bank}
use Rattle.part_tlb.specs.declared.bank.Hardware.{Hardware}
use Rattle.hardware.specs.Limits.{IsGoodBank, IsCheap, IsWithin, dearest}
use Rattle.hardware.proofs.Within.{within, cheap_from}
use Rattle.machine_file.specs.declared.fault.MachineFault.{MachineFault}
use Rattle.machine_file.specs.Files.{bank_fault, most_of_all, cost_fault, limit_fault}

-- what two faults together are is none where neither is one
neither : (a b : Option MachineFault) → option_or a b ≡ None → (a ≡ None) × (b ≡ None)
neither None b e = (refl, e)
neither (Some f) b e = absurd cc

-- a fault that three tests give is none where they hold
three : (s w y : Bool) (f g h : MachineFault) → (if s then (if w then (if y then None else Some h) else Some g) else Some f) ≡ None
    → (s ≡ true) × (w ≡ true) × (y ≡ true)
three true true true f g h e = (refl, refl, refl)
three true true false f g h e = absurd cc
three true false y f g h e = absurd cc
three false w y f g h e = absurd cc

good : (p : Place) (o : Option Bank) → bank_fault p o ≡ None → IfSome o IsGoodBank
good p None e = tt
good p (Some b) e =
    let t = three (ltb 0 b.sets && leb b.sets 4096) (ltb 0 b.ways && leb b.ways 8) (ltb 0 b.bytes) _ _ _ e in
    let s = and_parts (ltb 0 b.sets) (leb b.sets 4096) t.0 in
    let w = and_parts (ltb 0 b.ways) (leb b.ways 8) t.1 in
    record {
      bank = record { some_set = ltb-true 0 b.sets s.0; some_way = ltb-true 0 b.ways w.0; some_byte = ltb-true 0 b.bytes t.2 };
      small = record { few_sets = leb-true b.sets 4096 s.1; few_ways = leb-true b.ways 8 w.1 };
    }

below : (most : ℕ) (b : Bool) (f : MachineFault) → leb most 1000 ≡ b → (if b then None else Some f) ≡ None → most ≤ 1000
below most true f is e = leb-true most 1000 is
below most false f is e = absurd cc

cheap : (hw : Hardware) → cost_fault hw ≡ None → IsCheap hw
cheap hw e =
    let most = below (most_of_all hw) (leb (most_of_all hw) 1000) _ refl e in
    let code = le-max_left (dearest hw.code_cache) (dearest hw.data_cache) in
    let line = le-max_right (dearest hw.code_cache) (dearest hw.data_cache) in
    cheap_from hw (omega (arith, most, code)) (omega (arith, most, line))

pub none_within : (hw : Hardware) → limit_fault hw ≡ None → IsWithin hw
none_within hw e =
    let a = neither _ _ e in
    let b = neither _ _ a.1 in
    let c = neither _ _ b.1 in
    let d = neither _ _ c.1 in
    within hw (record {
      buffer = good place.Page hw.buffer a.0;
      code = good place.Code hw.code_cache b.0;
      line = good place.Data hw.data_cache c.0;
      second = good place.Second hw.second d.0;
    }) (cheap hw d.1)
