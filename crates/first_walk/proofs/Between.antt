-- First predictions between two with the same miss counts.
use Rattle.std.proofs.Common.{◌≡◌, ℕ, ◌+◌, ◌<◌, ◌≤◌, sym, subst, refl, arith, inl, inr}
use Rattle.std.specs.Prelude.{ℤ, pos, true, false, cond, eqb, max}
use Rattle.std.proofs.lemmas.Bool.{cases_eq}
use Rattle.first_replay.specs.Lower.{first_of}
use Rattle.first_replay.specs.Convex.{IsMix, MixesAll}
use Rattle.first_replay.proofs.Mix.{mix_same, between_is_mix}
use Rattle.first_replay.proofs.Lower.{lower_replays}
use Rattle.first_replay.proofs.Convex.{convex_counts}
use Rattle.run_entries.specs.Entries.{with_number}
use Rattle.run_entries.specs.Told.{at_start}
use Rattle.first_walk.specs.Between.{ToldBetween}
use Rattle.first_walk.proofs.Telling.{told_same, same_told}

-- n lies between two numbers, as parts of them
pub record Mixed (low n high : ℕ) : Type 0 where
  pub i : ℕ
  pub j : ℕ
  pub some : 0 < i + j
  pub mix : IsMix i j low high n

alone : (a b e : ℕ) → a ≡ b → a ≤ e → e ≤ b → IsMix 1 0 a b e
alone a b e h l k = let same : e ≡ a = omega (arith, h, l, k) in omega (arith, same)

mixed : (low n high : ℕ) → low ≤ n → n ≤ high → Mixed low n high
mixed low n high l k =
    elim (cases_eq low high) [
      | inl e ↦ record { i = 1; j = 0; some = omega arith; mix = alone low high n e l k }
      | inr ne ↦
          let less : low < high = omega (arith, ne, l, k) in
          let m = between_is_mix low high n l k less in
          record { i = m.0; j = m.1; some = m.2; mix = m.3 }
    ]

at_least_one : (n : ℕ) → 1 ≤ n → n ≡ max n 1
at_least_one n h = omega (arith, h)

firsts_mix : (i j low n high : ℕ) → 1 ≤ low → low ≤ n → n ≤ high → IsMix i j low high n →
    IsMix i j (first_of (pos low)) (first_of (pos high)) (first_of (pos n))
firsts_mix i j low n high one l k m =
    subst (λ z. IsMix i j z (max high 1) (max n 1)) (at_least_one low one)
    (subst (λ z. IsMix i j low z (max n 1)) (at_least_one high (omega (arith, one, l, k)))
    (subst (λ z. IsMix i j low high z) (at_least_one n (omega (arith, one, l))) m))

mixes : (i j : ℕ) (numbers : ℕ → ℤ) (place low n high : ℕ) → IsMix i j (first_of (pos low)) (first_of (pos high)) (first_of (pos n)) →
    MixesAll i j (with_number numbers place (pos low)) (with_number numbers place (pos high)) (with_number numbers place (pos n))
mixes i j numbers place low n high m a =
    elim (eqb a place) as (λ z. IsMix i j (first_of (cond z (pos low) (numbers a))) (first_of (cond z (pos high) (numbers a)))
    (first_of (cond z (pos n) (numbers a)))) [
      | true ↦ m
      | false ↦ mix_same i j (first_of (numbers a))
    ]

lower : (numbers : ℕ → ℤ) (place low n : ℕ) → 1 ≤ low → low ≤ n → (a : ℕ) →
    first_of (with_number numbers place (pos low) a) ≤ first_of (with_number numbers place (pos n) a)
lower numbers place low n one l a =
    elim (eqb a place) as (λ z. first_of (cond z (pos low) (numbers a)) ≤ first_of (cond z (pos n) (numbers a))) [
      | true ↦ let e = at_least_one low one in let f = at_least_one n (omega (arith, one, l)) in omega (arith, e, f, l)
      | false ↦ omega arith
    ]

pub told_between : ToldBetween
told_between numbers place low n high es one l k e =
    let a : ℕ → ℤ = with_number numbers place (pos low) in
    let b : ℕ → ℤ = with_number numbers place (pos high) in
    let c : ℕ → ℤ = with_number numbers place (pos n) in
    let m = mixed low n high l k in
    let same = (convex_counts m.i m.j a b c es at_start refl m.some (mixes m.i m.j numbers place low n high (firsts_mix m.i m.j low n high one l k m.mix))
    (told_same a b es at_start at_start tt e)).0 in (
      λ such. sym (same_told such a c es at_start at_start tt same),
      (lower_replays a c es at_start refl (lower numbers place low n one l) same).1,
    )
