-- Where an access touches nothing if its line hit, a partition learns what another one holds.
use Rattle.std.proofs.Common.{◌≡◌, ℕ, zero, suc, ◌/◌, ◌<◌, [], ◌∷◌, Bool, true, false, refl, sym, ap, ◌∙◌, subst, arith, Some}
use Rattle.std.specs.Prelude.{eqb, cond, ◌&&◌, ◌||◌, IfSome}
use Rattle.std.specs.List.{list_any}
use Rattle.std.specs.Option.{option_map_or}
use Rattle.std.proofs.lemmas.Bool.{and_from, eq-eqb, or_left}
use Rattle.label_lattice.specs.Lattice.{Flows, IsLattice}
use Rattle.label_lattice.specs.Order.{Order, lattice_of}
use Rattle.env_contract.specs.declared.place.Kind.TheVariants as kind
use Rattle.env_contract.specs.declared.place.Place.{Place}
use Rattle.env_contract.specs.declared.place.Place.TheVariants.{Code}
use Rattle.env_contract.specs.declared.place.Touch.{Touch}
use Rattle.part_cache.specs.declared.replacement.Replacement.{Replacement}
use Rattle.part_cache.specs.declared.replacement.Replacement.TheVariants.{LeastRecent, FirstCome}
use Rattle.part_cache.specs.History.{Touched, some_below, is_held, holds_by}
use Rattle.part_cache.specs.Ways.{replaced}
use Rattle.part_cache.proofs.Replaced.{row_none, any_held}
use Rattle.part_cache.proofs.Stands.{some_below_at}
use Rattle.part_tlb.specs.declared.bank.Bank.{Bank}
use Rattle.part_tlb.specs.declared.bank.Hardware.{Hardware}
use Rattle.part_tlb.specs.declared.bank.Sharing.TheVariants.{Partitioned}
use Rattle.part_tlb.specs.Machine.{home, home_by, accessed, touches_in, hits_in, hits_at, part_at}
use Rattle.hardware.specs.Limits.{IsBank, HasBanks}
use Rattle.hardware.specs.Rules.{fills_on_a_miss, BreaksAgreement, FillsOnAMissBreak}
use Rattle.hardware.specs.Touching.{touch_leaves, holds_is}
use Rattle.hardware.proofs.Lawful.{elsewhere}
use Rattle.hardware.proofs.Broken.{changes, touches_once}

-- a touch of a tag in a partition
abbrev mark : ℕ → ℕ → Touched
mark l t = record { label = l; tag = t }

none_below : (n : ℕ) (f : ℕ → Bool) → some_below n (λ l. f l && false) ≡ false
none_below zero f = refl
none_below (suc n) f = go (f n) (none_below n f)
  where
    go : (b : Bool) → some_below n (λ l. f l && false) ≡ false → ((b && false) || some_below n (λ l. f l && false)) ≡ false
    go true e = e
    go false e = e

-- no touches, nothing held
none_held : (r : Replacement) (ways tag : ℕ) → is_held r ways [] tag ≡ false
none_held r ways tag = sym (any_held r ways tag []) ∙ ap (list_any (eqb tag)) (row_none r ways)

left_any : (r : Replacement) (ways tag : ℕ) → 0 < ways → list_any (eqb tag) (replaced r ways tag []) ≡ true
left_any r zero tag lt = absurd (omega arith)
left_any LeastRecent (suc n) tag lt = or_left (eqb tag tag) _ (eq-eqb tag tag refl)
left_any FirstCome (suc n) tag lt = or_left (eqb tag tag) _ (eq-eqb tag tag refl)

module _ (hw : Hardware) (has : HasBanks hw) (own : hw.sharing ≡ Partitioned) (b : Bank) (at : hw.code_cache ≡ Some b) (order : Order)
    (good : IsLattice (lattice_of order)) (high : ℕ) (below : high < order.size) (ne : high ≡ order.bottom → ⊥) where
  abbrev x : Touch
  x = record { place = Code; label = record { number = high }; address = 0 }

  is : IsBank b
  is = subst (λ o. IfSome o IsBank) at (has.each Code)

  stays : (l : ℕ) → home hw order l ≡ l
  stays l = ap (λ s. home_by s order l) own

  -- the touch of the high label changes no part of the lowest one
  low_same : (q : Place) → part_at hw order q order.bottom (x ∷ []) ≡ part_at hw order q order.bottom []
  low_same q = elsewhere hw has order q x order.bottom [] (λ e. ne (sym (e ∙ stays high)))

  only_low : (l : ℕ) → Flows (lattice_of order) l order.bottom → l ≡ order.bottom
  only_low l f = good.anti l order.bottom f (good.lowest l)

  -- nothing hits at first
  misses : hits_at hw order Code [] high 0 ≡ false
  misses = ap (λ o. option_map_or (λ (b : Bank). hits_in hw order b Code [] high 0) o false) at
      ∙ ap (λ held. some_below order.size (λ l. (lattice_of order).flows l (home hw order high) && held)) (none_held b.replacement b.ways (0 / b.bytes))
      ∙ none_below order.size (λ l. (lattice_of order).flows l (home hw order high))

  -- after the touch of the high label its line does
  line_held : holds_by b.replacement b.sets b.ways (touches_in hw order b Code (x ∷ [])) (home hw order high) (0 / b.bytes) ≡ true
  line_held =
      holds_is hw order b is Code (x ∷ []) (home hw order high) (0 / b.bytes)
      ∙ ap (list_any (eqb (0 / b.bytes))) (touch_leaves hw order b is Code x [] refl)
      ∙ ap (λ row. list_any (eqb (0 / b.bytes)) (replaced b.replacement b.ways (0 / b.bytes) row)) (row_none b.replacement b.ways)
      ∙ left_any b.replacement b.ways (0 / b.bytes) is.some_way

  line_hits : hits_at hw order Code (x ∷ []) high 0 ≡ true
  line_hits = ap (λ o. option_map_or (λ (b : Bank). hits_in hw order b Code (x ∷ []) high 0) o false) at
      ∙ some_below_at order.size
      (λ l. (lattice_of order).flows l (home hw order high) && holds_by b.replacement b.sets b.ways (touches_in hw order b Code (x ∷ [])) l (0 / b.bytes))
      (home hw order high) (subst (λ n. n < order.size) (sym (stays high)) below)
      (and_from ((lattice_of order).flows (home hw order high) (home hw order high))
      (holds_by b.replacement b.sets b.ways (touches_in hw order b Code (x ∷ [])) (home hw order high) (0 / b.bytes))
      (good.same (home hw order high)) line_held)

  breaks : BreaksAgreement (fills_on_a_miss hw order) (lattice_of order)
  breaks =
      record {
        kind = kind.Code;
        address = 0;
        er = high;
        ew = order.bottom;
        label = order.bottom;
        one = [];
        other = x ∷ [];
        agree = λ q l f. subst (λ n. part_at hw order q n [] ≡ part_at hw order q n (x ∷ [])) (sym (only_low l f)) (sym (low_same q));
        differ = λ agree.
            changes hw order b is Code at kind.Code order.bottom order.bottom
            (touches_once hw order b Code order.bottom ∙ ap (λ n. mark n (0 / b.bytes) ∷ []) (stays order.bottom))
            (sym (ap (λ c. part_at hw order Code order.bottom (cond c [] (accessed kind.Code 0 order.bottom []))) misses)
            ∙ agree Code order.bottom (good.same order.bottom)
            ∙ ap (λ c. part_at hw order Code order.bottom (cond c (x ∷ []) (accessed kind.Code 0 order.bottom (x ∷ [])))) line_hits
            ∙ low_same Code);
      }

pub fills_break : FillsOnAMissBreak
fills_break hw has own b at order good high below ne = breaks hw has own b at order good high below ne
