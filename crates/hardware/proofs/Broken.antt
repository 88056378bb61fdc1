-- Where all labels share the banks, an access changes what is held for labels to which its write label does not flow.
use Rattle.std.proofs.Common.{◌≡◌, ℕ, zero, suc, ◌/◌, ◌%◌, ◌<◌, List, [], ◌∷◌, refl, sym, ap, ◌∙◌, subst, arith, Some}
use Rattle.std.specs.Prelude.{IfSome}
use Rattle.std.specs.Option.{option_map_or}
use Rattle.std.proofs.lemmas.Nat.{mod_below}
use Rattle.label_lattice.specs.Order.{Order}
use Rattle.env_contract.specs.declared.place.Kind.{Kind}
use Rattle.env_contract.specs.declared.place.Kind.TheVariants as kind
use Rattle.env_contract.specs.declared.place.Place.{Place}
use Rattle.env_contract.specs.declared.place.Place.TheVariants.{Page, Code, Data, Second}
use Rattle.env_contract.specs.declared.place.Touch.{Touch}
use Rattle.part_cache.specs.declared.replacement.Replacement.{Replacement}
use Rattle.part_cache.specs.declared.replacement.Replacement.TheVariants.{LeastRecent, FirstCome}
use Rattle.part_cache.specs.History.{Touched, held_by}
use Rattle.part_cache.specs.Ways.{replaced}
use Rattle.part_cache.proofs.Replaced.{row_none}
use Rattle.part_cache.proofs.Stands.{held_here}
use Rattle.part_tlb.specs.declared.bank.Bank.{Bank}
use Rattle.part_tlb.specs.declared.bank.Hardware.{Hardware}
use Rattle.part_tlb.specs.Machine.{bank_at, home, home_by, accessed, touches_in, bank_part, part_at}
use Rattle.hardware.specs.Limits.{IsBank}
use Rattle.hardware.specs.Laws.{SharedBreak}
use Rattle.hardware.specs.Touching.{sets_from_numbers}

-- a touch of a tag in a partition
abbrev mark : ℕ → ℕ → Touched
mark l t = record { label = l; tag = t }

some_tag : (r : Replacement) (ways tag : ℕ) → 0 < ways → replaced r ways tag [] ≡ [] → ⊥
some_tag r zero tag lt e = absurd (omega arith)
some_tag LeastRecent (suc n) tag lt e = absurd (cc)
some_tag FirstCome (suc n) tag lt e = absurd (cc)

-- what was touched once is held
touched_once : (r : Replacement) (sets ways label tag : ℕ) (ts : List Touched) → 0 < ways → ts ≡ record { label = label; tag = tag } ∷ []
    → held_by r sets ways ts label (tag % sets) ≡ [] → ⊥
touched_once r sets ways label tag ts some e none =
    some_tag r ways tag some
    (sym (ap (replaced r ways tag) (row_none r ways)) ∙ sym (held_here r sets ways [] label tag some)
    ∙ ap (λ (t : List Touched). held_by r sets ways t label (tag % sets)) (sym e) ∙ none)

module _ (hw : Hardware) (order : Order) (b : Bank) (is : IsBank b) (p : Place) (at : bank_at hw p ≡ Some b) where
  pub changes : (k : Kind) (ew label : ℕ) → touches_in hw order b p (accessed k 0 ew []) ≡ record { label = label; tag = 0 / b.bytes } ∷ []
      → part_at hw order p label (accessed k 0 ew []) ≡ part_at hw order p label [] → ⊥
  changes k ew label e same =
      let told : (h : List Touch) → part_at hw order p label h ≡ bank_part hw order b p label h =
      λ h. ap (λ o. option_map_or (λ (b : Bank). bank_part hw order b p label h) o []) at in
      let alike : bank_part hw order b p label (accessed k 0 ew []) ≡ bank_part hw order b p label [] =
      sym (told (accessed k 0 ew [])) ∙ same ∙ told [] in
      touched_once b.replacement b.sets b.ways label (0 / b.bytes) (touches_in hw order b p (accessed k 0 ew [])) is.some_way e
      (sets_from_numbers hw order b is p label label (accessed k 0 ew []) [] alike (0 / b.bytes % b.sets) (mod_below (0 / b.bytes) b.sets is.some_set)
      ∙ row_none b.replacement b.ways)

-- the kind of an access that touches a place
abbrev pub kind_at : Place → Kind
kind_at Page = kind.Code
kind_at Code = kind.Code
kind_at Data = kind.Data
kind_at Second = kind.Code

pub touches_once : (hw : Hardware) (order : Order) (b : Bank) (p : Place) (ew : ℕ)
    → touches_in hw order b p (accessed (kind_at p) 0 ew []) ≡ record { label = home hw order ew; tag = 0 / b.bytes } ∷ []
touches_once hw order b Page ew = refl
touches_once hw order b Code ew = refl
touches_once hw order b Data ew = refl
touches_once hw order b Second ew = refl

pub shared_break : SharedBreak
shared_break hw has shared p b at order good other ne =
    record {
      kind = kind_at p;
      address = 0;
      er = other;
      ew = other;
      place = p;
      label = order.bottom;
      history = [];
      apart = λ f. ne (good.anti other order.bottom f (good.lowest other));
      changed = changes hw order b (subst (λ o. IfSome o IsBank) at (has.each p)) p at (kind_at p) other order.bottom
          (touches_once hw order b p other
          ∙ ap (λ s. mark (home_by s order other) (0 / b.bytes) ∷ []) shared);
    }
