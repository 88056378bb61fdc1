-- What a touch of an environment of structures keeps.
use Rattle.std.proofs.Common.{◌≡◌, ℕ, [], true, false, refl, sym, ap, ◌∙◌, subst, Option, Some, None}
use Rattle.std.specs.Prelude.{IfSome}
use Rattle.std.specs.Option.{option_map_or}
use Rattle.label_lattice.specs.Order.{Order}
use Rattle.env_contract.specs.declared.place.Place.{Place}
use Rattle.part_cache.specs.declared.replacement.Replacement.TheVariants.{LeastRecent}
use Rattle.part_cache.specs.Rows.{Rows, IsCacheOf, touched, part_of}
use Rattle.part_cache.proofs.Laws.{touched_serves, part_elsewhere, part_agrees}
use Rattle.part_tlb.specs.Machine.{is_place}
use Rattle.part_tlb.specs.Sizes.{sets_at, ways_at}
use Rattle.part_tlb.specs.Structures.{IsMadeFor, part_at}

-- a touch at q, as the structure at p sees it
pub data Moves {E : Type 0} (touched_at : Place → ℕ → ℕ → E → E) (p q : Place) (at : E → Rows) : Type 0 where
  touches : is_place p q ≡ true → ((tag ew : ℕ) (e : E) → at (touched_at q tag ew e) ≡ touched (at e) tag ew) → Moves touched_at p q at
  leaves : is_place p q ≡ false → ((tag ew : ℕ) (e : E) → at (touched_at q tag ew e) ≡ at e) → Moves touched_at p q at

module _ {E : Type 0} (structure : Place → Option (E → Rows)) (touched_at : Place → ℕ → ℕ → E → E)
    (moves : (p q : Place) → IfSome (structure p) (Moves touched_at p q)) where
  pub touch_serves : (order : Order) (q : Place) (tag ew : ℕ) (e : E) → IsMadeFor structure order e → IsMadeFor structure order (touched_at q tag ew e)
  touch_serves order q tag ew e s = record { each = λ p. go p (structure p) (s.each p) (moves p q) }
    where
      moved : (p : Place) (at : E → Rows) → IsCacheOf order (sets_at p) (ways_at p) (at e) → Moves touched_at p q at
          → IsCacheOf order (sets_at p) (ways_at p) (at (touched_at q tag ew e))
      moved p at c (touches same t) = subst (IsCacheOf order (sets_at p) (ways_at p)) (sym (t tag ew e))
          (touched_serves order (sets_at p) (ways_at p) LeastRecent (at e) tag ew c)
      moved p at c (leaves apart t) = subst (IsCacheOf order (sets_at p) (ways_at p)) (sym (t tag ew e)) c

      go : (p : Place) (o : Option (E → Rows)) → IfSome o (λ at. IsCacheOf order (sets_at p) (ways_at p) (at e)) → IfSome o (Moves touched_at p q)
          → IfSome o (λ at. IsCacheOf order (sets_at p) (ways_at p) (at (touched_at q tag ew e)))
      go p None c m = tt
      go p (Some at) c m = moved p at c m

  pub touch_elsewhere : (order : Order) (q : Place) (tag ew : ℕ) (e : E) → IsMadeFor structure order e → (p : Place) (l : ℕ) → (l ≡ ew → ⊥)
      → part_at structure p l (touched_at q tag ew e) ≡ part_at structure p l e
  touch_elsewhere order q tag ew e s p l ne = go (structure p) (s.each p) (moves p q)
    where
      moved : (at : E → Rows) → IsCacheOf order (sets_at p) (ways_at p) (at e) → Moves touched_at p q at
          → part_of l (at (touched_at q tag ew e)) ≡ part_of l (at e)
      moved at c (touches same t) = ap (part_of l) (t tag ew e) ∙ part_elsewhere order (sets_at p) (ways_at p) LeastRecent (at e) tag ew l c ne
      moved at c (leaves apart t) = ap (part_of l) (t tag ew e)

      go : (o : Option (E → Rows)) → IfSome o (λ at. IsCacheOf order (sets_at p) (ways_at p) (at e)) → IfSome o (Moves touched_at p q) →
          option_map_or (λ (at : E → Rows). part_of l (at (touched_at q tag ew e))) o [] ≡ option_map_or (λ (at : E → Rows). part_of l (at e)) o []
      go None c m = refl
      go (Some at) c m = moved at c m

  pub touch_agrees : (order : Order) (q : Place) (tag ew : ℕ) (e f : E) → IsMadeFor structure order e → IsMadeFor structure order f → (p : Place) (l : ℕ)
      → part_at structure p l e ≡ part_at structure p l f → part_at structure p l (touched_at q tag ew e) ≡ part_at structure p l (touched_at q tag ew f)
  touch_agrees order q tag ew e f s t p l h = go (structure p) (s.each p) (t.each p) (moves p q) h
    where
      moved : (at : E → Rows) → IsCacheOf order (sets_at p) (ways_at p) (at e) → IsCacheOf order (sets_at p) (ways_at p) (at f) → Moves touched_at p q at
          → part_of l (at e) ≡ part_of l (at f) → part_of l (at (touched_at q tag ew e)) ≡ part_of l (at (touched_at q tag ew f))
      moved at c d (touches same m) h = ap (part_of l) (m tag ew e) ∙ part_agrees order (sets_at p) (ways_at p) LeastRecent (at e) (at f) tag ew l c d h
          ∙ sym (ap (part_of l) (m tag ew f))
      moved at c d (leaves apart m) h = ap (part_of l) (m tag ew e) ∙ h ∙ sym (ap (part_of l) (m tag ew f))

      go : (o : Option (E → Rows)) → IfSome o (λ at. IsCacheOf order (sets_at p) (ways_at p) (at e))
          → IfSome o (λ at. IsCacheOf order (sets_at p) (ways_at p) (at f)) → IfSome o (Moves touched_at p q) →
          option_map_or (λ (at : E → Rows). part_of l (at e)) o [] ≡ option_map_or (λ (at : E → Rows). part_of l (at f)) o [] →
          option_map_or (λ (at : E → Rows). part_of l (at (touched_at q tag ew e))) o []
          ≡ option_map_or (λ (at : E → Rows). part_of l (at (touched_at q tag ew f))) o []
      go None c d m h = refl
      go (Some at) c d m h = moved at c d m h
