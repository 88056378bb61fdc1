-- Environments of structures, each of which stands at a place and has a partition for each label.
use Rattle.std.specs.Prelude.{ℕ, List, [], ◌∷◌, Option, IfSome}
use Rattle.std.specs.Option.{option_map_or}
use Rattle.label_lattice.specs.Order.{Order}
use Rattle.env_contract.specs.declared.place.Place.{Place}
use Rattle.env_contract.specs.declared.place.Touch.{Touch}
use Rattle.part_cache.specs.Rows.{Rows, IsCacheOf, StandsFor, part_of}
use Rattle.part_tlb.specs.Sizes.{sets_at, ways_at, tag_at, touches_at}

-- an environment's structure at each place, where it has one
module _ {E : Type 0} (structure : Place → Option (E → Rows)) where
  -- each structure is made for the lattice, with the sets and ways of its place
  pub record IsMadeFor (order : Order) (e : E) : Type 0 where
    pub each : (p : Place) → IfSome (structure p) (λ at. IsCacheOf order (sets_at p) (ways_at p) (at e))

  -- each structure stands for the touches of its own place
  pub record StandsForAll (e : E) (history : List Touch) : Type 0 where
    pub each : (p : Place) → IfSome (structure p) (λ at. StandsFor (at e) (touches_at p history))

  -- it is made for the lattice and stands for the history
  pub record Keeps (order : Order) (e : E) (history : List Touch) : Type 0 where
    pub made : IsMadeFor order e
    pub stands : StandsForAll e history

  -- what it holds at a place for a label: nothing where it has no structure
  abbrev pub part_at : Place → ℕ → E → List ℕ
  part_at p label e = option_map_or (λ (at : E → Rows). part_of label (at e)) (structure p) []

-- touches before a run, one after the other
abbrev pub warmed : {E : Type 0} → (Place → ℕ → ℕ → E → E) → E → List Touch → E
warmed touched_at e [] = e
warmed touched_at e (t ∷ touches) = warmed touched_at (touched_at t.place (tag_at t.place t.address) t.label.number e) touches
