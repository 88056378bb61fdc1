-- The first partition in which two starts differ.
use Rattle.std.proofs.Common.{◌≡◌, ◌≢◌, ◌<◌, ℕ, zero, suc, [], ◌∷◌, inl, inr, refl, sym, subst, arith}
use Rattle.std.specs.Prelude.{slice_index_or}
use Rattle.label_lattice.specs.declared.label.Label.{Label}
use Rattle.label_lattice.specs.Lattice.{Flows}
use Rattle.label_lattice.specs.Order.{Order, lattice_of}
use Rattle.mit_syntax.specs.Values.{read}
use Rattle.timing_types.specs.Labelled.{LabelledProgram, order_of, labels_of}
use Rattle.env_contract.specs.declared.place.Place.{Place}
use Rattle.env_contract.specs.declared.place.Place.TheVariants.{Page, Code, Data, Second}
use Rattle.env_contract.specs.Env.{Env}
use Rattle.label_code.specs.Run.{Start}
use Rattle.leak_audit.specs.declared.what.What.{What}
use Rattle.leak_audit.specs.declared.what.What.TheVariants.{Variable, Partition}
use Rattle.leak_audit.specs.Agreement.{Differs, place_number, IsBefore, IsFirstDifference}

-- the places stand in their order
pub place_at : (i : ℕ) (d : Place) → i < 4 → place_number (slice_index_or (Page ∷ Code ∷ Data ∷ Second ∷ []) i d) ≡ i
place_at zero d h = refl
place_at (suc zero) d h = refl
place_at (suc (suc zero)) d h = refl
place_at (suc (suc (suc zero))) d h = refl
place_at (suc (suc (suc (suc n)))) d h = absurd (omega (arith, h))

module _ {E : Type 0} (v : Env E) (p : LabelledProgram) (o : ℕ) (s u : Start E) where
  -- all variables are equal, and all partitions that come before
  pub first_place : (lattice : Order) (i : ℕ) (place : Place) (l : Label) → lattice ≡ p.program.order → place_number place ≡ i
      → Flows (lattice_of lattice) l.number o → v.part place l.number s.env ≢ v.part place l.number u.env
      → ((x : ℕ) → Flows (order_of p) (labels_of p x) o → read s.memory x ≡ read u.memory x)
      → ((q : Place) → place_number q < i → (k : ℕ) → Flows (order_of p) k o → v.part q k s.env ≡ v.part q k u.env)
      → ((k : ℕ) → k < l.number → Flows (lattice_of lattice) k o → v.part place k s.env ≡ v.part place k u.env)
      → IsFirstDifference v p o s u (Partition place l)
  first_place lattice i place l is at flows apart equal earlier before =
      record { here = (subst (λ z. Flows (lattice_of z) l.number o) is flows, apart); first = first }
    where
      first : (b : What) → IsBefore b (Partition place l) → Differs v p o s u b → ⊥
      first (Variable x) h d = d.1 (equal x d.0)
      first (Partition q k) (inl h) d = d.1 (earlier q (omega (arith, at, h)) k.number d.0)
      first (Partition q k) (inr h) d =
          d.1 (subst (λ z. v.part z k.number s.env ≡ v.part z k.number u.env) (sym h.0)
          (before k.number h.1 (subst (λ z. Flows (lattice_of z) k.number o) (sym is) d.0)))
