-- The laws of an environment.
use Rattle.std.specs.Prelude.{◌≡◌, ℕ}
use Rattle.label_lattice.specs.Lattice.{Lattice, Flows}
use Rattle.env_contract.specs.declared.place.Kind.{Kind}
use Rattle.env_contract.specs.declared.place.Place.{Place}
use Rattle.env_contract.specs.Env.{Env}

-- two states have equal parts for all labels that flow to h
abbrev pub AgreeBelow : {E : Type 0} → Env E → Lattice → ℕ → E → E → Type 0
AgreeBelow v lat h e e' = (q : Place) (l : ℕ) → Flows lat l h → v.part q l e ≡ v.part q l e'

-- What a lawful environment keeps, of the states that serve a lattice: an access stays among them; it changes no part of a
-- label to which its write label does not flow; its cost depends on the parts at or below its read label
-- alone; and states that agree below a label still do after the same access.
pub record IsLawful {E : Type 0} (v : Env E) (lat : Lattice) (serves : E → Type 0) : Type 0 where
  pub keeps : (k : Kind) (a er ew : ℕ) (e : E) → serves e → serves (v.next_of k a er ew e)
  pub write_label : (k : Kind) (a er ew : ℕ) (e : E) → serves e → (q : Place) (l : ℕ) → (Flows lat ew l → ⊥) → v.part q l (v.next_of k a er ew e) ≡ v.part q l e
  pub read_label : (k : Kind) (a er ew : ℕ) (e e' : E) → serves e → serves e' → AgreeBelow v lat er e e' → v.cost_of k a er ew e ≡ v.cost_of k a er ew e'
  pub agreement : (k : Kind) (a er ew h : ℕ) (e e' : E) → serves e → serves e' → AgreeBelow v lat h e e'
      → AgreeBelow v lat h (v.next_of k a er ew e) (v.next_of k a er ew e')
