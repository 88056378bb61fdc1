-- What is kept while the chains from all labels are collected, and while those that are needed are found.
use Rattle.std.specs.Prelude.{◌≡◌, ℕ, ◌<◌, List, [], ◌∷◌, ◌++◌, Contains}
use Rattle.label_lattice.specs.Lattice.{Lattice, Flows}
use Rattle.label_lattice.specs.Order.{Order}
use Rattle.mit_syntax.specs.Program.{Syntax}
use Rattle.flow_path.specs.declared.step.Spot.{Spot}
use Rattle.flow_path.specs.declared.origins.Origin.{Origin}
use Rattle.flow_path.specs.Chains.{ComesFrom}
use Rattle.flow_path.specs.Search.{Every}
use Rattle.flow_path.specs.Ranks.{IsBefore}
use Rattle.flow_path.specs.Origins.{IsOrigin, joined, needed_after}

-- each is told before those that follow
abbrev pub InOrder : Order → List Origin → Type 0
InOrder o [] = Unit {0}
InOrder o (w ∷ ws) = Every (IsBefore o w) ws × InOrder o ws

-- one from each label below n from which a chain leads there, in their order
pub record AreBelow (s : Syntax) (p : Spot) (n : ℕ) (ws : List Origin) : Type 0 where
  pub each : Every (IsOrigin s p) ws
  pub order : InOrder s.order ws
  pub below : Every (λ (w : Origin). w.label.number < n) ws
  pub all : (a : ℕ) → a < n → ComesFrom s p a → (w : Origin) × Contains ws w × (w.label.number ≡ a)

-- of the origins `all`, those that are left were not looked at yet, and none of those that are kept can be left out
pub record IsSifted (lat : Lattice) (all left kept : List Origin) : Type 0 where
  pub needed : (before after : List Origin) (w : Origin) → kept ≡ before ++ (w ∷ after)
      → Flows lat w.label.number (lat.join (joined lat left) (joined lat (before ++ after))) → ⊥
  pub join : lat.join (joined lat left) (joined lat kept) ≡ joined lat all
  pub lefts : Every (Contains all) left
  pub kepts : Every (Contains all) kept
  pub rest : List Origin
  pub is : all ≡ left ++ rest
  pub same : kept ≡ needed_after lat (joined lat left) rest
