-- Lists of starts in two environments, and what is told of both.
use Rattle.std.specs.Prelude.{◌≡◌, ◌↔◌, ℕ, ◌<◌, List, [], ◌∷◌, length, map, Bool}
use Rattle.mit_syntax.specs.Todo.{Marked}
use Rattle.mit_syntax.specs.Plan.{Plan}
use Rattle.label_lattice.specs.Lattice.{Lattice}
use Rattle.label_lattice.specs.Order.{Order, lattice_of}
use Rattle.env_contract.specs.Env.{Env}
use Rattle.label_code.specs.declared.code.Instr.{Instr}
use Rattle.label_code.specs.Run.{Start}
use Rattle.label_code.specs.Alike.{HasLabelsBelow}
use Rattle.leak_bound.specs.Records.{Each, Pairwise}
use Rattle.leak_bound.specs.Sound.{Agree, seen_from, Halts, FirstBegins, most_ended}

module _ {E F : Type 0} (related : E → F → Type 0) where
  -- equal values, and related states of the environments
  abbrev pub Pair : Start E → Start F → Type 0
  Pair s r = (s.memory ≡ r.memory) × related s.env r.env

  -- as many starts in both lists, and pairs at each place
  abbrev pub Paired : List (Start E) → List (Start F) → Type 0
  Paired [] [] = Unit {0}
  Paired [] (r ∷ rs) = ⊥
  Paired (s ∷ ss) [] = ⊥
  Paired (s ∷ ss) (r ∷ rs) = Pair s r × Paired ss rs

-- All that reports are made of is the same of both lists: whether their starts agree pairwise for an observer,
-- whether all halt by T, what the observer sees of each run, how many relevant mitigates begin and, at most, end.
pub record TellSame {E F : Type 0} (v : Env E) (serves : E → Type 0) (w : Env F) (serves' : F → Type 0) (lat : Lattice) (g : ℕ → ℕ) (image : List Instr)
    (o t : ℕ) (ss : List (Start E)) (rs : List (Start F)) : Type 0 where
  pub long : length ss ≡ length rs
  pub agree : Pairwise (Agree v lat serves g o) ss ↔ Pairwise (Agree w lat serves' g o) rs
  pub halt : Each (Halts v image t) ss ↔ Each (Halts w image t) rs
  pub seen : map (seen_from v lat g image o t) ss ≡ map (seen_from w lat g image o t) rs
  pub begun : (ls : ℕ → ℕ) (p : Marked) (k : ℕ) → FirstBegins lat g ls o p ss k ↔ FirstBegins lat g ls o p rs k
  pub begun_in_plan : (ls : ℕ → ℕ) (p : Plan) (k : ℕ) → FirstBegins lat g ls o p ss k ↔ FirstBegins lat g ls o p rs k
  pub ended : (rel : ℕ → Bool) → most_ended v image rel t ss ≡ most_ended w image rel t rs

-- it is so of all lists of pairs, for each observer and each T, of code whose labels are those of the lattice
abbrev pub TellsAs : {E F : Type 0} → Env E → (Order → E → Type 0) → (Order → Env F) → (Order → F → Type 0) → (Order → E → F → Type 0) → Type 0
TellsAs {E} {F} v serves w serves' related =
    (order : Order) (g : ℕ → ℕ) (image : List Instr) → HasLabelsBelow order.size image → (o t : ℕ) → o < order.size →
    (ss : List (Start E)) (rs : List (Start F)) → Paired (related order) ss rs →
    TellSame v (serves order) (w order) (serves' order) (lattice_of order) g image o t ss rs
