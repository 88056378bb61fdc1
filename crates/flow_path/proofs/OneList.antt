-- The chains that are told of a label are one list, by their labels and steps.
use Rattle.std.proofs.Common.{◌≡◌, ℕ, ◌<◌, refl, sym, ap, ◌∙◌, subst, List, [], ◌∷◌, map, arith, ⊎_elim}
use Rattle.std.specs.Prelude.{Bool, true, false, cond, Contains, ◌⊎◌}
use Rattle.label_lattice.specs.Lattice.{Lattice}
use Rattle.label_lattice.specs.Order.{Order, lattice_of, count_not_below}
use Rattle.mit_syntax.specs.Program.{Syntax}
use Rattle.flow_path.specs.declared.step.Spot.{Spot}
use Rattle.flow_path.specs.declared.step.Step.{Step}
use Rattle.flow_path.specs.declared.origins.Origin.{Origin}
use Rattle.flow_path.specs.Chains.{Brings}
use Rattle.flow_path.specs.Costs.{cost_of, IsLess}
use Rattle.flow_path.specs.Ranks.{IsBefore}
use Rattle.flow_path.specs.Origins.{IsOrigin, joined, AreAll, AreTold, needed_after}
use Rattle.flow_path.specs.Collecting.{InOrder}
use Rattle.flow_path.specs.Sameness.{label_and_steps, TellTheSame}
use Rattle.flow_path.proofs.Earliest.{Chosen, chosen_one}
use Rattle.flow_path.proofs.Joins.{every_in, all_every, in_cons, in_more}
use Rattle.flow_path.proofs.Placing.{before_both, from_pairs}

-- which are needed, by labels alone
abbrev joined_by : Lattice → List (ℕ × List Step) → ℕ
joined_by lat [] = lat.bottom
joined_by lat (w ∷ ws) = lat.join w.0 (joined_by lat ws)

abbrev needed_by : Lattice → ℕ → List (ℕ × List Step) → List (ℕ × List Step)
needed_by lat b [] = []
needed_by lat b (w ∷ ws) =
    let rest = needed_by lat (lat.join b w.0) ws in
    cond (lat.flows w.0 (lat.join b (joined_by lat rest))) rest (w ∷ rest)

joined_is : (lat : Lattice) (ws : List Origin) → joined lat ws ≡ joined_by lat (map label_and_steps ws)
joined_is lat [] = refl
joined_is lat (w ∷ ws) = ap (λ (z : ℕ). lat.join w.label.number z) (joined_is lat ws)

map_cond : (b : Bool) (xs ys : List Origin) → map label_and_steps (cond b xs ys) ≡ cond b (map label_and_steps xs) (map label_and_steps ys)
map_cond true xs ys = refl
map_cond false xs ys = refl

needed_is : (lat : Lattice) (b : ℕ) (ws : List Origin) → map label_and_steps (needed_after lat b ws) ≡ needed_by lat b (map label_and_steps ws)
needed_is lat b [] = refl
needed_is lat b (w ∷ ws) =
    let rest = needed_after lat (lat.join b w.label.number) ws in
    map_cond (lat.flows w.label.number (lat.join b (joined lat rest))) rest (w ∷ rest)
    ∙ ap (λ (z : ℕ). cond (lat.flows w.label.number (lat.join b z)) (map label_and_steps rest) (label_and_steps w ∷ map label_and_steps rest))
    (joined_is lat rest)
    ∙ ap (λ (z : List (ℕ × List Step)). cond (lat.flows w.label.number (lat.join b (joined_by lat z))) z (label_and_steps w ∷ z))
    (needed_is lat (lat.join b w.label.number) ws)

-- one of the list has the same label and the same steps
abbrev IsLikeOne : List Origin → Origin → Type 0
IsLikeOne ys w = (v : Origin) × Contains ys v × (label_and_steps v ≡ label_and_steps w)

module _ (o : Order) where
  -- the order, by labels and steps alone
  abbrev not_below : ℕ → ℕ
  not_below a = count_not_below (lattice_of o) a o.size

  abbrev IsBeforeBy : ℕ × List Step → ℕ × List Step → Type 0
  IsBeforeBy v w =
      IsLess (cost_of v.1) (cost_of w.1)
      ⊎ ((cost_of v.1 ≡ cost_of w.1) × ((not_below v.0 < not_below w.0) ⊎ ((not_below v.0 ≡ not_below w.0) × (v.0 < w.0))))

  before_same : (u v w x : Origin) → label_and_steps u ≡ label_and_steps v → label_and_steps w ≡ label_and_steps x → IsBefore o u w → IsBefore o v x
  before_same u v w x e f h =
      subst (λ (z : ℕ × List Step). IsBeforeBy z (label_and_steps x)) e (subst (λ (z : ℕ × List Step). IsBeforeBy (label_and_steps u) z) f h)

  -- two lists in order of which each has what the other has tell the same
  one_order : (xs ys : List Origin) → InOrder o xs → InOrder o ys → ((w : Origin) → Contains xs w → IsLikeOne ys w)
      → ((w : Origin) → Contains ys w → IsLikeOne xs w) → TellTheSame xs ys
  one_order [] [] h k f g = refl
  one_order [] (y ∷ ys) h k f g = let l = (g y (0, omega arith, refl)).1.1 in absurd (omega (arith, l))
  one_order (x ∷ xs) [] h k f g = let l = (f x (0, omega arith, refl)).1.1 in absurd (omega (arith, l))
  one_order (x ∷ xs) (y ∷ ys) h k f g =
      ap (λ (z : ℕ × List Step). z ∷ map label_and_steps xs) same
      ∙ ap (λ (z : List (ℕ × List Step)). label_and_steps y ∷ z) (one_order xs ys h.1 k.1 left right)
    where
      same : label_and_steps x ≡ label_and_steps y
      same =
          let one = f x (0, omega arith, refl) in
          let other = g y (0, omega arith, refl) in
          ⊎_elim
          (λ (e : y ≡ one.0). sym one.2 ∙ ap label_and_steps (sym e))
          (λ (c : Contains ys one.0). ⊎_elim
          (λ (e : x ≡ other.0). ap label_and_steps e ∙ other.2)
          (λ (d : Contains xs other.0).
          absurd (before_both o x y
          (before_same x x other.0 y refl other.2 (every_in (IsBefore o x) xs other.0 h.0 d))
          (before_same y y one.0 x refl one.2 (every_in (IsBefore o y) ys one.0 k.0 c))))
          (in_cons x xs other.0 other.1))
          (in_cons y ys one.0 one.1)

      left : (w : Origin) → Contains xs w → IsLikeOne ys w
      left w c =
          let one = f w (in_more x xs w c) in
          ⊎_elim
          (λ (e : y ≡ one.0).
          let is : label_and_steps w ≡ label_and_steps x = sym one.2 ∙ ap label_and_steps (sym e) ∙ sym same in
          let self = before_same x x w x refl is (every_in (IsBefore o x) xs w h.0 c) in
          absurd (before_both o x x self self))
          (λ (d : Contains ys one.0). (one.0, d, one.2))
          (in_cons y ys one.0 one.1)

      right : (w : Origin) → Contains ys w → IsLikeOne xs w
      right w c =
          let one = g w (in_more y ys w c) in
          ⊎_elim
          (λ (e : x ≡ one.0).
          let is : label_and_steps w ≡ label_and_steps y = sym one.2 ∙ ap label_and_steps (sym e) ∙ same in
          let self = before_same y y w y refl is (every_in (IsBefore o y) ys w k.0 c) in
          absurd (before_both o y y self self))
          (λ (d : Contains xs one.0). (one.0, d, one.2))
          (in_cons x xs one.0 one.1)

module _ (s : Syntax) (p : Spot) where
  chosen : (w : Origin) → IsOrigin s p w → Chosen s (Brings s p w.label.number) w.chain.items
  chosen w o = record { kind = o.brings; cheapest = o.cheapest; earliest = o.earliest }

  -- from one label one chain is told
  origin_one : (v w : Origin) → IsOrigin s p v → IsOrigin s p w → v.label.number ≡ w.label.number → label_and_steps v ≡ label_and_steps w
  origin_one v w h k e =
      let chains : v.chain.items ≡ w.chain.items =
      chosen_one s (Brings s p w.label.number) v.chain.items w.chain.items
      (subst (λ z. Chosen s (Brings s p z) v.chain.items) e (chosen v h)) (chosen w k) in
      ap (λ (z : ℕ). (z, v.chain.items)) e ∙ ap (λ (z : List Step). (w.label.number, z)) chains

  there : (xs ys : List Origin) → AreAll s p xs → AreAll s p ys → (w : Origin) → Contains xs w → IsLikeOne ys w
  there xs ys A B w c =
      let o = every_in (IsOrigin s p) xs w (all_every (IsOrigin s p) xs A.each) c in
      let q = B.all w.label.number (w.chain.items, o.brings) in
      let v = every_in (IsOrigin s p) ys q.0 (all_every (IsOrigin s p) ys B.each) q.1 in
      (q.0, q.1, origin_one q.0 w v o q.2)

  all_one : (xs ys : List Origin) → AreAll s p xs → AreAll s p ys → TellTheSame xs ys
  all_one xs ys A B =
      one_order s.order xs ys (from_pairs s.order xs A.order) (from_pairs s.order ys B.order) (there xs ys A B) (there ys xs B A)

  pub list_one : (xs ys : List Origin) → AreTold s p xs → AreTold s p ys → TellTheSame xs ys
  list_one xs ys a b =
      let lat = lattice_of s.order in
      let bottom = s.order.bottom in
      ap (λ (z : List Origin). map label_and_steps z) a.needed
      ∙ needed_is lat bottom a.all
      ∙ ap (λ (z : List (ℕ × List Step)). needed_by lat bottom z) (all_one a.all b.all a.are b.are)
      ∙ sym (needed_is lat bottom b.all)
      ∙ sym (ap (λ (z : List Origin). map label_and_steps z) b.needed)
