-- The chains to one spot, as they are told.
use Rattle.std.proofs.Common.{◌≡◌, ℕ, ◌<◌, refl, sym, ap, ◌∙◌, subst, List, [], ◌∷◌, ◌++◌}
use Rattle.std.specs.Prelude.{Option, None, Some, true, false, is_some, option_map, All, Contains, ◌↔◌}
use Rattle.std.proofs.lemmas.Bool.{both_ways, eq-eqb, eqb-true}
use Rattle.std.proofs.lemmas.Option.{none-some, slice_get-get_or}
use Rattle.label_lattice.specs.declared.label.Label.{Label}
use Rattle.label_lattice.specs.Lattice.{Flows, IsLattice}
use Rattle.label_lattice.specs.Order.{lattice_of}
use Rattle.mit_syntax.specs.Program.{Syntax, plan_of}
use Rattle.mit_syntax.specs.Valid.{IsValid}
use Rattle.timing_types.specs.Labelling.{Labelling}
use Rattle.label_infer.specs.Given.{written_levels}
use Rattle.label_infer.specs.Least.{IsLeast}
use Rattle.label_infer.proofs.Completed.{lattice_laws}
use Rattle.flow_path.specs.declared.step.Spot.{Spot}
use Rattle.flow_path.specs.declared.step.Spot.TheVariants.{Variable, Command, Level}
use Rattle.flow_path.specs.declared.step.Step.{Step}
use Rattle.flow_path.specs.declared.sides.Sides.{Sides}
use Rattle.flow_path.specs.declared.origins.Origin.{Origin}
use Rattle.flow_path.specs.declared.target.Target.TheVariants.{From}
use Rattle.flow_path.specs.Steps.{written, steps_of}
use Rattle.flow_path.specs.Chains.{Leads, Brings, ComesFrom, CostsNoMore}
use Rattle.flow_path.specs.Search.{Where, Every, Goes, MayEnd, BeginsAt}
use Rattle.flow_path.specs.Distances.{AreSettled, IsPicked, StartsWritten}
use Rattle.flow_path.specs.Origins.{IsOmitted, label_there, joined, IsOrigin, IsEarliestFrom, AreAll}
use Rattle.flow_path.proofs.Base.{each_at}
use Rattle.flow_path.proofs.Proper.{Proper, IsProper}
use Rattle.flow_path.proofs.Rise.{Small}
use Rattle.flow_path.proofs.Found.{proper, small, closed, ll as lattice_is}
use Rattle.flow_path.proofs.Complete.{variable_from, level_from}
use Rattle.flow_path.proofs.Joins.{every_map, every_in, every_all, all_every, joined_least, joined_parts}
use Rattle.flow_path.proofs.Picking.{goes, starts, cheapest, earliest, goal_is}

-- whether the program writes a label there
pub free_is : (s : Syntax) (p : Spot) (o : Option Label) → written s p ≡ option_map (λ (l : Label). l.number) o → is_some o ≡ false → written s p ≡ None
free_is s p None e f = e
free_is s p (Some l) e f = absurd (both_ways true f refl)

pub not_free : (s : Syntax) (p : Spot) (o : Option Label) → written s p ≡ option_map (λ (l : Label). l.number) o → is_some o ≡ true → written s p ≡ None → ⊥
not_free s p None e f w = both_ways false refl f
not_free s p (Some l) e f w = none-some l.number (sym w ∙ e)

pub omitted_written : (s : Syntax) (p : Spot) → IsOmitted s p → written s p ≡ None
omitted_written s (Variable x) h = h
omitted_written s (Command l) h = absurd h
omitted_written s (Level k None) h = refl
omitted_written s (Level k (Some l)) h = absurd h

module _ (s : Syntax) (valid : IsValid s) (spot : Spot) (free : written s spot ≡ None) where
  abbrev Free : Step → Type 0
  Free st = written s st.side ≡ None

  -- the chains from one label
  module _ (label : Label) where
    abbrev x : Where
    x = record { program = s; target = From spot label }

    whole : (t : Step) (ts : List Step) → Goes x (t ∷ ts) → Leads s t.part.spot (t ∷ ts) spot × Every Free (t ∷ ts)
    whole t [] g = ((g.0, refl, g.1), (ap (λ z. written s z) g.1 ∙ free, tt))
    whole t (u ∷ ts) g = let r = whole u ts g.3 in ((g.0, refl, subst (λ z. Leads s z (u ∷ ts) spot) g.2 r.0), (g.1, r.1))

    brings_of : (chain : List Step) (a : ℕ) → Goes x chain → BeginsAt x chain a → Brings s spot a chain
    brings_of [] a g b = absurd g
    brings_of (t ∷ ts) a g b = let r = whole t ts g in record { first = t.part.spot; begins = b.0; leads = r.0; omitted = every_all Free (t ∷ ts) r.1 }

    begins_same : (chain : List Step) (a : ℕ) → BeginsAt x chain a → a ≡ label.number
    begins_same [] a b = absurd b
    begins_same (t ∷ ts) a b = eqb-true a label.number b.1

    goes_on : (p : Spot) (t : Step) (ts : List Step) → Leads s p (t ∷ ts) spot → Every Free (t ∷ ts) → Goes x (t ∷ ts)
    goes_on p t [] l o = (l.0, l.2)
    goes_on p t (u ∷ ts) l o = (l.0, o.0, l.2.1, goes_on t.side u ts l.2 o.1)

    goes_of : (chain : List Step) → Brings s spot label.number chain → Goes x chain × BeginsAt x chain label.number
    goes_of [] b = absurd (none-some label.number (sym free ∙ sym (ap (λ z. written s z) b.leads) ∙ b.begins))
    goes_of (t ∷ ts) b = (
      goes_on b.first t ts b.leads (all_every Free (t ∷ ts) b.omitted),
      (ap (λ z. written s z) b.leads.1 ∙ b.begins, eq-eqb label.number label.number refl),
    )

    -- a chain of which each step is picked is the one from its label
    pub origin_is : (v : Sides) → AreSettled s (From spot label) v → (chain : List Step) → IsPicked s v chain → StartsWritten s chain → (w : Origin)
        → w.label ≡ label → w.chain.items ≡ chain → IsOrigin s spot w
    origin_is v A chain p i w same is =
        let g = goes x valid v A (MayEnd x) A.sides.goal chain p in
        let b = starts x valid v A (MayEnd x) A.sides.goal chain p i in
        let at : b.0 ≡ label.number = begins_same chain b.0 b.1 in
        let number : label.number ≡ w.label.number = ap (λ (z : Label). z.number) (sym same) in
        let low : (other : List Step) → Brings s spot label.number other → CostsNoMore chain other =
        λ other h. let k = goes_of other h in cheapest x valid v A (MayEnd x) A.sides.goal chain p b.0 b.1 other label.number k.0 k.1 in
        let early : IsEarliestFrom s spot label.number chain =
        λ before other after y z e h l.
        let k = goes_of (other ++ (z ∷ after)) h in
        earliest x valid v A (MayEnd x) A.sides.goal chain p b.0 b.1 before other after y z label.number e k.0 k.1 l in
        record {
          brings = subst (λ z. Brings s spot w.label.number z) (sym is)
              (subst (λ z. Brings s spot z chain) (at ∙ number) (brings_of chain b.0 g b.1));
          cheapest = subst (λ z. (other : List Step) → Brings s spot w.label.number other → CostsNoMore z other) (sym is)
              (subst (λ z. (other : List Step) → Brings s spot z other → CostsNoMore chain other) number low);
          earliest = subst (λ z. IsEarliestFrom s spot w.label.number z) (sym is) (subst (λ z. IsEarliestFrom s spot z chain) number early);
        }

    -- where none is found there is none
    pub none_from : (v : Sides) → AreSettled s (From spot label) v → v.goal ≡ None → ComesFrom s spot label.number → ⊥
    none_from v A e c =
        let k = goes_of c.0 c.1 in
        goal_is x valid v A (record { chain = c.0; have = label.number; goes = k.0; begins = k.1 }) e

    -- a chain leads to an omitted label
    last_of : (t : Step) (ts : List Step) → Goes x (t ∷ ts) → (st : Step) × Contains (steps_of s) st × (st.side ≡ spot)
    last_of t [] g = (t, g.0, g.1)
    last_of t (u ∷ ts) g = last_of u ts g.3

    is_omitted : (p : Spot) → written s p ≡ None → Proper s.order.size (written_levels (plan_of s)) p → IsOmitted s p
    is_omitted (Variable y) f h = f
    is_omitted (Command l) f h = none-some l.number (sym f)
    is_omitted (Level k None) f h = slice_get-get_or (written_levels (plan_of s)) k None h.0 ∙ ap Some h.1
    is_omitted (Level k (Some l)) f h = none-some l.number (sym f)

    goes_omitted : (chain : List Step) → Goes x chain → IsOmitted s spot
    goes_omitted [] g = absurd g
    goes_omitted (t ∷ ts) g =
        let r = last_of t ts g in
        is_omitted spot free (subst (λ z. Proper s.order.size (written_levels (plan_of s)) z) r.2
        (each_at (IsProper s.order.size (written_levels (plan_of s))) (steps_of s) r.0 (proper s valid) r.1).1)

    first_small : (chain : List Step) → Brings s spot label.number chain → label.number < s.order.size
    first_small [] b = absurd (none-some label.number (sym free ∙ sym (ap (λ z. written s z) b.leads) ∙ b.begins))
    first_small (t ∷ ts) b =
        each_at (Small s s.order.size (lattice_is s valid) (closed s valid)) (steps_of s) t (small s valid) b.leads.0 label.number
        (ap (λ z. written s z) b.leads.1 ∙ b.begins)

  -- a chain leads to an omitted label, from a label of the program
  pub comes_omitted : (a : ℕ) → ComesFrom s spot a → IsOmitted s spot
  comes_omitted a c = goes_omitted (record { number = a }) c.0 (goes_of (record { number = a }) c.0 c.1).0

  pub comes_small : (a : ℕ) → ComesFrom s spot a → a < s.order.size
  comes_small a c = first_small (record { number = a }) c.0 c.1

  pub none_kept : (ws kept : List Origin) → AreAll s spot ws → All (Contains ws) kept → (IsOmitted s spot → ⊥) → kept ≡ []
  none_kept ws [] A c h = refl
  none_kept ws (w ∷ kept) A c h =
      let i = (all_every (Contains ws) (w ∷ kept) c).0 in
      let o = every_in (IsOrigin s spot) ws w (all_every (IsOrigin s spot) ws A.each) i in
      absurd (h (comes_omitted w.label.number (w.chain.items, o.brings)))

  pub origins_are : (ws kept : List Origin) → AreAll s spot ws → All (Contains ws) kept → All (IsOrigin s spot) kept
  origins_are ws kept A c =
      every_all (IsOrigin s spot) kept (every_map (Contains ws) (IsOrigin s spot)
      (λ w h. every_in (IsOrigin s spot) ws w (all_every (IsOrigin s spot) ws A.each) h)
      kept (all_every (Contains ws) kept c))

  -- the label in the least labelling
  module _ (l : Labelling) (least : IsLeast s l) where
    ll : IsLattice (lattice_of s.order)
    ll = lattice_laws s.order valid.order

    pub came_from : (p : Spot) (b : ℕ) → IsOmitted s p
        → ((a : ℕ) → ComesFrom s p a → Flows (lattice_of s.order) a b) ↔ Flows (lattice_of s.order) (label_there (record { program = s; labels = l }) p) b
    came_from (Variable y) b h = variable_from s valid l least y b
    came_from (Command m) b h = absurd h
    came_from (Level k None) b h = level_from s valid l least k b h
    came_from (Level k (Some m)) b h = absurd h

    pub join_is : (ws : List Origin) → AreAll s spot ws → IsOmitted s spot
        → joined (lattice_of s.order) ws ≡ label_there (record { program = s; labels = l }) spot
    join_is ws A h =
        let lat = lattice_of s.order in
        let J = joined lat ws in
        let L = label_there (record { program = s; labels = l }) spot in
        ll.anti J L
        (joined_least lat ll ws L (every_map (IsOrigin s spot) (λ (w : Origin). Flows (lattice_of s.order) w.label.number L)
        (λ w t. (came_from spot L h).1 (ll.same L) w.label.number (w.chain.items, t.brings)) ws (all_every (IsOrigin s spot) ws A.each)))
        ((came_from spot J h).0 (λ a c.
        let w = A.all a c in
        subst (λ z. Flows lat z J) w.2
        (every_in (λ (v : Origin). Flows lat v.label.number J) ws w.0 (joined_parts lat ll ws J (ll.same J)) w.1)))
