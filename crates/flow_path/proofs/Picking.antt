-- A chain of which each step is the first of the cheapest to where it leads.
use Rattle.std.proofs.Common.{◌≡◌, ℕ, ◌+◌, ◌<◌, refl, sym, ap, ◌∙◌, subst, List, [], ◌∷◌, ◌++◌, length, arith, length-append}
use Rattle.std.specs.Prelude.{Bool, true, false, cond, Option, None, Some, Contains, slice_index_or}
use Rattle.std.proofs.lemmas.Option.{none-some, same_Some}
use Rattle.mit_syntax.specs.Program.{Syntax, plan_of}
use Rattle.mit_syntax.specs.Valid.{IsValid}
use Rattle.label_infer.specs.Given.{written_levels}
use Rattle.flow_path.specs.declared.step.How.{How}
use Rattle.flow_path.specs.declared.step.Spot.{Spot}
use Rattle.flow_path.specs.declared.step.Spot.TheVariants.{Variable, Command, Level}
use Rattle.flow_path.specs.declared.step.Step.{Step}
use Rattle.flow_path.specs.declared.cost.Cost.{Cost}
use Rattle.flow_path.specs.declared.target.Target.{Target}
use Rattle.flow_path.specs.declared.sides.Found.{Found}
use Rattle.flow_path.specs.declared.sides.Sides.{Sides}
use Rattle.flow_path.specs.Steps.{written, conditions_of, steps_of}
use Rattle.flow_path.specs.Costs.{nothing_yet, add, cost_of, plus, IsLe}
use Rattle.flow_path.specs.Targets.{is_high}
use Rattle.flow_path.specs.Told.{StandsFirst}
use Rattle.flow_path.specs.Search.{Where, GoesTo, MayEnd, BeginsAt, IsKnown}
use Rattle.flow_path.specs.Distances.{IsFirst, cost_by, cost_to, and_then, PartCosts, SideCosts, GoalCosts, HaveNone, IsFound, IsGoalFound}
use Rattle.flow_path.specs.Distances.{AreSettled, IsPicked, StartsWritten}
use Rattle.flow_path.proofs.Base.{each_at}
use Rattle.flow_path.proofs.Proper.{Own, IsOwn}
use Rattle.flow_path.proofs.Found.{own}
use Rattle.flow_path.proofs.Writings.{omitted_within}
use Rattle.flow_path.proofs.Costing.{le_is, le_trans, plus_le, plus_back, not_less, cost_is, faint_append}
use Rattle.flow_path.proofs.Lists.{append_one}
use Rattle.flow_path.proofs.Firsts.{goal_none, goal_has}
use Rattle.flow_path.proofs.Settling.{first_in, step_from, found_first, found_some}

plus_cons : (c : Cost) (x : Step) (xs : List Step) → plus (add c x.part.how) (cost_of xs) ≡ plus c (cost_of (x ∷ xs))
plus_cons c x xs = cost_is (plus (add c x.part.how) (cost_of xs)) (plus c (cost_of (x ∷ xs))) (omega arith) (omega arith)

plus_one : (c : Cost) (x : Step) → add c x.part.how ≡ plus c (cost_of (x ∷ []))
plus_one c x = cost_is (add c x.part.how) (plus c (cost_of (x ∷ []))) (omega arith) (omega arith)

plus_nothing : (c : Cost) → plus nothing_yet c ≡ c
plus_nothing c = cost_is (plus nothing_yet c) c (omega arith) (omega arith)

cost_append : (xs ys : List Step) → cost_of (xs ++ ys) ≡ plus (cost_of xs) (cost_of ys)
cost_append xs ys = cost_is (cost_of (xs ++ ys)) (plus (cost_of xs) (cost_of ys)) (faint_append xs ys) (length-append xs ys)

-- what the end of two chains that end alike leaves
cost_back : (xs zs after : List Step) (x z : Step) → IsLe (cost_of (xs ++ (x ∷ after))) (cost_of (zs ++ (z ∷ after)))
    → IsLe (cost_of (xs ++ x ∷ [])) (cost_of (zs ++ z ∷ []))
cost_back xs zs after x z h =
    plus_back (cost_of (xs ++ x ∷ [])) (cost_of (zs ++ z ∷ [])) (cost_of after)
    (subst (λ w. IsLe w (plus (cost_of (zs ++ z ∷ [])) (cost_of after))) (cost_append (xs ++ x ∷ []) after)
    (subst (λ w. IsLe (cost_of ((xs ++ x ∷ []) ++ after)) w) (cost_append (zs ++ z ∷ []) after)
    (subst (λ w. IsLe (cost_of w) (cost_of ((zs ++ z ∷ []) ++ after))) (sym (append_one xs x after))
    (subst (λ w. IsLe (cost_of (xs ++ (x ∷ after))) (cost_of w)) (sym (append_one zs z after)) h))))

-- where a chain begins
abbrev first_spot : List Step → Step → Spot
first_spot [] y = y.part.spot
first_spot (x ∷ xs) y = x.part.spot

-- an omitted label of a part is a variable's
omitted_own : (s : Syntax) (p : Spot) → written s p ≡ None → Own s.order.size (written_levels (plan_of s)) p → (y : ℕ) × (p ≡ Variable y)
omitted_own s (Variable y) w o = (y, refl)
omitted_own s (Command l) w o = absurd (none-some l.number (sym w))
omitted_own s (Level k l) w o = absurd o

-- what the label of an omitted variable costs
module _ (s : Syntax) (t : Target) (v : Sides) (A : AreSettled s t v) where
  spot_costs : (p : Spot) (n : ℕ) (f : Found) → p ≡ Variable n → written s (Variable n) ≡ None → slice_index_or v.variables.items n None ≡ Some f
      → cost_to s t A.costs p ≡ Some f.cost
  spot_costs p n f e w h = ap (λ z. cost_to s t A.costs z) e ∙ ap (λ z. cost_by s t A.costs (Variable n) z) w ∙ A.goes n f w h

  pub less_steps : (st : Step) (c : Cost) (n : ℕ) (f : Found) → st.part.spot ≡ Variable n → written s (Variable n) ≡ None
      → slice_index_or v.variables.items n None ≡ Some f → PartCosts s t A.costs st.part c → f.cost.steps < c.steps
  less_steps st c n f e w h k =
      let q = step_from (cost_to s t A.costs st.part.spot) st.part.how c k in
      let same : q.0 ≡ f.cost = same_Some q.0 f.cost (sym q.1 ∙ spot_costs st.part.spot n f e w h) in
      let steps : c.steps ≡ 1 + q.0.steps = ap (λ (z : Cost). z.steps) q.2 in
      let less : q.0.steps ≡ f.cost.steps = ap (λ (z : Cost). z.steps) same in
      omega (arith, steps, less)

  pub found_costs : (n : ℕ) (f : Found) → slice_index_or v.variables.items n None ≡ Some f → PartCosts s t A.costs f.step.part f.cost
  found_costs n f h = (found_first s t A.costs v A.sides n f h).has.1

  pub goal_costs : (f : Found) → v.goal ≡ Some f → PartCosts s t A.costs f.step.part f.cost
  goal_costs f e = (goal_has s t A.costs (conditions_of s) f (subst (λ z. IsGoalFound s t A.costs (conditions_of s) z) e A.sides.goal)).1

  pub begins_written : (st : Step) (c : Cost) → PartCosts s t A.costs st.part c
      → ((n : ℕ) → st.part.spot ≡ Variable n → written s (Variable n) ≡ None → slice_index_or v.variables.items n None ≡ None)
      → (a : ℕ) × (written s st.part.spot ≡ Some a)
  begins_written st c k h =
      let q = step_from (cost_to s t A.costs st.part.spot) st.part.how c k in
      go st.part.spot refl (written s st.part.spot) refl q.0 q.1
    where
      go : (p : Spot) → st.part.spot ≡ p → (o : Option ℕ) → written s st.part.spot ≡ o → (d : Cost)
          → cost_by s t A.costs st.part.spot (written s st.part.spot) ≡ Some d → (a : ℕ) × (written s st.part.spot ≡ Some a)
      go p e (Some a) w d i = (a, w)
      go (Variable n) e None w d i =
          let wn : written s (Variable n) ≡ None = ap (λ z. written s z) (sym e) ∙ w in
          let is : slice_index_or A.costs n None ≡ Some d =
          sym (ap (λ z. cost_by s t A.costs z None) e) ∙ (sym (ap (λ z. cost_by s t A.costs st.part.spot z) w) ∙ i) in
          let b = A.back n d wn is in
          absurd (none-some b.0 (sym (h n e wn) ∙ b.1))
      go (Command l) e None w d i = absurd
          (none-some d (sym (ap (λ z. cost_by s t A.costs z None) e) ∙ (sym (ap (λ z. cost_by s t A.costs st.part.spot z) w) ∙ i)))
      go (Level j l) e None w d i = absurd
          (none-some d (sym (ap (λ z. cost_by s t A.costs z None) e) ∙ (sym (ap (λ z. cost_by s t A.costs st.part.spot z) w) ∙ i)))

-- one step more in front
pub picked_more : (s : Syntax) (v : Sides) (chain rest : List Step) (now f : Found) (n : ℕ) → chain ≡ now.step ∷ rest → now.step.part.spot ≡ Variable n
    → written s (Variable n) ≡ None → slice_index_or v.variables.items n None ≡ Some f → IsPicked s v chain → IsPicked s v (f.step ∷ chain)
picked_more s v chain rest now f n is spot none at p =
    subst (λ z. IsPicked s v (f.step ∷ z)) (sym is) (n, f, spot, none, at, refl, subst (λ z. IsPicked s v z) is p)

-- chains whose last step is of a kind K
module _ (x : Where) (valid : IsValid x.program) (v : Sides) (A : AreSettled x.program x.target v) (K : Step → Type 0) where
  -- an omitted variable is one of the program
  within : (y : ℕ) → written x.program (Variable y) ≡ None → y < length A.costs
  within y w = let h = omitted_within x.program y w in let f = A.fit in omega (arith, h, f)

  -- what the label of an omitted variable costs
  to_variable : (p : Spot) (y : ℕ) (c : Cost) → p ≡ Variable y → written x.program (Variable y) ≡ None → slice_index_or A.costs y None ≡ Some c
      → cost_to x.program x.target A.costs p ≡ Some c
  to_variable p y c e w h = ap (λ z. cost_to x.program x.target A.costs z) e ∙ ap (λ z. cost_by x.program x.target A.costs (Variable y) z) w ∙ h

  -- a step costs what its part's label costs, and one more
  costs_is : (st : Step) (c : Cost) → cost_to x.program x.target A.costs st.part.spot ≡ Some c
      → PartCosts x.program x.target A.costs st.part (add c st.part.how)
  costs_is st c e = ap (λ z. and_then z st.part.how) e

  costs_same : (st : Step) (c d : Cost) → PartCosts x.program x.target A.costs st.part c → PartCosts x.program x.target A.costs st.part d → c ≡ d
  costs_same st c d e f = same_Some c d (sym e ∙ f)

  abbrev Goes : List Step → Type 0
  Goes = GoesTo x.program K

  there : (t : Step) (ss : List Step) → Goes (t ∷ ss) → Contains (steps_of x.program) t
  there t [] g = g.0
  there t (u ∷ ss) g = g.0

  next : (st t : Step) (ss : List Step) (c : Cost) → Goes (st ∷ (t ∷ ss)) → cost_to x.program x.target A.costs st.part.spot ≡ Some c
      → (d : Cost) × (cost_to x.program x.target A.costs t.part.spot ≡ Some d) × IsLe d (add c st.part.how)
  next st t ss c g e =
      let own_t = (each_at (IsOwn x.program.order.size (written_levels (plan_of x.program))) (steps_of x.program) t (own x.program valid) (there t ss g.3)).0 in
      let w : written x.program t.part.spot ≡ None = ap (λ z. written x.program z) g.2 ∙ g.1 in
      let y = omitted_own x.program t.part.spot w own_t in
      let wy : written x.program (Variable y.0) ≡ None = ap (λ z. written x.program z) (sym y.1) ∙ w in
      let f = found_some x.program x.target A.costs v A.sides y.0 st (add c st.part.how) (within y.0 wy) g.0 (sym g.2 ∙ y.1, costs_is st c e) in
      (f.0.cost, to_variable t.part.spot y.0 f.0.cost y.1 wy (A.goes y.0 f.0 wy f.1), f.2)

  pub record Before (y : Step) (zs : List Step) (c : Cost) : Type 0 where
    pub cost : Cost
    pub costs : PartCosts x.program x.target A.costs y.part cost
    pub low : IsLe cost c
    pub goes : Goes (y ∷ zs)

  more_before : (y : Step) (zs : List Step) (b c : Cost) → IsLe b c → Before y zs b → Before y zs c
  more_before y zs b c h r = record { cost = r.cost; costs = r.costs; low = le_trans r.cost b c r.low h; goes = r.goes }

  -- what a chain up to one of its steps costs
  pub before : (xs : List Step) (y : Step) (zs : List Step) (c : Cost) → Goes (xs ++ (y ∷ zs)) → cost_to x.program x.target A.costs (first_spot xs y) ≡ Some c
      → Before y zs (plus c (cost_of (xs ++ y ∷ [])))
  before [] y zs c g e = record {
    cost = add c y.part.how;
    costs = costs_is y c e;
    low =
        le_is (add c y.part.how) (plus c (cost_of (y ∷ []))) (plus_one c y);
    goes = g;
  }
  before (st ∷ []) y zs c g e =
      let n = next st y zs c g e in
      more_before y zs (plus n.0 (cost_of (y ∷ []))) (plus c (cost_of (st ∷ (y ∷ []))))
      (subst (λ z. IsLe (plus n.0 (cost_of (y ∷ []))) z) (plus_cons c st (y ∷ [])) (plus_le n.0 (add c st.part.how) (cost_of (y ∷ [])) n.2))
      (before [] y zs n.0 g.3 n.1)
  before (st ∷ (u ∷ us)) y zs c g e =
      let n = next st u (us ++ (y ∷ zs)) c g e in
      more_before y zs (plus n.0 (cost_of (u ∷ (us ++ y ∷ [])))) (plus c (cost_of (st ∷ (u ∷ (us ++ y ∷ [])))))
      (subst (λ z. IsLe (plus n.0 (cost_of (u ∷ (us ++ y ∷ [])))) z) (plus_cons c st (u ∷ (us ++ y ∷ [])))
      (plus_le n.0 (add c st.part.how) (cost_of (u ∷ (us ++ y ∷ []))) n.2)) (before (u ∷ us) y zs n.0 g.3 n.1)

  -- where a chain begins it costs nothing
  pub begins_at : (xs : List Step) (y : Step) (zs : List Step) (a : ℕ) → BeginsAt x (xs ++ (y ∷ zs)) a
      → cost_to x.program x.target A.costs (first_spot xs y) ≡ Some nothing_yet
  begins_at [] y zs a b = ap (λ z. cost_by x.program x.target A.costs y.part.spot z) b.0 ∙ ap (λ z. cond z (Some nothing_yet) None) b.1
  begins_at (st ∷ xs) y zs a b = ap (λ z. cost_by x.program x.target A.costs st.part.spot z) b.0 ∙ ap (λ z. cond z (Some nothing_yet) None) b.1

  abbrev pub KCosts : Step → Cost → Type 0
  KCosts st c = K st × PartCosts x.program x.target A.costs st.part c

  -- where the step that was found is the first of the cheapest of that kind
  module _ (G : IsFound KCosts (steps_of x.program) v.goal) where
    goal_by : (st : Step) (d : Cost) → Contains (steps_of x.program) st → KCosts st d → (o : Option Found)
        → IsFound KCosts (steps_of x.program) o → v.goal ≡ o →
        (f : Found) × (v.goal ≡ Some f) × IsLe f.cost d
    goal_by st d c h None i e = absurd (i st d c h)
    goal_by st d c h (Some f) i e = (f, e, i.least st d c h)

    -- no chain to where it is to end costs less than the step that was found
    low : (st : Step) (ss : List Step) (c : Cost) → Goes (st ∷ ss) → cost_to x.program x.target A.costs st.part.spot ≡ Some c → (f : Found) × (v.goal ≡ Some f)
        × IsLe f.cost (plus c (cost_of (st ∷ ss)))
    low st [] c g e =
        let r = goal_by st (add c st.part.how) g.0 (g.1, costs_is st c e) v.goal G refl in
        (r.0, r.1, subst (λ z. IsLe r.0.cost z) (plus_one c st) r.2)
    low st (t ∷ ss) c g e =
        let n = next st t ss c g e in
        let r = low t ss n.0 g.3 n.1 in (
          r.0,
          r.1,
          le_trans r.0.cost (plus n.0 (cost_of (t ∷ ss))) (plus c (cost_of (st ∷ (t ∷ ss)))) r.2
              (subst (λ z. IsLe (plus n.0 (cost_of (t ∷ ss))) z) (plus_cons c st (t ∷ ss)) (plus_le n.0 (add c st.part.how) (cost_of (t ∷ ss)) n.2)),
        )

    -- the chain that is picked
    record Picked (st t : Step) (c : Cost) : Type 0 where
      pub has : Contains (steps_of x.program) st
      pub omitted : written x.program st.side ≡ None
      pub spot : t.part.spot ≡ st.side
      pub cost : cost_to x.program x.target A.costs t.part.spot ≡ Some c
      pub costs : PartCosts x.program x.target A.costs st.part c

    picked : (st t : Step) (ss : List Step) → IsPicked x.program v (st ∷ (t ∷ ss)) → (c : Cost) × Picked st t c
    picked st t ss (n, f, spot, none, at, is, rest) =
        let F = found_first x.program x.target A.costs v A.sides n f at in
        let side : st.side ≡ Variable n = ap (λ (z : Step). z.side) (sym is) ∙ F.has.0 in (
          f.cost,
          record {
            has = subst (λ z. Contains (steps_of x.program) z) is (first_in (steps_of x.program) F.before F.after f.step F.is);
            omitted = ap (λ z. written x.program z) side ∙ none;
            spot = spot ∙ sym side;
            cost = to_variable t.part.spot n f.cost spot none (A.goes n f none at);
            costs = subst (λ (z : Step). PartCosts x.program x.target A.costs z.part f.cost) is F.has.1;
          },
        )

    goal_first : (f : Found) → v.goal ≡ Some f → IsFirst KCosts (steps_of x.program) f.step f.cost
    goal_first f e = subst (λ z. IsFound KCosts (steps_of x.program) z) e G

    picked_goes : (st : Step) (ss : List Step) → IsPicked x.program v (st ∷ ss) → Goes (st ∷ ss)
    picked_goes st [] (f, goal, is) =
        let F = goal_first f goal in (
          subst (λ z. Contains (steps_of x.program) z) is (first_in (steps_of x.program) F.before F.after f.step F.is),
          subst (λ (z : Step). K z) is F.has.0,
        )
    picked_goes st (t ∷ ss) p = let r = picked st t ss p in (r.1.has, r.1.omitted, r.1.spot, picked_goes t ss p.6)

    -- what the picked chain costs up to one of its steps
    picked_cost : (xs : List Step) (y : Step) (zs : List Step) (c : Cost) → IsPicked x.program v (xs ++ (y ∷ zs))
        → cost_to x.program x.target A.costs (first_spot xs y) ≡ Some c →
        PartCosts x.program x.target A.costs y.part (plus c (cost_of (xs ++ y ∷ []))) × IsPicked x.program v (y ∷ zs)
    picked_cost [] y zs c p e = (subst (λ z. PartCosts x.program x.target A.costs y.part z) (plus_one c y) (costs_is y c e), p)
    picked_cost (st ∷ []) y zs c p e =
        let r = picked st y zs p in
        let same : r.0 ≡ add c st.part.how = costs_same st r.0 (add c st.part.how) r.1.costs (costs_is st c e) in
        let q = picked_cost [] y zs (add c st.part.how) p.6 (r.1.cost ∙ ap Some same) in
        (subst (λ z. PartCosts x.program x.target A.costs y.part z) (plus_cons c st (y ∷ [])) q.0, q.1)
    picked_cost (st ∷ (u ∷ us)) y zs c p e =
        let r = picked st u (us ++ (y ∷ zs)) p in
        let same : r.0 ≡ add c st.part.how = costs_same st r.0 (add c st.part.how) r.1.costs (costs_is st c e) in
        let q = picked_cost (u ∷ us) y zs (add c st.part.how) p.6 (r.1.cost ∙ ap Some same) in
        (subst (λ z. PartCosts x.program x.target A.costs y.part z) (plus_cons c st (u ∷ (us ++ y ∷ []))) q.0, q.1)

    -- and it is the first of those that are no dearer
    stands : (V : Step → Cost → Type 0) (f : Found) (y z : Step) (d : Cost) → IsFirst V (steps_of x.program) f.step f.cost → f.step ≡ y → V z d → IsLe d f.cost
        → StandsFirst (steps_of x.program) y z
    stands V f y z d F is w l = record {
      before = F.before;
      after = F.after;
      is = subst (λ u. steps_of x.program ≡ F.before ++ (u ∷ F.after)) is F.is;
      none = λ c. not_less f.cost d (F.dearer z d c w) l;
    }

    first : (y : Step) (zs : List Step) (c : Cost) → IsPicked x.program v (y ∷ zs) → PartCosts x.program x.target A.costs y.part c → (z : Step) (d : Cost)
        → Goes (z ∷ zs) → PartCosts x.program x.target A.costs z.part d → IsLe d c → StandsFirst (steps_of x.program) y z
    first y [] c (f, goal, is) e z d g w l =
        let F = goal_first f goal in
        let same : c ≡ f.cost = costs_same y c f.cost e (subst (λ (u : Step). PartCosts x.program x.target A.costs u.part f.cost) is F.has.1) in
        stands KCosts f y z d F is (g.1, w) (subst (λ u. IsLe d u) same l)
    first y (t ∷ ts) c (n, f, spot, none, at, is, rest) e z d g w l =
        let F = found_first x.program x.target A.costs v A.sides n f at in
        let same : c ≡ f.cost = costs_same y c f.cost e (subst (λ (u : Step). PartCosts x.program x.target A.costs u.part f.cost) is F.has.1) in
        stands (SideCosts x.program x.target A.costs n) f y z d F is (sym g.2 ∙ spot, w) (subst (λ u. IsLe d u) same l)

    begins_high : (a : ℕ) (b : Bool) (c : Cost) (h : How) → and_then (cond b (Some nothing_yet) None) h ≡ Some c → b ≡ true
    begins_high a true c h e = refl
    begins_high a false c h e = absurd (none-some c e)

    cost_of_first : (st : Step) (ss : List Step) → IsPicked x.program v (st ∷ ss) → (c : Cost) × PartCosts x.program x.target A.costs st.part c
    cost_of_first st [] (f, goal, is) = (f.cost, subst (λ (u : Step). PartCosts x.program x.target A.costs u.part f.cost) is (goal_first f goal).has.1)
    cost_of_first st (t ∷ ss) p = let r = picked st t ss p in (r.0, r.1.costs)

    pub starts : (chain : List Step) → IsPicked x.program v chain → StartsWritten x.program chain → (a : ℕ) × BeginsAt x chain a
    starts [] p b = absurd b
    starts (st ∷ ss) p b =
        let c = cost_of_first st ss p in (
          b.0,
          (
            b.1,
            begins_high b.0 (is_high x.program x.target b.0) c.0 st.part.how
                (sym (ap (λ z. and_then (cost_by x.program x.target A.costs st.part.spot z) st.part.how) b.1) ∙ c.1),
          ),
        )

    pub goes : (chain : List Step) → IsPicked x.program v chain → Goes chain
    goes [] p = absurd p
    goes (st ∷ ss) p = picked_goes st ss p

    pub earliest : (chain : List Step) → IsPicked x.program v chain → (a : ℕ) → BeginsAt x chain a → (xs zs after : List Step) (y z : Step) (b : ℕ)
        → chain ≡ xs ++ (y ∷ after) → Goes (zs ++ (z ∷ after)) → BeginsAt x (zs ++ (z ∷ after)) b →
        IsLe (cost_of (zs ++ (z ∷ after))) (cost_of chain) → StandsFirst (steps_of x.program) y z
    earliest chain p a i xs zs after y z b e g j l =
        let own = picked_cost xs y after nothing_yet (subst (λ u. IsPicked x.program v u) e p) (begins_at xs y after a (subst (λ u. BeginsAt x u a) e i)) in
        let other = before zs z after nothing_yet g (begins_at zs z after b j) in
        let up : IsLe (cost_of (zs ++ z ∷ [])) (cost_of (xs ++ y ∷ [])) =
        cost_back zs xs after z y (subst (λ u. IsLe (cost_of (zs ++ (z ∷ after))) (cost_of u)) e l) in
        first y after (plus nothing_yet (cost_of (xs ++ y ∷ []))) own.1 own.0 z other.cost other.goes other.costs
        (le_trans other.cost (plus nothing_yet (cost_of (zs ++ z ∷ []))) (plus nothing_yet (cost_of (xs ++ y ∷ []))) other.low
        (subst (λ u. IsLe u (plus nothing_yet (cost_of (xs ++ y ∷ [])))) (sym (plus_nothing (cost_of (zs ++ z ∷ []))))
        (subst (λ u. IsLe (cost_of (zs ++ z ∷ [])) u) (sym (plus_nothing (cost_of (xs ++ y ∷ [])))) up)))

    -- what the last step costs
    last_cost : (st : Step) (ss : List Step) (c : Cost) → IsPicked x.program v (st ∷ ss) → cost_to x.program x.target A.costs st.part.spot ≡ Some c
        → (f : Found) × (v.goal ≡ Some f) × (f.cost ≡ plus c (cost_of (st ∷ ss)))
    last_cost st [] c (f, goal, is) e = (
      f,
      goal,
      costs_same st f.cost (add c st.part.how) (subst (λ (u : Step). PartCosts x.program x.target A.costs u.part f.cost) is (goal_first f goal).has.1)
          (costs_is st c e) ∙ plus_one c st,
    )
    last_cost st (t ∷ ss) c p e =
        let r = picked st t ss p in
        let same : r.0 ≡ add c st.part.how = costs_same st r.0 (add c st.part.how) r.1.costs (costs_is st c e) in
        let q = last_cost t ss (add c st.part.how) p.6 (r.1.cost ∙ ap Some same) in
        (q.0, q.1, q.2 ∙ plus_cons c st (t ∷ ss))

    pub cheapest : (chain : List Step) → IsPicked x.program v chain → (a : ℕ) → BeginsAt x chain a → (q : List Step) (b : ℕ) → Goes q → BeginsAt x q b
        → IsLe (cost_of chain) (cost_of q)
    cheapest [] p a i q b g j = absurd p
    cheapest (st ∷ ss) p a i [] b g j = absurd g
    cheapest (st ∷ ss) p a i (u ∷ us) b g j =
        let own = last_cost st ss nothing_yet p (begins_at [] st ss a i) in
        let other = low u us nothing_yet g (begins_at [] u us b j) in
        let same : own.0 ≡ other.0 = same_Some own.0 other.0 (sym own.1 ∙ other.1) in
        let is : other.0.cost ≡ cost_of (st ∷ ss) = ap (λ (z : Found). z.cost) (sym same) ∙ own.2 ∙ plus_nothing (cost_of (st ∷ ss)) in
        subst (λ z. IsLe z (cost_of (u ∷ us))) is (subst (λ z. IsLe other.0.cost z) (plus_nothing (cost_of (u ∷ us))) other.2)

-- where a chain is there one is found
pub goal_is : (x : Where) → IsValid x.program → (v : Sides) → AreSettled x.program x.target v → IsKnown x → v.goal ≡ None → ⊥
goal_is x valid v A k e = go k.chain k.goes k.begins
  where
    none : HaveNone (GoalCosts x.program x.target A.costs) (steps_of x.program)
    none = goal_none x.program x.target A.costs (conditions_of x.program)
        (subst (λ z. IsGoalFound x.program x.target A.costs (conditions_of x.program) z) e A.sides.goal)

    G : IsFound (GoalCosts x.program x.target A.costs) (steps_of x.program) v.goal
    G = subst (λ z. IsFound (GoalCosts x.program x.target A.costs) (steps_of x.program) z) (sym e) none

    go : (q : List Step) → GoesTo x.program (MayEnd x) q → BeginsAt x q k.have → ⊥
    go [] g b = g
    go (u ∷ us) g b =
        let r = low x valid v A (MayEnd x) G u us nothing_yet g (begins_at x valid v A (MayEnd x) [] u us k.have b) in
        none-some r.0 (sym e ∙ r.1)
