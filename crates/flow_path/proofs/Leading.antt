-- The condition that is broken first is the first to which a chain leads, so it is the one that a search finds.
use Rattle.std.proofs.Common.{◌≡◌, ℕ, zero, suc, ◌+◌, ◌<◌, ◌≤◌, refl, sym, ap, ◌∙◌, subst, List, [], ◌∷◌, ◌++◌, length, arith, append_assoc, ⊎_elim}
use Rattle.std.proofs.Math.Seq.{get_or-append_seam}
use Rattle.std.specs.Prelude.{Bool, true, false, not, cond, Option, None, Some, Contains, slice_index_or}
use Rattle.std.proofs.lemmas.Bool.{both_ways, cases_lt, cond-true, cond-false}
use Rattle.std.proofs.lemmas.Option.{none-some}
use Rattle.std.proofs.lemmas.List.Elements.{Contains-append_cases}
use Rattle.text_base.specs.declared.pos.Pos.{Pos}
use Rattle.label_lattice.specs.declared.label.Label.{Label}
use Rattle.label_lattice.specs.Lattice.{Lattice, Flows}
use Rattle.label_lattice.specs.Order.{lattice_of}
use Rattle.mit_syntax.specs.Program.{Syntax, plan_of}
use Rattle.mit_syntax.specs.Valid.{IsValid}
use Rattle.timing_types.specs.declared.rule.Rule.{Rule}
use Rattle.timing_types.specs.Walk.{Condition, conditions}
use Rattle.timing_types.specs.Labelling.{variable_of, marks_of, level_of, tree_of}
use Rattle.timing_types.specs.Labelled.{LabelledProgram}
use Rattle.label_infer.specs.Given.{written_levels}
use Rattle.label_infer.specs.Least.{IsLeast}
use Rattle.label_infer.proofs.Completed.{lattice_laws}
use Rattle.label_infer.proofs.Right.{Each, all_both}
use Rattle.flow_path.specs.declared.step.Spot.{Spot}
use Rattle.flow_path.specs.declared.step.Spot.TheVariants.{Variable, Command, Level}
use Rattle.flow_path.specs.declared.step.Step.{Step}
use Rattle.flow_path.specs.declared.cost.Cost.{Cost}
use Rattle.flow_path.specs.declared.target.Target.{Target}
use Rattle.flow_path.specs.declared.target.Target.TheVariants.{Broken}
use Rattle.flow_path.specs.declared.sides.Found.{Found}
use Rattle.flow_path.specs.declared.sides.Sides.{Sides}
use Rattle.flow_path.specs.Steps.{written, all_of, conditions_of, steps_of, steps_at}
use Rattle.flow_path.specs.Chains.{Leads, holding, broken_number}
use Rattle.flow_path.specs.Costs.{nothing_yet}
use Rattle.flow_path.specs.Targets.{is_high}
use Rattle.flow_path.specs.Search.{Where, Goes, MayEnd, BeginsAt, IsKnown}
use Rattle.flow_path.specs.Distances.{IsFirst, cost_by, cost_to, PartCosts, GoalCosts, IsFound, IsFoundIn, IsFoundFirst, AreSettled}
use Rattle.flow_path.proofs.Base.{at, each_at, each_all, in_all, all_append, Pairs}
use Rattle.flow_path.proofs.Low.{IsBy, AreBy, by}
use Rattle.flow_path.proofs.Proper.{IsProper}
use Rattle.flow_path.proofs.Found.{proper}
use Rattle.flow_path.proofs.Rise.{Reached, leads_on}
use Rattle.flow_path.proofs.Sound.{written_at}
use Rattle.flow_path.proofs.Complete.{KnownStep, came}
use Rattle.flow_path.proofs.Settling.{first_in, step_from, found_first}
use Rattle.flow_path.proofs.Picking.{before, begins_at}

-- of the conditions before the first that is broken each holds
holds_at : (lat : Lattice) (R : Condition → List Step → Type 0) (cs : List Condition) (bs : List (List Step)) (k : ℕ) → Pairs R cs bs → k < holding lat cs
    → (c : Condition) × R c (slice_index_or bs k []) × Flows lat c.have c.allowed
holds_at lat R [] bs k h l = absurd (omega (arith, l))
holds_at lat R (c ∷ cs) [] k h l = absurd h
holds_at lat R (c ∷ cs) (b ∷ bs) k h l = go (lat.flows c.have c.allowed) refl k l (λ i m. holds_at lat R cs bs i h.1 m)
  where
    go : (f : Bool) → lat.flows c.have c.allowed ≡ f → (k : ℕ) → k < holding lat (c ∷ cs)
        → ((i : ℕ) → i < holding lat cs → (c : Condition) × R c (slice_index_or bs i []) × Flows lat c.have c.allowed)
        → (c : Condition) × R c (slice_index_or (b ∷ bs) k []) × Flows lat c.have c.allowed
    go true f zero l next = (c, h.0, f)
    go true f (suc k) l next =
        let m : suc k < 1 + holding lat cs = subst (λ z. suc k < z) (cond-true (lat.flows c.have c.allowed) (1 + holding lat cs) 0 f) l in
        next k (omega (arith, m))
    go false f k l next =
        let m : k < 0 = subst (λ z. k < z) (cond-false (lat.flows c.have c.allowed) (1 + holding lat cs) 0 f) l in
        absurd (omega (arith, m))

not_true : (b : Bool) → not b ≡ true → b ≡ false
not_true true e = absurd (both_ways false refl e)
not_true false e = refl

taken : (b : Bool) (c : Cost) → cond b (Some nothing_yet) None ≡ Some c → b ≡ true
taken true c e = refl
taken false c e = absurd (none-some c e)

-- a chain to a step's part, and then the step
goes_with : (x : Where) (p : Spot) (xs : List Step) (q : Spot) (st : Step) → Leads x.program p xs q → Each (λ (z : Step). written x.program z.side ≡ None) xs
    → st.part.spot ≡ q → Contains (steps_of x.program) st → MayEnd x st → Goes x (xs ++ st ∷ [])
goes_with x p [] q st l o e c g = (c, g)
goes_with x p (y ∷ []) q st l o e c g = (l.0, o.0, e ∙ sym l.2, (c, g))
goes_with x p (y ∷ (z ∷ xs)) q st l o e c g = (l.0, o.0, l.2.1, goes_with x y.side (z ∷ xs) q st l.2 o.1 e c g)

begins_with : (x : Where) (p : Spot) (xs : List Step) (q : Spot) (st : Step) (a : ℕ) → Leads x.program p xs q → st.part.spot ≡ q → written x.program p ≡ Some a
    → is_high x.program x.target a ≡ true → BeginsAt x (xs ++ st ∷ []) a
begins_with x p [] q st a l e w h = (ap (λ z. written x.program z) (e ∙ sym l) ∙ w, h)
begins_with x p (y ∷ xs) q st a l e w h = (ap (λ z. written x.program z) l.1 ∙ w, h)

module _ (p : LabelledProgram) (rule : Rule) (pos : Pos) (allowed : Label) where
  abbrev s : Syntax
  s = p.program

  abbrev t : Target
  t = Broken rule pos allowed

  abbrev x : Where
  x = record { program = p.program; target = Broken rule pos allowed }

  abbrev n : ℕ
  n = broken_number p

  -- the step is by the condition that is broken first
  abbrev pub IsBroken : Step → Type 0
  IsBroken st =
      Contains (steps_at p.program (broken_number p)) st
      × ((st.rule ≡ rule) × (st.pos ≡ pos) × (written p.program st.side ≡ Some allowed.number))

  module _ (k : KnownStep p.program (broken_number p) rule pos allowed.number) where
    k_there : Contains (steps_of p.program) k.step
    k_there = in_all (conditions_of s) n k.step k.there

    k_goes : Goes x (k.reached.chain ++ k.step ∷ [])
    k_goes = let r = k.reached in goes_with x r.first r.chain k.step.part.spot k.step r.leads r.omitted refl k_there (k.rule, k.pos, k.side)

    k_begins : BeginsAt x (k.reached.chain ++ k.step ∷ []) k.reached.have
    k_begins = let r = k.reached in begins_with x r.first r.chain k.step.part.spot k.step r.have r.leads refl r.begins (ap not r.high)

    pub is_known : IsKnown (record { program = p.program; target = Broken rule pos allowed })
    is_known = record { chain = k.reached.chain ++ k.step ∷ []; have = k.reached.have; goes = k_goes; begins = k_begins }

  module _ (v : Sides) (A : AreSettled p.program (Broken rule pos allowed) v) where
    -- what has a cost is reached by a chain
    reached : (m : ℕ) (q : Spot) (c : Cost) → c.steps < m → cost_to s t A.costs q ≡ Some c → Reached s q allowed.number
    reached zero q c l e = absurd (omega (arith, l))
    reached (suc m) q c l e = go q refl (written s q) refl e (reached m)
      where
        go : (u : Spot) → q ≡ u → (o : Option ℕ) → written s q ≡ o → cost_by s t A.costs q (written s q) ≡ Some c
            → ((r : Spot) (d : Cost) → d.steps < m → cost_to s t A.costs r ≡ Some d → Reached s r allowed.number) → Reached s q allowed.number
        go u is (Some a) w f next = record {
          first = q;
          have = a;
          chain = [];
          begins = w;
          leads = refl;
          omitted = tt;
          high = not_true ((lattice_of s.order).flows a allowed.number) (taken (is_high s t a) c (sym (ap (λ z. cost_by s t A.costs q z) w) ∙ f));
        }
        go (Variable y) is None w f next =
            let wy : written s (Variable y) ≡ None = ap (λ z. written s z) (sym is) ∙ w in
            let known : slice_index_or A.costs y None ≡ Some c =
            sym (ap (λ z. cost_by s t A.costs z None) is) ∙ (sym (ap (λ z. cost_by s t A.costs q z) w) ∙ f) in
            let b = A.back y c wy known in
            let F = found_first s t A.costs v A.sides y b.0 b.1 in
            let st = b.0.step in
            let r = step_from (cost_to s t A.costs b.0.step.part.spot) b.0.step.part.how b.0.cost F.has.1 in
            let one : b.0.cost.steps ≡ 1 + r.0.steps = ap (λ (z : Cost). z.steps) r.2 in
            let two : b.0.cost.steps ≡ c.steps = ap (λ (z : Cost). z.steps) b.2 in
            let h = next st.part.spot r.0 (omega (arith, l, one, two)) r.1 in
            let there = first_in (steps_of s) F.before F.after st F.is in
            let side : st.side ≡ q = F.has.0 ∙ sym is in
            record {
              first = h.first;
              have = h.have;
              chain = h.chain ++ st ∷ [];
              begins = h.begins;
              leads = subst (λ z. Leads s h.first (h.chain ++ st ∷ []) z) side (leads_on s h.first h.chain st.part.spot st h.leads there refl);
              omitted = all_both (λ (z : Step). written s z.side ≡ None) h.chain (st ∷ []) h.omitted (ap (λ z. written s z) side ∙ w, tt);
              high = h.high;
            }
        go (Command j) is None w f next = absurd (none-some c (sym (ap (λ z. cost_by s t A.costs z None) is) ∙ (sym (ap (λ z. cost_by s t A.costs q z) w) ∙ f)))
        go (Level j o) is None w f next = absurd (none-some c (sym (ap (λ z. cost_by s t A.costs z None) is) ∙ (sym (ap (λ z. cost_by s t A.costs q z) w) ∙ f)))

    module _ (valid : IsValid p.program) (least : IsLeast p.program p.labels) where
      abbrev lat : Lattice
      lat = lattice_of s.order

      abbrev v' : Spot → ℕ
      v' = at (variable_of s.order p.labels) (level_of s.order p.labels)

      abbrev conds : List Condition
      conds = conditions lat (variable_of s.order p.labels) (tree_of s.order p.labels (plan_of s) 0) s.order.bottom s.order.bottom

      abbrev R : Condition → List Step → Type 0
      R = AreBy lat (lattice_laws s.order valid.order) (variable_of s.order p.labels) (level_of s.order p.labels) (marks_of s.order p.labels)

      are_by : Pairs R conds (conditions_of s)
      are_by = by lat (lattice_laws s.order valid.order) (variable_of s.order p.labels) (level_of s.order p.labels) (marks_of s.order p.labels) (plan_of s) 0
          s.order.bottom s.order.bottom [] [] least.labels.keeps.written tt tt

      -- no chain leads to a condition before it
      earlier : (k : ℕ) → k < n → (y : Step) → Contains (slice_index_or (conditions_of s) k []) y → (d : Cost) → GoalCosts s t A.costs y d → ⊥
      earlier k l y c d g =
          let q = holds_at lat R conds (conditions_of s) k are_by l in
          let i = each_at (IsBy lat (lattice_laws s.order valid.order) (variable_of s.order p.labels) (level_of s.order p.labels)
          (marks_of s.order p.labels) q.0) (slice_index_or (conditions_of s) k []) y q.1 c in
          let pr = each_at (IsProper s.order.size (written_levels (plan_of s))) (steps_of s) y (proper s valid) (in_all (conditions_of s) k y c) in
          let same : q.0.allowed ≡ allowed.number = sym i.allowed ∙ written_at s p.labels least.labels.keeps y.side allowed.number g.0.2 in
          let up : Flows lat (v' y.part.spot) allowed.number =
          subst (λ z. Flows lat (v' y.part.spot) z) same ((lattice_laws s.order valid.order).chain (v' y.part.spot) q.0.have q.0.allowed i.flows q.2) in
          let a = step_from (cost_to s t A.costs y.part.spot) y.part.how d g.1 in
          let r = reached (suc a.0.steps) y.part.spot a.0 (omega arith) a.1 in
          let f = (came s valid p.labels least y.part.spot allowed.number pr.0).1 up r.have (
            r.chain,
            record { first = r.first; begins = r.begins; leads = r.leads; omitted = each_all (λ (z : Step). written s z.side ≡ None) r.chain r.omitted },
          ) in
          both_ways (lat.flows r.have allowed.number) r.high f

      module _ (k : KnownStep p.program (broken_number p) rule pos allowed.number) where
        k_costs : (d : Cost) × PartCosts s t A.costs k.step.part d
        k_costs =
            let r = before x valid v A (MayEnd x) k.reached.chain k.step [] nothing_yet (k_goes k)
            (begins_at x valid v A (MayEnd x) k.reached.chain k.step [] k.reached.have (k_begins k)) in
            (r.cost, r.costs)

        abbrev KC : Step → Cost → Type 0
        KC st c = IsBroken st × PartCosts s t A.costs st.part c

        module _ (f : Found) (h : IsFoundIn p.program (Broken rule pos allowed) A.costs (conditions_of p.program) f) where
          at_it : slice_index_or (conditions_of s) (length h.before) [] ≡ h.block
          at_it = ap (λ z. slice_index_or z (length h.before) []) h.is ∙ get_or-append_seam h.before h.block h.after []

          number : length h.before ≡ n
          number = ⊎_elim
              (λ (l : length h.before < n).
              absurd (earlier (length h.before) l f.step
              (subst (λ z. Contains z f.step) (sym at_it) (first_in h.block h.first.before h.first.after f.step h.first.is)) f.cost h.first.has))
              (λ (m : n ≤ length h.before). ⊎_elim
              (λ (l : n < length h.before).
              absurd (h.none k.step k_costs.0
              (in_all h.before n k.step
              (subst (λ z. Contains z k.step) (ap (λ z. slice_index_or z n []) h.is ∙ in_front h.before (h.block ∷ h.after) n l) k.there))
              ((k.rule, k.pos, k.side), k_costs.1)))
              (λ (l : length h.before ≤ n). omega (arith, l, m)) (cases_lt n (length h.before)))
              (cases_lt (length h.before) n)
            where
              in_front : (xs ys : List (List Step)) (i : ℕ) → i < length xs → slice_index_or (xs ++ ys) i [] ≡ slice_index_or xs i []
              in_front [] ys i l = absurd (omega (arith, l))
              in_front (z ∷ xs) ys zero l = refl
              in_front (z ∷ xs) ys (suc i) l = in_front xs ys i (omega (arith, l))

          here : steps_at s n ≡ h.block
          here = ap (λ z. slice_index_or (conditions_of s) z []) (sym number) ∙ at_it

          found_is : IsFirst KC (steps_of s) f.step f.cost
          found_is = record {
            before = all_of h.before ++ h.first.before;
            after = h.first.after ++ all_of h.after;
            is = ap all_of h.is ∙ all_append h.before (h.block ∷ h.after)
                ∙ ap (λ z. all_of h.before ++ (z ++ all_of h.after)) h.first.is
                ∙ ap (λ z. all_of h.before ++ z) (append_assoc h.first.before (f.step ∷ h.first.after) (all_of h.after))
                ∙ sym (append_assoc (all_of h.before) h.first.before (f.step ∷ (h.first.after ++ all_of h.after)));
            has = (
              (subst (λ z. Contains z f.step) (sym here) (first_in h.block h.first.before h.first.after f.step h.first.is), h.first.has.0),
              h.first.has.1,
            );
            dearer = λ y d i w. ⊎_elim
                (λ (c : Contains (all_of h.before) y). absurd (h.none y d c (w.0.1, w.1)))
                (λ (c : Contains h.first.before y). h.first.dearer y d c (w.0.1, w.1))
                (Contains-append_cases (all_of h.before) h.first.before y i);
            least = λ y d i w. h.first.least y d (subst (λ z. Contains z y) here w.0.0) (w.0.1, w.1);
          }

        found_by : (o : Option Found) → IsFoundFirst p.program (Broken rule pos allowed) A.costs (conditions_of p.program) o → IsFound KC (steps_of s) o
        found_by None h = λ y d c w. h y d c (w.0.1, w.1)
        found_by (Some f) h = found_is f h

        pub broken_found : IsFound (λ (st : Step) (c : Cost). IsBroken st × PartCosts p.program (Broken rule pos allowed) A.costs st.part c)
            (steps_of p.program) v.goal
        broken_found = found_by v.goal A.sides.goal
