-- What each step of the search for the cheapest costs keeps.
use Rattle.std.proofs.Common.{◌≡◌, ℕ, zero, suc, ◌+◌, ◌<◌, ◌≤◌, refl, sym, ap, ◌∙◌, subst, List, [], ◌∷◌, ◌++◌, length, arith, ⊎_elim, inl, inr, get_or}
use Rattle.std.proofs.Common.{slice_set, length-append, length-set, get_or-set_same, get_or-set_other}
use Rattle.std.specs.Prelude.{Bool, true, false, cond, Option, None, Some, IfSome, Contains, slice_index_or, option_map, ◌⊎◌}
use Rattle.std.proofs.lemmas.Option.{none-some, same_Some}
use Rattle.std.proofs.lemmas.Bool.{cases_lt, cases_eq}
use Rattle.std.proofs.lemmas.List.Elements.{Contains-append_right}
use Rattle.mit_syntax.specs.Program.{Syntax}
use Rattle.flow_path.specs.declared.step.How.{How}
use Rattle.flow_path.specs.declared.step.Spot.{Spot}
use Rattle.flow_path.specs.declared.step.Spot.TheVariants.{Variable, Command, Level}
use Rattle.flow_path.specs.declared.step.Step.{Step}
use Rattle.flow_path.specs.declared.cost.Cost.{Cost}
use Rattle.flow_path.specs.declared.target.Target.{Target}
use Rattle.flow_path.specs.declared.known_costs.Known.{Known}
use Rattle.flow_path.specs.declared.sides.Found.{Found}
use Rattle.flow_path.specs.declared.sides.Sides.{Sides}
use Rattle.flow_path.specs.Steps.{written, conditions_of, steps_of}
use Rattle.flow_path.specs.Costs.{nothing_yet, add, IsLe, IsLess}
use Rattle.flow_path.specs.Targets.{is_high}
use Rattle.flow_path.specs.Distances.{IsFirst, cost_by, cost_to, and_then, PartCosts, SideCosts, count_none, IsKnownOf}
use Rattle.flow_path.specs.Distances.{AreFew, AreStarts, IsFound, AreSides, IsNew, IsNewAt, IsLeastNew, IsSetBy, IsDistance, AreSettled, Agrees}
use Rattle.flow_path.proofs.Writings.{omitted_within}
use Rattle.flow_path.proofs.Lists.{get_same, get_before, get_end}
use Rattle.flow_path.proofs.Costing.{le_is, le_trans, le_more, less_le, faint_add, nothing_le, le_both, cost_is}

-- an item that the front of a list ends by is in it
pub first_in : {A : Type 0} (xs before after : List A) (x : A) → xs ≡ before ++ (x ∷ after) → Contains xs x
first_in xs before after x e = subst (λ z. Contains z x) (sym e) (Contains-append_right before (x ∷ after) x (0, omega arith, refl))

-- past the end of a list
pub past_none : {A : Type 0} (xs : List (Option A)) (y : ℕ) → length xs ≤ y → slice_index_or xs y None ≡ None
past_none [] y h = refl
past_none (x ∷ xs) zero h = absurd (omega (arith, h))
past_none (x ∷ xs) (suc y) h = past_none xs y (omega (arith, h))

pub within_some : {A : Type 0} (xs : List (Option A)) (y : ℕ) (c : A) → slice_index_or xs y None ≡ Some c → y < length xs
within_some xs y c e = ⊎_elim (λ (h : y < length xs). h) (λ (h : length xs ≤ y). absurd (none-some c (sym (past_none xs y h) ∙ e))) (cases_lt y (length xs))

-- one more item
pub more_each : {A : Type 0} (P : ℕ → Option A → Type 0) (xs : List (Option A)) (x : Option A) (n : ℕ) → length xs ≡ n
    → ((y : ℕ) → y < length xs → P y (slice_index_or xs y None)) → P n x →
    (y : ℕ) → y < length (xs ++ x ∷ []) → P y (slice_index_or (xs ++ x ∷ []) y None)
more_each P xs x n e h k y l =
    let len = length-append xs (x ∷ []) in
    ⊎_elim
    (λ (q : y < length xs). subst (λ z. P y z) (sym (get_before xs x y None q)) (h y q))
    (λ (q : length xs ≤ y).
    let i : y ≡ length xs = omega (arith, q, l, len) in
    let j : n ≡ y = omega (arith, i, e) in
    subst (λ z. P y z) (sym (get_end xs x y None i)) (subst (λ z. P z x) j k))
    (cases_lt y (length xs))

-- one item set
pub set_each : {A : Type 0} (P : ℕ → Option A → Type 0) (xs : List (Option A)) (x : Option A) (n : ℕ) → n < length xs
    → ((y : ℕ) → (y ≡ n → ⊥) → P y (slice_index_or xs y None)) → P n x → (y : ℕ) → P y (slice_index_or (slice_set xs n x) y None)
set_each P xs x n l h k y = ⊎_elim
    (λ (q : y ≡ n). subst (λ z. P z (slice_index_or (slice_set xs n x) z None)) (sym q) (subst (λ z. P n z) (sym (get_or-set_same xs n x None l)) k))
    (λ (q : y ≡ n → ⊥). subst (λ z. P y z) (sym (get_or-set_other xs n y x None q)) (h y q))
    (cases_eq y n)

-- costs that are known stay known, and one more is
Stay : List (Option Cost) → List (Option Cost) → Type 0
Stay xs ys = (y : ℕ) (c : Cost) → slice_index_or xs y None ≡ Some c → (d : Cost) × (slice_index_or ys y None ≡ Some d)

count_stays : (xs ys : List (Option Cost)) → length ys ≡ length xs → Stay xs ys → count_none ys ≤ count_none xs
unfolding Stay
count_stays [] [] e h = omega arith
count_stays [] (y ∷ ys) e h = absurd (omega (arith, e))
count_stays (x ∷ xs) [] e h = absurd (omega (arith, e))
count_stays (None ∷ xs) (None ∷ ys) e h = let q = count_stays xs ys (omega (arith, e)) (λ y c f. h (suc y) c f) in omega (arith, q)
count_stays (None ∷ xs) (Some d ∷ ys) e h = let q = count_stays xs ys (omega (arith, e)) (λ y c f. h (suc y) c f) in omega (arith, q)
count_stays (Some c ∷ xs) (None ∷ ys) e h = let q = h 0 c refl in absurd (none-some q.0 q.1)
count_stays (Some c ∷ xs) (Some d ∷ ys) e h = count_stays xs ys (omega (arith, e)) (λ y c f. h (suc y) c f)

count_falls : (xs ys : List (Option Cost)) (y : ℕ) (c : Cost) → length ys ≡ length xs → Stay xs ys → slice_index_or xs y None ≡ None
    → slice_index_or ys y None ≡ Some c → y < length xs → count_none ys < count_none xs
unfolding Stay
count_falls [] ys y c e h a b l = absurd (omega (arith, l))
count_falls (x ∷ xs) [] y c e h a b l = absurd (omega (arith, e))
count_falls (None ∷ xs) (Some d ∷ ys) zero c e h a b l = let q = count_stays xs ys (omega (arith, e)) (λ y c f. h (suc y) c f) in omega (arith, q)
count_falls (None ∷ xs) (None ∷ ys) zero c e h a b l = absurd (none-some c b)
count_falls (Some d ∷ xs) (z ∷ ys) zero c e h a b l = absurd (none-some d (sym a))
count_falls (None ∷ xs) (None ∷ ys) (suc y) c e h a b l = let q = count_falls xs ys y c (omega (arith, e)) (λ y c f. h (suc y) c f) a b (omega (arith, l)) in
    omega (arith, q)
count_falls (None ∷ xs) (Some d ∷ ys) (suc y) c e h a b l = let q = count_falls xs ys y c (omega (arith, e)) (λ y c f. h (suc y) c f) a b (omega (arith, l)) in
    omega (arith, q)
count_falls (Some d ∷ xs) (None ∷ ys) (suc y) c e h a b l = let q = h 0 d refl in absurd (none-some q.0 q.1)
count_falls (Some d ∷ xs) (Some d' ∷ ys) (suc y) c e h a b l = count_falls xs ys y c (omega (arith, e)) (λ y c f. h (suc y) c f) a b (omega (arith, l))

count_le : (xs : List (Option Cost)) → count_none xs ≤ length xs
count_le [] = omega arith
count_le (None ∷ xs) = let h = count_le xs in omega (arith, h)
count_le (Some c ∷ xs) = let h = count_le xs in omega (arith, h)

-- a step's cost is that of its part's label and one step more
pub step_from : (o : Option Cost) (h : How) (c : Cost) → and_then o h ≡ Some c → (d : Cost) × (o ≡ Some d) × (c ≡ add d h)
step_from None h c e = absurd (none-some c e)
step_from (Some d) h c e = (d, refl, sym (same_Some (add d h) c e))

-- where a search begins
module _ (s : Syntax) (t : Target) (k : Known) (b : AreStarts s t k) where
  start_few : (a : ℕ) (c : Cost) (b : Bool) → cond b (Some nothing_yet) None ≡ Some c → c ≡ nothing_yet
  start_few a c true e = sym (same_Some nothing_yet c e)
  start_few a c false e = absurd (none-some c e)

  by_few : (y : ℕ) (c : Cost) (o : Option ℕ) → cost_by s t [] (Variable y) o ≡ Some c → c ≡ nothing_yet
  by_few y c None e = absurd (none-some c e)
  by_few y c (Some a) e = start_few a c (is_high s t a) e

  no_cost : (y : ℕ) (c : Cost) → written s (Variable y) ≡ None → slice_index_or k.variables.items y None ≡ Some c → ⊥
  no_cost y c w e = none-some c (sym (b.each y (within_some k.variables.items y c e) ∙ ap (λ z. cost_by s t [] (Variable y) z) w) ∙ e)

  starts_few : (y : ℕ) (c : Cost) → slice_index_or k.variables.items y None ≡ Some c → c ≡ nothing_yet
  starts_few y c e = by_few y c (written s (Variable y)) (sym (b.each y (within_some k.variables.items y c e)) ∙ e)

  pub known_begins : IsKnownOf s t k
  known_begins = record {
    lattice = b.lattice;
    fit = b.fit;
    room = b.room;
    starts = λ y a l w. b.each y l ∙ ap (λ z. cost_by s t [] (Variable y) z) w;
    few = λ y c e. subst (λ (z : Cost). (z.faint ≤ z.steps) × (z.steps ≤ 4294967295)) (sym (starts_few y c e)) (omega arith, omega arith);
  }

  pub few_begins : AreFew k.variables.items
  few_begins y c e = let m = count_le k.variables.items in
      subst (λ (z : Cost). (z.faint ≤ z.steps) × (z.steps + count_none k.variables.items ≤ length k.variables.items)) (sym (starts_few y c e)) (
        omega arith,
        omega (arith, m),
      )

  pub distance_begins : IsDistance s t k.variables.items nothing_yet
  distance_begins = record {
    there = λ y c w e. absurd (no_cost y c w e);
    least = λ y c d st w e h v. absurd (no_cost y c w e);
    late = λ y d st w e h v. nothing_le d;
    low = λ y c w e. absurd (no_cost y c w e);
  }

-- what is found from what is known
module _ (s : Syntax) (t : Target) (ds : List (Option Cost)) (v : Sides) (S : AreSides s t ds (conditions_of s) v) where
  found_is : (y : ℕ) (o : Option Found) → slice_index_or v.variables.items y None ≡ o → y < length ds → IsFound (SideCosts s t ds y) (steps_of s) o
  found_is y o e l = subst (λ z. IsFound (SideCosts s t ds y) (steps_of s) z) e (S.each y l)

  pub found_within : (y : ℕ) (f : Found) → slice_index_or v.variables.items y None ≡ Some f → y < length ds
  found_within y f e = let l = within_some v.variables.items y f e in let n = S.fit in omega (arith, l, n)

  pub found_first : (y : ℕ) (f : Found) → slice_index_or v.variables.items y None ≡ Some f → IsFirst (SideCosts s t ds y) (steps_of s) f.step f.cost
  found_first y f e = found_is y (Some f) e (found_within y f e)

  found_by : (y : ℕ) (st : Step) (d : Cost) → Contains (steps_of s) st → SideCosts s t ds y st d → (o : Option Found)
      → IsFound (SideCosts s t ds y) (steps_of s) o → slice_index_or v.variables.items y None ≡ o →
      (f : Found) × (slice_index_or v.variables.items y None ≡ Some f) × IsLe f.cost d
  found_by y st d c h None i e = absurd (i st d c h)
  found_by y st d c h (Some f) i e = (f, e, i.least st d c h)

  -- a step to the label of y
  pub found_some : (y : ℕ) (st : Step) (d : Cost) → y < length ds → Contains (steps_of s) st → SideCosts s t ds y st d
      → (f : Found) × (slice_index_or v.variables.items y None ≡ Some f) × IsLe f.cost d
  found_some y st d l c h = found_by y st d c h (slice_index_or v.variables.items y None) (S.each y l) refl

-- more is known
module _ (s : Syntax) (t : Target) (k k' : Known) (K : IsKnownOf s t k) (F : AreFew k.variables.items) (now : Cost) (D : IsDistance s t k.variables.items now)
    (v : Sides) (S : AreSides s t k.variables.items (conditions_of s) v)
    (m : Cost) (L : IsLeastNew s k.variables.items v.variables.items (length k.variables.items) (Some m))
    (N : IsSetBy s k.variables.items v.variables.items m (length k.variables.items) k'.variables.items) (same : k'.lattice ≡ k.lattice) where
  -- a cost that was known
  old : (y : ℕ) (c : Cost) → slice_index_or k.variables.items y None ≡ Some c → slice_index_or k'.variables.items y None ≡ Some c
  old y c e = N.kept y (λ l n. none-some c (sym n.unknown ∙ e)) ∙ e

  -- which costs are known: those that were, and m
  which : (y : ℕ) (c : Cost) → slice_index_or k'.variables.items y None ≡ Some c → (slice_index_or k.variables.items y None ≡ Some c)
      ⊎ ((c ≡ m) × ((y < length k.variables.items) × IsNew s k.variables.items v.variables.items y m))
  which y c e = go (slice_index_or k.variables.items y None) refl (slice_index_or v.variables.items y None) refl (written s (Variable y)) refl
    where
      kept : (IsNew s k.variables.items v.variables.items y m → ⊥) → (slice_index_or k.variables.items y None ≡ Some c)
          ⊎ ((c ≡ m) × ((y < length k.variables.items) × IsNew s k.variables.items v.variables.items y m))
      kept h = inl (sym (N.kept y (λ l n. h n)) ∙ e)

      at : (f : Found) → slice_index_or k.variables.items y None ≡ None → slice_index_or v.variables.items y None ≡ Some f → written s (Variable y) ≡ None
          → (f.cost.faint ≡ m.faint) ⊎ (f.cost.faint ≡ m.faint → ⊥) → (f.cost.steps ≡ m.steps) ⊎ (f.cost.steps ≡ m.steps → ⊥) →
          (slice_index_or k.variables.items y None ≡ Some c) ⊎ ((c ≡ m) × ((y < length k.variables.items) × IsNew s k.variables.items v.variables.items y m))
      at f a b w (inl g) (inl h) =
          let n : IsNew s k.variables.items v.variables.items y m = record { omitted = w; unknown = a; found = f; at = b; cost = cost_is f.cost m g h } in
          let l = found_within s t k.variables.items v S y f b in
          inr (same_Some c m (sym e ∙ N.set y l n), (l, n))
      at f a b w (inl g) (inr h) = kept (λ n. h (ap (λ (z : Found). z.cost.steps) (same_Some f n.found (sym b ∙ n.at)) ∙ ap (λ (z : Cost). z.steps) n.cost))
      at f a b w (inr g) h = kept (λ n. g (ap (λ (z : Found). z.cost.faint) (same_Some f n.found (sym b ∙ n.at)) ∙ ap (λ (z : Cost). z.faint) n.cost))

      go : (o : Option Cost) → slice_index_or k.variables.items y None ≡ o → (q : Option Found) → slice_index_or v.variables.items y None ≡ q → (w : Option ℕ)
          → written s (Variable y) ≡ w →
          (slice_index_or k.variables.items y None ≡ Some c) ⊎ ((c ≡ m) × ((y < length k.variables.items) × IsNew s k.variables.items v.variables.items y m))
      go (Some d) a q b w g = kept (λ n. none-some d (sym n.unknown ∙ a))
      go None a None b w g = kept (λ n. none-some n.found (sym b ∙ n.at))
      go None a (Some f) b (Some l) g = kept (λ n. none-some l (sym n.omitted ∙ g))
      go None a (Some f) b None g = at f a b g (cases_eq f.cost.faint m.faint) (cases_eq f.cost.steps m.steps)

  pub rises : IsLe now m
  rises =
      let n = L.0.2 in
      let f = found_first s t k.variables.items v S L.0.0 n.found n.at in
      let late = D.late L.0.0 n.found.cost n.found.step n.omitted n.unknown (first_in (steps_of s) f.before f.after n.found.step f.is) f.has in
      subst (λ z. IsLe now z) n.cost late

  -- what a spot costs: as before, or m
  spots : (p : Spot) (c : Cost) → cost_to s t k'.variables.items p ≡ Some c → (cost_to s t k.variables.items p ≡ Some c) ⊎ (c ≡ m)
  spots p c e = go p (written s p) refl e
    where
      go : (p : Spot) (o : Option ℕ) → written s p ≡ o → cost_by s t k'.variables.items p (written s p) ≡ Some c
          → (cost_by s t k.variables.items p (written s p) ≡ Some c) ⊎ (c ≡ m)
      go p (Some a) w e = inl (ap (λ z. cost_by s t k.variables.items p z) w ∙ (sym (ap (λ z. cost_by s t k'.variables.items p z) w) ∙ e))
      go (Variable y) None w e = ⊎_elim
          (λ (h : slice_index_or k.variables.items y None ≡ Some c). inl (ap (λ z. cost_by s t k.variables.items (Variable y) z) w ∙ h))
          (λ (h : (c ≡ m) × ((y < length k.variables.items) × IsNew s k.variables.items v.variables.items y m)). inr h.0)
          (which y c (sym (ap (λ z. cost_by s t k'.variables.items (Variable y) z) w) ∙ e))
      go (Command l) None w e = absurd (none-some c (sym (ap (λ z. cost_by s t k'.variables.items (Command l) z) w) ∙ e))
      go (Level j l) None w e = absurd (none-some c (sym (ap (λ z. cost_by s t k'.variables.items (Level j l) z) w) ∙ e))

  -- what a step costs: as before, or more than m
  costs : (st : Step) (d : Cost) → PartCosts s t k'.variables.items st.part d → PartCosts s t k.variables.items st.part d ⊎ IsLe m d
  costs st d e =
      let q = step_from (cost_to s t k'.variables.items st.part.spot) st.part.how d e in
      ⊎_elim
      (λ (h : cost_to s t k.variables.items st.part.spot ≡ Some q.0). inl (ap (λ z. and_then z st.part.how) (h ∙ sym q.1) ∙ e))
      (λ (h : q.0 ≡ m). inr (subst (λ z. IsLe m z) (sym q.2) (subst (λ z. IsLe z (add q.0 st.part.how)) h (le_more st.part.how q.0))))
      (spots st.part.spot q.0 q.1)

  -- and it still costs what it did
  still_spot : (p : Spot) (c : Cost) → cost_to s t k.variables.items p ≡ Some c → cost_to s t k'.variables.items p ≡ Some c
  still_spot p c e = go p (written s p) refl e
    where
      go : (p : Spot) (o : Option ℕ) → written s p ≡ o → cost_by s t k.variables.items p (written s p) ≡ Some c
          → cost_by s t k'.variables.items p (written s p) ≡ Some c
      go p (Some a) w e = ap (λ z. cost_by s t k'.variables.items p z) w ∙ (sym (ap (λ z. cost_by s t k.variables.items p z) w) ∙ e)
      go (Variable y) None w e = ap (λ z. cost_by s t k'.variables.items (Variable y) z) w
          ∙ old y c (sym (ap (λ z. cost_by s t k.variables.items (Variable y) z) w) ∙ e)
      go (Command l) None w e = absurd (none-some c (sym (ap (λ z. cost_by s t k.variables.items (Command l) z) w) ∙ e))
      go (Level j l) None w e = absurd (none-some c (sym (ap (λ z. cost_by s t k.variables.items (Level j l) z) w) ∙ e))

  still : (st : Step) (d : Cost) → PartCosts s t k.variables.items st.part d → PartCosts s t k'.variables.items st.part d
  still st d e =
      let q = step_from (cost_to s t k.variables.items st.part.spot) st.part.how d e in
      ap (λ z. and_then z st.part.how) (still_spot st.part.spot q.0 q.1 ∙ sym q.1) ∙ e

  found_of : (y : ℕ) → IsNew s k.variables.items v.variables.items y m → (st : Step) × Contains (steps_of s) st × SideCosts s t k.variables.items y st m
  found_of y n =
      let f = found_first s t k.variables.items v S y n.found n.at in
      (n.found.step, first_in (steps_of s) f.before f.after n.found.step f.is, subst (λ z. SideCosts s t k.variables.items y n.found.step z) n.cost f.has)

  -- a step to a label that is not known costs m or more
  late_old : (y : ℕ) (st : Step) (d : Cost) → written s (Variable y) ≡ None → slice_index_or k.variables.items y None ≡ None → y < length k.variables.items
      → Contains (steps_of s) st → SideCosts s t k.variables.items y st d → IsLe m d
  late_old y st d w u l c h =
      let f = found_some s t k.variables.items v S y st d l c h in
      le_trans m f.0.cost d (L.1 y f.0.cost l (record { omitted = w; unknown = u; found = f.0; at = f.1; cost = refl })) f.2

  -- past the variables nothing is omitted
  module _ (past : (y : ℕ) → written s (Variable y) ≡ None → y < length k.variables.items) where
    pub distance_goes : IsDistance s t k'.variables.items m
    distance_goes = record {
      there = λ y c w e. ⊎_elim
          (λ (h : slice_index_or k.variables.items y None ≡ Some c). let q = D.there y c w h in (q.0, q.1, (q.2.0, still q.0 c q.2.1)))
          (λ (h : (c ≡ m) × ((y < length k.variables.items) × IsNew s k.variables.items v.variables.items y m)).
          let q = found_of y h.1.1 in
          (q.0, q.1, (q.2.0, still q.0 c (subst (λ z. PartCosts s t k.variables.items q.0.part z) (sym h.0) q.2.1))))
          (which y c e);
      least = λ y c d st w e i x. ⊎_elim
          (λ (h : PartCosts s t k.variables.items st.part d). ⊎_elim
          (λ (g : slice_index_or k.variables.items y None ≡ Some c). D.least y c d st w g i (x.0, h))
          (λ (g : (c ≡ m) × ((y < length k.variables.items) × IsNew s k.variables.items v.variables.items y m)). subst
          (λ z. IsLe z d) (sym g.0) (late_old y st d w g.1.1.unknown g.1.0 i (x.0, h)))
          (which y c e))
          (λ (h : IsLe m d). ⊎_elim
          (λ (g : slice_index_or k.variables.items y None ≡ Some c). le_trans c m d (le_trans c now m (D.low y c w g) rises) h)
          (λ (g : (c ≡ m) × ((y < length k.variables.items) × IsNew s k.variables.items v.variables.items y m)). subst (λ z. IsLe z d) (sym g.0) h)
          (which y c e))
          (costs st d x.1);
      late = λ y d st w e i x. ⊎_elim
          (λ (h : PartCosts s t k.variables.items st.part d). late_old y st d w (unknown y e) (past y w) i (x.0, h))
          (λ (h : IsLe m d). h)
          (costs st d x.1);
      low = λ y c w e. ⊎_elim
          (λ (h : slice_index_or k.variables.items y None ≡ Some c). le_trans c now m (D.low y c w h) rises)
          (λ (h : (c ≡ m) × ((y < length k.variables.items) × IsNew s k.variables.items v.variables.items y m)). le_is c m h.0)
          (which y c e);
    }
      where
        unknown : (y : ℕ) → slice_index_or k'.variables.items y None ≡ None → slice_index_or k.variables.items y None ≡ None
        unknown y e = go (slice_index_or k.variables.items y None) refl
          where
            go : (o : Option Cost) → slice_index_or k.variables.items y None ≡ o → slice_index_or k.variables.items y None ≡ None
            go None a = a
            go (Some c) a = absurd (none-some c (sym e ∙ old y c a))

  stays : Stay k.variables.items k'.variables.items
  unfolding Stay
  stays y c e = (c, old y c e)

  pub count_goes : count_none k'.variables.items < count_none k.variables.items
  count_goes = count_falls k.variables.items k'.variables.items L.0.0 m N.fit stays L.0.2.unknown (N.set L.0.0 L.0.1 L.0.2) L.0.1

  -- the new cost is one step more than one that was known
  m_few : (m.faint ≤ m.steps) × (m.steps + count_none k'.variables.items ≤ length k'.variables.items)
  m_few =
      let n = L.0.2 in
      let f = found_first s t k.variables.items v S L.0.0 n.found n.at in
      let q = step_from (cost_to s t k.variables.items n.found.step.part.spot) n.found.step.part.how n.found.cost f.has.1 in
      let u : (q.0.faint ≤ q.0.steps) × (q.0.steps + count_none k.variables.items ≤ length k.variables.items) = spot_few n.found.step.part.spot q.0 q.1 in
      let is : m ≡ add q.0 n.found.step.part.how = sym n.cost ∙ q.2 in
      let steps : m.steps ≡ 1 + q.0.steps = ap (λ (z : Cost). z.steps) is in
      let less = count_goes in
      let fit = N.fit in
      let few = u.1 in
      (subst (λ (z : Cost). z.faint ≤ z.steps) (sym is) (faint_add n.found.step.part.how q.0 u.0), omega (arith, steps, less, fit, few))
    where
      start : (c : Cost) (b : Bool) → cond b (Some nothing_yet) None ≡ Some c
          → (c.faint ≤ c.steps) × (c.steps + count_none k.variables.items ≤ length k.variables.items)
      start c true e = let o = count_le k.variables.items in
          subst (λ (z : Cost). (z.faint ≤ z.steps) × (z.steps + count_none k.variables.items ≤ length k.variables.items)) (same_Some nothing_yet c e)
          (omega arith, omega (arith, o))
      start c false e = absurd (none-some c e)

      by : (p : Spot) (c : Cost) (o : Option ℕ) → cost_by s t k.variables.items p o ≡ Some c
          → (c.faint ≤ c.steps) × (c.steps + count_none k.variables.items ≤ length k.variables.items)
      by p c (Some a) e = start c (is_high s t a) e
      by (Variable y) c None e = F y c e
      by (Command l) c None e = absurd (none-some c e)
      by (Level j l) c None e = absurd (none-some c e)

      spot_few : (p : Spot) (c : Cost) → cost_to s t k.variables.items p ≡ Some c
          → (c.faint ≤ c.steps) × (c.steps + count_none k.variables.items ≤ length k.variables.items)
      spot_few p c e = by p c (written s p) e

  pub few_goes : AreFew k'.variables.items
  few_goes y c e = ⊎_elim
      (λ (h : slice_index_or k.variables.items y None ≡ Some c).
      let q = F y c h in
      let o = q.1 in
      let less = count_goes in
      let fit = N.fit in
      (q.0, omega (arith, o, less, fit)))
      (λ (h : (c ≡ m) × ((y < length k.variables.items) × IsNew s k.variables.items v.variables.items y m)).
      subst (λ (z : Cost). (z.faint ≤ z.steps) × (z.steps + count_none k'.variables.items ≤ length k'.variables.items)) (sym h.0) m_few)
      (which y c e)

  pub known_goes : IsKnownOf s t k'
  known_goes = record {
    lattice = same ∙ K.lattice;
    fit = N.fit ∙ K.fit;
    room = K.room;
    starts = λ y a l w. N.kept y (λ i n. none-some a (sym n.omitted ∙ w)) ∙ K.starts y a (let f = N.fit in omega (arith, l, f)) w;
    few = λ y c e.
        let q = few_goes y c e in
        let few = q.1 in
        let fit = N.fit in
        let own = K.fit in
        let room = K.room in
        (q.0, omega (arith, few, fit, own, room));
  }

-- a cost that is known is not great
pub few_at : (s : Syntax) (t : Target) (k : Known) → IsKnownOf s t k → (y : ℕ) (o : Option Cost) → y < length k.variables.items
    → o ≡ get_or k.variables.items y o → IfSome o (λ c. (c.faint ≤ c.steps) × (c.steps ≤ 4294967295))
few_at s t k K y None l e = tt
few_at s t k K y (Some c) l e = K.few y c (get_same k.variables.items y None (Some c) l ∙ sym e)

-- a guess at the cost of an omitted label
pub guessed : (s : Syntax) (t : Target) (k k' : Known) (y : ℕ) (c : Cost) → written s (Variable y) ≡ None → y < length k.variables.items → c.faint ≤ c.steps
    → c.steps ≤ 4294967295 → k'.variables.items ≡ slice_set k.variables.items y (Some c) → k'.lattice ≡ k.lattice →
    IsKnownOf s t k → IsKnownOf s t k'
guessed s t k k' y c w l h i is same K = record {
  lattice = same ∙ K.lattice;
  fit = ap length is ∙ length-set k.variables.items y (Some c) ∙ K.fit;
  room = K.room;
  starts = λ z a j v. ⊎_elim
      (λ (q : z ≡ y). absurd (none-some a (sym w ∙ (ap (λ u. written s (Variable u)) (sym q) ∙ v))))
      (λ (q : z ≡ y → ⊥). other z q ∙ K.starts z a (shorter z j) v)
      (cases_eq z y);
  few = λ z d e. ⊎_elim
      (λ (q : z ≡ y). subst (λ (u : Cost). (u.faint ≤ u.steps) × (u.steps ≤ 4294967295)) (same_Some c d (sym (own z q) ∙ e)) (h, i))
      (λ (q : z ≡ y → ⊥). K.few z d (sym (other z q) ∙ e))
      (cases_eq z y);
}
  where
    other : (z : ℕ) → (z ≡ y → ⊥) → slice_index_or k'.variables.items z None ≡ slice_index_or k.variables.items z None
    other z q = ap (λ u. slice_index_or u z None) is ∙ get_or-set_other k.variables.items y z (Some c) None q

    own : (z : ℕ) → z ≡ y → slice_index_or k'.variables.items z None ≡ Some c
    own z q = ap (λ u. slice_index_or k'.variables.items u None) q
        ∙ (ap (λ u. slice_index_or u y None) is ∙ get_or-set_same k.variables.items y (Some c) None l)

    shorter : (z : ℕ) → z < length k'.variables.items → z < length k.variables.items
    shorter z j = subst (λ u. z < u) (ap length is ∙ length-set k.variables.items y (Some c)) j

-- what is known is what was found
pub agreed : (s : Syntax) (t : Target) (k : Known) (v : Sides) → IsKnownOf s t k → AreSides s t k.variables.items (conditions_of s) v
    → ((y : ℕ) → y < length k.variables.items → Agrees s k.variables.items v.variables.items y) → AreSettled s t v
agreed s t k v K S A = record {
  costs = k.variables.items;
  fit = K.fit;
  sides = S;
  goes = λ y f w e. sym (A y (found_within s t k.variables.items v S y f e) w) ∙ ap (λ z. option_map (λ (u : Found). u.cost) z) e;
  back = λ y c w e. back y c (slice_index_or v.variables.items y None) refl (A y (within_some k.variables.items y c e) w ∙ e);
}
  where
    back : (y : ℕ) (c : Cost) (o : Option Found) → slice_index_or v.variables.items y None ≡ o
        → option_map (λ (u : Found). u.cost) (slice_index_or v.variables.items y None) ≡ Some c
        → (f : Found) × (slice_index_or v.variables.items y None ≡ Some f) × (f.cost ≡ c)
    back y c None a b = absurd (none-some c (sym (ap (λ z. option_map (λ (u : Found). u.cost) z) a) ∙ b))
    back y c (Some f) a b = (f, a, same_Some f.cost c (sym (ap (λ z. option_map (λ (u : Found). u.cost) z) a) ∙ b))

pub agreed_by : (s : Syntax) (t : Target) (k : Known) (v : Sides) (ds : List (Option Cost)) (vs : List (Option Found)) → ds ≡ k.variables.items
    → vs ≡ v.variables.items → IsKnownOf s t k → AreSides s t k.variables.items (conditions_of s) v →
    ((y : ℕ) → y < length ds → Agrees s ds vs y) → AreSettled s t v
agreed_by s t k v ds vs e f K S A =
    agreed s t k v K S (subst (λ z. (y : ℕ) → y < length k.variables.items
    → Agrees s k.variables.items z y) f (subst (λ z. (y : ℕ) → y < length z → Agrees s z vs y) e A))

-- nothing more is found
pub settles : (s : Syntax) (t : Target) (k : Known) (now : Cost) (v : Sides) → IsKnownOf s t k → IsDistance s t k.variables.items now
    → AreSides s t k.variables.items (conditions_of s) v →
    IsLeastNew s k.variables.items v.variables.items (length k.variables.items) None → AreSettled s t v
settles s t k now v K D S L = record {
  costs = k.variables.items;
  fit = K.fit;
  sides = S;
  goes = λ y f w e. goes y f w e (slice_index_or k.variables.items y None) refl;
  back = λ y c w e.
      let q = D.there y c w e in
      let f = found_some s t k.variables.items v S y q.0 c (within_some k.variables.items y c e) q.1 q.2 in
      (f.0, f.1, same_Some f.0.cost c (sym (goes y f.0 w f.1 (slice_index_or k.variables.items y None) refl) ∙ e));
}
  where
    goes : (y : ℕ) (f : Found) → written s (Variable y) ≡ None → slice_index_or v.variables.items y None ≡ Some f → (o : Option Cost)
        → slice_index_or k.variables.items y None ≡ o → slice_index_or k.variables.items y None ≡ Some f.cost
    goes y f w e None a = absurd (L y f.cost (found_within s t k.variables.items v S y f e) (record {
      omitted = w;
      unknown =
          a;
      found = f;
      at = e;
      cost = refl;
    }))
    goes y f w e (Some c) a =
        let h = found_first s t k.variables.items v S y f e in
        let q = D.there y c w a in
        let up = D.least y c f.cost f.step w a (first_in (steps_of s) h.before h.after f.step h.is) h.has in
        let down = h.least q.0 c q.1 q.2 in
        let b = le_both c f.cost up down in
        a ∙ ap Some (cost_is c f.cost b.0 b.1)

-- of two new costs the less one
module _ (s : Syntax) (ds : List (Option Cost)) (vs : List (Option Found)) (n : ℕ) where
  same_new : (y : ℕ) (c d : Cost) → IsNew s ds vs y c → IsNew s ds vs y d → c ≡ d
  same_new y c d h k = sym h.cost ∙ ap (λ (z : Found). z.cost) (same_Some h.found k.found (sym h.at ∙ k.at)) ∙ k.cost

  cases_next : (P : ℕ → Type 0) → ((y : ℕ) → y < n → P y) → P n → (y : ℕ) → y < n + 1 → P y
  cases_next P h k y l = ⊎_elim (λ (q : y < n). h y q) (λ (q : n ≤ y). let e : n ≡ y = omega (arith, q, l) in subst (λ z. P z) e k) (cases_lt y n)

  pub less_none : IsLeastNew s ds vs n None → IsNewAt s ds vs n None → IsLeastNew s ds vs (n + 1) None
  less_none h k y c l w = cases_next (λ z. IsNew s ds vs z c → ⊥) (λ z q. h z c q) (k c) y l w

  pub less_new : (b : Cost) → IsLeastNew s ds vs n None → IsNew s ds vs n b → IsLeastNew s ds vs (n + 1) (Some b)
  less_new b h k = (
    (n, omega arith, k),
    λ y c l w. cases_next (λ z. IsNew s ds vs z c → IsLe b c) (λ z q i. absurd (h z c q i)) (λ i. le_is b c (same_new n b c k i)) y l w,
  )

  pub less_old : (a : Cost) → IsLeastNew s ds vs n (Some a) → IsNewAt s ds vs n None → IsLeastNew s ds vs (n + 1) (Some a)
  less_old a h k =
      let q = h.0.1 in (
        (h.0.0, omega (arith, q), h.0.2),
        λ y c l w. cases_next (λ z. IsNew s ds vs z c → IsLe a c) (λ z q i. h.1 z c q i) (λ i. absurd (k c i)) y l w,
      )

  pub less_keeps : (a b : Cost) → IsLeastNew s ds vs n (Some a) → IsNew s ds vs n b → IsLe a b → IsLeastNew s ds vs (n + 1) (Some a)
  less_keeps a b h k e =
      let q = h.0.1 in (
        (h.0.0, omega (arith, q), h.0.2),
        λ y c l w. cases_next (λ z. IsNew s ds vs z c → IsLe a c) (λ z q i. h.1 z c q i) (λ i. subst (λ z. IsLe a z) (same_new n b c k i) e) y l w,
      )

  pub less_takes : (a b : Cost) → IsLeastNew s ds vs n (Some a) → IsNew s ds vs n b → IsLess b a → IsLeastNew s ds vs (n + 1) (Some b)
  less_takes a b h k e = (
    (n, omega arith, k),
    λ y c l w. cases_next (λ z. IsNew s ds vs z c → IsLe b c) (λ z q i. le_trans b a c (less_le b a e) (h.1 z c q i))
        (λ i. le_is b c (same_new n b c k i)) y l w,
  )

  pub less_first : (o : Option Cost) → IsLeastNew s ds vs n None → IsNewAt s ds vs n o → IsLeastNew s ds vs (n + 1) o
  less_first None h k = less_none h k
  less_first (Some b) h k = less_new b h k

-- one more variable is set, or left
module _ (s : Syntax) (ds : List (Option Cost)) (vs : List (Option Found)) (m : Cost) (n : ℕ) (ds' : List (Option Cost)) (N : IsSetBy s ds vs m n ds') where
  here : slice_index_or ds' n None ≡ slice_index_or ds n None
  here = N.kept n (λ l w. omega (arith, l))

  pub new_there : IsNew s ds' vs n m → IsNew s ds vs n m
  new_there w = record { omitted = w.omitted; unknown = sym here ∙ w.unknown; found = w.found; at = w.at; cost = w.cost }

  pub new_here : IsNew s ds vs n m → IsNew s ds' vs n m
  new_here w = record { omitted = w.omitted; unknown = here ∙ w.unknown; found = w.found; at = w.at; cost = w.cost }

  pub set_skips : (IsNew s ds' vs n m → ⊥) → IsSetBy s ds vs m (n + 1) ds'
  set_skips h = record {
    fit = N.fit;
    set = λ y l w. ⊎_elim (λ (q : y < n). N.set y q w) (λ (q : n ≤ y). let e : y ≡ n = omega (arith, q, l) in
        absurd (h (new_here (subst (λ z. IsNew s ds vs z m) e w)))) (cases_lt y n);
    kept = λ y w. N.kept y (λ l i. w (omega (arith, l)) i);
  }

  pub set_more : n < length ds → IsNew s ds' vs n m → IsSetBy s ds vs m (n + 1) (slice_set ds' n (Some m))
  set_more l h =
      let fit = N.fit in
      let at : n < length ds' = omega (arith, l, fit) in
      record {
        fit = length-set ds' n (Some m) ∙ N.fit;
        set = λ y i w. ⊎_elim
            (λ (q : y ≡ n). subst (λ z. slice_index_or (slice_set ds' n (Some m)) z None ≡ Some m) (sym q) (get_or-set_same ds' n (Some m) None at))
            (λ (q : y ≡ n → ⊥). get_or-set_other ds' n y (Some m) None q ∙ N.set y (below y i q) w)
            (cases_eq y n);
        kept = λ y w. ⊎_elim
            (λ (q : y ≡ n). absurd (w (let e = q in omega (arith, e)) (subst (λ z. IsNew s ds vs z m) (sym q) (new_there h))))
            (λ (q : y ≡ n → ⊥). get_or-set_other ds' n y (Some m) None q ∙ N.kept y (λ i j. w (omega (arith, i)) j))
            (cases_eq y n);
      }
    where
      below : (y : ℕ) → y < n + 1 → (y ≡ n → ⊥) → y < n
      below y i q = ⊎_elim (λ (a : y < n). a) (λ (a : n ≤ y). absurd (q (omega (arith, a, i)))) (cases_lt y n)

pub set_none : (s : Syntax) (ds : List (Option Cost)) (vs : List (Option Found)) (m : Cost) → IsSetBy s ds vs m 0 ds
set_none s ds vs m = record { fit = refl; set = λ y l w. absurd (omega (arith, l)); kept = λ y w. refl }

-- one turn of the search
pub turned : (s : Syntax) (t : Target) (k k' : Known) (v : Sides) (m : Cost) (ds : List (Option Cost)) (vs vs' : List (Option Found)) (o : Option Cost)
    → ds ≡ k.variables.items → vs ≡ v.variables.items → vs' ≡ v.variables.items → o ≡ Some m →
    IsLeastNew s ds vs (length ds) o → IsSetBy s k.variables.items vs' m (length k.variables.items) k'.variables.items → k'.lattice ≡ k.lattice
    → IsKnownOf s t k → AreFew k.variables.items → (now : Cost) × IsDistance s t k.variables.items now → AreSides s t k.variables.items (conditions_of s) v →
    IsKnownOf s t k' × AreFew k'.variables.items × ((now : Cost) × IsDistance s t k'.variables.items now)
    × (count_none k'.variables.items < count_none k.variables.items)
turned s t k k' v m ds vs vs' o e f g h L N same K F D S =
    let L0 = subst (λ z. IsLeastNew s z vs (length z) o) e L in
    let L1 = subst (λ z. IsLeastNew s k.variables.items z (length k.variables.items) o) f L0 in
    let L2 = subst (λ z. IsLeastNew s k.variables.items v.variables.items (length k.variables.items) z) h L1 in
    let N1 = subst (λ z. IsSetBy s k.variables.items z m (length k.variables.items) k'.variables.items) g N in (
      known_goes s t k k' K F D.0 D.1 v S m L2 N1 same,
      few_goes s t k k' K F D.0 D.1 v S m L2 N1 same,
      (m, distance_goes s t k k' K F D.0 D.1 v S m L2 N1 same (λ y w. let i = omitted_within s y w in let j = K.fit in omega (arith, i, j))),
      count_goes s t k k' K F D.0 D.1 v S m L2 N1 same,
    )

pub all_settled : (s : Syntax) (t : Target) (k : Known) (v : Sides) (ds : List (Option Cost)) (vs : List (Option Found)) (o : Option Cost)
    → ds ≡ k.variables.items → vs ≡ v.variables.items → o ≡ None → IsLeastNew s ds vs (length ds) o → IsKnownOf s t k →
    (now : Cost) × IsDistance s t k.variables.items now → AreSides s t k.variables.items (conditions_of s) v → AreSettled s t v
all_settled s t k v ds vs o e f h L K D S =
    let L0 = subst (λ z. IsLeastNew s z vs (length z) o) e L in
    let L1 = subst (λ z. IsLeastNew s k.variables.items z (length k.variables.items) o) f L0 in
    settles s t k D.0 v K D.1 S (subst (λ z. IsLeastNew s k.variables.items v.variables.items (length k.variables.items) z) h L1)
