-- The first of the cheapest items of a list.
use Rattle.std.proofs.Common.{◌≡◌, ℕ, zero, suc, ◌<◌, refl, sym, ap, ◌∙◌, subst, List, [], ◌∷◌, ◌++◌, map, length, arith, append_assoc, append-nil}
use Rattle.std.proofs.Common.{⊎_elim, replicate, slice_set, length-set, get_or-set_same, get_or-set_other}
use Rattle.std.specs.Prelude.{Option, None, Some, Contains, slice_index_or}
use Rattle.std.proofs.lemmas.Option.{none-some, same_Some}
use Rattle.std.proofs.lemmas.Bool.{cases_eq}
use Rattle.std.proofs.lemmas.List.{length-replicate}
use Rattle.std.proofs.lemmas.List.Elements.{Contains-append_right, Contains-append_cases}
use Rattle.flow_path.specs.declared.step.Part.{Part}
use Rattle.flow_path.specs.declared.step.Step.{Step}
use Rattle.flow_path.specs.declared.step.Spot.{Spot}
use Rattle.text_base.specs.declared.pos.Pos.{Pos}
use Rattle.label_lattice.specs.declared.label.Label.{Label}
use Rattle.timing_types.specs.declared.rule.Rule.{Rule}
use Rattle.mit_syntax.specs.Program.{Syntax}
use Rattle.flow_path.specs.declared.step.Spot.TheVariants.{Variable, Command, Level}
use Rattle.flow_path.specs.declared.cost.Cost.{Cost}
use Rattle.flow_path.specs.declared.target.Target.{Target}
use Rattle.flow_path.specs.declared.target.Target.TheVariants.{Broken, From}
use Rattle.flow_path.specs.declared.best.Best.{Best}
use Rattle.flow_path.specs.declared.sides.Found.{Found}
use Rattle.flow_path.specs.declared.sides.Sides.{Sides}
use Rattle.flow_path.specs.Steps.{to, all_of}
use Rattle.flow_path.specs.Costs.{IsLe, IsLess}
use Rattle.flow_path.specs.Distances.{IsFirst, HaveNone, cost_to, and_then, PartCosts, SideCosts, GoalCosts, IsBest, best_by, IsFound}
use Rattle.flow_path.specs.Distances.{IsFoundIn, IsFoundFirst, IsGoalFound, AreSides}
use Rattle.flow_path.proofs.Base.{all_append}
use Rattle.flow_path.proofs.Costing.{le_refl, le_trans, less_le, less_then}

number_of : Spot → ℕ
number_of (Variable y) = y
number_of (Command l) = 0
number_of (Level k l) = 0

same_variable : (y z : ℕ) → Variable y ≡ Variable z → y ≡ z
unfolding number_of
same_variable y z e = ap number_of e

map_append : {A : Type 0} {B : Type 0} (g : A → B) (xs ys : List A) → map g (xs ++ ys) ≡ map g xs ++ map g ys
map_append g [] ys = refl
map_append g (x ∷ xs) ys = ap (λ z. g x ∷ z) (map_append g xs ys)

contains_map : {A : Type 0} {B : Type 0} (g : A → B) (xs : List A) (y : B) → Contains (map g xs) y → (x : A) × Contains xs x × (g x ≡ y)
contains_map g [] y c = let q = c.1 in absurd (omega (arith, q))
contains_map g (x ∷ xs) y (zero, l, e) = (x, (0, omega arith, refl), e)
contains_map g (x ∷ xs) y (suc k, l, e) =
    let r = contains_map g xs y (k, omega (arith, l), e) in
    (r.0, Contains-append_right (x ∷ []) xs r.0 r.1, r.2)

module _ (A : Type 0) (V : A → Cost → Type 0) where
  pub none_append : (xs ys : List A) → HaveNone V xs → HaveNone V ys → HaveNone V (xs ++ ys)
  none_append xs ys h k y d c v = ⊎_elim (λ (q : Contains xs y). h y d q v) (λ (q : Contains ys y). k y d q v) (Contains-append_cases xs ys y c)

  pub first_left : (xs ys : List A) (x : A) (c : Cost) → IsFirst V xs x c → ((y : A) (d : Cost) → Contains ys y → V y d → IsLe c d) → IsFirst V (xs ++ ys) x c
  first_left xs ys x c f h = record {
    before = f.before;
    after = f.after ++ ys;
    is = ap (λ z. z ++ ys) f.is ∙ append_assoc f.before (x ∷ f.after) ys;
    has = f.has;
    dearer = f.dearer;
    least = λ y d i v. ⊎_elim (λ (q : Contains xs y). f.least y d q v) (λ (q : Contains ys y). h y d q v) (Contains-append_cases xs ys y i);
  }

  pub first_right : (xs ys : List A) (x : A) (c : Cost) → ((y : A) (d : Cost) → Contains xs y → V y d → IsLess c d)
      → IsFirst V ys x c → IsFirst V (xs ++ ys) x c
  first_right xs ys x c h f = record {
    before = xs ++ f.before;
    after = f.after;
    is = ap (λ z. xs ++ z) f.is ∙ sym (append_assoc xs f.before (x ∷ f.after));
    has = f.has;
    dearer = λ y d i v. ⊎_elim (λ (q : Contains xs y). h y d q v) (λ (q : Contains f.before y). f.dearer y d q v) (Contains-append_cases xs f.before y i);
    least = λ y d i v. ⊎_elim (λ (q : Contains xs y). less_le c d (h y d q v)) (λ (q : Contains ys y). f.least y d q v) (Contains-append_cases xs ys y i);
  }

-- the steps by one more condition
module _ (V : Part → Cost → Type 0) (W : Step → Cost → Type 0) (g : Part → Step) (there : (p : Part) (d : Cost) → V p d
    → W (g p) d) (back : (p : Part) (d : Cost) → W (g p) d → V p d) where
  up : (ps : List Part) (P : Cost → Type 0) → ((p : Part) (d : Cost) → Contains ps p → V p d → P d) → (y : Step) (d : Cost)
      → Contains (map g ps) y → W y d → P d
  up ps P h y d c w = let r = contains_map g ps y c in h r.0 d r.1 (back r.0 d (subst (λ z. W z d) (sym r.2) w))

  none_map : (ps : List Part) → HaveNone V ps → HaveNone W (map g ps)
  none_map ps h y d c w = up ps (λ z. ⊥) (λ p e i v. h p e i v) y d c w

  first_map : (ps : List Part) (p : Part) (c : Cost) → IsFirst V ps p c → IsFirst W (map g ps) (g p) c
  first_map ps p c f = record {
    before = map g f.before;
    after = map g f.after;
    is = ap (λ z. map g z) f.is ∙ map_append g f.before (p ∷ f.after);
    has = there p c f.has;
    dearer = λ y d i w. up f.before (λ z. IsLess c z) f.dearer y d i w;
    least = λ y d i w. up ps (λ z. IsLe c z) f.least y d i w;
  }

  pub then_none : (ss : List Step) (ps : List Part) (o : Option Found) → HaveNone V ps → IsFound W ss o → IsFound W (ss ++ map g ps) o
  then_none ss ps None h k = none_append Step W ss (map g ps) k (none_map ps h)
  then_none ss ps (Some f) h k = first_left Step W ss (map g ps) f.step f.cost k (λ y d c w. absurd (none_map ps h y d c w))

  pub then_first : (ss : List Step) (ps : List Part) (p : Part) (c : Cost) → HaveNone W ss → IsFirst V ps p c → IsFirst W (ss ++ map g ps) (g p) c
  then_first ss ps p c h f = first_right Step W ss (map g ps) (g p) c (λ y d i w. absurd (h y d i w)) (first_map ps p c f)

  pub then_take : (ss : List Step) (ps : List Part) (p : Part) (c : Cost) (x : Step) (e : Cost) → IsFirst W ss x e → IsLess c e → IsFirst V ps p c
      → IsFirst W (ss ++ map g ps) (g p) c
  then_take ss ps p c x e k l f = first_right Step W ss (map g ps) (g p) c (λ y d i w. less_then c e d l (k.least y d i w)) (first_map ps p c f)

  pub then_keep : (ss : List Step) (ps : List Part) (p : Part) (c : Cost) (x : Step) (e : Cost) → IsFirst W ss x e → IsLe e c → IsFirst V ps p c
      → IsFirst W (ss ++ map g ps) x e
  then_keep ss ps p c x e k l f = first_left Step W ss (map g ps) x e k (λ y d i w. le_trans e c d l ((first_map ps p c f).least y d i w))

-- the parts of two lists
module _ (s : Syntax) (t : Target) (ds : List (Option Cost)) where
  abbrev V : Part → Cost → Type 0
  V = PartCosts s t ds

  both_left : (ps qs : List Part) (b : Best) → IsBest s t ds ps (Some b) → ((y : Part) (d : Cost) → Contains qs y → PartCosts s t ds y d → IsLe b.cost d)
      → IsBest s t ds (ps ++ qs) (Some b)
  both_left ps qs b h k = first_left Part V ps qs b.part b.cost h k

  both_right : (ps qs : List Part) (b : Best) → ((y : Part) (d : Cost) → Contains ps y → PartCosts s t ds y d → IsLess b.cost d) → IsBest s t ds qs (Some b)
      → IsBest s t ds (ps ++ qs) (Some b)
  both_right ps qs b k h = first_right Part V ps qs b.part b.cost k h

  -- a left side that is empty
  pub then_right : (ps qs : List Part) (o : Option Best) → HaveNone (PartCosts s t ds) ps → IsBest s t ds qs o → IsBest s t ds (ps ++ qs) o
  then_right ps qs None h k = none_append Part V ps qs h k
  then_right ps qs (Some b) h k = both_right ps qs b (λ y d c v. absurd (h y d c v)) k

  pub then_left : (ps qs : List Part) (b : Best) → IsBest s t ds ps (Some b) → HaveNone (PartCosts s t ds) qs → IsBest s t ds (ps ++ qs) (Some b)
  then_left ps qs b h k = both_left ps qs b h (λ y d c v. absurd (k y d c v))

  pub the_less : (ps qs : List Part) (a b : Best) → IsBest s t ds ps (Some a) → IsBest s t ds qs (Some b) → IsLess b.cost a.cost
      → IsBest s t ds (ps ++ qs) (Some b)
  the_less ps qs a b h k l = both_right ps qs b (λ y d c v. less_then b.cost a.cost d l (h.least y d c v)) k

  pub the_same : (ps qs : List Part) (a b : Best) → IsBest s t ds ps (Some a) → IsBest s t ds qs (Some b) → IsLe a.cost b.cost
      → IsBest s t ds (ps ++ qs) (Some a)
  the_same ps qs a b h k l = both_left ps qs a h (λ y d c v. le_trans a.cost b.cost d l (k.least y d c v))

  -- one part
  only_in : (p y : Part) → Contains (p ∷ []) y → p ≡ y
  only_in p y (zero, l, e) = e
  only_in p y (suc k, l, e) = absurd (omega (arith, l))

  only_best : (p : Part) (o : Option Cost) → and_then (cost_to s t ds p.spot) p.how ≡ o → IsBest s t ds (p ∷ []) (best_by p o)
  only_best p None e = λ y d c v. none-some d (sym (ap (λ (z : Part). and_then (cost_to s t ds z.spot) z.how) (sym (only_in p y c)) ∙ e) ∙ v)
  only_best p (Some c) e = record {
    before = [];
    after = [];
    is = refl;
    has = e;
    dearer = λ y d i v. let q = i.1 in absurd (omega (arith, q));
    least = λ y d i v.
        let same : c ≡ d = same_Some c d (sym (ap (λ (z : Part). and_then (cost_to s t ds z.spot) z.how) (sym (only_in p y i)) ∙ e) ∙ v) in
        subst (λ z. IsLe c z) same (le_refl c);
  }

  pub single_best : (p : Part) → IsBest s t ds (p ∷ []) (best_by p (and_then (cost_to s t ds p.spot) p.how))
  single_best p = only_best p (and_then (cost_to s t ds p.spot) p.how) refl

  -- no parts
  pub nothing_best : IsBest s t ds [] None
  nothing_best y d c v = let q = c.1 in omega (arith, q)

-- the step by a condition from a part
abbrev pub step_at : Rule → Pos → Spot → Part → Step
step_at r q side p = record { rule = r; pos = q; part = p; side = side }

-- steps by a condition that has no cost
pub then_skips : (W : Step → Cost → Type 0) (r : Rule) (q : Pos) (side : Spot) (ss : List Step) (ps : List Part) (o : Option Found)
    → ((p : Part) (d : Cost) → W (step_at r q side p) d → ⊥) → IsFound W ss o → IsFound W (ss ++ to r q side ps) o
then_skips W r q side ss ps o h k = go o k
  where
    none : HaveNone W (map (step_at r q side) ps)
    none y d i w = let n = contains_map (step_at r q side) ps y i in h n.0 d (subst (λ z. W z d) (sym n.2) w)

    go : (o : Option Found) → IsFound W ss o → IsFound W (ss ++ map (step_at r q side) ps) o
    go None k = none_append Step W ss (map (step_at r q side) ps) k none
    go (Some f) k = first_left Step W ss (map (step_at r q side) ps) f.step f.cost k (λ y d i w. absurd (none y d i w))

-- with one more condition
pub more_of : (bs : List (List Step)) (b : List Step) → all_of (bs ++ (b ∷ [])) ≡ all_of bs ++ b
more_of bs b = all_append bs (b ∷ []) ∙ ap (λ z. all_of bs ++ z) (append-nil b)

pub more_found : (W : Step → Cost → Type 0) (bs : List (List Step)) (b : List Step) (o : Option Found) → IsFound W (all_of bs ++ b) o
    → IsFound W (all_of (bs ++ (b ∷ []))) o
more_found W bs b o h = subst (λ z. IsFound W z o) (sym (more_of bs b)) h

-- those to where a chain is to end
module _ (s : Syntax) (ds : List (Option Cost)) (bs : List (List Step)) (b : List Step) where
  -- one was found
  pub keeps_first : (t : Target) (f : Found) → IsFoundIn s t ds bs f → IsFoundIn s t ds (bs ++ (b ∷ [])) f
  keeps_first t f h = record {
    before = h.before;
    block = h.block;
    after = h.after ++ (b ∷ []);
    is = ap (λ z. z ++ (b ∷ [])) h.is ∙ append_assoc h.before (h.block ∷ h.after) (b ∷ []);
    none = h.none;
    first = h.first;
  }

  -- a chain may not end by it
  skips_first : (t : Target) (o : Option Found) → HaveNone (GoalCosts s t ds) b → IsFoundFirst s t ds bs o → IsFoundFirst s t ds (bs ++ (b ∷ [])) o
  skips_first t None n h = subst (λ z. HaveNone (GoalCosts s t ds) z) (sym (more_of bs b)) (none_append Step (GoalCosts s t ds) (all_of bs) b h n)
  skips_first t (Some f) n h = keeps_first t f h

  -- none was found, and by this condition one is
  pub takes_first : (t : Target) (o : Option Found) → HaveNone (GoalCosts s t ds) (all_of bs) → IsFound (GoalCosts s t ds) b o
      → IsFoundFirst s t ds (bs ++ (b ∷ [])) o
  takes_first t None n h = subst (λ z. HaveNone (GoalCosts s t ds) z) (sym (more_of bs b)) (none_append Step (GoalCosts s t ds) (all_of bs) b n h)
  takes_first t (Some f) n h = record { before = bs; block = b; after = []; is = refl; none = n; first = h }

  pub goal_skips : (t : Target) (o : Option Found) → HaveNone (GoalCosts s t ds) b → IsGoalFound s t ds bs o → IsGoalFound s t ds (bs ++ (b ∷ [])) o
  goal_skips (Broken rule pos allowed) o n h = skips_first (Broken rule pos allowed) o n h
  goal_skips (From spot label) None n h = more_found (GoalCosts s (From spot label) ds) bs b None
      (none_append Step (GoalCosts s (From spot label) ds) (all_of bs) b h n)
  goal_skips (From spot label) (Some f) n h = more_found (GoalCosts s (From spot label) ds) bs b (Some f)
      (first_left Step (GoalCosts s (From spot label) ds) (all_of bs) b f.step f.cost h (λ y d i w. absurd (n y d i w)))

-- where none is found no step has a cost, and one that is found has its own
pub goal_none : (s : Syntax) (t : Target) (ds : List (Option Cost)) (bs : List (List Step)) → IsGoalFound s t ds bs None
    → HaveNone (GoalCosts s t ds) (all_of bs)
goal_none s (Broken rule pos allowed) ds bs h = h
goal_none s (From spot label) ds bs h = h

pub goal_has : (s : Syntax) (t : Target) (ds : List (Option Cost)) (bs : List (List Step)) (f : Found) → IsGoalFound s t ds bs (Some f)
    → GoalCosts s t ds f.step f.cost
goal_has s (Broken rule pos allowed) ds bs f h = h.first.has
goal_has s (From spot label) ds bs f h = h.has

goal_begins : (s : Syntax) (t : Target) (ds : List (Option Cost)) → IsGoalFound s t ds [] None
goal_begins s (Broken rule pos allowed) ds = λ y d c w. let q = c.1 in omega (arith, q)
goal_begins s (From spot label) ds = λ y d c w. let q = c.1 in omega (arith, q)

-- in a list of no items none has a cost
pub none_in : (A : Type 0) (V : A → Cost → Type 0) → HaveNone V []
none_in A V y d c w = let q = c.1 in omega (arith, q)

-- the same of a target that is one of the two
module _ (s : Syntax) (t : Target) where
  pub there_keeps : (r : Rule) (q : Pos) (a : Label) → t ≡ Broken r q a → (ds : List (Option Cost)) (bs : List (List Step)) (b : List Step) (f : Found)
      → IsGoalFound s t ds bs (Some f) → IsGoalFound s t ds (bs ++ (b ∷ [])) (Some f)
  there_keeps r q a is ds bs b f h =
      subst (λ z. IsGoalFound s z ds (bs ++ (b ∷ [])) (Some f)) (sym is)
      (keeps_first s ds bs b (Broken r q a) f (subst (λ z. IsGoalFound s z ds bs (Some f)) is h))

  pub there_takes : (r : Rule) (q : Pos) (a : Label) → t ≡ Broken r q a → (ds : List (Option Cost)) (bs : List (List Step)) (b : List Step) (o : Option Found)
      → IsGoalFound s t ds bs None → IsFound (GoalCosts s t ds) b o → IsGoalFound s t ds (bs ++ (b ∷ [])) o
  there_takes r q a is ds bs b o h k =
      subst (λ z. IsGoalFound s z ds (bs ++ (b ∷ [])) o) (sym is)
      (takes_first s ds bs b (Broken r q a) o (subst (λ z. IsGoalFound s z ds bs None) is h) (subst (λ z. IsFound (GoalCosts s z ds) b o) is k))

  pub there_goes : (p : Spot) (l : Label) → t ≡ From p l → (ds : List (Option Cost)) (bs : List (List Step)) (b : List Step) (o r : Option Found)
      → IsGoalFound s t ds bs o → (IsFound (GoalCosts s t ds) (all_of bs) o → IsFound (GoalCosts s t ds) (all_of bs ++ b) r)
      → IsGoalFound s t ds (bs ++ (b ∷ [])) r
  there_goes p l is ds bs b o r h k =
      subst (λ z. IsGoalFound s z ds (bs ++ (b ∷ [])) r) (sym is)
      (more_found (GoalCosts s (From p l) ds) bs b r (subst (λ z. IsFound (GoalCosts s z ds) (all_of bs ++ b) r) is
      (k (subst (λ z. IsFound (GoalCosts s z ds) (all_of bs) o) (sym is) (subst (λ z. IsGoalFound s z ds bs o) is h)))))

pub no_steps_by : (W : Step → Cost → Type 0) (r : Rule) (q : Pos) (side : Spot) (ps : List Part) → ((p : Part) (d : Cost) → W (step_at r q side p) d → ⊥)
    → HaveNone W (to r q side ps)
no_steps_by W r q side ps h y d i w = let n = contains_map (step_at r q side) ps y i in h n.0 d (subst (λ z. W z d) (sym n.2) w)

-- the steps by one more condition
module _ (s : Syntax) (t : Target) (ds : List (Option Cost)) (bs : List (List Step)) (ps : List Part) (r : Rule) (q : Pos) (side : Spot) (v : Sides)
    (S : AreSides s t ds bs v) (w : Sides) (goal : IsGoalFound s t ds (bs ++ (to r q side ps ∷ [])) w.goal) where
  abbrev ss : List Step
  ss = all_of bs

  pub add_side : (y : ℕ) → side ≡ Variable y → y < length v.variables.items → (o : Option Found)
      → IsFound (SideCosts s t ds y) (all_of bs ++ to r q side ps) o
      → w.variables.items ≡ slice_set v.variables.items y o → w.goal ≡ w.goal →
      AreSides s t ds (bs ++ (to r q side ps ∷ [])) w
  add_side y at l o found is _ = record {
    fit = ap length is ∙ length-set v.variables.items y o ∙ S.fit;
    goal = goal;
    each = λ z i. more_found (SideCosts s t ds z) bs (to r q side ps) (slice_index_or w.variables.items z None)
        (subst (λ u. IsFound (SideCosts s t ds z) (ss ++ to r q side ps) (slice_index_or u z None)) (sym is)
        (⊎_elim
        (λ (e : z ≡ y).
        subst (λ u. IsFound (SideCosts s t ds u) (ss ++ to r q side ps) (slice_index_or (slice_set v.variables.items y o) u None)) (sym e)
        (subst (λ u. IsFound (SideCosts s t ds y) (ss ++ to r q side ps) u) (sym (get_or-set_same v.variables.items y o None l)) found))
        (λ (e : z ≡ y → ⊥).
        subst (λ u. IsFound (SideCosts s t ds z) (ss ++ to r q side ps) u) (sym (get_or-set_other v.variables.items y z o None e))
        (then_skips (SideCosts s t ds z) r q side ss ps (slice_index_or v.variables.items z None) (λ p d x. e (same_variable z y (sym x.0 ∙ at))) (S.each z i)))
        (cases_eq z y)));
  }

  pub skip_side : ((y : ℕ) → y < length v.variables.items → side ≡ Variable y → ⊥) → w.variables.items ≡ v.variables.items → w.goal ≡ w.goal
      → AreSides s t ds (bs ++ (to r q side ps ∷ [])) w
  skip_side none is _ = record {
    fit = ap length is ∙ S.fit;
    goal = goal;
    each = λ z i. more_found (SideCosts s t ds z) bs (to r q side ps) (slice_index_or w.variables.items z None)
        (subst (λ u. IsFound (SideCosts s t ds z) (ss ++ to r q side ps) (slice_index_or u z None)) (sym is)
        (then_skips (SideCosts s t ds z) r q side ss ps (slice_index_or v.variables.items z None)
        (λ p d x. none z (let f = S.fit in omega (arith, i, f)) x.0) (S.each z i)));
  }

abbrev no_found : Option Found
no_found = None

none_at : (n y : ℕ) → slice_index_or (replicate n no_found) y no_found ≡ no_found
none_at zero y = refl
none_at (suc n) zero = refl
none_at (suc n) (suc y) = none_at n y

-- those by no conditions
pub sides_begin : (s : Syntax) (t : Target) (ds : List (Option Cost)) (n : ℕ) (v : Sides) → length ds ≡ n → v.goal ≡ None
    → v.variables.items ≡ replicate n None → AreSides s t ds [] v
sides_begin s t ds n v e goal is = record {
  fit = ap length is ∙ length-replicate n None ∙ sym e;
  goal = subst (λ z. IsGoalFound s t ds [] z) (sym goal) (goal_begins s t ds);
  each = λ y i. subst (λ z. IsFound (SideCosts s t ds y) [] (slice_index_or z y None)) (sym is)
      (subst (λ z. IsFound (SideCosts s t ds y) [] z) (sym (none_at n y)) (λ u d c w. let q = c.1 in omega (arith, q)));
}

-- where no write label is written, there are no steps by the condition on it
pub label_added : (s : Syntax) (t : Target) (ds : List (Option Cost)) (bs : List (List Step)) (v : Sides) → AreSides s t ds bs v
    → AreSides s t ds (bs ++ ([] ∷ [])) v
label_added s t ds bs v h =
    let none : HaveNone (GoalCosts s t ds) [] = λ y d c w. let q = c.1 in absurd (omega (arith, q)) in
    record {
      fit = h.fit;
      goal = goal_skips s ds bs [] t v.goal none h.goal;
      each = λ y l. more_found (SideCosts s t ds y) bs [] (slice_index_or v.variables.items y None)
          (subst (λ z. IsFound (SideCosts s t ds y) z (slice_index_or v.variables.items y None)) (sym (append-nil (all_of bs))) (h.each y l));
    }
