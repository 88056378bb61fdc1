-- What one step keeps, and what holds once no condition waits.
use Rattle.std.proofs.Common.{◌≡◌, ℕ, zero, suc, ◌+◌, ◌<◌, ◌≤◌, refl, sym, ap, ◌∙◌, subst, List, [], ◌∷◌, length, get_or, slice_set, arith, ⊎_elim}
use Rattle.std.proofs.Common.{length-set, get_or-set_same, get_or-set_other, append-nil}
use Rattle.std.specs.Prelude.{Bool, true, false, cond, ◌||◌, Option, None, Some, slice_get, is_none}
use Rattle.std.proofs.lemmas.Bool.{cases_lt, cases_eq, both_ways, or_parts}
use Rattle.std.proofs.lemmas.Option.{none-some, same_Some, slice_get_within}
use Rattle.label_lattice.specs.declared.label.Label.{Label}
use Rattle.label_lattice.specs.Lattice.{Lattice, Flows, IsLattice}
use Rattle.label_lattice.specs.Order.{Order, lattice_of}
use Rattle.mit_syntax.specs.Declarations.{Declaration, Cell, elements, cells_of, cells, variables, cell_at}
use Rattle.mit_syntax.specs.Program.{Syntax, plan_of}
use Rattle.mit_syntax.specs.Valid.{IsBelow, IsValid}
use Rattle.std.proofs.lemmas.List.Elements.{All-get_or}
use Rattle.timing_types.specs.Walk.{Side, OfCommand, OfVariable, OfLevel, conditions, Meets}
use Rattle.timing_types.specs.Labelling.{Labelling, label_at, variable_of, marks_of, level_of, IsKept}
use Rattle.label_infer.specs.declared.constraints.Condition.{Condition}
use Rattle.label_infer.specs.Least.{Labels, is_unwritten, is_free, is_omitted, MeetsOmitted, IsLeast}
use Rattle.label_infer.specs.Given.{AllFrom, written_levels, own_pairs, KeepsVariables}
use Rattle.label_infer.specs.Constraints.{value_from, value, fixed, Constraint, right_of, AllMet, label_or, written_in, constraints_of}
use Rattle.label_infer.specs.ConstraintsOf.{constraint_of, constraints_in}
use Rattle.label_infer.specs.Work.{Work, waits_at, have_in, woken, joined, taken_side, Takes, IsDone, IsWorkOf, IsInferred}
use Rattle.label_infer.proofs.Completed.{lattice_laws, labels_from, least_from, written_at}
use Rattle.label_infer.proofs.Values.{base_up, has_up, value_least, value_up, fixed_value}
use Rattle.label_infer.proofs.Fill.{fill, fills}
use Rattle.label_infer.proofs.Placed.{from_map, from_pair, from_all, length_levels}
use Rattle.label_infer.proofs.Ranges.{joins_below}
use Rattle.label_infer.proofs.Right.{Each, all_both, IsOpen, IsRight, all_open}
use Rattle.label_infer.proofs.Seen.{Hold, seen, kept_hold, hold_meet, seen_hold, hold_seen, constraints_seen}
use Rattle.label_infer.proofs.Forms.{guarded}
use Rattle.label_infer.proofs.OfForms.{constraints_at}

-- a variable without a written label is one
free_within : (cs : List Cell) (x : ℕ) → is_unwritten (slice_get cs x) ≡ true → x < length cs
free_within [] x h = absurd (both_ways false refl h)
free_within (c ∷ cs) zero h = omega arith
free_within (c ∷ cs) (suc x) h = let q = free_within cs x h in omega (arith, q)

pub small_of : (ds : List Declaration) (x : ℕ) → is_free ds x ≡ true → x < variables ds
small_of ds x h = free_within (cells ds) x h

past_at : (cs : List Cell) (x : ℕ) (d : Cell) → length cs ≤ x → get_or cs x d ≡ d
past_at [] x d h = refl
past_at (c ∷ cs) zero d h = absurd (omega (arith, h))
past_at (c ∷ cs) (suc x) d h = past_at cs x d (omega (arith, h))

pub past_label : (bottom : ℕ) (ls : List Label) (x : ℕ) → length ls ≤ x → label_at bottom ls x ≡ bottom
past_label bottom [] x h = refl
past_label bottom (l ∷ ls) zero h = absurd (omega (arith, h))
past_label bottom (l ∷ ls) (suc x) h = past_label bottom ls x (omega (arith, h))

-- the labels that keep what is written, at variables with a written label
pub keeps_of : (s : Syntax) (vs : List Label) → KeepsVariables s vs → (x : ℕ) → is_free s.declarations x ≡ false
    → label_at s.order.bottom vs x ≡ written_in s.declarations s.order.bottom x
keeps_of s vs kv x f =
    let d : Cell = record { name = []; label = None; place = None } in
    let fit = kv.fit in
    ⊎_elim
    (λ (i : x < variables s.declarations).
    let w = written_at (cells s.declarations) x d i f in
    let k : IsKept (Some w.0) (label_at s.order.bottom vs x) = subst (λ z. IsKept z (label_at s.order.bottom vs x)) w.1 (kv.kept x i) in
    k ∙ sym (ap (λ z. label_or z s.order.bottom) w.1))
    (λ (i : variables s.declarations ≤ x).
    past_label s.order.bottom vs x (omega (arith, fit, i)) ∙ sym (ap (λ (c : Cell). label_or c.label s.order.bottom) (past_at (cells s.declarations) x d i)))
    (cases_lt x (variables s.declarations))

module _ (s : Syntax) (valid : IsValid s) where
  abbrev lat : Lattice
  lat = lattice_of s.order

  ll : IsLattice (lattice_of s.order)
  ll = lattice_laws s.order valid.order

  abbrev b : ℕ
  b = s.order.bottom

  abbrev nv : ℕ
  nv = variables s.declarations

  -- the constraints as the walk that joins the guards into the time gives them
  as_guarded : constraints_of s ≡ guarded lat (is_free s.declarations) (written_in s.declarations b) (plan_of s) (fixed b) (fixed b)
  as_guarded = sym (constraints_at lat ll (is_free s.declarations) (written_in s.declarations b) (plan_of s))

  -- the conditions of a labelling with omitted right sides, as constraints
  constraints_met : (l : Labelling) → Labels s l → MeetsOmitted s l → AllMet lat nv (variable_of s.order l) (level_of s.order l) (constraints_of s)
  constraints_met l h m =
      let g = variable_of s.order l in
      let lv = level_of s.order l in
      let ds = s.declarations in
      let w = written_in ds b in
      let keeps = keeps_of s l.variables (record { fit = h.keeps.variables_fit; below = h.keeps.variables_below; kept = h.keeps.declared }) in
      let tree = fills lat g lv (marks_of s.order l) (plan_of s) 0 b h.own in
      let met = subst (λ z. Meets lat (is_omitted ds) (conditions lat g z b b)) tree m in
      let holds = kept_hold lat ds (conditions lat g (fill lat g lv (plan_of s) b) b b) met in
      let fv = fixed_value lat ll nv g b in
      let is = ap (seen lat ll nv g lv ds w (small_of ds) keeps) as_guarded
      ∙ constraints_seen lat ll nv g lv ds w (small_of ds) keeps (plan_of s) (fixed b) (fixed b) b b fv fv in
      hold_seen lat ll nv g lv ds w (small_of ds) keeps (constraints_of s) (subst (λ z. Hold lat z) (sym is) holds)

  constraints_back : (l : Labelling) → Labels s l → AllMet lat nv (variable_of s.order l) (level_of s.order l) (constraints_of s) → MeetsOmitted s l
  constraints_back l h m =
      let g = variable_of s.order l in
      let lv = level_of s.order l in
      let ds = s.declarations in
      let w = written_in ds b in
      let keeps = keeps_of s l.variables (record { fit = h.keeps.variables_fit; below = h.keeps.variables_below; kept = h.keeps.declared }) in
      let tree = fills lat g lv (marks_of s.order l) (plan_of s) 0 b h.own in
      let fv = fixed_value lat ll nv g b in
      let is = ap (seen lat ll nv g lv ds w (small_of ds) keeps) as_guarded
      ∙ constraints_seen lat ll nv g lv ds w (small_of ds) keeps (plan_of s) (fixed b) (fixed b) b b fv fv in
      let holds = subst (λ z. Hold lat z) is (seen_hold lat ll nv g lv ds w (small_of ds) keeps (constraints_of s) m) in
      let met = hold_meet lat ds (conditions lat g (fill lat g lv (plan_of s) b) b b) holds in
      subst (λ z. Meets lat (is_omitted ds) (conditions lat g z b b)) (sym tree) met

-- of a list by place
all_at : {A : Type 0} (P : A → Type 0) (xs : List A) (i : ℕ) (x : A) → Each P xs → slice_get xs i ≡ Some x → P x
all_at P [] i x h e = absurd (none-some x e)
all_at P (y ∷ xs) zero x h e = subst (λ z. P z) (same_Some y x e) h.0
all_at P (y ∷ xs) (suc i) x h e = all_at P xs i x h.1 e

all_from : {A : Type 0} (P : A → Type 0) (xs : List A) → ((i : ℕ) (x : A) → slice_get xs i ≡ Some x → P x) → Each P xs
all_from P [] h = tt
all_from P (x ∷ xs) h = (h 0 x refl, all_from P xs (λ i y e. h (suc i) y e))

constraint_at : (cs : List Condition) (i : ℕ) (c : Condition) → slice_get cs i ≡ Some c → slice_get (constraints_in cs) i ≡ Some (constraint_of c)
constraint_at [] i c e = absurd (none-some c e)
constraint_at (d ∷ cs) zero c e = ap (λ z. Some (constraint_of z)) (same_Some d c e)
constraint_at (d ∷ cs) (suc i) c e = constraint_at cs i c e

met_at : (lat : Lattice) (n : ℕ) (g lv : ℕ → ℕ) (ns : List Constraint) (i : ℕ) (x : Constraint) → AllMet lat n g lv ns → slice_get ns i ≡ Some x
    → Flows lat (value lat n g x.have) (right_of g lv x.side)
met_at la n g lv [] i x h e = absurd (none-some x e)
met_at la n g lv (y ∷ ns) zero x h e = subst (λ z. Flows la (value la n g z.have) (right_of g lv z.side)) (same_Some y x e) h.0
met_at la n g lv (y ∷ ns) (suc i) x h e = met_at la n g lv ns i x h.1 e

met_from : (lat : Lattice) (n : ℕ) (g lv : ℕ → ℕ) (cs : List Condition)
    → ((i : ℕ) (c : Condition) → slice_get cs i ≡ Some c → Flows lat (value lat n g (constraint_of c).have) (right_of g lv (constraint_of c).side))
    → AllMet lat n g lv (constraints_in cs)
met_from la n g lv [] h = tt
met_from la n g lv (c ∷ cs) h = (h 0 c refl, met_from la n g lv cs (λ i d e. h (suc i) d e))

-- labels, where one is set
pub set_same : (b : ℕ) (ls : List Label) (x v : ℕ) → x < length ls → label_at b (slice_set ls x (record { number = v })) x ≡ v
set_same b ls x v h = let low : Label = record { number = b } in let new : Label = record { number = v } in ap (λ z. z.number) (get_or-set_same ls x new low h)

pub set_other : (b : ℕ) (ls : List Label) (x y v : ℕ) → (y ≡ x → ⊥) → label_at b (slice_set ls x (record { number = v })) y ≡ label_at b ls y
set_other b ls x y v h = let low : Label = record { number = b } in let new : Label = record { number = v } in
    ap (λ z. z.number) (get_or-set_other ls x y new low h)

wait_same : (ws : List Bool) (i : ℕ) → i < length ws → waits_at (slice_set ws i false) i ≡ false
wait_same ws i h = get_or-set_same ws i false false h

wait_other : (ws : List Bool) (i j : ℕ) → (j ≡ i → ⊥) → waits_at (slice_set ws i false) j ≡ waits_at ws j
wait_other ws i j h = get_or-set_other ws i j false false h

pub woken_length : (x : ℕ) (cs : List Condition) (ws : List Bool) → length (woken x cs ws) ≡ length ws
woken_length x [] ws = refl
woken_length x (c ∷ cs) [] = refl
woken_length x (c ∷ cs) (w ∷ ws) = ap suc (woken_length x cs ws)

pub woken_at : (x : ℕ) (cs : List Condition) (ws : List Bool) (j : ℕ) (c : Condition) → slice_get cs j ≡ Some c → j < length ws
    → waits_at (woken x cs ws) j ≡ (waits_at ws j || (constraint_of c).have.has x)
woken_at x [] ws j c e h = absurd (none-some c e)
woken_at x (d ∷ cs) [] j c e h = absurd (omega (arith, h))
woken_at x (d ∷ cs) (w ∷ ws) zero c e h = ap (λ z. w || (constraint_of z).have.has x) (same_Some d c e)
woken_at x (d ∷ cs) (w ∷ ws) (suc j) c e h = woken_at x cs ws j c e (omega (arith, h))

-- a value is a label, where its parts are
value_below : (lat : Lattice) (m : ℕ) (closed : (a b : ℕ) → a < m → b < m → lat.join a b < m) (g : ℕ → ℕ) (gb : (x : ℕ)
    → g x < m) (base : ℕ) (has : ℕ → Bool) (n : ℕ) → base < m → value_from lat g base has n < m
value_below lat m closed g gb base has zero h = h
value_below lat m closed g gb base has (suc n) h = go (has n) (value_below lat m closed g gb base has n h)
  where
    go : (v : Bool) → value_from lat g base has n < m → cond v (lat.join (value_from lat g base has n) (g n)) (value_from lat g base has n) < m
    go true k = closed _ _ k (gb n)
    go false k = k

elements_below : (n : ℕ) (w : List ℕ) (l : Option Label) (i k : ℕ) → IsBelow n l → Each (λ (c : Cell). IsBelow n c.label) (elements w l i k)
elements_below n w l i zero h = tt
elements_below n w l i (suc k) h = (h, elements_below n w l (i + 1) k h)

one_below : (n : ℕ) (w : List ℕ) (l : Option Label) (k : Option ℕ) → IsBelow n l → Each (λ (c : Cell). IsBelow n c.label) (cells_of w l k)
one_below n w l None h = (h, tt)
one_below n w l (Some k) h = elements_below n w l 0 k h

cells_below : (n : ℕ) (ds : List Declaration) → ((i : ℕ) (d : Declaration) → i < length ds → IsBelow n (get_or ds i d).1.label)
    → Each (λ (c : Cell). IsBelow n c.label) (cells ds)
cells_below n [] f = tt
cells_below n (d ∷ ds) f =
    all_both (λ (c : Cell). IsBelow n c.label) (cells_of d.0 d.1.label d.1.length) (cells ds) (one_below n d.0 d.1.label d.1.length (f 0 d (omega arith)))
    (cells_below n ds (λ i e h. f (suc i) e (omega (arith, h))))

each_get : {A : Type 0} (P : A → Type 0) (xs : List A) (x : ℕ) (d : A) → Each P xs → P d → P (get_or xs x d)
each_get P [] x d h k = k
each_get P (y ∷ xs) zero d h k = h.0
each_get P (y ∷ xs) (suc x) d h k = each_get P xs x d h.1 k

pub label_within : (s : Syntax) → IsValid s → (x : ℕ) → IsBelow s.order.size (cell_at s.declarations x).label
label_within s valid x =
    let n = s.order.size in
    each_get (λ (c : Cell). IsBelow n c.label) (cells s.declarations) x (record { name = []; label = None; place = None })
    (cells_below n s.declarations (λ i d h. All-get_or (λ (d : Declaration). IsBelow n d.1.label) s.declarations i d h valid.labels)) tt

or_below : (n b : ℕ) (l : Option Label) → b < n → IsBelow n l → label_or l b < n
or_below n b None h k = h
or_below n b (Some l) h k = k

pub written_below : (s : Syntax) → IsValid s → (x : ℕ) → written_in s.declarations s.order.bottom x < s.order.size
written_below s valid x = or_below s.order.size s.order.bottom (cell_at s.declarations x).label valid.order.table.some (label_within s valid x)

opens : (s : Syntax) → IsValid s → Each (IsOpen s.order.size (is_free s.declarations) (written_levels (plan_of s))) (constraints_of s)
opens s valid =
    let b = s.order.bottom in
    let some = valid.order.table.some in
    subst (Each (IsOpen s.order.size (is_free s.declarations) (written_levels (plan_of s)))) (sym (as_guarded s valid))
    (all_open (lattice_of s.order) s.order.size some (joins_below s.order valid.order) (is_free s.declarations) (written_in s.declarations b)
    (written_below s valid) (written_levels (plan_of s))
    s.declarations (plan_of s) (fixed b) (fixed b) 0 [] [] valid.known some some valid.numbered refl (sym (append-nil (written_levels (plan_of s)))))

pub open_at : (s : Syntax) → IsValid s → (cs : List Condition) → constraints_in cs ≡ constraints_of s → (i : ℕ) (c : Condition) → slice_get cs i ≡ Some c
    → IsOpen s.order.size (is_free s.declarations) (written_levels (plan_of s)) (constraint_of c)
open_at s valid cs is i c e =
    all_at (IsOpen s.order.size (is_free s.declarations) (written_levels (plan_of s))) (constraints_of s) i (constraint_of c) (opens s valid)
    (subst (λ z. slice_get z i ≡ Some (constraint_of c)) is (constraint_at cs i c e))

-- a written label is not that of an omitted one
pub not_free : (s : Syntax) (x : ℕ) → is_free s.declarations x ≡ true → (cell_at s.declarations x).label ≡ None
not_free s x h = go (cells s.declarations) x h
  where
    go : (cs : List Cell) (y : ℕ) → is_unwritten (slice_get cs y) ≡ true → (get_or cs y (record { name = []; label = None; place = None })).label ≡ None
    go [] y k = refl
    go (c ∷ cs) zero k = none c.label k
      where
        none : (o : Option Label) → is_none o ≡ true → o ≡ None
        none None k = refl
        none (Some l) k = absurd (both_ways false refl k)
    go (c ∷ cs) (suc y) k = go cs y k

abbrev pub work : Order → List Condition → List Bool → List Label → List Label → Work
work o cs ws vs ls = record { order = o; conditions = cs; waits = ws; variables = vs; levels = ls }

-- one step of the work of a program
module _ (s : Syntax) (valid : IsValid s) (cs : List Condition) (ws : List Bool) (vs ls : List Label) (h : IsWorkOf s (work s.order cs ws vs ls)) (i : ℕ)
    (c : Condition) (e : slice_get cs i ≡ Some c) where
  abbrev o : Order
  o = s.order

  abbrev la : Lattice
  la = lattice_of s.order

  lw : IsLattice (lattice_of s.order)
  lw = lattice_laws s.order valid.order

  abbrev bot : ℕ
  bot = s.order.bottom

  abbrev g : ℕ → ℕ
  g = label_at s.order.bottom vs

  abbrev lv : ℕ → ℕ
  lv = label_at s.order.bottom ls

  abbrev have : Constraint → ℕ
  have x = value (lattice_of s.order) (length vs) (label_at s.order.bottom vs) x.have

  abbrev v : ℕ
  v = value (lattice_of s.order) (length vs) (label_at s.order.bottom vs) (constraint_of c).have

  at_constraints : slice_get (constraints_of s) i ≡ Some (constraint_of c)
  at_constraints = subst (λ z. slice_get z i ≡ Some (constraint_of c)) h.conditions (constraint_at cs i c e)

  pub is_open : IsOpen s.order.size (is_free s.declarations) (written_levels (plan_of s)) (constraint_of c)
  is_open = open_at s valid cs h.conditions i c e

  pub v_below : v < s.order.size
  v_below = value_below la s.order.size (joins_below s.order valid.order) g h.variables.below (constraint_of c).have.base
      (constraint_of c).have.has (length vs) is_open.base

  -- the left side lies below the right side of each labelling that meets what is omitted
  v_low : (l : Labelling) → Labels s l → MeetsOmitted s l → Flows la v (right_of (variable_of s.order l) (level_of s.order l) (constraint_of c).side)
  v_low l hl m =
      let up = value_up la lw (length vs) g (variable_of s.order l) (h.low_variables l hl m) (constraint_of c).have in
      let met = met_at la (variables s.declarations) (variable_of s.order l) (level_of s.order l) (constraints_of s) i (constraint_of c)
      (constraints_met s valid l hl m) at_constraints in
      let met2 = subst (λ z. Flows la (value la z (variable_of s.order l) (constraint_of c).have)
      (right_of (variable_of s.order l) (level_of s.order l) (constraint_of c).side)) (sym h.variables.fit) met in
      lw.chain v _ _ up met2

  within : i < length ws
  within = let fit = h.fit in let q = slice_get_within cs i c e in omega (arith, fit, q)

  -- the condition holds already
  pub rests : Flows la v (right_of g lv (constraint_of c).side) → IsWorkOf s (work s.order cs (slice_set ws i false) vs ls)
  rests holds =
      record {
        order = refl;
        conditions = h.conditions;
        fit = length-set ws i false ∙ h.fit;
        variables = h.variables;
        levels = h.levels;
        settled = λ j d f k. ⊎_elim
            (λ (q : j ≡ i).
            let same : c ≡ d = same_Some c d (sym e ∙ subst (λ z. slice_get cs z ≡ Some d) q f) in
            subst (λ z. Flows la (have (constraint_of z)) (right_of g lv (constraint_of z).side)) same holds)
            (λ (q : j ≡ i → ⊥). h.settled j d f (sym (wait_other ws i j q) ∙ k))
            (cases_eq j i);
        low_variables = h.low_variables;
        low_levels = h.low_levels;
      }

  -- labels with one more joined
  joined_up : (xs : List Label) (x u : ℕ) → x < length xs → (y : ℕ) → Flows la (label_at bot xs y) (label_at bot (joined la bot xs x u) y)
  joined_up xs x u l y = ⊎_elim
      (λ (q : y ≡ x). subst (λ z. Flows la (label_at bot xs z) (label_at bot (joined la bot xs x u) z)) (sym q)
      (subst (λ z. Flows la (label_at bot xs x) z) (sym (set_same bot xs x (la.join (label_at bot xs x) u) l)) (lw.left (label_at bot xs x) u)))
      (λ (q : y ≡ x → ⊥). subst (λ z. Flows la (label_at bot xs y) z) (sym (set_other bot xs x y (la.join (label_at bot xs x) u) q))
      (lw.same (label_at bot xs y)))
      (cases_eq y x)

  joined_is : (xs : List Label) (x u : ℕ) → x < length xs → Flows la u (label_at bot (joined la bot xs x u) x)
  joined_is xs x u l = subst (λ z. Flows la u z) (sym (set_same bot xs x (la.join (label_at bot xs x) u) l)) (lw.right (label_at bot xs x) u)

  pub joined_below : (xs : List Label) (x u : ℕ) → x < length xs → u < s.order.size → ((y : ℕ) → label_at bot xs y < s.order.size) → (y : ℕ)
      → label_at bot (joined la bot xs x u) y < s.order.size
  joined_below xs x u l hu f y = ⊎_elim
      (λ (q : y ≡ x). subst (λ z. label_at bot (joined la bot xs x u) z < s.order.size) (sym q)
      (subst (λ z. z < s.order.size) (sym (set_same bot xs x (la.join (label_at bot xs x) u) l))
      (joins_below s.order valid.order (label_at bot xs x) u (f x) hu)))
      (λ (q : y ≡ x → ⊥). subst (λ z. z < s.order.size) (sym (set_other bot xs x y (la.join (label_at bot xs x) u) q)) (f y))
      (cases_eq y x)

  joined_low : (xs : List Label) (x u : ℕ) → x < length xs → (k : ℕ → ℕ) → ((y : ℕ) → Flows la (label_at bot xs y) (k y)) → Flows la u (k x) → (y : ℕ)
      → Flows la (label_at bot (joined la bot xs x u) y) (k y)
  joined_low xs x u l k f fu y = ⊎_elim
      (λ (q : y ≡ x). subst (λ z. Flows la (label_at bot (joined la bot xs x u) z) (k z)) (sym q)
      (subst (λ z. Flows la z (k x)) (sym (set_same bot xs x (la.join (label_at bot xs x) u) l)) (lw.least (label_at bot xs x) u (k x) (f x) fu)))
      (λ (q : y ≡ x → ⊥). subst (λ z. Flows la z (k y)) (sym (set_other bot xs x y (la.join (label_at bot xs x) u) q)) (f y))
      (cases_eq y x)

  kept_none : (o' : Option Label) (x y : ℕ) → o' ≡ None → IsKept o' x
  kept_none None x y q = tt
  kept_none (Some l) x y q = absurd (none-some l (sym q))

  -- it is on a level
  pub raises_level : (k : ℕ) (wr : Bool) → (constraint_of c).side ≡ OfLevel k wr → IsWorkOf s (work s.order cs (slice_set ws i false) vs (joined la bot ls k v))
  raises_level k wr side =
      let W = written_levels (plan_of s) in
      let right : (k < length W) × (get_or W k None ≡ None) = subst (λ z. IsRight (is_free s.declarations) W z) side is_open.side in
      let fit = h.levels.fit in
      let len = length_levels (plan_of s) in
      let q0 = right.0 in
      let l : k < length ls = omega (arith, fit, len, q0) in
      let ls' = joined la bot ls k v in
      let lv' : ℕ → ℕ = label_at bot ls' in
      let rup : (d : Side) → Flows la (right_of g lv d) (right_of g lv' d) = λ d. level_up d (joined_up ls k v l) in
      record {
        order = refl;
        conditions = h.conditions;
        fit = length-set ws i false ∙ h.fit;
        variables = h.variables;
        levels = record {
          fit = length-set ls k _ ∙ h.levels.fit;
          below = joined_below ls k v l v_below h.levels.below;
          kept = from_both_map W (λ j o'. IsKept o' (lv j)) (λ j o'. IsKept o' (lv' j)) (λ j o' at kp. ⊎_elim
              (λ (q : j ≡ k). kept_none o' (lv' j) 0 (sym at ∙ subst (λ z. get_or W z None ≡ None) (sym q) right.1))
              (λ (q : j ≡ k → ⊥). subst (λ z. IsKept o' z) (sym (set_other bot ls k j (la.join (lv k) v) q)) kp) (cases_eq j k)) h.levels.kept;
        };
        settled = λ j d f kk. ⊎_elim
            (λ (q : j ≡ i).
            let same : c ≡ d = same_Some c d (sym e ∙ subst (λ z. slice_get cs z ≡ Some d) q f) in
            subst (λ z. Flows la (have (constraint_of z)) (right_of g lv' (constraint_of z).side)) same
            (subst (λ z. Flows la v (right_of g lv' z)) (sym side) (joined_is ls k v l)))
            (λ (q : j ≡ i → ⊥). lw.chain _ _ _ (h.settled j d f (sym (wait_other ws i j q) ∙ kk)) (rup (constraint_of d).side))
            (cases_eq j i);
        low_variables = h.low_variables;
        low_levels = λ l' hl m. joined_low ls k v l (level_of s.order l') (h.low_levels l' hl m)
            (subst (λ z. Flows la v (right_of (variable_of s.order l') (level_of s.order l') z)) side (v_low l' hl m));
      }
    where
      level_up : (d : Side) → ((y : ℕ) → Flows la (lv y) (label_at bot (joined la bot ls k v) y))
          → Flows la (right_of g lv d) (right_of g (label_at bot (joined la bot ls k v)) d)
      level_up OfCommand f = lw.same 0
      level_up (OfVariable x) f = lw.same (g x)
      level_up (OfLevel j w) f = f j

      from_both_map : (W : List (Option Label)) (P Q : ℕ → Option Label → Type 0) → ((j : ℕ) (o' : Option Label) → get_or W j None ≡ o' → P j o' → Q j o')
          → AllFrom P 0 W → AllFrom Q 0 W
      from_both_map W P Q f a = from_map (λ j o'. (get_or W j None ≡ o') × P j o') Q (λ j o' r. f j o' r.0 r.1) W 0
          (from_pair (λ j o'. get_or W j None ≡ o') P W 0 (from_all W [] W [] 0 None (sym (append-nil W)) refl) a)

  -- it is on a variable's label, which rises
  pub raises_variable : (x : ℕ) → (constraint_of c).side ≡ OfVariable x
      → IsWorkOf s (work s.order cs (woken x cs (slice_set ws i false)) (joined la bot vs x v) ls)
  raises_variable x side =
      let ds = s.declarations in
      let free : is_free ds x ≡ true = subst (λ z. IsRight (is_free ds) (written_levels (plan_of s)) z) side is_open.side in
      let fit = h.variables.fit in
      let sm = small_of ds x free in
      let l : x < length vs = omega (arith, fit, sm) in
      let vs' = joined la bot vs x v in
      let g' : ℕ → ℕ = label_at bot vs' in
      let len' : length vs' ≡ length vs = length-set vs x _ in
      let ws1 = slice_set ws i false in
      let lws : length ws1 ≡ length ws = length-set ws i false in
      let have' : Constraint → ℕ = λ z. value la (length vs') g' z.have in
      let same_have : (d : Condition) → (constraint_of d).have.has x ≡ false → Flows la (have' (constraint_of d)) (have (constraint_of d)) = λ d out.
      let f = (constraint_of d).have in
      subst (λ z. Flows la (value la z g' f) (have (constraint_of d))) (sym len')
      (value_least la lw g' f.base f.has (length vs) (have (constraint_of d)) (base_up la lw g f.base f.has (length vs))
      (λ y j k.
      let other : y ≡ x → ⊥ = λ q. both_ways (f.has x) out (subst (λ z. f.has z ≡ true) q k) in
      subst (λ z. Flows la z (have (constraint_of d))) (sym (set_other bot vs x y (la.join (g x) v) other)) (has_up la lw g f.base f.has (length vs) y j k))) in
      record {
        order = refl;
        conditions = h.conditions;
        fit = woken_length x cs ws1 ∙ lws ∙ h.fit;
        variables = record {
          fit = len' ∙ h.variables.fit;
          below = joined_below vs x v l v_below h.variables.below;
          kept = λ y j. ⊎_elim
              (λ (q : y ≡ x). kept_none (cell_at ds y).label (g' y) 0 (subst (λ z. (cell_at ds z).label ≡ None) (sym q) (not_free s x free)))
              (λ (q : y ≡ x → ⊥). subst (λ z. IsKept (cell_at ds y).label z) (sym (set_other bot vs x y (la.join (g x) v) q)) (h.variables.kept y j))
              (cases_eq y x);
        };
        levels = h.levels;
        settled = λ j d f kk.
            let lj = slice_get_within cs j d f in
            let hfit = h.fit in
            let parts = or_parts (waits_at ws1 j) ((constraint_of d).have.has x) (sym (woken_at x cs ws1 j d f (omega (arith, lj, hfit, lws))) ∙ kk) in
            lw.chain _ _ _ (same_have d parts.1) (⊎_elim
            (λ (q : j ≡ i).
            let same : c ≡ d = same_Some c d (sym e ∙ subst (λ z. slice_get cs z ≡ Some d) q f) in
            subst (λ z. Flows la (have (constraint_of z)) (right_of g' lv (constraint_of z).side)) same
            (subst (λ z. Flows la v (right_of g' lv z)) (sym side) (joined_is vs x v l)))
            (λ (q : j ≡ i → ⊥). lw.chain _ _ _ (h.settled j d f (sym (wait_other ws i j q) ∙ parts.0))
            (variable_up (constraint_of d).side (joined_up vs x v l)))
            (cases_eq j i));
        low_variables = λ l' hl m. joined_low vs x v l (variable_of s.order l') (h.low_variables l' hl m)
            (subst (λ z. Flows la v (right_of (variable_of s.order l') (level_of s.order l') z)) side (v_low l' hl m));
        low_levels = h.low_levels;
      }
    where
      variable_up : (d : Side) → ((y : ℕ) → Flows la (g y) (label_at bot (joined la bot vs x v) y))
          → Flows la (right_of g lv d) (right_of (label_at bot (joined la bot vs x v)) lv d)
      variable_up OfCommand f = lw.same 0
      variable_up (OfVariable y) f = f y
      variable_up (OfLevel k w) f = lw.same (lv k)

  pub steps_on : IsWorkOf s (taken_side (work s.order cs ws vs ls) i v (constraint_of c).side)
  steps_on = go (constraint_of c).side refl
    where
      go : (d : Side) → (constraint_of c).side ≡ d → IsWorkOf s (taken_side (work s.order cs ws vs ls) i v d)
      go OfCommand q = h
      go (OfVariable x) q = by (la.flows v (g x)) refl
        where
          by : (t : Bool) → la.flows v (g x) ≡ t
              → IsWorkOf s (cond t (work s.order cs (slice_set ws i false) vs ls)
              (work s.order cs (woken x cs (slice_set ws i false)) (joined la bot vs x v) ls))
          by true k = rests (subst (λ z. Flows la v (right_of g lv z)) (sym q) k)
          by false k = raises_variable x q
      go (OfLevel k w) q = raises_level k w q

-- an item of the work, whatever its order's name
pub same_work : (w : Work) (o : Order) → w.order ≡ o → w ≡ work o w.conditions w.waits w.variables w.levels
same_work w o q = ap (λ z. work z w.conditions w.waits w.variables w.levels) q

-- one step keeps what the work is
pub still_work : (s : Syntax) → IsValid s → (w w' : Work) (i : ℕ) (c : Condition) → IsWorkOf s w → Takes w w' i c → IsWorkOf s w'
still_work s valid w w' i c h t =
    let q = same_work w s.order h.order in
    let h2 : IsWorkOf s (work s.order w.conditions w.waits w.variables w.levels) = subst (λ z. IsWorkOf s z) q h in
    let r = steps_on s valid w.conditions w.waits w.variables w.levels h2 i c t.there in
    subst (λ z. IsWorkOf s z) (sym (t.taken ∙ ap (λ z. taken_side z i (have_in z (constraint_of c)) (constraint_of c).side) q)) r

-- where no condition waits, the labels are those of the least labelling
done_is : (s : Syntax) → IsValid s → (cs : List Condition) (ws : List Bool) (vs ls : List Label) → IsWorkOf s (work s.order cs ws vs ls)
    → IsDone (work s.order cs ws vs ls) →
    (ms : List (Label × Label)) → Labels s (record { variables = vs; commands = ms; levels = ls })
    → IsLeast s (record { variables = vs; commands = ms; levels = ls })
done_is s valid cs ws vs ls h done ms labels =
    let la = lattice_of s.order in
    let g : ℕ → ℕ = label_at s.order.bottom vs in
    let lv : ℕ → ℕ = label_at s.order.bottom ls in
    let l : Labelling = record { variables = vs; commands = ms; levels = ls } in
    let met = met_from la (length vs) g lv cs (λ j d e. h.settled j d e (done j)) in
    let met2 = subst (λ z. AllMet la (length vs) g lv z) h.conditions met in
    let met3 = subst (λ z. AllMet la z g lv (constraints_of s)) h.variables.fit met2 in
    least_from s valid l labels (constraints_back s valid l labels met3) (λ l' h' m'. (h.low_variables l' h' m', h.low_levels l' h' m'))

pub least_done : (s : Syntax) → IsValid s → (w : Work) → IsWorkOf s w → IsDone w → (l : Labelling) → Labels s l → l.variables ≡ w.variables
    → l.levels ≡ w.levels → IsLeast s l
least_done s valid w h done l labels hv hl =
    let q = same_work w s.order h.order in
    let is : l ≡ record { variables = w.variables; commands = l.commands; levels = w.levels } =
    ap (λ z. record { variables = z; commands = l.commands; levels = l.levels }) hv
    ∙ ap (λ z. record { variables = w.variables; commands = l.commands; levels = z }) hl in
    subst (λ z. IsLeast s z) (sym is)
    (done_is s valid w.conditions w.waits w.variables w.levels (subst (λ z. IsWorkOf s z) q h) (subst (λ z. IsDone z) q done) l.commands
    (subst (λ z. Labels s z) is labels))

-- in particular they are the labels of each least labelling
pub inferred : (s : Syntax) → IsValid s → (w : Work) → IsWorkOf s w → IsDone w → IsInferred s w
inferred s valid w h done =
    let la = lattice_of s.order in
    let ll = lattice_laws s.order valid.order in
    let g0 : ℕ → ℕ = label_at s.order.bottom w.variables in
    let full = labels_from s valid w.variables w.levels (own_pairs la g0 (plan_of s) s.order.bottom) h.variables h.levels refl in
    let best = least_done s valid w h done (record {
      variables = w.variables;
      commands = own_pairs la g0 (plan_of s) s.order.bottom;
      levels =
          w.levels;
    }) full refl refl in
    let to : (o : Order) (x : ℕ) (xs : List Label) → o ≡ s.order → label_at o.bottom xs x ≡ label_at s.order.bottom xs x =
    λ o x xs q. ap (λ (z : Order). label_at z.bottom xs x) q in
    record {
      variables = λ l b x. to w.order x w.variables h.order
          ∙ ll.anti _ _ ((best.least l b.labels b.meets).variables x) ((b.least _ full best.meets).variables x);
      levels = λ l b x. to w.order x w.levels h.order ∙ ll.anti _ _ ((best.least l b.labels b.meets).levels x) ((b.least _ full best.meets).levels x);
    }
