-- The worklist before the first step is that of its program.
use Rattle.std.proofs.Common.{◌≡◌, ℕ, zero, suc, ◌<◌, ◌≤◌, refl, sym, ap, ◌∙◌, subst, List, [], ◌∷◌, ◌++◌, length, get_or, map, replicate, arith, ⊎_elim}
use Rattle.std.proofs.Common.{append-nil}
use Rattle.std.specs.Prelude.{Bool, true, false, is_none, Option, None, Some, slice_get, slice_index_or}
use Rattle.std.proofs.lemmas.Bool.{cases_Bool, cases_lt, both_ways}
use mathlib.Core.Path.{fun_ext}
use Rattle.label_lattice.specs.declared.label.Label.{Label}
use Rattle.label_lattice.specs.Lattice.{Flows}
use Rattle.label_lattice.specs.Order.{Order, lattice_of}
use Rattle.mit_syntax.specs.Todo.{Done, Skip, Assign, Put, Sleep, If, While, Mitigate}
use Rattle.mit_syntax.specs.Plan.{Plan}
use Rattle.mit_syntax.specs.Declarations.{Declaration, Cell, cells, variables, cell_at}
use Rattle.mit_syntax.specs.Program.{Syntax, plan_of}
use Rattle.mit_syntax.specs.Valid.{IsBelow, AreKnown, IsValid}
use Rattle.timing_types.specs.Labelling.{label_at, variable_of, level_of, marks_of, IsKept}
use Rattle.label_infer.specs.declared.written_labels.Known.{Known}
use Rattle.label_infer.specs.declared.constraints.Condition.{Condition}
use Rattle.label_infer.specs.Least.{is_unwritten, is_free}
use Rattle.label_infer.specs.Given.{written_levels, KeepsVariables, KeepsLevels}
use Rattle.label_infer.specs.First.{first_of, first_levels}
use Rattle.label_infer.specs.Constraints.{LeftSide, fixed, label_or, written_in, constraints}
use Rattle.label_infer.specs.ConstraintsOf.{free_of, written_of, constraints_from, constraints_in, side_of}
use Rattle.label_infer.specs.Work.{Work, waits_at, IsWorkOf, IsFirst, IsWithin, shares, shares_of}
use Rattle.label_infer.specs.declared.constraints.Target.{Target}
use Rattle.label_infer.specs.declared.constraints.Target.TheVariants.{Variable, Level}
use Rattle.label_infer.specs.Holds.{IsThere}
use Rattle.label_infer.proofs.Placed.{from_map, from_all, from_first, length_levels, levels_kept}
use Rattle.label_infer.proofs.Completed.{lattice_laws}
use Rattle.label_infer.proofs.Right.{Each, all_both, IsRight}
use Rattle.label_infer.proofs.Taking.{work, keeps_of, label_within, not_free, past_label, small_of, open_at}

first_number : (b : ℕ) (o : Option Label) → (first_of b o).number ≡ label_or o b
first_number b None = refl
first_number b (Some l) = refl

or_kept : (b : ℕ) (o : Option Label) (x : ℕ) → x ≡ label_or o b → IsKept o x
or_kept b None x h = tt
or_kept b (Some l) x h = h

or_below : (n b : ℕ) (o : Option Label) → b < n → IsBelow n o → label_or o b < n
or_below n b None h k = h
or_below n b (Some l) h k = k

map_at : (b : ℕ) (os : List (Option Label)) (x : ℕ) (d : Option Label) → x < length os → label_at b (map (first_of b) os) x ≡ label_or (get_or os x d) b
map_at b [] x d h = absurd (omega (arith, h))
map_at b (o ∷ os) zero d h = first_number b o
map_at b (o ∷ os) (suc x) d h = map_at b os x d (omega (arith, h))

map_length : (b : ℕ) (os : List (Option Label)) → length (map (first_of b) os) ≡ length os
map_length b [] = refl
map_length b (o ∷ os) = ap suc (map_length b os)

pub levels_below : (n : ℕ) (ds : List Declaration) (p : Plan) → AreKnown n ds p → Each (λ (o : Option Label). IsBelow n o) (written_levels p)
levels_below n ds Done k = tt
levels_below n ds (Skip w p) k = levels_below n ds p k.1
levels_below n ds (Assign w x e p) k = levels_below n ds p k.3
levels_below n ds (Put w f m i e p) k = levels_below n ds p k.4
levels_below n ds (Sleep w e p) k = levels_below n ds p k.2
levels_below n ds (If w e a b p) k =
    all_both (λ (o : Option Label). IsBelow n o) (written_levels a) (written_levels b ++ written_levels p) (levels_below n ds a k.4)
    (all_both (λ (o : Option Label). IsBelow n o) (written_levels b) (written_levels p) (levels_below n ds b k.5) (levels_below n ds p k.6))
levels_below n ds (While w e c p) k =
    all_both (λ (o : Option Label). IsBelow n o) (written_levels c) (written_levels p) (levels_below n ds c k.3) (levels_below n ds p k.4)
levels_below n ds (Mitigate w m l e c p) k =
    (k.1, all_both (λ (o : Option Label). IsBelow n o) (written_levels c) (written_levels p) (levels_below n ds c k.4) (levels_below n ds p k.5))

pub each_at : (n : ℕ) (os : List (Option Label)) (x : ℕ) → Each (λ (o : Option Label). IsBelow n o) os → IsBelow n (get_or os x None)
each_at n [] x h = tt
each_at n (o ∷ os) zero h = h.0
each_at n (o ∷ os) (suc x) h = each_at n os x h.1

all_wait : (n i : ℕ) → i < n → waits_at (replicate n true) i ≡ true
all_wait zero i h = absurd (omega (arith, h))
all_wait (suc n) zero h = refl
all_wait (suc n) (suc i) h = all_wait n i (omega (arith, h))

within_list : (cs : List Condition) (i : ℕ) (c : Condition) → slice_get cs i ≡ Some c → i < length cs
within_list [] i c e = absurd (none_some c e)
  where
    none_some : (c : Condition) → None ≡ Some c → ⊥
    none_some c e = cc
within_list (d ∷ cs) zero c e = omega arith
within_list (d ∷ cs) (suc i) c e = let q = within_list cs i c e in omega (arith, q)

past_free : (cs : List Cell) (x : ℕ) → length cs ≤ x → is_unwritten (slice_get cs x) ≡ false
past_free [] x h = refl
past_free (c ∷ cs) zero h = absurd (omega (arith, h))
past_free (c ∷ cs) (suc x) h = past_free cs x (omega (arith, h))

free_at : (cs : List Cell) (x : ℕ) (d : Cell) → x < length cs → is_unwritten (slice_get cs x) ≡ is_none (get_or cs x d).label
free_at [] x d h = absurd (omega (arith, h))
free_at (c ∷ cs) zero d h = refl
free_at (c ∷ cs) (suc x) d h = free_at cs x d (omega (arith, h))

past_or : (b : ℕ) (cs : List Cell) (x : ℕ) (d : Cell) → length cs ≤ x → d.label ≡ None → label_or (get_or cs x d).label b ≡ b
past_or b [] x d h e = ap (λ o. label_or o b) e
past_or b (c ∷ cs) zero d h e = absurd (omega (arith, h))
past_or b (c ∷ cs) (suc x) d h e = past_or b cs x d (omega (arith, h)) e

or_none : (b : ℕ) (o : Option Label) → is_none o ≡ true → label_or o b ≡ b
or_none b None h = refl
or_none b (Some l) h = absurd (both_ways false refl h)

past_get : (os : List (Option Label)) (x : ℕ) (d : Option Label) → length os ≤ x → get_or os x d ≡ d
past_get [] x d h = refl
past_get (o ∷ os) zero d h = absurd (omega (arith, h))
past_get (o ∷ os) (suc x) d h = past_get os x d (omega (arith, h))

module _ (s : Syntax) (valid : IsValid s) (k : Known) (ho : k.order.now ≡ s.order) (fit : length k.written.items ≡ variables s.declarations)
    (at : (x : ℕ) (d : Option Label) → x < variables s.declarations → slice_index_or k.written.items x d ≡ (cell_at s.declarations x).label) where
  abbrev b : ℕ
  b = s.order.bottom

  abbrev ds : List Declaration
  ds = s.declarations

  abbrev nowhere : Cell
  nowhere = record { name = []; label = None; place = None }

  same_free : (x : ℕ) → free_of k x ≡ is_free s.declarations x
  same_free x =
      let low : Label = record { number = k.order.now.bottom } in
      ⊎_elim
      (λ (i : x < variables ds). ap is_none (at x (Some low) i) ∙ sym (free_at (cells ds) x nowhere i))
      (λ (i : variables ds ≤ x). ap is_none (past_get k.written.items x (Some low) (omega (arith, fit, i))) ∙ sym (past_free (cells ds) x i))
      (cases_lt x (variables ds))

  same_written : (x : ℕ) → written_of k x ≡ written_in s.declarations s.order.bottom x
  same_written x =
      let low : Label = record { number = k.order.now.bottom } in
      let hb : k.order.now.bottom ≡ s.order.bottom = ap (λ (z : Order). z.bottom) ho in
      ⊎_elim
      (λ (i : x < variables ds). ap (λ o. label_or o k.order.now.bottom) (at x (Some low) i) ∙ ap (label_or (cell_at ds x).label) hb)
      (λ (i : variables ds ≤ x). ap (λ o. label_or o k.order.now.bottom) (past_get k.written.items x (Some low) (omega (arith, fit, i))) ∙ hb
      ∙ sym (past_or b (cells ds) x nowhere i refl))
      (cases_lt x (variables ds))

  same_constraints : (pc t : LeftSide)
      → constraints_from k (plan_of s) pc t
      ≡ constraints (lattice_of s.order) (is_free s.declarations) (written_in s.declarations s.order.bottom) (plan_of s) pc t
  same_constraints pc t =
      ap (λ (z : Order). constraints (lattice_of z) (free_of k) (written_of k) (plan_of s) pc t) ho
      ∙ ap (λ (z : ℕ → Bool). constraints (lattice_of s.order) z (written_of k) (plan_of s) pc t) (fun_ext same_free)
      ∙ ap (λ (z : ℕ → ℕ). constraints (lattice_of s.order) (is_free s.declarations) z (plan_of s) pc t) (fun_ext same_written)

  module _ (cs : List Condition) (ws : List Bool) (vs ls : List Label) (low : LeftSide) (hl : low ≡ fixed s.order.bottom)
      (hc : constraints_in cs ≡ constraints_from k (plan_of s) low low)
      (hw : ws ≡ replicate (length cs) true) (hv : vs ≡ map (first_of k.order.now.bottom) k.written.items)
      (hs : ls ≡ first_levels s.order.bottom (plan_of s)) where
    abbrev W : List (Option Label)
    W = written_levels (plan_of s)

    hv2 : vs ≡ map (first_of s.order.bottom) k.written.items
    hv2 = hv ∙ ap (λ (z : Order). map (first_of z.bottom) k.written.items) ho

    variable_is : (x : ℕ) → x < variables ds → label_at b vs x ≡ label_or (cell_at ds x).label b
    variable_is x i = ap (λ z. label_at b z x) hv2 ∙ map_at b k.written.items x None (omega (arith, i, fit)) ∙ ap (λ o. label_or o b) (at x None i)

    variables_fit : length vs ≡ variables ds
    variables_fit = ap length hv2 ∙ map_length b k.written.items ∙ fit

    kept_variables : KeepsVariables s vs
    kept_variables =
        let some = valid.order.table.some in
        let f = variables_fit in
        record {
          fit = f;
          below = λ x. ⊎_elim
              (λ (i : x < variables ds). subst
              (λ z. z < s.order.size) (sym (variable_is x i)) (or_below s.order.size b (cell_at ds x).label some (label_within s valid x)))
              (λ (i : variables ds ≤ x). subst (λ z. z < s.order.size) (sym (past_label b vs x (omega (arith, f, i)))) some)
              (cases_lt x (variables ds));
          kept = λ x i. or_kept b (cell_at ds x).label (label_at b vs x) (variable_is x i);
        }

    levels_fit : length ls ≡ length W
    levels_fit = ap length hs ∙ map_length b W

    level_is : (j : ℕ) → j < length W → label_at b ls j ≡ label_or (get_or W j None) b
    level_is j i = ap (λ z. label_at b z j) hs ∙ map_at b W j None i

    level_kept : (j : ℕ) (o : Option Label) → get_or W j None ≡ o → IsKept o (label_at b ls j)
    level_kept j o e = ⊎_elim
        (λ (i : j < length W). or_kept b o (label_at b ls j) (level_is j i ∙ ap (λ z. label_or z b) e))
        (λ (i : length W ≤ j). subst (λ z. IsKept z (label_at b ls j)) (sym (past_get W j None i) ∙ e) tt)
        (cases_lt j (length W))

    kept_levels : KeepsLevels s ls
    kept_levels =
        let some = valid.order.table.some in
        let f = levels_fit in
        let m = length_levels (plan_of s) in
        record {
          fit = f ∙ m;
          below = λ j. ⊎_elim
              (λ (i : j < length W). subst (λ z. z < s.order.size) (sym (level_is j i))
              (or_below s.order.size b (get_or W j None) some (each_at s.order.size W j (levels_below s.order.size ds (plan_of s) valid.known))))
              (λ (i : length W ≤ j). subst (λ z. z < s.order.size) (sym (past_label b ls j (omega (arith, f, i)))) some)
              (cases_lt j (length W));
          kept = from_map (λ j o. get_or W j None ≡ o) (λ j o. IsKept o (label_at b ls j)) level_kept W 0 (from_all W [] W [] 0 None (sym (append-nil W)) refl);
        }

    level_first : (j : ℕ) (o : Option Label) → get_or W j None ≡ o → is_none o ≡ true → label_at b ls j ≡ b
    level_first j o e n = ⊎_elim
        (λ (i : j < length W). level_is j i ∙ ap (λ z. label_or z b) e ∙ or_none b o n)
        (λ (i : length W ≤ j). let f = levels_fit in past_label b ls j (omega (arith, f, i)))
        (cases_lt j (length W))

    pub first : IsFirst s (work s.order cs ws vs ls)
    first = record {
      waits = λ i h. ap (λ z. waits_at z i) hw ∙ all_wait (length cs) i h;
      variables = λ x t. variable_is x (small_of ds x t) ∙ ap (λ o. label_or o b) (not_free s x t);
      levels = from_map (λ j o. get_or W j None ≡ o) (λ j o. is_none o ≡ true
          → label_at b ls j ≡ b) level_first W 0 (from_all W [] W [] 0 None (sym (append-nil W)) refl);
    }

    pub starts : IsWorkOf s (work s.order cs ws vs ls)
    starts =
        let ll = lattice_laws s.order valid.order in
        let la = lattice_of s.order in
        record {
          order = refl;
          conditions = hc ∙ ap (λ z. constraints_from k (plan_of s) z z) hl ∙ same_constraints (fixed b) (fixed b);
          fit = ap length hw ∙ length-rep (length cs);
          variables = kept_variables;
          levels = kept_levels;
          settled = λ i c e f.
              let l = within_list cs i c e in
              absurd (both_ways (waits_at ws i) f (ap (λ z. waits_at z i) hw ∙ all_wait (length cs) i l));
          low_variables = λ l h m x. ⊎_elim
              (λ (t : is_free ds x ≡ true). ⊎_elim
              (λ (i : x < variables ds). subst (λ z. Flows la z (variable_of s.order l x)) (sym (variable_is x i ∙ ap (λ o. label_or o b) (not_free s x t)))
              (ll.lowest (variable_of s.order l x)))
              (λ (i : variables ds ≤ x). absurd (both_ways (is_free ds x) (past_free (cells ds) x i) t))
              (cases_lt x (variables ds)))
              (λ (t : is_free ds x ≡ false).
              let mine = keeps_of s vs kept_variables x t in
              let other = keeps_of s l.variables (record { fit = h.keeps.variables_fit; below = h.keeps.variables_below; kept = h.keeps.declared }) x t in
              subst (λ z. Flows la z (variable_of s.order l x)) (other ∙ sym mine) (ll.same (variable_of s.order l x)))
              (cases_Bool (is_free ds x));
          low_levels = λ l h m j. ⊎_elim
              (λ (i : j < length W).
              let kept = from_first (λ j o. IsKept o (level_of s.order l j)) W j None
              (levels_kept (marks_of s.order l) (level_of s.order l) (plan_of s) 0 0 h.keeps.written valid.numbered) i in
              subst (λ z. Flows la z (level_of s.order l j)) (sym (level_is j i)) (or_low (get_or W j None) (level_of s.order l j) kept))
              (λ (i : length W ≤ j). let f = levels_fit in
              subst (λ z. Flows la z (level_of s.order l j)) (sym (past_label b ls j (omega (arith, f, i)))) (ll.lowest (level_of s.order l j)))
              (cases_lt j (length W));
        }
      where
        length-rep : (n : ℕ) → length (replicate n true) ≡ n
        length-rep zero = refl
        length-rep (suc n) = ap suc (length-rep n)

        or_low : (o : Option Label) (x : ℕ) → IsKept o x → Flows (lattice_of s.order) (label_or o s.order.bottom) x
        or_low None x h = (lattice_laws s.order valid.order).lowest x
        or_low (Some l) x h = subst (λ z. Flows (lattice_of s.order) z x) h ((lattice_laws s.order valid.order).same x)

-- right sides are there
pub targets_there : (s : Syntax) → IsValid s → (cs : List Condition) (ws : List Bool) (vs ls : List Label) → IsWorkOf s (work s.order cs ws vs ls)
    → (i : ℕ) (c : Condition) → slice_get cs i ≡ Some c → IsThere (length vs) (length ls) c.target
targets_there s valid cs ws vs ls h i c e = go c.target refl
  where
    W : List (Option Label)
    W = written_levels (plan_of s)

    right : IsRight (is_free s.declarations) (written_levels (plan_of s)) (side_of c.target)
    right = (open_at s valid cs h.conditions i c e).side

    go : (t : Target) → c.target ≡ t → IsThere (length vs) (length ls) t
    go (Variable x) q =
        let f : is_free s.declarations x ≡ true = subst (λ z. IsRight (is_free s.declarations) (written_levels (plan_of s)) (side_of z)) q right in
        let sm = small_of s.declarations x f in
        let fit = h.variables.fit in
        omega (arith, sm, fit)
    go (Level k) q =
        let f : (k < length W) × (get_or W k None ≡ None) = subst (λ z. IsRight (is_free s.declarations) (written_levels (plan_of s)) (side_of z)) q right in
        let a = f.0 in
        let len = length_levels (plan_of s) in
        let fit = h.levels.fit in
        omega (arith, a, len, fit)

pub bound_now : (s : Syntax) (w : Work) (c used : ℕ) → IsWorkOf s w → IsWithin w c used → used ≤ shares_of s c
bound_now s w c used h b =
    let q = b.bound in
    let le : used ≤ shares (length w.variables) c (constraints_in w.conditions) = omega (arith, q) in
    subst (λ z. used ≤ shares (variables s.declarations) c z) h.conditions (subst (λ z. used ≤ shares z c (constraints_in w.conditions)) h.variables.fit le)
