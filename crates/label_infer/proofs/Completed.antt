-- What labels of variables and levels come to, with the labels of commands that they give.
use Rattle.std.proofs.Common.{◌≡◌, ℕ, zero, suc, ◌+◌, ◌<◌, ◌≤◌, refl, sym, ap, ◌∙◌, subst, List, [], ◌∷◌, ◌++◌, length, get_or, arith, append-nil, ⊎_elim}
use Rattle.std.specs.Prelude.{true, false, is_some, Option, None, Some, slice_get}
use Rattle.std.proofs.lemmas.Bool.{cases_lt, both_ways}
use Rattle.label_lattice.specs.declared.label.Label.{Label}
use Rattle.label_lattice.specs.Lattice.{Lattice, Flows, IsLattice}
use Rattle.label_lattice.specs.Order.{Order, IsOrder, lattice_of, flows_in, join_in}
use Rattle.label_lattice.proofs.Over.{over_all_is}
use Rattle.mit_syntax.specs.Todo.{Marks, Done, Skip, Assign, Put, Sleep, If, While, Mitigate}
use Rattle.mit_syntax.specs.Plan.{Plan, count}
use Rattle.mit_syntax.specs.Declarations.{Declaration, Cell, cells, variables, cell_at}
use Rattle.mit_syntax.specs.Program.{Syntax, plan_of}
use Rattle.mit_syntax.specs.Valid.{IsValid}
use Rattle.timing_types.specs.Typing.{label_of}
use Rattle.timing_types.specs.Placed.{placed, labelled}
use Rattle.timing_types.specs.declared.rule.Rule.TheVariants.{Mtg as RMtg}
use Rattle.timing_types.specs.Walk.{OfLevel, Condition, after, loop_start, walk_end, conditions, Meets}
use Rattle.timing_types.specs.Labelling.{Labelling, IsLabelling, label_at, marks_from, variable_of, marks_of, level_of, IsKept}
use Rattle.label_infer.specs.Least.{Labels, is_unwritten, is_free, is_omitted, MeetsOmitted, IsLeast}
use Rattle.label_infer.specs.Given.{KeepsVariables, KeepsLevels, WritesAll, AllFrom, written_levels, own_pairs}
use Rattle.label_infer.proofs.Placed.{from_parts, from_first, from_all, from_map, length_levels, length_pairs, has_own, own_listed, keeps, levels_kept}
use Rattle.label_infer.proofs.Ranges.{joins_below, PairBelow, pairs_below}
use Rattle.label_infer.proofs.Meeting.{both_meet, rising_at, pairs_up}

pub lattice_laws : (o : Order) → IsOrder o → IsLattice (lattice_of o)
lattice_laws o h = over_all_is o.size (flows_in o.flows) (join_in o.joins) o.bottom h.table

get_past : {A : Type 0} (xs : List A) (i : ℕ) (d : A) → length xs ≤ i → get_or xs i d ≡ d
get_past [] i d h = refl
get_past (x ∷ xs) zero d h = absurd (omega (arith, h))
get_past (x ∷ xs) (suc i) d h = get_past xs i d (omega (arith, h))

abbrev low_of : Order → Label × Label
low_of o = (record { number = o.bottom }, record { number = o.bottom })

module _ (s : Syntax) (valid : IsValid s) where
  abbrev o : Order
  o = s.order

  abbrev lat : Lattice
  lat = lattice_of s.order

  pub labels_from : (vs ls : List Label) (cs : List (Label × Label)) → KeepsVariables s vs → KeepsLevels s ls
      → cs ≡ own_pairs lat (label_at s.order.bottom vs) (plan_of s) s.order.bottom →
      Labels s (record { variables = vs; commands = cs; levels = ls })
  labels_from vs ls cs kv kl is =
      let n = s.order.size in
      let p = plan_of s in
      let b = s.order.bottom in
      let d = low_of s.order in
      let g : ℕ → ℕ = label_at b vs in
      let l : Labelling = record { variables = vs; commands = cs; levels = ls } in
      let some = valid.order.table.some in
      let placed = from_all cs [] (own_pairs lat g p b) [] 0 d (is ∙ sym (append-nil (own_pairs lat g p b))) refl in
      let own = has_own lat g (marks_of s.order l) p 0 b
      (from_map (λ j x. get_or cs j d ≡ x) (λ j x. marks_of s.order l j ≡ marks_from x) (λ k x e. ap marks_from e) (own_pairs lat g p b) 0 placed) in
      let below = pairs_below lat n some (joins_below s.order valid.order) g kv.below s.declarations p 0 b some valid.known in
      let below2 : AllFrom (PairBelow n) 0 cs = subst (λ z. AllFrom (PairBelow n) 0 z) (sym is) below in
      let cb : (i : ℕ) → PairBelow n i (get_or cs i d) = λ i. ⊎_elim
      (λ (h : i < length cs). from_first (λ j x. PairBelow n 0 x) cs i d below2 h)
      (λ (h : length cs ≤ i). subst (λ z. PairBelow n 0 z) (sym (get_past cs i d h)) (some, some)) (cases_lt i (length cs)) in
      record {
        keeps = record {
          variables_fit = kv.fit;
          commands_fit = ap length is ∙ length_pairs lat g p b;
          levels_fit = kl.fit;
          variables_below = kv.below;
          commands_below = cb;
          levels_below = kl.below;
          declared = kv.kept;
          written = keeps lat g (marks_of s.order l) (level_of s.order l) p 0 0 b own valid.numbered kl.kept;
        };
        own = own;
      }

  -- the labels of a command, by its number
  own_at : (l : Labelling) → Labels s l → (i : ℕ)
      → marks_of s.order l i ≡ marks_from (get_or (own_pairs lat (variable_of s.order l) (plan_of s) s.order.bottom) i (low_of s.order))
  own_at l h i =
      let g = variable_of s.order l in
      let p = plan_of s in
      let b = s.order.bottom in
      let d = low_of s.order in
      let P = own_pairs lat g p b in
      let len = length_pairs lat g p b in
      let fit = h.keeps.commands_fit in
      ⊎_elim
      (λ (k : i < length P). from_first (λ j m. marks_of s.order l j ≡ marks_from m) P i d (own_listed lat g (marks_of s.order l) p 0 b h.own) k)
      (λ (k : length P ≤ i). ap marks_from (get_past l.commands i d (omega (arith, k, len, fit)) ∙ sym (get_past P i d k))) (cases_lt i (length P))

  -- a labelling whose variables and levels lie at or below all others
  pub least_from : (l : Labelling) → Labels s l → MeetsOmitted s l →
      ((l' : Labelling) → Labels s l' → MeetsOmitted s l' → ((x : ℕ) → Flows lat (variable_of s.order l x) (variable_of s.order l' x))
      × ((k : ℕ) → Flows lat (level_of s.order l k) (level_of s.order l' k))) →
      IsLeast s l
  least_from l h m f =
      record {
        labels = h;
        meets = m;
        least = λ l' h' m'.
            let q = f l' h' m' in
            let g = variable_of s.order l in
            let g' = variable_of s.order l' in
            let b = s.order.bottom in
            let ll = lattice_laws s.order valid.order in
            let up = pairs_up lat ll g g' q.0 (plan_of s) b b (ll.same b) in
            let at : (i : ℕ) → Flows lat (marks_of s.order l i).er (marks_of s.order l' i).er × Flows lat (marks_of s.order l i).ew (marks_of s.order l' i).ew =
            λ i.
            let r = rising_at lat ll (own_pairs lat g (plan_of s) b) (own_pairs lat g' (plan_of s) b) i (low_of s.order) up in
            let P : Marks → Marks → Type 0 = λ x y. Flows lat x.er y.er × Flows lat x.ew y.ew in
            subst (λ z. P z (marks_of s.order l' i)) (sym (own_at l h i))
            (subst (λ z. P (marks_from (get_or (own_pairs lat g (plan_of s) b) i (low_of s.order))) z) (sym (own_at l' h' i)) r) in
            record { variables = q.0; reads = λ i. (at i).0; writes = λ i. (at i).1; levels = q.1 };
      }

-- a variable with a written label
pub written_at : (cs : List Cell) (x : ℕ) (d : Cell) → x < length cs → is_unwritten (slice_get cs x) ≡ false → (l : Label) × ((get_or cs x d).label ≡ Some l)
written_at [] x d h f = absurd (omega (arith, h))
written_at (c ∷ cs) zero d h f = go c.label refl
  where
    go : (v : Option Label) → c.label ≡ v → (l : Label) × (c.label ≡ Some l)
    go None e = let k : is_unwritten (Some c) ≡ true = ap (λ z. is_unwritten (Some (record { name = c.name; label = z; place = c.place }))) e in
        absurd (both_ways (is_unwritten (Some c)) f k)
    go (Some l) e = (l, e)
written_at (c ∷ cs) (suc x) d h f = written_at cs x d (omega (arith, h)) f

pub kept_same : (v : Option Label) (l : Label) (x y : ℕ) → v ≡ Some l → IsKept v x → IsKept v y → x ≡ y
kept_same v l x y e hx hy =
    let a : x ≡ l.number = subst (λ z. IsKept z x) e hx in
    let b : y ≡ l.number = subst (λ z. IsKept z y) e hy in
    a ∙ sym b

-- two labellings agree where a label of a variable is written
pub same_written : (s : Syntax) (l l' : Labelling) → IsLabelling s l → IsLabelling s l' → (x : ℕ) → is_free s.declarations x ≡ false
    → variable_of s.order l x ≡ variable_of s.order l' x
same_written s l l' h h' x f =
    let d : Cell = record { name = []; label = None; place = None } in
    let low : Label = record { number = s.order.bottom } in
    let fit = h.variables_fit in
    let fit' = h'.variables_fit in
    ⊎_elim
    (λ (i : x < variables s.declarations). let w = written_at (cells s.declarations) x d i f in
    kept_same (cell_at s.declarations x).label w.0 (variable_of s.order l x) (variable_of s.order l' x) w.1 (h.declared x i) (h'.declared x i))
    (λ (i : variables s.declarations ≤ x). ap (λ z. z.number) (get_past l.variables x low (omega (arith, i, fit))
    ∙ sym (get_past l'.variables x low (omega (arith, i, fit'))))) (cases_lt x (variables s.declarations))

is_there : (v : Option Label) → is_some v ≡ true → (l : Label) × (v ≡ Some l)
is_there None h = absurd (both_ways true (sym h) refl)
is_there (Some l) h = (l, refl)

-- and where all levels are
same_levels : (s : Syntax) → IsValid s → (l l' : Labelling) → IsLabelling s l → IsLabelling s l'
    → AllFrom (λ k v. is_some v ≡ true) 0 (written_levels (plan_of s)) → (k : ℕ) → level_of s.order l k ≡ level_of s.order l' k
same_levels s valid l l' h h' all k =
    let low : Label = record { number = s.order.bottom } in
    let W = written_levels (plan_of s) in
    let len = length_levels (plan_of s) in
    let fit = h.levels_fit in
    let fit' = h'.levels_fit in
    let m = levels_kept (marks_of s.order l) (level_of s.order l) (plan_of s) 0 0 h.written valid.numbered in
    let m' = levels_kept (marks_of s.order l') (level_of s.order l') (plan_of s) 0 0 h'.written valid.numbered in
    ⊎_elim
    (λ (i : k < length W).
    let w = is_there (get_or W k None) (from_first (λ j v. is_some v ≡ true) W k None all i) in
    kept_same (get_or W k None) w.0 (level_of s.order l k) (level_of s.order l' k) w.1
    (from_first (λ j v. IsKept v (level_of s.order l j)) W k None m i) (from_first (λ j v. IsKept v (level_of s.order l' j)) W k None m' i))
    (λ (i : length W ≤ k). ap (λ z. z.number) (get_past l.levels k low (omega (arith, i, len, fit))
    ∙ sym (get_past l'.levels k low (omega (arith, i, len, fit'))))) (cases_lt k (length W))

-- where nothing is omitted, nothing is to be met
module _ (lat : Lattice) (g : ℕ → ℕ) (ms : ℕ → Marks) (ls : ℕ → ℕ) (ds : List Declaration) (none : (x : ℕ) → is_free ds x ≡ false) where
  abbrev Met : List Condition → Type 0
  Met cs = Meets lat (is_omitted ds) cs

  abbrev conds : Plan → ℕ → ℕ → ℕ → List Condition
  conds p i pc t = conditions lat g (labelled ms ls p i) pc t

  set_met : (x a b : ℕ) → is_free ds x ≡ true → Flows lat a b
  set_met x a b h = absurd (both_ways (is_free ds x) (none x) h)

  level_met : (v : Option Label) (k a b : ℕ) → is_some v ≡ true → is_omitted ds (OfLevel k (is_some v)) ≡ true → Flows lat a b
  level_met None k a b h f = absurd (both_ways true (sym h) refl)
  level_met (Some l) k a b h f = absurd (both_ways true (sym f) refl)

  abbrev Written : Plan → ℕ → Type 0
  Written p k = AllFrom (λ j v. is_some v ≡ true) k (written_levels p)

  pub nothing_met : (p : Plan) (i k pc t : ℕ) → Written p k → Met (conds p i pc t)
  nothing_met Done i k pc t h = tt
  nothing_met (Skip w p) i k pc t h = ((λ z. cc), nothing_met p (i + 1) k pc (lat.join t (ms i).er) h)
  nothing_met (Assign w x e p) i k pc t h =
      ((λ z. set_met x _ _ z), ((λ z. cc), nothing_met p (i + 1) k pc _ h))
  nothing_met (Put w f n j e p) i k pc t h =
      ((λ z. set_met f _ _ z), ((λ z. cc), nothing_met p (i + 1) k pc _ h))
  nothing_met (Sleep w e p) i k pc t h = ((λ z. cc), nothing_met p (i + 1) k pc _ h)
  nothing_met (If w e a b p) i k pc t h =
      let P : ℕ → Option Label → Type 0 = λ j v. is_some v ≡ true in
      let m = placed ms w i in
      let inner = lat.join pc (label_of lat g e) in
      let start = after lat g t m e in
      let ja = i + 1 in
      let jb = i + 1 + count a in
      let jp = i + 1 + count a + count b in
      let end = lat.join (walk_end lat g (labelled ms ls a ja) inner start) (walk_end lat g (labelled ms ls b jb) inner start) in
      let q = from_parts P (written_levels a) (written_levels b ++ written_levels p) k (k + length (written_levels a)) refl h in
      let r = from_parts P (written_levels b) (written_levels p) (k + length (written_levels a))
      (k + length (written_levels a) + length (written_levels b)) refl q.1 in (
        (λ z. cc),
        both_meet lat (is_omitted ds) (conds a ja inner start) (conds b jb inner start ++ conds p jp pc end) (nothing_met a ja k inner start q.0)
            (both_meet lat (is_omitted ds) (conds b jb inner start) (conds p jp pc end) (nothing_met b jb (k + length (written_levels a)) inner start r.0)
            (nothing_met p jp (k + length (written_levels a) + length (written_levels b)) pc end r.1)),
      )
  nothing_met (While w e c p) i k pc t h =
      let P : ℕ → Option Label → Type 0 = λ j v. is_some v ≡ true in
      let m = placed ms w i in
      let inner = lat.join pc (label_of lat g e) in
      let jc = i + 1 in
      let jp = i + 1 + count c in
      let end = walk_end lat g (labelled ms ls c jc) inner (loop_start lat g t m e) in
      let q = from_parts P (written_levels c) (written_levels p) k (k + length (written_levels c)) refl h in (
        (λ z. cc),
        both_meet lat (is_omitted ds) (conds c jc inner end) (conds p jp pc end) (nothing_met c jc k inner end q.0)
            (nothing_met p jp (k + length (written_levels c)) pc end q.1),
      )
  nothing_met (Mitigate w n l e c p) i k pc t h =
      let P : ℕ → Option Label → Type 0 = λ j v. is_some v ≡ true in
      let m = placed ms w i in
      let start = after lat g t m e in
      let jc = i + 1 in
      let jp = i + 1 + count c in
      let last : Condition = record {
        rule = RMtg;
        pos = w.pos;
        have = walk_end lat g (labelled ms ls c jc) pc start;
        allowed =
            ls n;
        side = OfLevel n (is_some l);
      } in
      let q = from_parts P (written_levels c) (written_levels p) (k + 1) (k + 1 + length (written_levels c)) refl h.1 in (
        (λ z. cc),
        both_meet lat (is_omitted ds) (conds c jc pc start) (last ∷ conds p jp pc start) (nothing_met c jc (k + 1) pc start q.0)
            ((λ z. level_met l n _ _ h.0 z), nothing_met p jp (k + 1 + length (written_levels c)) pc start q.1),
      )

-- a labelling of a program that omits no label of a variable and no level is its least one
pub least_written : (s : Syntax) → IsValid s → (l : Labelling) → Labels s l → WritesAll s → IsLeast s l
least_written s valid l h w =
    let b = s.order.bottom in
    let lat = lattice_of s.order in
    let ll = lattice_laws s.order valid.order in
    least_from s valid l h
    (nothing_met lat (variable_of s.order l) (marks_of s.order l) (level_of s.order l) s.declarations w.variables (plan_of s) 0 0 b b w.levels)
    (λ l' h' m'. (
      (λ x. subst (λ z. Flows lat (variable_of s.order l x) z) (same_written s l l' h.keeps h'.keeps x (w.variables x)) (ll.same (variable_of s.order l x))),
      (λ k. subst (λ z. Flows lat (level_of s.order l k) z) (same_levels s valid l l' h.keeps h'.keeps w.levels k) (ll.same (level_of s.order l k))),
    ))
