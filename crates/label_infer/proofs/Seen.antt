-- The walk of forms has the walk's left sides as its values.
use Rattle.std.proofs.Common.{◌≡◌, ℕ, ◌<◌, refl, sym, ap, ◌∙◌, List, [], ◌∷◌, ◌++◌}
use Rattle.std.specs.Prelude.{Bool, true, false, cond, Option, None, Some, is_some, not}
use Rattle.label_lattice.specs.declared.label.Label.{Label}
use Rattle.label_lattice.specs.Lattice.{Lattice, Flows, IsLattice}
use Rattle.mit_syntax.specs.Expression.{Expression}
use Rattle.mit_syntax.specs.Todo.{Done, Skip, Assign, Put, Sleep, If, While, Mitigate}
use Rattle.mit_syntax.specs.Plan.{Written, Plan}
use Rattle.mit_syntax.specs.Declarations.{Declaration}
use Rattle.timing_types.specs.declared.rule.Rule.TheVariants.{Mtg as RMtg}
use Rattle.timing_types.specs.Typing.{label_of, index_label}
use Rattle.timing_types.specs.Walk.{OfLevel, Condition, demand, put_index, here, after, loop_start, walk_end, conditions, Meets}
use Rattle.label_infer.specs.Least.{own, is_free, is_omitted}
use Rattle.label_infer.specs.Constraints.{LeftSide, value, Constraint, both, variable_form, label_form, index_form}
use Rattle.label_infer.specs.Constraints.{set_constraint, level_constraint, right_of, AllMet}
use Rattle.label_infer.proofs.Forms.{put_form, here_form, own_form, after_form, loop_form, demand_form, guarded_end, guarded}
use Rattle.label_infer.proofs.Values.{fixed_value, join_value, variable_value, label_value, index_value, put_value, here_value}
use Rattle.label_infer.proofs.Fill.{owned, fill}

-- left and right sides
abbrev Sides : Type 0
Sides = List (ℕ × ℕ)

abbrev pub Hold : Lattice → Sides → Type 0
Hold lat [] = Unit {0}
Hold lat (c ∷ cs) = Flows lat c.0 c.1 × Hold lat cs

-- those of the conditions whose right side is omitted
abbrev pub kept : List Declaration → List Condition → Sides
kept ds [] = []
kept ds (c ∷ cs) = cond (is_omitted ds c.side) ((c.have, c.allowed) ∷ kept ds cs) (kept ds cs)

kept_append : (ds : List Declaration) (xs ys : List Condition) → kept ds (xs ++ ys) ≡ kept ds xs ++ kept ds ys
kept_append ds [] ys = refl
kept_append ds (c ∷ xs) ys = go (is_omitted ds c.side) (kept_append ds xs ys)
  where
    go : (b : Bool) → kept ds (xs ++ ys) ≡ kept ds xs ++ kept ds ys →
        cond b ((c.have, c.allowed) ∷ kept ds (xs ++ ys)) (kept ds (xs ++ ys)) ≡ cond b ((c.have, c.allowed) ∷ kept ds xs) (kept ds xs) ++ kept ds ys
    go true e = ap (λ z. (c.have, c.allowed) ∷ z) e
    go false e = e

pub kept_hold : (lat : Lattice) (ds : List Declaration) (cs : List Condition) → Meets lat (is_omitted ds) cs → Hold lat (kept ds cs)
kept_hold lat ds [] m = tt
kept_hold lat ds (c ∷ cs) m = go (is_omitted ds c.side) m.0 (kept_hold lat ds cs m.1)
  where
    go : (b : Bool) → (b ≡ true → Flows lat c.have c.allowed) → Hold lat (kept ds cs) → Hold lat (cond b ((c.have, c.allowed) ∷ kept ds cs) (kept ds cs))
    go true f h = (f refl, h)
    go false f h = h

pub hold_meet : (lat : Lattice) (ds : List Declaration) (cs : List Condition) → Hold lat (kept ds cs) → Meets lat (is_omitted ds) cs
hold_meet lat ds [] h = tt
hold_meet lat ds (c ∷ cs) h = go (is_omitted ds c.side) (λ z. hold_meet lat ds cs z) h
  where
    go : (b : Bool) → (Hold lat (kept ds cs) → Meets lat (is_omitted ds) cs) → Hold lat (cond b ((c.have, c.allowed) ∷ kept ds cs) (kept ds cs)) →
        (b ≡ true → Flows lat c.have c.allowed) × Meets lat (is_omitted ds) cs
    go true f h = ((λ e. h.0), f h.1)
    go false f h = ((λ e. cc), f h)

module _ (lat : Lattice) (ll : IsLattice lat) (n : ℕ) (g lv : ℕ → ℕ) (ds : List Declaration) (written : ℕ → ℕ)
    (small : (x : ℕ) → is_free ds x ≡ true → x < n) (keeps : (x : ℕ) → is_free ds x ≡ false → g x ≡ written x) where
  abbrev free : ℕ → Bool
  free = is_free ds

  abbrev val : LeftSide → ℕ
  val = value lat n g

  abbrev pub seen : List Constraint → Sides
  seen [] = []
  seen (c ∷ cs) = (val c.have, right_of g lv c.side) ∷ seen cs

  pub seen_hold : (ns : List Constraint) → AllMet lat n g lv ns → Hold lat (seen ns)
  seen_hold [] h = tt
  seen_hold (c ∷ cs) h = (h.0, seen_hold cs h.1)

  pub hold_seen : (ns : List Constraint) → Hold lat (seen ns) → AllMet lat n g lv ns
  hold_seen [] h = tt
  hold_seen (c ∷ cs) h = (h.0, hold_seen cs h.1)

  seen_append : (xs ys : List Constraint) → seen (xs ++ ys) ≡ seen xs ++ seen ys
  seen_append [] ys = refl
  seen_append (c ∷ xs) ys = ap (λ z. (val c.have, right_of g lv c.side) ∷ z) (seen_append xs ys)

  same_two : (xs ys : List Constraint) (cs ds' : List Condition) → seen xs ≡ kept ds cs → seen ys ≡ kept ds ds' → seen (xs ++ ys) ≡ kept ds (cs ++ ds')
  same_two xs ys cs ds' p q = seen_append xs ys ∙ ap (λ z. z ++ seen ys) p ∙ ap (λ z. kept ds cs ++ z) q ∙ sym (kept_append ds cs ds')

  abbrev fo : LeftSide → LeftSide → LeftSide
  fo = both lat

  abbrev le : Expression → LeftSide
  le = label_form lat free written

  abbrev li : Expression → LeftSide
  li = index_form lat free written

  own_value : (o : Option (Label × Label)) (h : LeftSide) (H : ℕ) → val h ≡ H → val (own_form o h) ≡ (own o H).er
  own_value None h H e = e
  own_value (Some p) h H e = fixed_value lat ll n g p.0.number

  lev : (e : Expression) → val (le e) ≡ label_of lat g e
  lev = label_value lat ll n g free written small keeps

  pev : (i e : Expression) → val (put_form lat free written i e) ≡ put_index lat g i e
  pev = put_value lat ll n g free written small keeps

  iev : (e : Expression) → val (li e) ≡ index_label lat g e
  iev = index_value lat ll n g free written small keeps

  j2 : (f h : LeftSide) (a b : ℕ) → val f ≡ a → val h ≡ b → val (fo f h) ≡ lat.join a b
  j2 = join_value lat ll n g

  module _ (w : Written) (pc t : LeftSide) (P T : ℕ) (hp : val pc ≡ P) (ht : val t ≡ T) where
    -- the read label of a command that reads e
    abbrev er : Expression → LeftSide
    er e = own_form w.labels (here_form lat free written pc e)

    erv : (e : Expression) → val (er e) ≡ (own w.labels (here lat g P e)).er
    erv e = own_value w.labels (here_form lat free written pc e) (here lat g P e) (here_value lat ll n g free written small keeps pc P e hp)

    inner_value : (e : Expression) → val (fo pc (le e)) ≡ lat.join P (label_of lat g e)
    inner_value e = j2 pc (le e) P (label_of lat g e) hp (lev e)

    after_value : (e : Expression) → val (after_form lat free written t (er e) e) ≡ after lat g T (owned w (here lat g P e)) e
    after_value e = j2 (fo t (le e)) (er e) (lat.join T (label_of lat g e)) (own w.labels (here lat g P e)).er
        (j2 t (le e) T (label_of lat g e) ht (lev e)) (erv e)

    loop_value : (e : Expression) → val (loop_form lat free written t (er e) e) ≡ loop_start lat g T (owned w (here lat g P e)) e
    loop_value e = j2 (fo (le e) t) (er e) (lat.join (label_of lat g e) T) (own w.labels (here lat g P e)).er
        (j2 (le e) t (label_of lat g e) T (lev e) ht) (erv e)

    demand_value : (h : LeftSide) (H : ℕ) (l i : LeftSide) (L I : ℕ) → val h ≡ H → val l ≡ L → val i ≡ I →
        val (demand_form lat free written pc t (own_form w.labels h) l i) ≡ demand lat P T (owned w H) L I
    demand_value h H l i L I hh hl hi =
        let o = own_form w.labels h in
        j2 (fo (fo (fo l i) pc) t) o (lat.join (lat.join (lat.join L I) P) T) (own w.labels H).er
        (j2 (fo (fo l i) pc) t (lat.join (lat.join L I) P) T (j2 (fo l i) pc (lat.join L I) P (j2 l i L I hl hi) hp) ht) (own_value w.labels h H hh)

    assign_value : (x : ℕ) (e : Expression)
        → val (demand_form lat free written pc t (er e) (le e) (li e)) ≡ demand lat P T (owned w (here lat g P e)) (label_of lat g e) (index_label lat g e)
    assign_value x e =
        demand_value (here_form lat free written pc e) (here lat g P e) (le e) (li e) (label_of lat g e) (index_label lat g e)
        (here_value lat ll n g free written small keeps pc P e hp) (lev e) (iev e)

    put_is : (i e : Expression) → val (demand_form lat free written pc t (own_form w.labels (fo pc (put_form lat free written i e))) (le e)
        (put_form lat free written i e))
        ≡ demand lat P T (owned w (lat.join P (put_index lat g i e))) (label_of lat g e) (put_index lat g i e)
    put_is i e =
        demand_value (fo pc (put_form lat free written i e)) (lat.join P (put_index lat g i e)) (le e) (put_form lat free written i e)
        (label_of lat g e) (put_index lat g i e)
        (j2 pc (put_form lat free written i e) P (put_index lat g i e) hp (pev i e)) (lev e) (pev i e)

    next_value : (x : ℕ) (d : LeftSide) (D : ℕ) → val d ≡ D → val (fo (variable_form lat free written x) d) ≡ lat.join (g x) D
    next_value x d D hd = j2 (variable_form lat free written x) d (g x) D (variable_value lat ll n g free written small keeps x) hd

    skip_value : val (fo t (own_form w.labels pc)) ≡ lat.join T (own w.labels P).er
    skip_value = j2 t (own_form w.labels pc) T (own w.labels P).er ht (own_value w.labels pc P hp)

  abbrev ends : Plan → ℕ → ℕ → ℕ
  ends p P T = walk_end lat g (fill lat g lv p P) P T

  abbrev E : Plan → LeftSide → LeftSide → LeftSide
  E = guarded_end lat free written

  -- the end of the walk of forms is that of the walk
  pub end_value : (p : Plan) (pc t : LeftSide) (P T : ℕ) → val pc ≡ P → val t ≡ T → val (E p pc t) ≡ ends p P T
  end_value Done pc t P T hp ht = ht
  end_value (Skip w p) pc t P T hp ht = end_value p pc _ P _ hp (skip_value w pc t P T hp ht)
  end_value (Assign w x e p) pc t P T hp ht =
      end_value p pc _ P _ hp (next_value w pc t P T hp ht x (demand_form lat free written pc t (er w pc t P T hp ht e) (le e) (li e)) _
      (assign_value w pc t P T hp ht x e))
  end_value (Put w f k i e p) pc t P T hp ht =
      end_value p pc _ P _ hp (next_value w pc t P T hp ht f
      (demand_form lat free written pc t (own_form w.labels (fo pc (put_form lat free written i e))) (le e) (put_form lat free written i e)) _
      (put_is w pc t P T hp ht i e))
  end_value (Sleep w e p) pc t P T hp ht = end_value p pc _ P _ hp (after_value w pc t P T hp ht e)
  end_value (If w e a b p) pc t P T hp ht =
      let i = fo pc (le e) in
      let s = after_form lat free written t (er w pc t P T hp ht e) e in
      let I = lat.join P (label_of lat g e) in
      let S = after lat g T (owned w (here lat g P e)) e in
      let iv = inner_value w pc t P T hp ht e in
      let sv = after_value w pc t P T hp ht e in
      end_value p pc (fo (E a i s) (E b i s)) P (lat.join (ends a I S) (ends b I S)) hp
      (j2 (E a i s) (E b i s) (ends a I S) (ends b I S) (end_value a i s I S iv sv) (end_value b i s I S iv sv))
  end_value (While w e c p) pc t P T hp ht =
      let i = fo pc (le e) in
      let s = loop_form lat free written t (er w pc t P T hp ht e) e in
      let I = lat.join P (label_of lat g e) in
      let S = loop_start lat g T (owned w (here lat g P e)) e in
      end_value p pc (E c i s) P (ends c I S) hp (end_value c i s I S (inner_value w pc t P T hp ht e) (loop_value w pc t P T hp ht e))
  end_value (Mitigate w k l e c p) pc t P T hp ht = end_value p pc _ P _ hp (after_value w pc t P T hp ht e)

  abbrev conds : Plan → ℕ → ℕ → List Condition
  conds p P T = conditions lat g (fill lat g lv p P) P T

  abbrev N : Plan → LeftSide → LeftSide → List Constraint
  N = guarded lat free written

  set_seen : (x : ℕ) (d : LeftSide) (D : ℕ) (ns : List Constraint) (cs : List Condition) → val d ≡ D → seen ns ≡ kept ds cs →
      seen (set_constraint (free x) x d ++ ns) ≡ cond (free x) ((D, g x) ∷ kept ds cs) (kept ds cs)
  set_seen x d D ns cs hd h = go (free x)
    where
      go : (b : Bool) → seen (set_constraint b x d ++ ns) ≡ cond b ((D, g x) ∷ kept ds cs) (kept ds cs)
      go true = ap (λ z. (z, g x) ∷ seen ns) hd ∙ ap (λ z. (D, g x) ∷ z) h
      go false = h

  level_seen : (l : Option Label) (k : ℕ) (d : LeftSide) (D : ℕ) (ns : List Constraint) (cs : List Condition) → val d ≡ D → seen ns ≡ kept ds cs →
      seen (level_constraint l k d ++ ns) ≡ cond (not (is_some l)) ((D, lv k) ∷ kept ds cs) (kept ds cs)
  level_seen None k d D ns cs hd h = ap (λ z. (z, lv k) ∷ seen ns) hd ∙ ap (λ z. (D, lv k) ∷ z) h
  level_seen (Some l) k d D ns cs hd h = h

  -- the conditions of the walk of forms are those of the walk whose right side is omitted
  pub constraints_seen : (p : Plan) (pc t : LeftSide) (P T : ℕ) → val pc ≡ P → val t ≡ T → seen (N p pc t) ≡ kept ds (conds p P T)
  constraints_seen Done pc t P T hp ht = refl
  constraints_seen (Skip w p) pc t P T hp ht = constraints_seen p pc _ P _ hp (skip_value w pc t P T hp ht)
  constraints_seen (Assign w x e p) pc t P T hp ht =
      let d = demand_form lat free written pc t (er w pc t P T hp ht e) (le e) (li e) in
      let D = demand lat P T (owned w (here lat g P e)) (label_of lat g e) (index_label lat g e) in
      let dv = assign_value w pc t P T hp ht x e in
      let v = fo (variable_form lat free written x) d in
      set_seen x d D (N p pc v) (conds p P (lat.join (g x) D)) dv (constraints_seen p pc v P (lat.join (g x) D) hp (next_value w pc t P T hp ht x d D dv))
  constraints_seen (Put w f k i e p) pc t P T hp ht =
      let d = demand_form lat free written pc t (own_form w.labels (fo pc (put_form lat free written i e))) (le e) (put_form lat free written i e) in
      let D = demand lat P T (owned w (lat.join P (put_index lat g i e))) (label_of lat g e) (put_index lat g i e) in
      let dv = put_is w pc t P T hp ht i e in
      let v = fo (variable_form lat free written f) d in
      set_seen f d D (N p pc v) (conds p P (lat.join (g f) D)) dv (constraints_seen p pc v P (lat.join (g f) D) hp (next_value w pc t P T hp ht f d D dv))
  constraints_seen (Sleep w e p) pc t P T hp ht = constraints_seen p pc _ P _ hp (after_value w pc t P T hp ht e)
  constraints_seen (If w e a b p) pc t P T hp ht =
      let i = fo pc (le e) in
      let s = after_form lat free written t (er w pc t P T hp ht e) e in
      let I = lat.join P (label_of lat g e) in
      let S = after lat g T (owned w (here lat g P e)) e in
      let iv = inner_value w pc t P T hp ht e in
      let sv = after_value w pc t P T hp ht e in
      let v = fo (E a i s) (E b i s) in
      let V = lat.join (ends a I S) (ends b I S) in
      let vv = j2 (E a i s) (E b i s) (ends a I S) (ends b I S) (end_value a i s I S iv sv) (end_value b i s I S iv sv) in
      same_two (N a i s) (N b i s ++ N p pc v) (conds a I S) (conds b I S ++ conds p P V) (constraints_seen a i s I S iv sv)
      (same_two (N b i s) (N p pc v) (conds b I S) (conds p P V) (constraints_seen b i s I S iv sv) (constraints_seen p pc v P V hp vv))
  constraints_seen (While w e c p) pc t P T hp ht =
      let i = fo pc (le e) in
      let s = loop_form lat free written t (er w pc t P T hp ht e) e in
      let I = lat.join P (label_of lat g e) in
      let S = loop_start lat g T (owned w (here lat g P e)) e in
      let iv = inner_value w pc t P T hp ht e in
      let ev = end_value c i s I S iv (loop_value w pc t P T hp ht e) in
      same_two (N c i (E c i s)) (N p pc (E c i s)) (conds c I (ends c I S)) (conds p P (ends c I S)) (constraints_seen c i (E c i s) I (ends c I S) iv ev)
      (constraints_seen p pc (E c i s) P (ends c I S) hp ev)
  constraints_seen (Mitigate w k l e c p) pc t P T hp ht =
      let s = after_form lat free written t (er w pc t P T hp ht e) e in
      let S = after lat g T (owned w (here lat g P e)) e in
      let sv = after_value w pc t P T hp ht e in
      let last : Condition = record { rule = RMtg; pos = w.pos; have = ends c P S; allowed = lv k; side = OfLevel k (is_some l) } in
      same_two (N c pc s) (level_constraint l k (E c pc s) ++ N p pc s) (conds c P S) (last ∷ conds p P S) (constraints_seen c pc s P S hp sv)
      (level_seen l k (E c pc s) (ends c P S) (N p pc s) (conds p P S) (end_value c pc s P S hp sv) (constraints_seen p pc s P S hp sv))
