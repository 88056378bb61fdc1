-- The walk of forms that joins the guards into the time, as the walk of labels does.
use Rattle.std.specs.Prelude.{ℕ, Bool, List, [], ◌++◌, Option, None, Some}
use Rattle.label_lattice.specs.declared.label.Label.{Label}
use Rattle.label_lattice.specs.Lattice.{Lattice}
use Rattle.mit_syntax.specs.Expression.{Expression}
use Rattle.mit_syntax.specs.Todo.{Done, Skip, Assign, Put, Sleep, If, While, Mitigate}
use Rattle.mit_syntax.specs.Plan.{Plan}
use Rattle.label_infer.specs.Constraints.{LeftSide, Constraint, both, fixed, variable_form, label_form, index_form, set_constraint, level_constraint}

-- the read label of a command at `pc | li`
abbrev pub own_form : Option (Label × Label) → LeftSide → LeftSide
own_form None h = h
own_form (Some p) h = fixed p.0.number

module _ (lat : Lattice) (free : ℕ → Bool) (written : ℕ → ℕ) where
  abbrev pub put_form : Expression → Expression → LeftSide
  put_form i e = both lat (label_form lat free written i) (index_form lat free written e)

  abbrev pub here_form : LeftSide → Expression → LeftSide
  here_form pc e = both lat pc (index_form lat free written e)

  abbrev pub after_form : LeftSide → LeftSide → Expression → LeftSide
  after_form t er e = both lat (both lat t (label_form lat free written e)) er

  abbrev pub loop_form : LeftSide → LeftSide → Expression → LeftSide
  loop_form t er e = both lat (both lat (label_form lat free written e) t) er

  abbrev pub demand_form : LeftSide → LeftSide → LeftSide → LeftSide → LeftSide → LeftSide
  demand_form pc t er le li = both lat (both lat (both lat (both lat le li) pc) t) er

  abbrev pub guarded_end : Plan → LeftSide → LeftSide → LeftSide
  guarded_end Done pc t = t
  guarded_end (Skip w p) pc t = guarded_end p pc (both lat t (own_form w.labels pc))
  guarded_end (Assign w x e p) pc t =
      guarded_end p pc (both lat (variable_form lat free written x)
      (demand_form pc t (own_form w.labels (here_form pc e)) (label_form lat free written e) (index_form lat free written e)))
  guarded_end (Put w f n i e p) pc t =
      guarded_end p pc (both lat (variable_form lat free written f)
      (demand_form pc t (own_form w.labels (both lat pc (put_form i e))) (label_form lat free written e) (put_form i e)))
  guarded_end (Sleep w e p) pc t = guarded_end p pc (after_form t (own_form w.labels (here_form pc e)) e)
  guarded_end (If w e a b p) pc t =
      let start = after_form t (own_form w.labels (here_form pc e)) e in
      let inner = both lat pc (label_form lat free written e) in
      guarded_end p pc (both lat (guarded_end a inner start) (guarded_end b inner start))
  guarded_end (While w e c p) pc t =
      guarded_end p pc (guarded_end c (both lat pc (label_form lat free written e)) (loop_form t (own_form w.labels (here_form pc e)) e))
  guarded_end (Mitigate w k l e c p) pc t = guarded_end p pc (after_form t (own_form w.labels (here_form pc e)) e)

  abbrev pub guarded : Plan → LeftSide → LeftSide → List Constraint
  guarded Done pc t = []
  guarded (Skip w p) pc t = guarded p pc (both lat t (own_form w.labels pc))
  guarded (Assign w x e p) pc t =
      let d = demand_form pc t (own_form w.labels (here_form pc e)) (label_form lat free written e) (index_form lat free written e) in
      set_constraint (free x) x d ++ guarded p pc (both lat (variable_form lat free written x) d)
  guarded (Put w f n i e p) pc t =
      let d = demand_form pc t (own_form w.labels (both lat pc (put_form i e))) (label_form lat free written e) (put_form i e) in
      set_constraint (free f) f d ++ guarded p pc (both lat (variable_form lat free written f) d)
  guarded (Sleep w e p) pc t = guarded p pc (after_form t (own_form w.labels (here_form pc e)) e)
  guarded (If w e a b p) pc t =
      let start = after_form t (own_form w.labels (here_form pc e)) e in
      let inner = both lat pc (label_form lat free written e) in
      guarded a inner start ++ (guarded b inner start ++ guarded p pc (both lat (guarded_end a inner start) (guarded_end b inner start)))
  guarded (While w e c p) pc t =
      let inner = both lat pc (label_form lat free written e) in
      let end = guarded_end c inner (loop_form t (own_form w.labels (here_form pc e)) e) in
      guarded c inner end ++ guarded p pc end
  guarded (Mitigate w k l e c p) pc t =
      let start = after_form t (own_form w.labels (here_form pc e)) e in
      guarded c pc start ++ (level_constraint l k (guarded_end c pc start) ++ guarded p pc start)
