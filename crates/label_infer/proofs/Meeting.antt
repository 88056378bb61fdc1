-- Conditions that are met, and labels that grow.
use Rattle.std.proofs.Common.{ℕ, zero, suc, List, [], ◌∷◌, ◌++◌, get_or}
use Rattle.std.specs.Prelude.{Bool, Option, None, Some}
use Rattle.label_lattice.specs.declared.label.Label.{Label}
use Rattle.label_lattice.specs.Lattice.{Lattice, Flows, IsLattice}
use Rattle.mit_syntax.specs.Expression.{Expression, Number, Variable, Binary, Element}
use Rattle.mit_syntax.specs.Todo.{Done, Skip, Assign, Put, Sleep, If, While, Mitigate}
use Rattle.mit_syntax.specs.Plan.{Plan}
use Rattle.timing_types.specs.Typing.{label_of, index_label}
use Rattle.timing_types.specs.Walk.{Side, Condition, here, put_index, AllHold, Meets}
use Rattle.timing_types.specs.Labelling.{marks_from}
use Rattle.timing_types.proofs.Joins.{join_up}
use Rattle.label_infer.specs.Given.{own_pair, own_pairs}

pub parts_meet : (lat : Lattice) (wanted : Side → Bool) (xs ys : List Condition) → Meets lat wanted (xs ++ ys) → Meets lat wanted xs × Meets lat wanted ys
parts_meet lat wanted [] ys h = (tt, h)
parts_meet lat wanted (c ∷ xs) ys h = let q = parts_meet lat wanted xs ys h.1 in ((h.0, q.0), q.1)

pub both_meet : (lat : Lattice) (wanted : Side → Bool) (xs ys : List Condition) → Meets lat wanted xs → Meets lat wanted ys → Meets lat wanted (xs ++ ys)
both_meet lat wanted [] ys h k = k
both_meet lat wanted (c ∷ xs) ys h k = (h.0, both_meet lat wanted xs ys h.1 k)

pub holds_meet : (lat : Lattice) (wanted : Side → Bool) (cs : List Condition) → AllHold lat cs → Meets lat wanted cs
holds_meet lat wanted [] h = tt
holds_meet lat wanted (c ∷ cs) h = ((λ z. h.0), holds_meet lat wanted cs h.1)

-- each pair of labels flows to that at its place
abbrev pub Rising : Lattice → List (Label × Label) → List (Label × Label) → Type 0
Rising lat [] [] = Unit {0}
Rising lat [] (y ∷ ys) = ⊥
Rising lat (x ∷ xs) [] = ⊥
Rising lat (x ∷ xs) (y ∷ ys) = (Flows lat x.0.number y.0.number × Flows lat x.1.number y.1.number) × Rising lat xs ys

rising_both : (lat : Lattice) (xs xs' ys ys' : List (Label × Label)) → Rising lat xs xs' → Rising lat ys ys' → Rising lat (xs ++ ys) (xs' ++ ys')
rising_both lat [] [] ys ys' h k = k
rising_both lat [] (y ∷ xs') ys ys' h k = absurd h
rising_both lat (x ∷ xs) [] ys ys' h k = absurd h
rising_both lat (x ∷ xs) (y ∷ xs') ys ys' h k = (h.0, rising_both lat xs xs' ys ys' h.1 k)

pub rising_at : (lat : Lattice) → IsLattice lat → (xs ys : List (Label × Label)) (i : ℕ) (d : Label × Label) → Rising lat xs ys →
    Flows lat (marks_from (get_or xs i d)).er (marks_from (get_or ys i d)).er × Flows lat (marks_from (get_or xs i d)).ew (marks_from (get_or ys i d)).ew
rising_at lat ll [] [] i d h = (ll.same _, ll.same _)
rising_at lat ll [] (y ∷ ys) i d h = absurd h
rising_at lat ll (x ∷ xs) [] i d h = absurd h
rising_at lat ll (x ∷ xs) (y ∷ ys) zero d h = h.0
rising_at lat ll (x ∷ xs) (y ∷ ys) (suc i) d h = rising_at lat ll xs ys i d h.1

module _ (lat : Lattice) (ll : IsLattice lat) (g h : ℕ → ℕ) (gh : (x : ℕ) → Flows lat (g x) (h x)) where
  pub label_up : (e : Expression) → Flows lat (label_of lat g e) (label_of lat h e)
  label_up (Number n) = ll.same lat.bottom
  label_up (Variable x) = gh x
  label_up (Binary o l r) = join_up lat ll (label_of lat g l) (label_of lat g r) (label_of lat h l) (label_of lat h r) (label_up l) (label_up r)
  label_up (Element f n i) = join_up lat ll (g f) (label_of lat g i) (h f) (label_of lat h i) (gh f) (label_up i)

  pub index_up : (e : Expression) → Flows lat (index_label lat g e) (index_label lat h e)
  index_up (Number n) = ll.same lat.bottom
  index_up (Variable x) = ll.same lat.bottom
  index_up (Binary o l r) = join_up lat ll (index_label lat g l) (index_label lat g r) (index_label lat h l) (index_label lat h r) (index_up l) (index_up r)
  index_up (Element f n i) = label_up i

  pub put_up : (i e : Expression) → Flows lat (put_index lat g i e) (put_index lat h i e)
  put_up i e = join_up lat ll (label_of lat g i) (index_label lat g e) (label_of lat h i) (index_label lat h e) (label_up i) (index_up e)

  pub here_up : (pc pc' : ℕ) (e : Expression) → Flows lat pc pc' → Flows lat (here lat g pc e) (here lat h pc' e)
  here_up pc pc' e f = join_up lat ll pc (index_label lat g e) pc' (index_label lat h e) f (index_up e)

  pub inner_up : (pc pc' : ℕ) (e : Expression) → Flows lat pc pc' → Flows lat (lat.join pc (label_of lat g e)) (lat.join pc' (label_of lat h e))
  inner_up pc pc' e f = join_up lat ll pc (label_of lat g e) pc' (label_of lat h e) f (label_up e)

  pair_up : (o : Option (Label × Label)) (a b : ℕ) → Flows lat a b →
      Flows lat (own_pair o a).0.number (own_pair o b).0.number × Flows lat (own_pair o a).1.number (own_pair o b).1.number
  pair_up None a b f = (f, f)
  pair_up (Some p) a b f = (ll.same _, ll.same _)

  -- the labels of commands grow with those of variables
  pub pairs_up : (p : Plan) (pc pc' : ℕ) → Flows lat pc pc' → Rising lat (own_pairs lat g p pc) (own_pairs lat h p pc')
  pairs_up Done pc pc' f = tt
  pairs_up (Skip w p) pc pc' f = (pair_up w.labels pc pc' f, pairs_up p pc pc' f)
  pairs_up (Assign w x e p) pc pc' f = (pair_up w.labels (here lat g pc e) (here lat h pc' e) (here_up pc pc' e f), pairs_up p pc pc' f)
  pairs_up (Put w b n i e p) pc pc' f = (
    pair_up w.labels (lat.join pc (put_index lat g i e)) (lat.join pc' (put_index lat h i e))
        (join_up lat ll pc (put_index lat g i e) pc' (put_index lat h i e) f (put_up i e)),
    pairs_up p pc pc' f,
  )
  pairs_up (Sleep w e p) pc pc' f = (pair_up w.labels (here lat g pc e) (here lat h pc' e) (here_up pc pc' e f), pairs_up p pc pc' f)
  pairs_up (If w e a b p) pc pc' f =
      let i = lat.join pc (label_of lat g e) in
      let i' = lat.join pc' (label_of lat h e) in
      let u = inner_up pc pc' e f in (
        pair_up w.labels (here lat g pc e) (here lat h pc' e) (here_up pc pc' e f),
        rising_both lat (own_pairs lat g a i) (own_pairs lat h a i') (own_pairs lat g b i ++ own_pairs lat g p pc) (own_pairs lat h b i'
            ++ own_pairs lat h p pc') (pairs_up a i i' u)
            (rising_both lat (own_pairs lat g b i) (own_pairs lat h b i') (own_pairs lat g p pc) (own_pairs lat h p pc')
            (pairs_up b i i' u) (pairs_up p pc pc' f)),
      )
  pairs_up (While w e c p) pc pc' f =
      let i = lat.join pc (label_of lat g e) in
      let i' = lat.join pc' (label_of lat h e) in (
        pair_up w.labels (here lat g pc e) (here lat h pc' e) (here_up pc pc' e f),
        rising_both lat (own_pairs lat g c i) (own_pairs lat h c i') (own_pairs lat g p pc) (own_pairs lat h p pc')
            (pairs_up c i i' (inner_up pc pc' e f)) (pairs_up p pc pc' f),
      )
  pairs_up (Mitigate w k l e c p) pc pc' f = (
    pair_up w.labels (here lat g pc e) (here lat h pc' e) (here_up pc pc' e f),
    rising_both lat (own_pairs lat g c pc) (own_pairs lat h c pc') (own_pairs lat g p pc) (own_pairs lat h p pc') (pairs_up c pc pc' f) (pairs_up p pc pc' f),
  )
