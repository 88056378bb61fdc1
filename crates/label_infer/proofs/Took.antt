-- One step, as code makes it.
use Rattle.std.proofs.Common.{◌≡◌, ℕ, refl, sym, ap, ◌∙◌, subst, List, length, slice_set, length-set}
use Rattle.std.specs.Prelude.{Bool, true, false, cond, Some, slice_get}
use Rattle.label_lattice.specs.declared.label.Label.{Label}
use Rattle.label_lattice.specs.Order.{Order, lattice_of}
use Rattle.timing_types.specs.Labelling.{label_at}
use Rattle.label_infer.specs.declared.constraints.Condition.{Condition}
use Rattle.label_infer.specs.declared.constraints.Target.TheVariants.{Variable, Level}
use Rattle.label_infer.specs.Constraints.{value}
use Rattle.label_infer.specs.LeftSideOf.{left_side_of}
use Rattle.label_infer.specs.ConstraintsOf.{constraint_of, side_of}
use Rattle.label_infer.specs.Work.{Work, waits_at, have_in, woken, joined, taken_side, Takes}
use Rattle.label_infer.proofs.Taking.{work, woken_length}

split_work : (o : Order) (cs : List Condition) (ws : List Bool) (vs ls : List Label) (i : ℕ) (t : Bool) (a b : List Bool) (x y : List Label) →
    work o cs (cond t a b) (cond t x y) ls ≡ cond {A = Work} t (work o cs a x ls) (work o cs b y ls)
split_work o cs ws vs ls i true a b x y = refl
split_work o cs ws vs ls i false a b x y = refl

module _ (o : Order) (cs : List Condition) (ws : List Bool) (vs ls : List Label) (i : ℕ) (c : Condition) (v : ℕ)
    (cs0 : List Condition) (ws0 : List Bool) (vs0 : List Label) (hc : cs0 ≡ cs) (hw : ws0 ≡ ws) (hv : vs0 ≡ vs)
    (wt : waits_at ws0 i ≡ true) (e : slice_get cs0 i ≡ Some c) (ev : v ≡ value (lattice_of o) (length vs0) (label_at o.bottom vs0) (left_side_of c.have)) where
  abbrev w : Work
  w = work o cs ws vs ls

  value_is : v ≡ have_in w (constraint_of c)
  value_is = ev ∙ ap (λ z. value (lattice_of o) (length z) (label_at o.bottom z) (left_side_of c.have)) hv

  pub took_variable : (x : ℕ) (cs1 : List Condition) (ws1 ws' : List Bool) (vs1 vs' : List Label) → c.target ≡ Variable x → cs1 ≡ cs
      → ws1 ≡ slice_set ws i false → vs1 ≡ vs →
      ws' ≡ cond ((lattice_of o).flows v (label_at o.bottom vs1 x)) ws1 (woken x cs1 ws1)
      → vs' ≡ cond ((lattice_of o).flows v (label_at o.bottom vs1 x)) vs1 (joined (lattice_of o) o.bottom vs1 x v) →
      Takes w (work o cs ws' vs' ls) i c
  took_variable x cs1 ws1 ws' vs1 vs' t hc1 hw1 hv1 ew evs =
      let la = lattice_of o in
      let f = la.flows v (label_at o.bottom vs x) in
      let s = slice_set ws i false in
      let ew2 : ws' ≡ cond f s (woken x cs s) = ew ∙ ap (λ z. cond (la.flows v (label_at o.bottom z x)) ws1 (woken x cs1 ws1)) hv1
      ∙ ap (λ z. cond f z (woken x cs1 z)) hw1 ∙ ap (λ z. cond f s (woken x z s)) hc1 in
      let ev2 : vs' ≡ cond f vs (joined la o.bottom vs x v) = evs ∙ ap (λ z. cond (la.flows v (label_at o.bottom z x)) z (joined la o.bottom z x v)) hv1 in
      let is : work o cs ws' vs' ls ≡ taken_side w i v (side_of (Variable x)) =
      ap (λ z. work o cs z vs' ls) ew2 ∙ ap (λ z. work o cs (cond f s (woken x cs s)) z ls) ev2
      ∙ split_work o cs ws vs ls i f s (woken x cs s) vs (joined la o.bottom vs x v) in
      record {
        waits = subst (λ z. waits_at z i ≡ true) hw wt;
        there = subst (λ z. slice_get z i ≡ Some c) hc e;
        taken = is ∙ ap (λ z. taken_side w i v (side_of z)) (sym t) ∙ ap (λ z. taken_side w i z (side_of c.target)) value_is;
      }

  pub took_level : (k : ℕ) (ls1 ls' : List Label) → c.target ≡ Level k → ls1 ≡ ls → ls' ≡ joined (lattice_of o) o.bottom ls1 k v
      → Takes w (work o cs (slice_set ws i false) vs ls') i c
  took_level k ls1 ls' t hl el =
      let la = lattice_of o in
      let is : work o cs (slice_set ws i false) vs ls' ≡ taken_side w i v (side_of (Level k)) =
      ap (λ z. work o cs (slice_set ws i false) vs z) (el ∙ ap (λ z. joined la o.bottom z k v) hl) in
      record {
        waits = subst (λ z. waits_at z i ≡ true) hw wt;
        there = subst (λ z. slice_get z i ≡ Some c) hc e;
        taken = is ∙ ap (λ z. taken_side w i v (side_of z)) (sym t) ∙ ap (λ z. taken_side w i z (side_of c.target)) value_is;
      }

pub waits_length : (t : Bool) (x : ℕ) (cs : List Condition) (ws ws' : List Bool) → ws' ≡ cond t ws (woken x cs ws) → length ws' ≡ length ws
waits_length true x cs ws ws' h = ap length h
waits_length false x cs ws ws' h = ap length h ∙ woken_length x cs ws

pub labels_length : (t : Bool) (x : ℕ) (l : Label) (vs vs' : List Label) → vs' ≡ cond t vs (slice_set vs x l) → length vs' ≡ length vs
labels_length true x l vs vs' h = ap length h
labels_length false x l vs vs' h = ap length h ∙ length-set vs x l
