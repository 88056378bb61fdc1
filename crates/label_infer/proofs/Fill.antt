-- A program's commands with the labels that labels of variables and levels give.
use Rattle.std.proofs.Common.{◌≡◌, ℕ, ◌+◌, refl, ap, ◌∙◌}
use Rattle.std.specs.Prelude.{is_some, Option}
use Rattle.label_lattice.specs.declared.label.Label.{Label}
use Rattle.label_lattice.specs.Lattice.{Lattice}
use Rattle.mit_syntax.specs.Todo.{Marks, Done, Skip, Assign, Put, Sleep, If, While, Mitigate}
use Rattle.mit_syntax.specs.Plan.{Written, Plan, count}
use Rattle.timing_types.specs.Typing.{label_of}
use Rattle.timing_types.specs.Placed.{Placed, Level, Tree, labelled}
use Rattle.timing_types.specs.Walk.{here, put_index}
use Rattle.label_infer.specs.Least.{own, HasOwn}

abbrev pub owned : Written → ℕ → Placed
owned w h = record { pos = w.pos; marks = own w.labels h }

module _ (lat : Lattice) (g : ℕ → ℕ) (lv : ℕ → ℕ) where
  abbrev pub level_with : Option Label → ℕ → Level
  level_with l k = record { written = is_some l; label = lv k }

  abbrev pub fill : Plan → ℕ → Tree
  fill Done pc = Done
  fill (Skip w p) pc = Skip (owned w pc) (fill p pc)
  fill (Assign w x e p) pc = Assign (owned w (here lat g pc e)) x e (fill p pc)
  fill (Put w f n i e p) pc = Put (owned w (lat.join pc (put_index lat g i e))) f n i e (fill p pc)
  fill (Sleep w e p) pc = Sleep (owned w (here lat g pc e)) e (fill p pc)
  fill (If w e a b p) pc =
      If (owned w (here lat g pc e)) e (fill a (lat.join pc (label_of lat g e))) (fill b (lat.join pc (label_of lat g e))) (fill p pc)
  fill (While w e c p) pc = While (owned w (here lat g pc e)) e (fill c (lat.join pc (label_of lat g e))) (fill p pc)
  fill (Mitigate w k l e c p) pc = Mitigate (owned w (here lat g pc e)) k (level_with l k) e (fill c pc) (fill p pc)

  module _ (ms : ℕ → Marks) where
    abbrev L : Plan → ℕ → Tree
    L = labelled ms lv

    with_marks : (w : Written) (m m' : Marks) (f : Placed → Tree) → m ≡ m' → f (record { pos = w.pos; marks = m }) ≡ f (record { pos = w.pos; marks = m' })
    with_marks w m m' f e = ap (λ z. f (record { pos = w.pos; marks = z })) e

    pub fills : (p : Plan) (i pc : ℕ) → HasOwn lat g ms p i pc → L p i ≡ fill p pc
    fills Done i pc h = refl
    fills (Skip w p) i pc h = with_marks w (ms i) (own w.labels pc) (λ m. Skip m (L p (i + 1))) h.0 ∙ ap (λ z. Skip (owned w pc) z) (fills p (i + 1) pc h.1)
    fills (Assign w x e p) i pc h =
        with_marks w (ms i) (own w.labels (here lat g pc e)) (λ m. Assign m x e (L p (i + 1))) h.0
        ∙ ap (λ z. Assign (owned w (here lat g pc e)) x e z) (fills p (i + 1) pc h.1)
    fills (Put w f n j e p) i pc h =
        let own' = lat.join pc (put_index lat g j e) in
        with_marks w (ms i) (own w.labels own') (λ m. Put m f n j e (L p (i + 1))) h.0 ∙ ap (λ z. Put (owned w own') f n j e z) (fills p (i + 1) pc h.1)
    fills (Sleep w e p) i pc h =
        with_marks w (ms i) (own w.labels (here lat g pc e)) (λ m. Sleep m e (L p (i + 1))) h.0
        ∙ ap (λ z. Sleep (owned w (here lat g pc e)) e z) (fills p (i + 1) pc h.1)
    fills (If w e a b p) i pc h =
        let m = owned w (here lat g pc e) in
        let n = lat.join pc (label_of lat g e) in
        let jb = i + 1 + count a in
        let jp = i + 1 + count a + count b in
        with_marks w (ms i) (own w.labels (here lat g pc e)) (λ m'. If m' e (L a (i + 1)) (L b jb) (L p jp)) h.0
        ∙ ap (λ z. If m e z (L b jb) (L p jp)) (fills a (i + 1) n h.1)
        ∙ ap (λ z. If m e (fill a n) z (L p jp)) (fills b jb n h.2)
        ∙ ap (λ z. If m e (fill a n) (fill b n) z) (fills p jp pc h.3)
    fills (While w e c p) i pc h =
        let m = owned w (here lat g pc e) in
        let n = lat.join pc (label_of lat g e) in
        let jp = i + 1 + count c in
        with_marks w (ms i) (own w.labels (here lat g pc e)) (λ m'. While m' e (L c (i + 1)) (L p jp)) h.0
        ∙ ap (λ z. While m e z (L p jp)) (fills c (i + 1) n h.1)
        ∙ ap (λ z. While m e (fill c n) z) (fills p jp pc h.2)
    fills (Mitigate w k l e c p) i pc h =
        let m = owned w (here lat g pc e) in
        let v = level_with l k in
        let jp = i + 1 + count c in
        with_marks w (ms i) (own w.labels (here lat g pc e)) (λ m'. Mitigate m' k v e (L c (i + 1)) (L p jp)) h.0
        ∙ ap (λ z. Mitigate m k v e z (L p jp)) (fills c (i + 1) pc h.1)
        ∙ ap (λ z. Mitigate m k v e (fill c pc) z) (fills p jp pc h.2)
