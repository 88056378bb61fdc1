-- The labels that a walk comes to are labels of the lattice.
use Rattle.std.proofs.Common.{ℕ, ◌+◌, ◌<◌, refl, sym, subst, List, ◌++◌, length, max}
use Rattle.std.specs.Prelude.{Option, None, Some, ltb, ◌&&◌}
use Rattle.std.proofs.lemmas.Bool.{lt-ltb, and_from, cond-true}
use Rattle.label_lattice.specs.declared.label.Label.{Label}
use Rattle.label_lattice.specs.Lattice.{Lattice}
use Rattle.label_lattice.specs.Order.{Order, IsOrder, lattice_of, join_in}
use Rattle.mit_syntax.specs.Expression.{Expression, Number, Variable, Binary, Element}
use Rattle.mit_syntax.specs.Todo.{Done, Skip, Assign, Put, Sleep, If, While, Mitigate}
use Rattle.mit_syntax.specs.Plan.{Plan}
use Rattle.mit_syntax.specs.Declarations.{Declaration}
use Rattle.mit_syntax.specs.Valid.{AreMarksBelow, AreKnown}
use Rattle.timing_types.specs.Typing.{label_of, index_label}
use Rattle.timing_types.specs.Walk.{here, put_index}
use Rattle.label_infer.specs.Given.{AllFrom, own_pair, own_pairs}
use Rattle.label_infer.proofs.Placed.{from_both}

pub joins_below : (o : Order) → IsOrder o → (a b : ℕ) → a < o.size → b < o.size → (lattice_of o).join a b < o.size
joins_below o ho a b h k =
    let n = o.size in
    subst (λ z. z < n) (sym (cond-true (ltb a n && ltb b n) (join_in o.joins a b) (max a b) (and_from (ltb a n) (ltb b n) (lt-ltb a n h) (lt-ltb b n k))))
    (ho.table.closed a b h k)

abbrev pub PairBelow : ℕ → ℕ → Label × Label → Type 0
PairBelow n i m = (m.0.number < n) × (m.1.number < n)

both : (n : ℕ) (xs ys : List (Label × Label)) (i : ℕ) → ((j : ℕ) → AllFrom (PairBelow n) j xs) → ((j : ℕ) → AllFrom (PairBelow n) j ys)
    → AllFrom (PairBelow n) i (xs ++ ys)
both n xs ys i f h = from_both (PairBelow n) xs ys i (i + length xs) refl (f i) (h (i + length xs))

module _ (lat : Lattice) (n : ℕ) (low : lat.bottom < n) (closed : (a b : ℕ) → a < n → b < n → lat.join a b < n) (g : ℕ → ℕ) (gb : (x : ℕ) → g x < n) where
  pub label_below : (e : Expression) → label_of lat g e < n
  label_below (Number x) = low
  label_below (Variable x) = gb x
  label_below (Binary o l r) = closed (label_of lat g l) (label_of lat g r) (label_below l) (label_below r)
  label_below (Element f k i) = closed (g f) (label_of lat g i) (gb f) (label_below i)

  pub index_below : (e : Expression) → index_label lat g e < n
  index_below (Number x) = low
  index_below (Variable x) = low
  index_below (Binary o l r) = closed (index_label lat g l) (index_label lat g r) (index_below l) (index_below r)
  index_below (Element f k i) = label_below i

  here_below : (pc : ℕ) (e : Expression) → pc < n → here lat g pc e < n
  here_below pc e h = closed pc (index_label lat g e) h (index_below e)

  pair_below : (o : Option (Label × Label)) (h : ℕ) → AreMarksBelow n o → h < n → (i : ℕ) → PairBelow n i (own_pair o h)
  pair_below None h k l i = (l, l)
  pair_below (Some p) h k l i = k

  abbrev Below : Plan → ℕ → ℕ → Type 0
  Below p i pc = AllFrom (PairBelow n) i (own_pairs lat g p pc)

  pub pairs_below : (ds : List Declaration) (p : Plan) (i pc : ℕ) → pc < n → AreKnown n ds p → Below p i pc
  pairs_below ds Done i pc h k = tt
  pairs_below ds (Skip w p) i pc h k = (pair_below w.labels pc k.0 h i, pairs_below ds p (i + 1) pc h k.1)
  pairs_below ds (Assign w x e p) i pc h k = (pair_below w.labels (here lat g pc e) k.0 (here_below pc e h) i, pairs_below ds p (i + 1) pc h k.3)
  pairs_below ds (Put w f m j e p) i pc h k = (
    pair_below w.labels (lat.join pc (put_index lat g j e)) k.0
        (closed pc (put_index lat g j e) h (closed (label_of lat g j) (index_label lat g e) (label_below j) (index_below e))) i,
    pairs_below ds p (i + 1) pc h k.4,
  )
  pairs_below ds (Sleep w e p) i pc h k = (pair_below w.labels (here lat g pc e) k.0 (here_below pc e h) i, pairs_below ds p (i + 1) pc h k.2)
  pairs_below ds (If w e a b p) i pc h k =
      let c = lat.join pc (label_of lat g e) in
      let hc = closed pc (label_of lat g e) h (label_below e) in
      let A = own_pairs lat g a c in
      let B = own_pairs lat g b c in
      let R = own_pairs lat g p pc in (
        pair_below w.labels (here lat g pc e) k.0 (here_below pc e h) i,
        both n A (B ++ R) (i + 1) (λ j. pairs_below ds a j c hc k.4) (λ j. both n B R j (λ l. pairs_below ds b l c hc k.5) (λ l. pairs_below ds p l pc h k.6)),
      )
  pairs_below ds (While w e c p) i pc h k =
      let d = lat.join pc (label_of lat g e) in
      let hd = closed pc (label_of lat g e) h (label_below e) in (
        pair_below w.labels (here lat g pc e) k.0 (here_below pc e h) i,
        both n (own_pairs lat g c d) (own_pairs lat g p pc) (i + 1) (λ j. pairs_below ds c j d hd k.3) (λ j. pairs_below ds p j pc h k.4),
      )
  pairs_below ds (Mitigate w m l e c p) i pc h k = (
    pair_below w.labels (here lat g pc e) k.0 (here_below pc e h) i,
    both n (own_pairs lat g c pc) (own_pairs lat g p pc) (i + 1) (λ j. pairs_below ds c j pc h k.4) (λ j. pairs_below ds p j pc h k.5),
  )
