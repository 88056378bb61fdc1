-- The steps of inference.
use Rattle.std.proofs.Common.{◌≡◌, ℕ, zero, suc, ◌+◌, ◌-◌, ◌*◌, ◌<◌, ◌≤◌, refl, sym, ap, ◌∙◌, subst, List, [], ◌∷◌, length, slice_set, ⊎_elim, arith}
use Rattle.std.proofs.Common.{length-set}
use Rattle.std.specs.Prelude.{Bool, true, false, cond, ◌||◌, eqb, Some, slice_get}
use Rattle.std.proofs.lemmas.Bool.{cases_Bool, cases_lt, cases_eq, both_ways, cond-true, cond-false, eq-eqb, ne_eqb}
use Rattle.std.proofs.lemmas.Option.{none-some}
use Rattle.label_lattice.specs.declared.label.Label.{Label}
use Rattle.label_lattice.specs.Lattice.{Lattice, Flows, IsLattice}
use Rattle.label_lattice.specs.Order.{Order, lattice_of}
use Rattle.mit_syntax.specs.Program.{Syntax, plan_of}
use Rattle.mit_syntax.specs.Valid.{IsValid}
use Rattle.timing_types.specs.Walk.{Side, OfCommand, OfVariable, OfLevel}
use Rattle.timing_types.specs.Labelling.{label_at}
use Rattle.label_infer.specs.declared.constraints.Condition.{Condition}
use Rattle.label_infer.specs.Constraints.{value}
use Rattle.label_infer.specs.ConstraintsOf.{constraint_of, constraints_in}
use Rattle.label_infer.specs.Work.{Work, waits_at, have_in, woken, joined, taken_side, Takes, IsWorkOf, Climb, start, up, ChainsHaveUpTo, row_count, shares}
use Rattle.label_infer.specs.Work.{score, row_left, steps_left, IsWithin}
use Rattle.label_infer.proofs.Completed.{lattice_laws}
use Rattle.label_infer.specs.Least.{is_free}
use Rattle.label_infer.specs.Given.{written_levels}
use Rattle.label_infer.proofs.Right.{IsRight}
use Rattle.label_infer.proofs.Taking.{work, same_work, small_of, set_same, set_other, v_below, joined_below, is_open}

score_le : (b : Bool) → score b ≤ 1
score_le true = omega arith
score_le false = omega arith

part_le : (b : Bool) (x y : ℕ) → x ≤ y → ◌≤◌ (cond b x 0) (cond b y 0)
part_le true x y h = h
part_le false x y h = omega arith

row_le : (n : ℕ) (has : ℕ → Bool) (l l' : ℕ → ℕ) → ((x : ℕ) → l' x ≤ l x) → row_left n has l' ≤ row_left n has l
row_le zero has l l' f = omega arith
row_le (suc n) has l l' f = omega (arith, part_le (has n) (l' n) (l n) (f n), row_le n has l l' f)

row_lt : (n : ℕ) (has : ℕ → Bool) (l l' : ℕ → ℕ) (y : ℕ) → y < n → has y ≡ true → ((x : ℕ) → l' x ≤ l x) → l' y < l y → row_left n has l' < row_left n has l
row_lt zero has l l' y h k f g = absurd (omega (arith, h))
row_lt (suc n) has l l' y h k f g =
    ⊎_elim
    (λ (i : y < n). omega (arith, part_le (has n) (l' n) (l n) (f n), row_lt n has l l' y i k f g))
    (λ (i : n ≤ y).
    let e : y ≡ n = omega (arith, h, i) in
    let here : has n ≡ true = subst (λ z. has z ≡ true) e k in
    let a : ◌≡◌ {A = ℕ} (cond (has n) (l' n) 0) (l' n) = ap (λ z. cond {A = ℕ} z (l' n) 0) here in
    let b : ◌≡◌ {A = ℕ} (cond (has n) (l n) 0) (l n) = ap (λ z. cond {A = ℕ} z (l n) 0) here in
    let less : l' n < l n = subst (λ z. l' z < l z) e g in
    omega (arith, a, b, less, row_le n has l l' f))
    (cases_lt y n)

-- one condition, where y rises: it may wait again, and then its row has less left
wait_le : (n : ℕ) (w : Bool) (has : ℕ → Bool) (l l' : ℕ → ℕ) (y : ℕ) → y < n → ((x : ℕ) → l' x ≤ l x) → l' y < l y
    → score (w || has y) + row_left n has l' ≤ score w + row_left n has l
wait_le n w has l l' y h f g = ⊎_elim
    (λ (k : has y ≡ true). omega (arith, row_lt n has l l' y h k f g, both_le w (has y)))
    (λ (k : has y ≡ false). let s : score (w || has y) ≡ score w = or_nothing w (has y) k in omega (arith, s, row_le n has l l' f))
    (cases_Bool (has y))
  where
    both_le : (a b : Bool) → score (a || b) ≤ score a + 1
    both_le true b = omega arith
    both_le false true = omega arith
    both_le false false = omega arith

    or_nothing : (a b : Bool) → b ≡ false → score (a || b) ≡ score a
    or_nothing true b k = refl
    or_nothing false b k = ap score k

left_le : (n : ℕ) (l l' : ℕ → ℕ) → ((x : ℕ) → l' x ≤ l x) → (cs : List Condition) (ws : List Bool) → steps_left n l' cs ws ≤ steps_left n l cs ws
left_le n l l' f [] ws = omega arith
left_le n l l' f (c ∷ cs) [] = omega (arith, row_le n (constraint_of c).have.has l l' f, left_le n l l' f cs [])
left_le n l l' f (c ∷ cs) (w ∷ ws) = omega (arith, row_le n (constraint_of c).have.has l l' f, left_le n l l' f cs ws)

woken_le : (n : ℕ) (l l' : ℕ → ℕ) (y : ℕ) → y < n → ((x : ℕ) → l' x ≤ l x) → l' y < l y → (cs : List Condition) (ws : List Bool)
    → steps_left n l' cs (woken y cs ws) ≤ steps_left n l cs ws
woken_le n l l' y h f g [] ws = omega arith
woken_le n l l' y h f g (c ∷ cs) [] = omega (arith, row_le n (constraint_of c).have.has l l' f, left_le n l l' f cs [])
woken_le n l l' y h f g (c ∷ cs) (w ∷ ws) = omega (arith, wait_le n w (constraint_of c).have.has l l' y h f g, woken_le n l l' y h f g cs ws)

-- a condition that waited waits no more
clear_le : (n : ℕ) (l : ℕ → ℕ) (cs : List Condition) (ws : List Bool) (i : ℕ) (c : Condition) → slice_get cs i ≡ Some c → waits_at ws i ≡ true →
    1 + steps_left n l cs (slice_set ws i false) ≤ steps_left n l cs ws
clear_le n l [] ws i c e h = absurd (none-some c e)
clear_le n l (d ∷ cs) [] i c e h = absurd (both_ways false refl h)
clear_le n l (d ∷ cs) (w ∷ ws) zero c e h = let s : score w ≡ 1 = ap score h in omega (arith, s)
clear_le n l (d ∷ cs) (w ∷ ws) (suc i) c e h = omega (arith, clear_le n l cs ws i c e h)

count_step : (b : Bool) (l c a k : ℕ) → l ≤ c → a ≤ k * c → ◌≤◌ (cond b l 0 + a) ((cond b 1 0 + k) * c)
count_step true l c a k h i = omega (arith, h, i)
count_step false l c a k h i = omega (arith, i)

row_count_le : (n c : ℕ) (has : ℕ → Bool) (l : ℕ → ℕ) → ((x : ℕ) → l x ≤ c) → row_left n has l ≤ row_count n has * c
row_count_le zero c has l f = omega arith
row_count_le (suc n) c has l f = count_step (has n) (l n) c (row_left n has l) (row_count n has) (f n) (row_count_le n c has l f)

start_le : (n c : ℕ) (l : ℕ → ℕ) → ((x : ℕ) → l x ≤ c - 1) → (cs : List Condition) (ws : List Bool) → steps_left n l cs ws ≤ shares n c (constraints_in cs)
start_le n c l f [] ws = omega arith
start_le n c l f (x ∷ cs) [] = omega (arith, row_count_le n (c - 1) (constraint_of x).have.has l f, start_le n c l f cs [])
start_le n c l f (x ∷ cs) (w ∷ ws) = omega (arith, score_le w, row_count_le n (c - 1) (constraint_of x).have.has l f, start_le n c l f cs ws)

-- at the start no step is used
pub first_within : (w : Work) (c : ℕ) → ((x : ℕ) → label_at w.order.bottom w.variables x < w.order.size) → IsWithin w c 0
first_within w c below =
    let s = start_le (length w.variables) c (λ x. c - 1 - 0) (λ x. omega arith) w.conditions w.waits in
    record { rises = λ x. 0; climbs = λ x. start (below x); bound = omega (arith, s) }

module _ (s : Syntax) (valid : IsValid s) (cs : List Condition) (ws : List Bool) (vs ls : List Label) (h : IsWorkOf s (work s.order cs ws vs ls)) (i : ℕ)
    (c : Condition) (e : slice_get cs i ≡ Some c) (wt : waits_at ws i ≡ true)
    (k used : ℕ) (upto : ChainsHaveUpTo s.order k) (b : IsWithin (work s.order cs ws vs ls) k used) where
  abbrev la : Lattice
  la = lattice_of s.order

  abbrev g : ℕ → ℕ
  g = label_at s.order.bottom vs

  abbrev v : ℕ
  v = value (lattice_of s.order) (length vs) (label_at s.order.bottom vs) (constraint_of c).have

  abbrev left : (ℕ → ℕ) → ℕ → ℕ
  left r x = k - 1 - r x

  cleared : 1 + steps_left (length vs) (left b.rises) cs (slice_set ws i false) ≤ steps_left (length vs) (left b.rises) cs ws
  cleared = clear_le (length vs) (left b.rises) cs ws i c e wt

  rest_within : IsWithin (work s.order cs (slice_set ws i false) vs ls) k (1 + used)
  rest_within = let q = cleared in let p = b.bound in record { rises = b.rises; climbs = b.climbs; bound = omega (arith, q, p) }

  level_within : (ls' : List Label) → IsWithin (work s.order cs (slice_set ws i false) vs ls') k (1 + used)
  level_within ls' = let q = cleared in let p = b.bound in record { rises = b.rises; climbs = b.climbs; bound = omega (arith, q, p) }

  variable_within : (x : ℕ) → (constraint_of c).side ≡ OfVariable x → la.flows v (g x) ≡ false
      → IsWithin (work s.order cs (woken x cs (slice_set ws i false)) (joined la s.order.bottom vs x v) ls) k (1 + used)
  variable_within x side rose =
      let ll = lattice_laws s.order valid.order in
      let free = subst (λ z. IsRight (is_free s.declarations) (written_levels (plan_of s)) z) side (is_open s valid cs ws vs ls h i c e).side in
      let fit = h.variables.fit in
      let sm = small_of s.declarations x free in
      let l : x < length vs = omega (arith, fit, sm) in
      let new = la.join (g x) v in
      let vs' = joined la s.order.bottom vs x v in
      let g' : ℕ → ℕ = label_at s.order.bottom vs' in
      let r : ℕ → ℕ = b.rises in
      let r' : ℕ → ℕ = λ y. cond (eqb y x) (1 + r x) (r y) in
      let is : g' x ≡ new = set_same s.order.bottom vs x new l in
      let below : new < s.order.size =
      subst (λ z. z < s.order.size) is (joined_below s valid cs ws vs ls h i c e vs x v l (v_below s valid cs ws vs ls h i c e) h.variables.below x) in
      let differ : g x ≡ new → ⊥ = λ q. both_ways (la.flows v (g x)) rose (subst (λ z. Flows la v z) (sym q) (ll.right (g x) v)) in
      let climb : Climb la s.order.size new (1 + r x) = up (b.climbs x) below (ll.left (g x) v) differ in
      let top = upto new (1 + r x) climb in
      let rx : r' x ≡ 1 + r x = cond-true (eqb x x) (1 + r x) (r x) (eq-eqb x x refl) in
      let ry : (y : ℕ) → (y ≡ x → ⊥) → r' y ≡ r y = λ y q. cond-false (eqb y x) (1 + r x) (r y) (ne_eqb y x q) in
      let more : (y : ℕ) → r y ≤ r' y = λ y. ⊎_elim
      (λ (q : y ≡ x). subst (λ z. r z ≤ r' z) (sym q) (omega (arith, rx)))
      (λ (q : y ≡ x → ⊥). let z = ry y q in omega (arith, z)) (cases_eq y x) in
      let len : length vs' ≡ length vs = length-set vs x _ in
      let w = woken_le (length vs) (left r) (left r') x l (λ y. let m = more y in omega (arith, m)) (omega (arith, rx, top)) cs (slice_set ws i false) in
      let q = cleared in
      let p = b.bound in
      let fin : (1 + used) + steps_left (length vs) (left r') cs (woken x cs (slice_set ws i false)) ≤ shares (length vs) k (constraints_in cs) =
      omega (arith, w, q, p) in
      record {
        rises = r';
        climbs = λ y. ⊎_elim
            (λ (q : y ≡ x). subst (λ z. Climb la s.order.size (g' z) (r' z)) (sym q)
            (subst (λ z. Climb la s.order.size (g' x) z) (sym rx) (subst (λ z. Climb la s.order.size z (1 + r x)) (sym is) climb)))
            (λ (q : y ≡ x → ⊥). subst (λ z. Climb la s.order.size (g' y) z) (sym (ry y q))
            (subst (λ z. Climb la s.order.size z (r y)) (sym (set_other s.order.bottom vs x y new q)) (b.climbs y)))
            (cases_eq y x);
        bound = subst (λ z. (1 + used) + steps_left z (left r') cs (woken x cs (slice_set ws i false)) ≤ shares z k (constraints_in cs)) (sym len) fin;
      }

  spent : (constraint_of c).side ≡ OfCommand → IsWithin (work s.order cs ws vs ls) k (1 + used)
  spent q = absurd (subst (λ z. IsRight (is_free s.declarations) (written_levels (plan_of s)) z) q (is_open s valid cs ws vs ls h i c e).side)

  taken_within : IsWithin (taken_side (work s.order cs ws vs ls) i v (constraint_of c).side) k (1 + used)
  taken_within = go (constraint_of c).side refl
    where
      go : (d : Side) → (constraint_of c).side ≡ d → IsWithin (taken_side (work s.order cs ws vs ls) i v d) k (1 + used)
      go OfCommand q = spent q
      go (OfVariable x) q = by (la.flows v (g x)) refl
        where
          by : (t : Bool) → la.flows v (g x) ≡ t
              → IsWithin (cond t (work s.order cs (slice_set ws i false) vs ls)
              (work s.order cs (woken x cs (slice_set ws i false)) (joined la s.order.bottom vs x v) ls)) k (1 + used)
          by true f = rest_within
          by false f = variable_within x q f
      go (OfLevel j w) q = level_within (joined la s.order.bottom ls j v)

-- one step uses one
pub still_within : (s : Syntax) → IsValid s → (w w' : Work) (i : ℕ) (c : Condition) (k used : ℕ) → IsWorkOf s w → Takes w w' i c → ChainsHaveUpTo s.order k
    → IsWithin w k used → IsWithin w' k (1 + used)
still_within s valid w w' i c k used h t upto b =
    let q = same_work w s.order h.order in
    let h2 = subst (λ z. IsWorkOf s z) q h in
    let b2 = subst (λ z. IsWithin z k used) q b in
    let r = taken_within s valid w.conditions w.waits w.variables w.levels h2 i c t.there t.waits k used upto b2 in
    subst (λ z. IsWithin z k (1 + used)) (sym (t.taken ∙ ap (λ z. taken_side z i (have_in z (constraint_of c)) (constraint_of c).side) q)) r

-- how many of the labels below n a label flows to
abbrev above : Lattice → ℕ → ℕ → ℕ
above lat zero a = 0
above lat (suc n) a = cond (lat.flows a n) 1 0 + above lat n a

above_le : (lat : Lattice) → IsLattice lat → (n a b : ℕ) → Flows lat a b → above lat n b ≤ above lat n a
above_le lat ll zero a b f = omega arith
above_le lat ll (suc n) a b f = omega (arith, one (lat.flows b n) refl, above_le lat ll n a b f)
  where
    one : (t : Bool) → lat.flows b n ≡ t → ◌≤◌ (cond t 1 0) (cond (lat.flows a n) 1 0)
    one true e = let k : ◌≡◌ {A = ℕ} (cond (lat.flows a n) 1 0) 1 = ap (λ z. cond {A = ℕ} z 1 0) (ll.chain a b n f e) in omega (arith, k)
    one false e = omega arith

above_lt : (lat : Lattice) → IsLattice lat → (n a b : ℕ) → Flows lat a b → (a ≡ b → ⊥) → a < n → above lat n b < above lat n a
above_lt lat ll zero a b f d h = absurd (omega (arith, h))
above_lt lat ll (suc n) a b f d h = ⊎_elim
    (λ (q : a ≡ n).
    let no : lat.flows b n ≡ false = out (lat.flows b n) refl q in
    let x : ◌≡◌ {A = ℕ} (cond (lat.flows b n) 1 0) 0 = ap (λ z. cond {A = ℕ} z 1 0) no in
    let y : ◌≡◌ {A = ℕ} (cond (lat.flows a n) 1 0) 1 = ap (λ z. cond {A = ℕ} z 1 0) (subst (λ z. Flows lat a z) q (ll.same a)) in
    omega (arith, x, y, above_le lat ll n a b f))
    (λ (q : a ≡ n → ⊥).
    let i : a < n = omega (arith, h, q) in
    omega (arith, one (lat.flows b n) refl, above_lt lat ll n a b f d i))
    (cases_eq a n)
  where
    one : (t : Bool) → lat.flows b n ≡ t → ◌≤◌ (cond t 1 0) (cond (lat.flows a n) 1 0)
    one true e = let k : ◌≡◌ {A = ℕ} (cond (lat.flows a n) 1 0) 1 = ap (λ z. cond {A = ℕ} z 1 0) (ll.chain a b n f e) in omega (arith, k)
    one false e = omega arith

    out : (t : Bool) → lat.flows b n ≡ t → a ≡ n → lat.flows b n ≡ false
    out true e q = absurd (d (ll.anti a b f (subst (λ z. Flows lat b z) (sym q) e)))
    out false e q = e

above_all : (lat : Lattice) (n a : ℕ) → above lat n a ≤ n
above_all lat zero a = omega arith
above_all lat (suc n) a = omega (arith, one (lat.flows a n), above_all lat n a)
  where
    one : (t : Bool) → ◌≤◌ (cond t 1 0) 1
    one true = omega arith
    one false = omega arith

own_above : (lat : Lattice) → IsLattice lat → (n a : ℕ) → a < n → 0 < above lat n a
own_above lat ll zero a h = absurd (omega (arith, h))
own_above lat ll (suc n) a h = ⊎_elim
    (λ (q : a ≡ n). let y : ◌≡◌ {A = ℕ} (cond (lat.flows a n) 1 0) 1 = ap (λ z. cond {A = ℕ} z 1 0) (subst (λ z. Flows lat a z) q (ll.same a)) in
    omega (arith, y))
    (λ (q : a ≡ n → ⊥). omega (arith, own_above lat ll n a (omega (arith, h, q))))
    (cases_eq a n)

climb_le : (lat : Lattice) → IsLattice lat → (n a k : ℕ) → Climb lat n a k → (k + above lat n a ≤ n) × (a < n)
climb_le lat ll n a _ (start h) = (omega (arith, above_all lat n a), h)
climb_le lat ll n b _ (up {a = a} {k = k} c h f d) =
    let q = climb_le lat ll n a k c in
    let lt = above_lt lat ll n a b f d q.1 in
    let le = q.0 in
    (omega (arith, lt, le), h)

-- no chain has more labels than there are
pub chains_size : (o : Order) → IsLattice (lattice_of o) → ChainsHaveUpTo o o.size
chains_size o ll a k c =
    let q = climb_le (lattice_of o) ll o.size a k c in
    let some = own_above (lattice_of o) ll o.size a q.1 in
    let le = q.0 in
    omega (arith, some, le)
