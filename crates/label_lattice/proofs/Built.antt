-- A lattice from a closed table of which nothing is wrong.
use Rattle.std.proofs.Common.{◌≡◌, ◌∙◌, ℕ, ◌+◌, ◌*◌, ◌/◌, ◌%◌, ◌<◌, ◌≤◌, Bool, true, false, cond, eqb, ltb, leb, List, length, take, get_or, refl, sym, ap}
use Rattle.std.proofs.Common.{subst, ◌⊎◌, inl, inr, ⊎_elim, arith}
use Rattle.std.specs.Prelude.{◌&&◌, All}
use Rattle.label_lattice.specs.Names.{IsName}
use Rattle.std.proofs.Math.Seq.{take-append_seam}
use Rattle.std.proofs.lemmas.Bool.{cases_Bool, cases_eq, cases_lt, both_ways, and_from, lt-ltb, cond-true, eq-eqb, ne_eqb, false_from_ne_true}
use Rattle.std.proofs.lemmas.Nat.{div-mul-add, mod-mul-add}
use Rattle.label_lattice.specs.declared.label.Label.{Label}
use Rattle.label_lattice.specs.Lattice.{IsTable}
use Rattle.label_lattice.specs.Order.{Order, row, AllDiffer, IsOrder}
use Rattle.label_lattice.specs.Room.{filled}
use Rattle.label_lattice.specs.Kept.{IsKept, order_of}
use Rattle.label_lattice.specs.Chains.{Chain, none, AreBelow, IsCycle, IsLowest, AreLowest, IsJoin, HaveNoJoin, IsNoPair, IsFirstPair, IsSound, IsBuilt}
use Rattle.label_lattice.specs.Tables.{IsSet, IsClosure, IsJoinOf}
use Rattle.label_lattice.proofs.Chained.{chain_then, chain_same, chain_outside}
use Rattle.label_lattice.proofs.Closures.{cell_below}
use Rattle.label_lattice.proofs.Sound.{cycle, both_lowest, join, no_pair, first_pair, anti, some_lowest, lowest_flows, have_join}

module _ (n : ℕ) (few : n ≤ row) (ps : List (Label × Label)) (t : List Bool) (h : IsClosure t ps) where
  to : (a b : ℕ) → a < n → b < n → IsSet t a b → Chain ps a b
  to a b k l s = h.sets a b (omega (arith, k, few)) (omega (arith, l, few)) s

  from : (a b : ℕ) → a < n → b < n → Chain ps a b → IsSet t a b
  from a b k l s = h.set a b (omega (arith, k, few)) (omega (arith, l, few)) s

  same : (a : ℕ) → a < n → IsSet t a a
  same a k = from a a k k none

  chain : (a b c : ℕ) → a < n → b < n → c < n → IsSet t a b → IsSet t b c → IsSet t a c
  chain a b c k l m p q = from a c k m (chain_then ps (to a b k l p) (to b c l m q))

  known : (a b : ℕ) → a < n → b < n → IsSet t a b ⊎ (IsSet t a b → ⊥)
  known a b k l = ⊎_elim
      (λ (e : get_or t (a * row + b) false ≡ true). inl e)
      (λ (e : get_or t (a * row + b) false ≡ false). inr (λ s. both_ways (get_or t (a * row + b) false) e s)) (cases_Bool (get_or t (a * row + b) false))

  no_join : (a b : ℕ) → a < n → b < n → HaveNoJoin n (IsSet t) a b → HaveNoJoin n (Chain ps) a b
  no_join a b k l f c m j = f c m (join n (Chain ps) (IsSet t) from to a b c k l m j)

  no_join_back : (a b : ℕ) → a < n → b < n → HaveNoJoin n (Chain ps) a b → HaveNoJoin n (IsSet t) a b
  no_join_back a b k l f c m j = f c m (join n (IsSet t) (Chain ps) to from a b c k l m j)

  pub chained_no_cycle : IsNoPair n (IsCycle (IsSet t)) → IsNoPair n (IsCycle (Chain ps))
  chained_no_cycle = no_pair n (IsCycle (IsSet t)) (IsCycle (Chain ps)) (cycle n (IsSet t) (Chain ps) to from) (cycle n (Chain ps) (IsSet t) from to)

  pub chained_cycle : (a b : ℕ) → IsFirstPair n (IsCycle (IsSet t)) a b → IsFirstPair n (IsCycle (Chain ps)) a b
  chained_cycle = first_pair n (IsCycle (IsSet t)) (IsCycle (Chain ps)) (cycle n (IsSet t) (Chain ps) to from) (cycle n (Chain ps) (IsSet t) from to)

  pub chained_one_lowest : IsNoPair n (AreLowest n (IsSet t)) → IsNoPair n (AreLowest n (Chain ps))
  chained_one_lowest = no_pair n (AreLowest n (IsSet t)) (AreLowest n (Chain ps)) (both_lowest n (IsSet t) (Chain ps) to from)
      (both_lowest n (Chain ps) (IsSet t) from to)

  pub chained_lowest : (a b : ℕ) → IsFirstPair n (AreLowest n (IsSet t)) a b → IsFirstPair n (AreLowest n (Chain ps)) a b
  chained_lowest = first_pair n (AreLowest n (IsSet t)) (AreLowest n (Chain ps)) (both_lowest n (IsSet t) (Chain ps) to from)
      (both_lowest n (Chain ps) (IsSet t) from to)

  pub chained_joined : IsNoPair n (HaveNoJoin n (IsSet t)) → IsNoPair n (HaveNoJoin n (Chain ps))
  chained_joined = no_pair n (HaveNoJoin n (IsSet t)) (HaveNoJoin n (Chain ps)) no_join no_join_back

  pub chained_no_join : (a b : ℕ) → IsFirstPair n (HaveNoJoin n (IsSet t)) a b → IsFirstPair n (HaveNoJoin n (Chain ps)) a b
  chained_no_join = first_pair n (HaveNoJoin n (IsSet t)) (HaveNoJoin n (Chain ps)) no_join no_join_back

  module _ (no_cycle : IsNoPair n (IsCycle (IsSet t))) (one_lowest : IsNoPair n (AreLowest n (IsSet t))) (joined : IsNoPair n (HaveNoJoin n (IsSet t))) where
    pub lowest_there : 0 < n → ((a : ℕ) → a < n → IsLowest n (IsSet t) a → ⊥) → ⊥
    lowest_there z f = let m = some_lowest n (IsSet t) same chain known no_cycle one_lowest joined z in f m.0 m.1.0 m.1.1

    pub sound : IsSound n (Chain ps)
    sound = record { few = few; no_cycle = chained_no_cycle no_cycle; one_lowest = chained_one_lowest one_lowest; joined = chained_joined joined }

    module _ (js : List ℕ) (joins : (i : ℕ) → i < row * row → IsJoinOf n t i (get_or js i 0)) (m : ℕ) (below : m < n) (low : IsLowest n (IsSet t) m) where
      join_in : ℕ → ℕ → ℕ
      join_in a b = get_or js (a * row + b) 0

      join_is : (a b : ℕ) → a < n → b < n → (join_in a b < n) × IsJoin n (IsSet t) a b (join_in a b)
      unfolding join_in
      join_is a b k l =
          let P : ℕ → ℕ → Type 0 = λ x y. (HaveNoJoin n (IsSet t) x y × (get_or js (a * row + b) 0 ≡ 0))
          ⊎ ((get_or js (a * row + b) 0 < n) × IsJoin n (IsSet t) x y (get_or js (a * row + b) 0)) in
          let l' : b < row = omega (arith, l, few) in
          let f : P ((a * row + b) / row) ((a * row + b) % row) = joins (a * row + b) (cell_below a b (omega (arith, k, few)) l') in
          let g : P a b = subst (λ (x : ℕ). P x b) (div-mul-add a row b l') (subst (λ (y : ℕ). P ((a * row + b) / row) y) (mod-mul-add a row b l') f) in
          ⊎_elim
          (λ (x : HaveNoJoin n (IsSet t) a b × (get_or js (a * row + b) 0 ≡ 0)). absurd
          (have_join n (IsSet t) same chain known no_cycle one_lowest joined a b k l x.0))
          (λ (y : (get_or js (a * row + b) 0 < n) × IsJoin n (IsSet t) a b (get_or js (a * row + b) 0)). y) g

      pub table_is : IsTable n (λ a b. get_or t (a * row + b) false) (λ a b. get_or js (a * row + b) 0) m
      unfolding join_in
      table_is =
          record {
            some = below;
            closed = λ a b k l. (join_is a b k l).0;
            same = same;
            chain = chain;
            anti = anti n (IsSet t) same chain known no_cycle one_lowest joined;
            left = λ a b k l. (join_is a b k l).1.left;
            right = λ a b k l. (join_is a b k l).1.right;
            least = λ a b c k l i p q. (join_is a b k l).1.least c i p q;
            lowest = lowest_flows n (IsSet t) same chain known no_cycle one_lowest joined m below low;
          }

-- what the tables say where not both are labels
module _ (n : ℕ) (few : n ≤ row) (ps : List (Label × Label)) (below : AreBelow n ps) (t : List Bool) (h : IsClosure t ps) where
  alone : (a b : ℕ) → a < row → b < row → (a < n → b < n → ⊥) → IsSet t a b → a ≡ b
  alone a b k l f s = chain_outside n ps below f (h.sets a b k l s)

  pub flows_alone : (a b : ℕ) → a < row → b < row → (a < n → b < n → ⊥) → get_or t (a * row + b) false ≡ eqb a b
  flows_alone a b k l f = ⊎_elim
      (λ (e : a ≡ b). h.set a b k l (chain_same ps a b e) ∙ sym (eq-eqb a b e))
      (λ (ne : a ≡ b → ⊥). false_from_ne_true (get_or t (a * row + b) false) (λ s. ne (alone a b k l f s)) ∙ sym (ne_eqb a b ne)) (cases_eq a b)

  module _ (js : List ℕ) (joins : (i : ℕ) → i < row * row → IsJoinOf n t i (get_or js i 0)) where
    no_join_there : (a b j : ℕ) → a < row → b < row → (a < n → b < n → ⊥) → j < n → IsJoin n (IsSet t) a b j → ⊥
    no_join_there a b j k l f i x = ⊎_elim
        (λ (p : a < n). let e : b ≡ j = alone b j l (omega (arith, i, few)) (λ u v. f p u) x.right in f p (omega (arith, e, i)))
        (λ (p : n ≤ a). let e : a ≡ j = alone a j k (omega (arith, i, few)) (λ u v. absurd (omega (arith, u, p))) x.left in
        absurd (omega (arith, e, i, p))) (cases_lt a n)

    pub joins_none : (a b : ℕ) → a < row → b < row → (a < n → b < n → ⊥) → get_or js (a * row + b) 0 ≡ 0
    joins_none a b k l f =
        let j : ℕ = get_or js (a * row + b) 0 in
        let P : ℕ → ℕ → Type 0 = λ x y. (HaveNoJoin n (IsSet t) x y × (get_or js (a * row + b) 0 ≡ 0))
        ⊎ ((get_or js (a * row + b) 0 < n) × IsJoin n (IsSet t) x y (get_or js (a * row + b) 0)) in
        let g : P ((a * row + b) / row) ((a * row + b) % row) = joins (a * row + b) (cell_below a b k l) in
        let q : P a b = subst (λ (x : ℕ). P x b) (div-mul-add a row b l) (subst (λ (y : ℕ). P ((a * row + b) / row) y) (mod-mul-add a row b l) g) in
        ⊎_elim
        (λ (x : HaveNoJoin n (IsSet t) a b × (get_or js (a * row + b) 0 ≡ 0)). x.1)
        (λ (y : (get_or js (a * row + b) 0 < n) × IsJoin n (IsSet t) a b (get_or js (a * row + b) 0)). absurd
        (no_join_there a b (get_or js (a * row + b) 0) k l f y.0 y.1)) q

module _ (names room : List (List ℕ)) (t : List Bool) (js : List ℕ) (m : ℕ) (is_room : room ≡ filled names (length names)) where
  front : take (length names) room ≡ names
  front = ap (λ (x : List (List ℕ)). take (length names) x) is_room ∙ take-append_seam names _

  abbrev there : Order
  there = order_of (record { size = length names; names = room; flows = t; joins = js; bottom = m })

  module _ (z : 0 < length names) (few : length names ≤ row) (all : All IsName names) (differ : AllDiffer names)
      (table : IsTable (length names) (λ a b. get_or t (a * row + b) false) (λ a b. get_or js (a * row + b) 0) m)
      (ps : List (Label × Label)) (below : AreBelow (length names) ps) (h : IsClosure t ps) (joins : (i : ℕ) → i < row * row
      → IsJoinOf (length names) t i (get_or js i 0)) (sizes : (length t ≡ row * row) × (length js ≡ row * row)) where
    order : IsOrder there
    order =
        record {
          some = z;
          within = few;
          named = ap length front;
          names = subst (All IsName) (sym front) all;
          differ = subst AllDiffer (sym front) differ;
          table = table;
          room = record {
            flows = sizes.0;
            joins = sizes.1;
            unused = λ a b k l f. (flows_alone (length names) few ps below t h a b k l f, joins_none (length names) few ps below t h js joins a b k l f);
          };
        }

    pub kept : IsKept (record { size = length names; names = room; flows = t; joins = js; bottom = m })
    kept = record { order = order; room = is_room ∙ ap (λ (x : List (List ℕ)). filled x (length names)) (sym front) }

    pub built : IsSound (length names) (Chain ps) → IsBuilt names ps there
    built s =
        record {
          sound = s;
          order = order;
          size = refl;
          named = front;
          flows = λ a b k l.
              let two : (ltb a (length names) && ltb b (length names)) ≡ true =
              and_from (ltb a (length names)) (ltb b (length names)) (lt-ltb a (length names) k) (lt-ltb b (length names) l) in
              let e : cond (ltb a (length names) && ltb b (length names)) (get_or t (a * row + b) false) (leb a b) ≡ get_or t (a * row + b) false =
              cond-true (ltb a (length names) && ltb b (length names)) (get_or t (a * row + b) false) (leb a b) two in (
                λ f. h.sets a b (omega (arith, k, s.few)) (omega (arith, l, s.few)) (sym e ∙ f),
                λ c. e ∙ h.set a b (omega (arith, k, s.few)) (omega (arith, l, s.few)) c,
              );
        }
