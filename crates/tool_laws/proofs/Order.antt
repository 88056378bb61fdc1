-- The order of the labels L and H, of which L flows to H.
use Rattle.std.proofs.Common.{◌≡◌, ◌∙◌, refl, sym, ap, subst, ℕ, zero, suc, ◌+◌, ◌*◌, ◌/◌, ◌%◌, ◌<◌, ◌≤◌, leb, max, Bool, true, false, cond, List, [], ◌∷◌}
use Rattle.std.proofs.Common.{length, get_or, inl, arith}
use Rattle.std.specs.Prelude.{◌==◌, ◌||◌, ◌↔◌, All}
use Rattle.std.proofs.lemmas.Bool.{ne_eqb, leb-true, le-leb, both_ways}
use Rattle.std.proofs.lemmas.Nat.{div-mul-add, mod-mul-add}
use Rattle.std.proofs.lemmas.List.Elements.{All-nil, All-cons}
use Rattle.label_lattice.specs.declared.label.Label.{Label}
use Rattle.label_lattice.specs.Names.{IsName, keywords}
use Rattle.label_lattice.specs.Lattice.{Lattice, IsTable, Flows, IsLattice}
use Rattle.label_lattice.specs.Order.{Order, IsOrder, IsRoom, AllDiffer, lattice_of, flows_in, join_in}
use Rattle.label_lattice.proofs.Orders.{order_is}
use Rattle.label_lattice.specs.Chains.{Chain, none, more, IsSound, IsBuilt}

abbrev pub low : Label
low = record { number = 0 }

abbrev pub high : Label
high = record { number = 1 }

abbrev pub pairs : List (Label × Label)
pairs = (low, high) ∷ []

abbrev pub names : List (List ℕ)
names = (76 ∷ []) ∷ (72 ∷ []) ∷ []

-- ---- tables of 32 rows

-- so many cells, each by its place
unfoldable pub table : {A : Type 0} → (ℕ → A) → ℕ → ℕ → List A
table f i zero = []
table f i (suc n) = f i ∷ table f (suc i) n

table_length : {A : Type 0} (f : ℕ → A) (i n : ℕ) → length (table f i n) ≡ n
unfolding table
table_length f i zero = refl
table_length f i (suc n) = ap suc (table_length f (suc i) n)

table_at : {A : Type 0} (f : ℕ → A) (d : A) (i n k : ℕ) → k < n → get_or (table f i n) k d ≡ f (i + k)
unfolding table
table_at f d i zero k h = absurd (omega (arith, h))
table_at f d i (suc n) zero h = ap f (omega arith)
table_at f d i (suc n) (suc k) h = table_at f d (suc i) n k (omega (arith, h)) ∙ ap f (omega arith)

-- each label flows to itself, and the first to the second
abbrev pub flow_cell : ℕ → Bool
flow_cell i = (i / 32 == i % 32) || (i == 1)

-- the join of two labels is the higher one
abbrev pub join_cell : ℕ → ℕ
join_cell i = cond ((i == 1) || ((i == 32) || (i == 33))) 1 0

unfoldable pub flow_table : List Bool
flow_table = table flow_cell 0 1024

unfoldable pub join_table : List ℕ
join_table = table join_cell 0 1024

from_none : (n : ℕ) → 0 + n ≡ n
from_none n = omega arith

flow_there : (a b : ℕ) → a < 32 → b < 32 → flows_in flow_table a b ≡ flow_cell (a * 32 + b)
unfolding flow_table
flow_there a b h k = table_at flow_cell false 0 1024 (a * 32 + b) (omega (arith, h, k)) ∙ ap flow_cell (from_none (a * 32 + b))

join_there : (a b : ℕ) → a < 32 → b < 32 → join_in join_table a b ≡ join_cell (a * 32 + b)
unfolding join_table
join_there a b h k = table_at join_cell 0 0 1024 (a * 32 + b) (omega (arith, h, k)) ∙ ap join_cell (from_none (a * 32 + b))

-- ---- the laws of its two labels

flow_is : (a b : ℕ) → a < 2 → b < 2 → flows_in flow_table a b ≡ leb a b
flow_is zero zero h k = flow_there 0 0 (omega arith) (omega arith)
flow_is zero (suc zero) h k = flow_there 0 1 (omega arith) (omega arith)
flow_is (suc zero) zero h k = flow_there 1 0 (omega arith) (omega arith)
flow_is (suc zero) (suc zero) h k = flow_there 1 1 (omega arith) (omega arith)
flow_is (suc (suc a)) b h k = absurd (omega (arith, h))
flow_is a (suc (suc b)) h k = absurd (omega (arith, k))

join_is : (a b : ℕ) → a < 2 → b < 2 → join_in join_table a b ≡ max a b
join_is zero zero h k = join_there 0 0 (omega arith) (omega arith)
join_is zero (suc zero) h k = join_there 0 1 (omega arith) (omega arith)
join_is (suc zero) zero h k = join_there 1 0 (omega arith) (omega arith)
join_is (suc zero) (suc zero) h k = join_there 1 1 (omega arith) (omega arith)
join_is (suc (suc a)) b h k = absurd (omega (arith, h))
join_is a (suc (suc b)) h k = absurd (omega (arith, k))

below : (a b : ℕ) → a < 2 → b < 2 → flows_in flow_table a b ≡ true → a ≤ b
below a b h k f = leb-true a b (sym (flow_is a b h k) ∙ f)

above : (a b : ℕ) → a < 2 → b < 2 → a ≤ b → flows_in flow_table a b ≡ true
above a b h k l = flow_is a b h k ∙ le-leb a b l

laws : IsTable 2 (flows_in flow_table) (join_in join_table) 0
laws = record {
  some = omega arith;
  closed = λ a b h k. let e = join_is a b h k in omega (arith, e, h, k);
  same = λ a h. above a a h h (omega arith);
  chain = λ a b c h k l p q. let x = below a b h k p in let y = below b c k l q in above a c h l (omega (arith, x, y));
  anti = λ a b h k p q. let x = below a b h k p in let y = below b a k h q in omega (arith, x, y);
  left = λ a b h k. let e = join_is a b h k in above a (join_in join_table a b) h (omega (arith, e, h, k)) (omega (arith, e));
  right = λ a b h k. let e = join_is a b h k in above b (join_in join_table a b) k (omega (arith, e, h, k)) (omega (arith, e));
  least = λ a b c h k l p q.
      let e = join_is a b h k in
      let x = below a c h l p in
      let y = below b c k l q in
      above (join_in join_table a b) c (omega (arith, e, h, k)) l (omega (arith, e, x, y));
  lowest = λ a h. above 0 a (omega arith) h (omega arith);
}

-- ---- what the tables say beside them

or_false : (x : Bool) → (x || false) ≡ x
or_false true = refl
or_false false = refl

never : (a b n : ℕ) → (a * 32 + b ≡ n → ⊥) → (a * 32 + b == n) ≡ false
never a b n h = ne_eqb (a * 32 + b) n h

flow_alone : (a b : ℕ) → a < 32 → b < 32 → (a < 2 → b < 2 → ⊥) → flow_cell (a * 32 + b) ≡ (a == b)
flow_alone a b h k f =
    ap (λ (x : Bool). ((a * 32 + b) / 32 == (a * 32 + b) % 32) || x) (never a b 1 (λ e. f (omega (arith, e, k)) (omega (arith, e, k))))
    ∙ or_false ((a * 32 + b) / 32 == (a * 32 + b) % 32)
    ∙ ap (λ (x : ℕ). x == (a * 32 + b) % 32) (div-mul-add a 32 b k)
    ∙ ap (λ (x : ℕ). a == x) (mod-mul-add a 32 b k)

join_alone : (a b : ℕ) → a < 32 → b < 32 → (a < 2 → b < 2 → ⊥) → join_cell (a * 32 + b) ≡ 0
join_alone a b h k f =
    ap (λ (x : Bool). cond {A = ℕ} (x || ((a * 32 + b == 32) || (a * 32 + b == 33))) 1 0) (never a b 1 (λ e. f (omega (arith, e, k)) (omega (arith, e, k))))
    ∙ ap (λ (x : Bool). cond {A = ℕ} (x || (a * 32 + b == 33)) 1 0) (never a b 32 (λ e. f (omega (arith, e, k)) (omega (arith, e, k))))
    ∙ ap (λ (x : Bool). cond {A = ℕ} x 1 0) (never a b 33 (λ e. f (omega (arith, e, k)) (omega (arith, e, k))))

-- ---- the order

abbrev pub two : Order
two = record { size = 2; names = names; flows = flow_table; joins = join_table; bottom = 0 }

room : IsRoom two
unfolding flow_table join_table
room = record {
  flows = table_length flow_cell 0 1024;
  joins = table_length join_cell 0 1024;
  unused = λ a b h k f. (flow_there a b h k ∙ flow_alone a b h k f, join_there a b h k ∙ join_alone a b h k f);
}

are_names : All IsName names
unfolding keywords
are_names =
    All-cons IsName (76 ∷ []) ((72 ∷ []) ∷ []) ((refl, tt), omega arith, refl)
    (All-cons IsName (72 ∷ []) [] ((refl, tt), omega arith, refl) (All-nil IsName))

differ : AllDiffer names
differ zero zero d h k = absurd (omega (arith, h))
differ zero (suc zero) d h k = λ e. let f : 76 ≡ 72 = ap (λ (l : List ℕ). get_or l 0 0) e in absurd (omega (arith, f))
differ zero (suc (suc j)) d h k = absurd (omega (arith, k))
differ (suc i) zero d h k = absurd (omega (arith, h))
differ (suc i) (suc zero) d h k = absurd (omega (arith, h))
differ (suc i) (suc (suc j)) d h k = absurd (omega (arith, k))

pub two_order : IsOrder two
two_order = record {
  some = omega arith;
  within = omega arith;
  named = refl;
  names = are_names;
  differ = differ;
  table = laws;
  room = room;
}

-- ---- what flows is what the pair says

up : Chain pairs 0 1
up = more (inl (refl, refl)) none

chains : IsSound 2 (Chain pairs) → (a b : ℕ) → a < 2 → b < 2 → Flows (lattice_of two) a b ↔ Chain pairs a b
chains s zero zero h k = (λ f. none, λ c. flow_is 0 0 h k)
chains s zero (suc zero) h k = (λ f. up, λ c. flow_is 0 1 h k)
chains s (suc zero) zero h k = (
  λ f. absurd (both_ways (flows_in flow_table 1 0) (flow_is 1 0 h k) f),
  λ c. absurd (s.no_cycle 0 1 (omega arith) (omega arith) (up, c)),
)
chains s (suc zero) (suc zero) h k = (λ f. none, λ c. flow_is 1 1 h k)
chains s (suc (suc a)) b h k = absurd (omega (arith, h))
chains s a (suc (suc b)) h k = absurd (omega (arith, k))

pub two_built : IsSound 2 (Chain pairs) → IsBuilt names pairs two
two_built s = record { sound = s; order = two_order; size = refl; named = refl; flows = chains s }

-- ---- the lattice over all numbers

pub two_lattice : IsLattice (lattice_of two)
two_lattice = order_is two two_order

pub low_join : (lattice_of two).join 0 0 ≡ 0
low_join = join_is 0 0 (omega arith) (omega arith)

abbrev pub lattice : Lattice
lattice = lattice_of two

-- the low label flows to each
pub low_flows : (a b : ℕ) → a ≡ 0 → Flows lattice a b
low_flows a b e = subst (λ (x : ℕ). Flows lattice x b) (sym e) (two_lattice.lowest b)
