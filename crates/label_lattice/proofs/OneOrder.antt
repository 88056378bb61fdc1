-- Two orders built from the same names and pairs are one.
use Rattle.std.proofs.Common.{◌≡◌, ◌∙◌, ℕ, ◌+◌, ◌*◌, ◌/◌, ◌%◌, ◌<◌, ◌≤◌, Bool, true, false, ltb, leb, List, length, get_or, sym, ap, subst, ⊎_elim, arith}
use Rattle.std.specs.Prelude.{◌&&◌}
use Rattle.std.proofs.lemmas.Bool.{cases_Bool, cases_lt, and_from, lt-ltb, cond-true}
use Rattle.std.proofs.lemmas.List.{ext_get_or}
use Rattle.label_lattice.specs.declared.label.Label.{Label}
use Rattle.label_lattice.specs.Order.{Order, row, flows_in, join_in, lattice_of}
use Rattle.label_lattice.specs.Chains.{Chain, IsBuilt}

abbrev ordered : ℕ → List (List ℕ) → List Bool → List ℕ → ℕ → Order
ordered n names flows joins bottom = record { size = n; names = names; flows = flows; joins = joins; bottom = bottom }

same_record : (o u : Order) → o.size ≡ u.size → o.names ≡ u.names → o.flows ≡ u.flows → o.joins ≡ u.joins → o.bottom ≡ u.bottom → o ≡ u
same_record o u a b c d e =
    ap (λ (x : ℕ). ordered x o.names o.flows o.joins o.bottom) a
    ∙ ap (λ (x : List (List ℕ)). ordered u.size x o.flows o.joins o.bottom) b
    ∙ ap (λ (x : List Bool). ordered u.size u.names x o.joins o.bottom) c
    ∙ ap (λ (x : List ℕ). ordered u.size u.names u.flows x o.bottom) d
    ∙ ap (λ (x : ℕ). ordered u.size u.names u.flows u.joins x) e

same_bool : (x y : Bool) → (x ≡ true → y ≡ true) → (y ≡ true → x ≡ true) → x ≡ y
same_bool x y f g = ⊎_elim
    (λ (e : x ≡ true). e ∙ sym (f e))
    (λ (e : x ≡ false). ⊎_elim (λ (k : y ≡ true). g k ∙ sym k) (λ (k : y ≡ false). e ∙ sym k) (cases_Bool y)) (cases_Bool x)

-- each cell of a table in rows is that of a row and a column
cell_at : (i : ℕ) → i < row * row → (i / row < row) × (i % row < row) × (i / row * row + i % row ≡ i)
cell_at i h = (omega arith, omega arith, omega arith)

module _ (names : List (List ℕ)) (pairs : List (Label × Label)) (o u : Order) (h : IsBuilt names pairs o) (k : IsBuilt names pairs u) where
  sizes : o.size ≡ u.size
  sizes = h.size ∙ sym k.size

  in_table : (v : Order) → v.size ≡ length names → (a b : ℕ) → a < length names → b < length names → (lattice_of v).flows a b ≡ flows_in v.flows a b
  in_table v e a b i j =
      cond-true (ltb a v.size && ltb b v.size) (flows_in v.flows a b) (leb a b)
      (and_from (ltb a v.size) (ltb b v.size) (lt-ltb a v.size (omega (arith, i, e))) (lt-ltb b v.size (omega (arith, j, e))))

  flows_chain : (v : Order) → IsBuilt names pairs v → (a b : ℕ) → a < length names → b < length names → flows_in v.flows a b ≡ true → Chain pairs a b
  flows_chain v w a b i j f = (w.flows a b i j).0 (in_table v w.size a b i j ∙ f)

  chain_flows : (v : Order) → IsBuilt names pairs v → (a b : ℕ) → a < length names → b < length names → Chain pairs a b → flows_in v.flows a b ≡ true
  chain_flows v w a b i j c = sym (in_table v w.size a b i j) ∙ (w.flows a b i j).1 c

  same_flow : (a b : ℕ) → a < length names → b < length names → flows_in o.flows a b ≡ flows_in u.flows a b
  same_flow a b i j =
      same_bool (flows_in o.flows a b) (flows_in u.flows a b)
      (λ f. chain_flows u k a b i j (flows_chain o h a b i j f))
      (λ f. chain_flows o h a b i j (flows_chain u k a b i j f))

  same_join : (a b : ℕ) → a < length names → b < length names → join_in o.joins a b ≡ join_in u.joins a b
  same_join a b i j =
      let i₁ : a < o.size = omega (arith, i, h.size) in
      let j₁ : b < o.size = omega (arith, j, h.size) in
      let i₂ : a < u.size = omega (arith, i, k.size) in
      let j₂ : b < u.size = omega (arith, j, k.size) in
      let x : ℕ = join_in o.joins a b in
      let y : ℕ = join_in u.joins a b in
      let x₁ : join_in o.joins a b < o.size = h.order.table.closed a b i₁ j₁ in
      let y₂ : join_in u.joins a b < u.size = k.order.table.closed a b i₂ j₂ in
      let x₀ : join_in o.joins a b < length names = omega (arith, x₁, h.size) in
      let y₀ : join_in u.joins a b < length names = omega (arith, y₂, k.size) in
      let y₁ : join_in u.joins a b < o.size = omega (arith, y₀, h.size) in
      let x₂ : join_in o.joins a b < u.size = omega (arith, x₀, k.size) in
      let to : flows_in o.flows (join_in o.joins a b) (join_in u.joins a b) ≡ true =
      h.order.table.least a b (join_in u.joins a b) i₁ j₁ y₁
      (same_flow a (join_in u.joins a b) i y₀ ∙ k.order.table.left a b i₂ j₂)
      (same_flow b (join_in u.joins a b) j y₀ ∙ k.order.table.right a b i₂ j₂) in
      let back : flows_in u.flows (join_in u.joins a b) (join_in o.joins a b) ≡ true =
      k.order.table.least a b (join_in o.joins a b) i₂ j₂ x₂
      (sym (same_flow a (join_in o.joins a b) i x₀) ∙ h.order.table.left a b i₁ j₁)
      (sym (same_flow b (join_in o.joins a b) j x₀) ∙ h.order.table.right a b i₁ j₁) in
      h.order.table.anti (join_in o.joins a b) (join_in u.joins a b) x₁ y₁ to (same_flow (join_in u.joins a b) (join_in o.joins a b) y₀ x₀ ∙ back)

  -- both are labels, or not both are
  split : (P : Type 0) (a b : ℕ) → (a < length names → b < length names → P) → ((a < length names → b < length names → ⊥) → P) → P
  split P a b f g = ⊎_elim
      (λ (i : a < length names). ⊎_elim (λ (j : b < length names). f i j)
      (λ (j : length names ≤ b). g (λ x y. absurd (omega (arith, j, y)))) (cases_lt b (length names)))
      (λ (i : length names ≤ a). g (λ x y. absurd (omega (arith, i, x)))) (cases_lt a (length names))

  outside : (v : Order) → v.size ≡ length names → (a b : ℕ) → (a < length names → b < length names → ⊥) → a < v.size → b < v.size → ⊥
  outside v e a b f i j = f (omega (arith, i, e)) (omega (arith, j, e))

  flow_there : (a b : ℕ) → a < row → b < row → flows_in o.flows a b ≡ flows_in u.flows a b
  flow_there a b i j = split (flows_in o.flows a b ≡ flows_in u.flows a b) a b
      (same_flow a b)
      (λ f. (h.order.room.unused a b i j (outside o h.size a b f)).0 ∙ sym (k.order.room.unused a b i j (outside u k.size a b f)).0)

  join_there : (a b : ℕ) → a < row → b < row → join_in o.joins a b ≡ join_in u.joins a b
  join_there a b i j = split (join_in o.joins a b ≡ join_in u.joins a b) a b
      (same_join a b)
      (λ f. (h.order.room.unused a b i j (outside o h.size a b f)).1 ∙ sym (k.order.room.unused a b i j (outside u k.size a b f)).1)

  same_flows : o.flows ≡ u.flows
  same_flows = ext_get_or false o.flows u.flows (h.order.room.flows ∙ sym k.order.room.flows)
      (λ i l. let c = cell_at i (omega (arith, l, h.order.room.flows)) in
      subst (λ (z : ℕ). get_or o.flows z false ≡ get_or u.flows z false) c.2 (flow_there (i / row) (i % row) c.0 c.1))

  same_joins : o.joins ≡ u.joins
  same_joins = ext_get_or 0 o.joins u.joins (h.order.room.joins ∙ sym k.order.room.joins)
      (λ i l. let c = cell_at i (omega (arith, l, h.order.room.joins)) in
      subst (λ (z : ℕ). get_or o.joins z 0 ≡ get_or u.joins z 0) c.2 (join_there (i / row) (i % row) c.0 c.1))

  same_bottom : o.bottom ≡ u.bottom
  same_bottom =
      let x₁ : o.bottom < o.size = h.order.table.some in
      let y₂ : u.bottom < u.size = k.order.table.some in
      let x₀ : o.bottom < length names = omega (arith, x₁, h.size) in
      let y₀ : u.bottom < length names = omega (arith, y₂, k.size) in
      let y₁ : u.bottom < o.size = omega (arith, y₀, h.size) in
      let x₂ : o.bottom < u.size = omega (arith, x₀, k.size) in
      h.order.table.anti o.bottom u.bottom x₁ y₁ (h.order.table.lowest u.bottom y₁) (same_flow u.bottom o.bottom y₀ x₀ ∙ k.order.table.lowest o.bottom x₂)

  pub one_order : o ≡ u
  one_order = same_record o u sizes (h.named ∙ sym k.named) same_flows same_joins same_bottom
