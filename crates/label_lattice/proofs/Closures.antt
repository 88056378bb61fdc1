-- A table of what flows, with one pair more.
use Rattle.std.proofs.Common.{◌≡◌, ℕ, ◌+◌, ◌*◌, ◌<◌, Bool, true, false, eqb, List, [], ◌∷◌, ◌++◌, length, get_or, take, sym, ap₂, ◌∙◌, ⊎_elim, arith}
use Rattle.std.specs.Prelude.{◌||◌, ◌&&◌}
use Rattle.std.proofs.lemmas.Bool.{or_cases, or_left, or_right, and_parts, and_from, eqb-true, eq-eqb}
use Rattle.std.proofs.lemmas.Nat.{div-mul-add, mod-mul-add}
use Rattle.label_lattice.specs.Order.{row}
use Rattle.label_lattice.specs.declared.label.Label.{Label}
use Rattle.std.proofs.lemmas.List.{take_more}
use Rattle.label_lattice.specs.Chains.{Chain, AreBelow}
use Rattle.label_lattice.specs.Tables.{IsClosure, on_diagonal, extended}
use Rattle.label_lattice.proofs.Chained.{chain_then, chain_same, chain_empty, chain_more, chain_by, chain_split}

pub cell_below : (a b : ℕ) → a < row → b < row → a * row + b < row * row
cell_below a b h k = omega arith

pub diagonal_is : (t : List Bool) → ((i : ℕ) → i < row * row → get_or t i false ≡ on_diagonal i) → IsClosure t []
diagonal_is t f =
    let at : (a b : ℕ) → a < row → b < row → get_or t (a * row + b) false ≡ eqb a b =
    λ a b h k. f (a * row + b) (cell_below a b h k) ∙ ap₂ (λ (x y : ℕ). eqb x y) (div-mul-add a row b k) (mod-mul-add a row b k) in
    record {
      sets = λ a b h k s. chain_same [] a b (eqb-true a b (sym (at a b h k) ∙ s));
      set = λ a b h k c. at a b h k ∙ eq-eqb a b (chain_empty c);
    }

module _ (t : List Bool) (ps : List (Label × Label)) (p : Label × Label) (h : IsClosure t ps) (below : (p.0.number < row) × (p.1.number < row)) where
  by_way : ℕ → ℕ → Bool
  by_way a b = get_or t (a * row + b) false || (get_or t (a * row + p.0.number) false && get_or t (p.1.number * row + b) false)

  to_chain : (a b : ℕ) → a < row → b < row → by_way a b ≡ true → Chain (ps ++ p ∷ []) a b
  unfolding by_way
  to_chain a b k l e = ⊎_elim
      (λ (x : get_or t (a * row + b) false ≡ true). chain_more ps p (h.sets a b k l x))
      (λ (y : (get_or t (a * row + p.0.number) false && get_or t (p.1.number * row + b) false) ≡ true).
      let z = and_parts (get_or t (a * row + p.0.number) false) (get_or t (p.1.number * row + b) false) y in
      chain_by ps p (h.sets a p.0.number k below.0 z.0) (h.sets p.1.number b below.1 l z.1))
      (or_cases (get_or t (a * row + b) false) (get_or t (a * row + p.0.number) false && get_or t (p.1.number * row + b) false) e)

  from_chain : (a b : ℕ) → a < row → b < row → Chain (ps ++ p ∷ []) a b → by_way a b ≡ true
  unfolding by_way
  from_chain a b k l c = ⊎_elim
      (λ (x : Chain ps a b). or_left (get_or t (a * row + b) false) _ (h.set a b k l x))
      (λ (s : Chain ps a p.0.number × Chain ps p.1.number b).
      or_right (get_or t (a * row + b) false) (get_or t (a * row + p.0.number) false && get_or t (p.1.number * row + b) false)
      (and_from (get_or t (a * row + p.0.number) false) (get_or t (p.1.number * row + b) false) (h.set a p.0.number k below.0 s.0)
      (h.set p.1.number b below.1 l s.1)))
      (chain_split ps p c)

  pub closure_more : (u : List Bool) → ((i : ℕ) → i < row * row → get_or u i false ≡ extended t p.0.number p.1.number i) → IsClosure u (ps ++ p ∷ [])
  unfolding by_way
  closure_more u f =
      let at : (a b : ℕ) → a < row → b < row → get_or u (a * row + b) false ≡ by_way a b =
      λ a b k l. f (a * row + b) (cell_below a b k l)
      ∙ ap₂ (λ (x y : ℕ). get_or t (a * row + b) false || (get_or t (x * row + p.0.number) false && get_or t (p.1.number * row + y) false))
      (div-mul-add a row b l) (mod-mul-add a row b l) in
      record {
        sets = λ a b k l s. to_chain a b k l (sym (at a b k l) ∙ s);
        set = λ a b k l c. at a b k l ∙ from_chain a b k l c;
      }

  pub closure_same : get_or t (p.0.number * row + p.1.number) false ≡ true → IsClosure t (ps ++ p ∷ [])
  closure_same e =
      record {
        sets = λ a b k l s. chain_more ps p (h.sets a b k l s);
        set = λ a b k l c. ⊎_elim
            (λ (x : Chain ps a b). h.set a b k l x)
            (λ (s : Chain ps a p.0.number × Chain ps p.1.number b). h.set a b k l
            (chain_then ps s.0 (chain_then ps (h.sets p.0.number p.1.number below.0 below.1 e) s.1)))
            (chain_split ps p c);
      }

-- what the loop reads past the last pair
abbrev pub no_pair : Label × Label
no_pair = (record { number = 0 }, record { number = 0 })

module _ (ps : List (Label × Label)) (i x y : ℕ) (t : List Bool) (h : IsClosure t (take i ps)) (below : AreBelow row ps) (l : i < length ps)
    (ex : x ≡ (get_or ps i no_pair).0.number) (ey : y ≡ (get_or ps i no_pair).1.number) where
  pub step_below : (x < row) × (y < row)
  step_below = let b = below i no_pair l in (rw ex b.0, rw ey b.1)

  pub step_with : (u : List Bool) → ((k : ℕ) → k < row * row → get_or u k false ≡ extended t x y k) → IsClosure u (take (i + 1) ps)
  step_with u f =
      rw (take_more ps i no_pair l)
      (closure_more t (take i ps) (get_or ps i no_pair) h (below i no_pair l) u (λ k m. f k m ∙ ap₂ (λ (a b : ℕ). extended t a b k) ex ey))

  pub step_same : get_or t (x * row + y) false ≡ true → IsClosure t (take (i + 1) ps)
  step_same e =
      rw (take_more ps i no_pair l)
      (closure_same t (take i ps) (get_or ps i no_pair) h (below i no_pair l) (sym (ap₂ (λ (a b : ℕ). get_or t (a * row + b) false) ex ey) ∙ e))
