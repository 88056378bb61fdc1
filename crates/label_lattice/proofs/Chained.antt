-- Chains of written pairs.
use Rattle.std.proofs.Common.{◌≡◌, ℕ, suc, ◌<◌, ◌≤◌, List, [], ◌∷◌, ◌++◌, subst, sym, ◌⊎◌, inl, inr, ⊎_elim, refl, arith}
use Rattle.label_lattice.specs.declared.label.Label.{Label}
use Rattle.label_lattice.specs.Chains.{IsWritten, Chain, none, more, AreBelow}

pub chain_then : (ps : List (Label × Label)) {a b c : ℕ} → Chain ps a b → Chain ps b c → Chain ps a c
chain_then ps none q = q
chain_then ps (more w r) q = more w (chain_then ps r q)

pub chain_same : (ps : List (Label × Label)) (a b : ℕ) → a ≡ b → Chain ps a b
chain_same ps a b e = subst (λ z. Chain ps a z) e none

-- no pairs, no chains but those of no pair
pub chain_empty : {a b : ℕ} → Chain [] a b → a ≡ b
chain_empty none = refl
chain_empty (more w r) = absurd w

pub written_split : (xs : List (Label × Label)) (p : Label × Label) (a b : ℕ) → IsWritten (xs ++ p ∷ []) a b
    → IsWritten xs a b ⊎ ((p.0.number ≡ a) × (p.1.number ≡ b))
written_split [] p a b w = ⊎_elim (λ (e : (p.0.number ≡ a) × (p.1.number ≡ b)). inr e) (λ (x : ⊥). absurd x) w
written_split (x ∷ xs) p a b w = ⊎_elim
    (λ (e : (x.0.number ≡ a) × (x.1.number ≡ b)). inl (inl e))
    (λ (r : IsWritten (xs ++ p ∷ []) a b). ⊎_elim (λ (l : IsWritten xs a b). inl (inr l)) (λ (e : (p.0.number ≡ a) × (p.1.number ≡ b)). inr e)
    (written_split xs p a b r)) w

pub written_more : (xs : List (Label × Label)) (p : Label × Label) (a b : ℕ) → IsWritten xs a b → IsWritten (xs ++ p ∷ []) a b
written_more [] p a b w = absurd w
written_more (x ∷ xs) p a b w = ⊎_elim
    (λ (e : (x.0.number ≡ a) × (x.1.number ≡ b)). inl e)
    (λ (r : IsWritten xs a b). inr (written_more xs p a b r)) w

pub written_last : (xs : List (Label × Label)) (p : Label × Label) → IsWritten (xs ++ p ∷ []) p.0.number p.1.number
written_last [] p = inl (refl, refl)
written_last (x ∷ xs) p = inr (written_last xs p)

pub chain_more : (xs : List (Label × Label)) (p : Label × Label) {a b : ℕ} → Chain xs a b → Chain (xs ++ p ∷ []) a b
chain_more xs p none = none
chain_more xs p (more {a} {b} {c} w r) = more (written_more xs p a b w) (chain_more xs p r)

pub chain_by : (xs : List (Label × Label)) (p : Label × Label) {a b : ℕ} → Chain xs a p.0.number → Chain xs p.1.number b → Chain (xs ++ p ∷ []) a b
chain_by xs p l r = chain_then (xs ++ p ∷ []) (chain_more xs p l) (more (written_last xs p) (chain_more xs p r))

-- with one pair more, a chain is one of before or goes by way of the new pair
pub chain_split : (xs : List (Label × Label)) (p : Label × Label) {a b : ℕ} → Chain (xs ++ p ∷ []) a b
    → Chain xs a b ⊎ (Chain xs a p.0.number × Chain xs p.1.number b)
chain_split xs p none = inl none
chain_split xs p (more {a} {b} {c} w r) = ⊎_elim
    (λ (l : Chain xs b c). ⊎_elim
    (λ (v : IsWritten xs a b). inl (more v l))
    (λ (e : (p.0.number ≡ a) × (p.1.number ≡ b)). inr (chain_same xs a p.0.number (sym e.0), chain_then xs (chain_same xs p.1.number b e.1) l))
    (written_split xs p a b w))
    (λ (s : Chain xs b p.0.number × Chain xs p.1.number c). ⊎_elim
    (λ (v : IsWritten xs a b). inr (more v s.0, s.1))
    (λ (e : (p.0.number ≡ a) × (p.1.number ≡ b)). inr (chain_same xs a p.0.number (sym e.0), s.1))
    (written_split xs p a b w)) (chain_split xs p r)

pub below_more : (m n : ℕ) (ps : List (Label × Label)) → m ≤ n → AreBelow m ps → AreBelow n ps
below_more m n ps l h k d i = let b = h k d i in (omega (arith, b.0), omega (arith, b.1))

written_below : (n : ℕ) (ps : List (Label × Label)) (a b : ℕ) → AreBelow n ps → IsWritten ps a b → (a < n) × (b < n)
written_below n [] a b h w = absurd w
written_below n (p ∷ ps) a b h w = ⊎_elim
    (λ (e : (p.0.number ≡ a) × (p.1.number ≡ b)). let i = h 0 p (omega arith) in (subst (λ (z : ℕ). z < n) e.0 i.0, subst (λ (z : ℕ). z < n) e.1 i.1))
    (λ (r : IsWritten ps a b). written_below n ps a b (λ k d l. h (suc k) d (omega (arith, l))) r) w

chain_below : (n : ℕ) (ps : List (Label × Label)) → AreBelow n ps → {a b : ℕ} → a < n → Chain ps a b → b < n
chain_below n ps h l none = l
chain_below n ps h l (more {a} {b} {c} w r) = chain_below n ps h (written_below n ps a b h w).1 r

-- a number that is not below n is in no chain but its own
pub chain_outside : (n : ℕ) (ps : List (Label × Label)) → AreBelow n ps → {a b : ℕ} → (a < n → b < n → ⊥) → Chain ps a b → a ≡ b
chain_outside n ps h f none = refl
chain_outside n ps h f (more {a} {b} {c} w r) = let i = written_below n ps a b h w in absurd (f i.0 (chain_below n ps h i.1 r))
