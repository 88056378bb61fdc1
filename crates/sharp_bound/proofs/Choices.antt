-- A record as a choice of miss counts for each level.
use Rattle.std.proofs.Common.{◌≡◌, ℕ, zero, suc, ◌+◌, ◌*◌, ◌^◌, ◌<◌, ◌≤◌, List, [], ◌∷◌, ◌++◌, length, Bool, true, false, refl, sym, ap, ◌∙◌, subst, inl, inr}
use Rattle.std.proofs.Common.{⊎_elim, arith}
use Rattle.std.specs.Prelude.{cond, eqb, max}
use Rattle.std.proofs.lemmas.Bool.{cases_eq, eqb-true, eq-eqb}
use Rattle.leak_bound.specs.Records.{Entry, Fits, FromOn, NeverFalls}
use Rattle.sharp_count.specs.Lists.{NeverFalling, IsAmong}
use Rattle.sharp_count.specs.Ways.{IsChoice, cycles_of, cycles_in}
use Rattle.leak_bound.proofs.Counting.{picked, is_at, Under, LevelsUnder}

-- the cycles of all entries, each with the first prediction of its level
abbrev pub spent : (ℕ → ℕ) → List Entry → ℕ
spent firsts [] = 0
spent firsts (e ∷ r) = 2 ^ e.1 * max (firsts e.0) 1 + spent firsts r

pub spent-append : (firsts : ℕ → ℕ) (a b : List Entry) → spent firsts (a ++ b) ≡ spent firsts a + spent firsts b
spent-append firsts [] b = omega arith
spent-append firsts (e ∷ a) b = omega (arith, spent-append firsts a b)

-- the miss counts of a level
abbrev pub counts_at : ℕ → List Entry → List ℕ
counts_at l [] = []
counts_at l (e ∷ r) = cond (eqb e.0 l) (e.1 ∷ counts_at l r) (counts_at l r)

abbrev pub choice_of : ℕ → List Entry → List (List ℕ)
choice_of zero r = []
choice_of (suc l) r = counts_at l r ∷ choice_of l r

falling : (vs : ℕ → ℕ) (l m k : ℕ) (r : List Entry) → Under vs r → NeverFalls r → FromOn l m r → picked (is_at l) r ≡ k
    → NeverFalling m (vs l) k (counts_at l r)
falling vs l m zero [] u n f e = refl
falling vs l m (suc k) [] u n f e = absurd (omega (arith, e))
falling vs l m k (x ∷ r) u n f e = go (eqb x.0 l) refl k e (λ m' k' f' e'. falling vs l m' k' r u.1 n.1 f' e')
  where
    go : (b : Bool) → eqb x.0 l ≡ b → (k : ℕ) → cond b 1 0 + picked (is_at l) r ≡ k
        → ((m' k' : ℕ) → FromOn l m' r → picked (is_at l) r ≡ k' → NeverFalling m' (vs l) k' (counts_at l r))
        → NeverFalling m (vs l) k (cond b (x.1 ∷ counts_at l r) (counts_at l r))
    go false q k e rec = rec m k f.1 (omega (arith, e))
    go true q zero e rec = absurd (omega (arith, e))
    go true q (suc k) e rec =
        let here : x.0 ≡ l = eqb-true x.0 l q in
        let low : m ≤ x.1 = f.0 (sym here) in
        let top : x.1 < vs l = subst (λ z. x.1 < vs z) here u.0 in
        (low, top, rec x.1 k (subst (λ z. FromOn z x.1 r) here n.0) (omega (arith, e)))

from_zero : (l : ℕ) (r : List Entry) → FromOn l 0 r
from_zero l [] = tt
from_zero l (e ∷ r) = (λ q. omega arith, from_zero l r)

pub is_choice : (vs ks : ℕ → ℕ) (n : ℕ) (r : List Entry) → Under vs r → NeverFalls r → ((l : ℕ) → picked (is_at l) r ≡ ks l) → IsChoice vs n ks (choice_of n r)
is_choice vs ks zero r u n h = refl
is_choice vs ks (suc l) r u n h = (falling vs l 0 (ks l) r u n (from_zero l r) (h l), is_choice vs ks l r u n h)

-- one entry more adds its cycles to its level
more_cycles : (firsts : ℕ → ℕ) (l : ℕ) (e : Entry) (r : List Entry) → (e.0 ≡ l → ⊥)
    → cycles_of (firsts l) (counts_at l (e ∷ r)) ≡ cycles_of (firsts l) (counts_at l r)
more_cycles firsts l e r ne = go (eqb e.0 l) refl
  where
    go : (b : Bool) → eqb e.0 l ≡ b → cycles_of (firsts l) (cond b (e.1 ∷ counts_at l r) (counts_at l r)) ≡ cycles_of (firsts l) (counts_at l r)
    go true q = absurd (ne (eqb-true e.0 l q))
    go false q = refl

same_cycles : (firsts : ℕ → ℕ) (l : ℕ) (e : Entry) (r : List Entry) → e.0 ≡ l
    → cycles_of (firsts l) (counts_at l (e ∷ r)) ≡ 2 ^ e.1 * max (firsts e.0) 1 + cycles_of (firsts l) (counts_at l r)
same_cycles firsts l e r q =
    ap (λ b. cycles_of (firsts l) (cond b (e.1 ∷ counts_at l r) (counts_at l r))) (eq-eqb e.0 l q)
    ∙ ap (λ z. 2 ^ e.1 * max (firsts z) 1 + cycles_of (firsts l) (counts_at l r)) (sym q)

above : (firsts : ℕ → ℕ) (n : ℕ) (e : Entry) (r : List Entry) → n ≤ e.0 → cycles_in firsts n (choice_of n (e ∷ r)) ≡ cycles_in firsts n (choice_of n r)
above firsts zero e r h = refl
above firsts (suc l) e r h = omega (arith, more_cycles firsts l e r (λ q. absurd (omega (arith, q, h))), above firsts l e r (omega arith))

one_entry : (firsts : ℕ → ℕ) (n : ℕ) (e : Entry) (r : List Entry)
    → cycles_in firsts n (choice_of n (e ∷ r)) ≤ 2 ^ e.1 * max (firsts e.0) 1 + cycles_in firsts n (choice_of n r)
one_entry firsts zero e r = omega arith
one_entry firsts (suc l) e r =
    ⊎_elim
    (λ (q : e.0 ≡ l). omega (arith, same_cycles firsts l e r q, above firsts l e r (omega (arith, q))))
    (λ (ne : e.0 ≡ l → ⊥). omega (arith, more_cycles firsts l e r ne, one_entry firsts l e r))
    (cases_eq e.0 l)

no_cycles : (firsts : ℕ → ℕ) (n : ℕ) → cycles_in firsts n (choice_of n []) ≡ 0
no_cycles firsts zero = refl
no_cycles firsts (suc l) = omega (arith, no_cycles firsts l)

pub cycles_spent : (firsts : ℕ → ℕ) (n : ℕ) (r : List Entry) → cycles_in firsts n (choice_of n r) ≤ spent firsts r
cycles_spent firsts n [] = omega (arith, no_cycles firsts n)
cycles_spent firsts n (e ∷ r) = omega (arith, one_entry firsts n e r, cycles_spent firsts n r)

heads : (x y : List ℕ) (c d : List (List ℕ)) → x ∷ c ≡ y ∷ d → x ≡ y
heads x y c d e = cc

tails : (x y : List ℕ) (c d : List (List ℕ)) → x ∷ c ≡ y ∷ d → c ≡ d
tails x y c d e = cc

choice_tells : (n : ℕ) (r r' : List Entry) → choice_of n r ≡ choice_of n r' → (l : ℕ) → l < n → counts_at l r ≡ counts_at l r'
choice_tells zero r r' e l lt = absurd (omega arith)
choice_tells (suc n) r r' e l lt =
    ⊎_elim
    (λ (q : l ≡ n). subst (λ z. counts_at z r ≡ counts_at z r') (sym q) (heads _ _ _ _ e))
    (λ (ne : l ≡ n → ⊥). choice_tells n r r' (tails _ _ _ _ e) l (omega arith))
    (cases_eq l n)

rest_of : (b : Bool) (c c' : ℕ) (a a' : List ℕ) → cond b (c ∷ a) a ≡ cond b (c' ∷ a') a' → a ≡ a'
rest_of true c c' a a' e = cc
rest_of false c c' a a' e = e

first_of : (b : Bool) (c c' : ℕ) (a a' : List ℕ) → b ≡ true → cond b (c ∷ a) a ≡ cond b (c' ∷ a') a' → c ≡ c'
first_of true c c' a a' q e = cc
first_of false c c' a a' q e = absurd cc

same_counts : (n : ℕ) (r r' : List Entry) → Fits r r' → length r ≡ length r' → LevelsUnder n r → ((l : ℕ) → l < n → counts_at l r ≡ counts_at l r') → r ≡ r'
same_counts n [] [] f e u h = refl
same_counts n [] (y ∷ r') f e u h = absurd (omega (arith, e))
same_counts n (x ∷ r) [] f e u h = absurd (omega (arith, e))
same_counts n ((l, c) ∷ r) ((l', c') ∷ r') f e u h = go l' f.0 h (λ t. same_counts n r r' f.1 (omega (arith, e)) u.1 t)
  where
    go : (l' : ℕ) → l ≡ l' → ((q : ℕ) → q < n → counts_at q ((l, c) ∷ r) ≡ counts_at q ((l', c') ∷ r'))
        → (((q : ℕ) → q < n → counts_at q r ≡ counts_at q r') → r ≡ r') → (l, c) ∷ r ≡ (l', c') ∷ r'
    go l' le h rec =
        let h' : (q : ℕ) → q < n → counts_at q ((l, c) ∷ r) ≡ counts_at q ((l, c') ∷ r') =
        subst (λ z. (q : ℕ) → q < n → counts_at q ((l, c) ∷ r) ≡ counts_at q ((z, c') ∷ r')) (sym le) h in
        let one : c ≡ c' = first_of (eqb l l) c c' (counts_at l r) (counts_at l r') (eq-eqb l l refl) (h' l u.0) in
        let rest : r ≡ r' = rec (λ q lt. rest_of (eqb l q) c c' (counts_at q r) (counts_at q r') (h' q lt)) in
        let x : Entry = (l, c) in
        let y : Entry = (l', c') in
        let heads : x ≡ y = cc in
        cc

pub same_choice : (n : ℕ) (r r' : List Entry) → Fits r r' → length r ≡ length r' → LevelsUnder n r → choice_of n r ≡ choice_of n r' → r ≡ r'
same_choice n r r' f e u q = same_counts n r r' f e u (choice_tells n r r' q)

-- where a member stands in its list
abbrev pub place : {X : Type 0} (x : X) (all : List X) → IsAmong x all → ℕ
place x [] h = absurd h
place x (y ∷ all) (inl e) = 0
place x (y ∷ all) (inr h) = suc (place x all h)

pub place_below : {X : Type 0} (x : X) (all : List X) (h : IsAmong x all) → place x all h < length all
place_below x [] h = absurd h
place_below x (y ∷ all) (inl e) = omega arith
place_below x (y ∷ all) (inr h) = omega (arith, place_below x all h)

pub place_same : {X : Type 0} (x y : X) (all : List X) (h : IsAmong x all) (k : IsAmong y all) → place x all h ≡ place y all k → x ≡ y
place_same x y [] h k e = absurd h
place_same x y (z ∷ all) (inl q) (inl q') e = q ∙ sym q'
place_same x y (z ∷ all) (inl q) (inr k) e = absurd (omega (arith, e))
place_same x y (z ∷ all) (inr h) (inl q) e = absurd (omega (arith, e))
place_same x y (z ∷ all) (inr h) (inr k) e = place_same x y all h k (omega (arith, e))
