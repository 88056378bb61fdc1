-- What one run more makes of classes.
use Rattle.std.proofs.Common.{◌≡◌, ◌<◌, ◌≤◌, ◌+◌, ◌⊎◌, inl, inr, ℕ, zero, suc, List, [], ◌∷◌, ◌++◌, length, map, set, get_or}
use Rattle.std.proofs.Common.{Bool, true, false, cond, not, ◌||◌, if◌then◌else◌, refl, sym, ap, ◌∙◌, subst, arith}
use Rattle.std.specs.Prelude.{nat_lt}
use Rattle.std.specs.List.{list_any, position_or_len}
use Rattle.std.proofs.lemmas.Bool.{lt-ltb, ltb-true}
use Rattle.indexmap.specs.IndexSet.{insert_key}
use Rattle.class_counts.specs.Tally.{add}
use Rattle.fixed_log.specs.Entropy.{AllSome, starts}

-- ---- sizes

-- what stands at a place does not hang on what would stand past the end
pub any_else : (ws : List ℕ) (p d : ℕ) → p < length ws → get_or ws p d ≡ get_or ws p 0
any_else [] p d l = absurd (omega (arith, l))
any_else (w ∷ ws) zero d l = refl
any_else (w ∷ ws) (suc p) d l = any_else ws p d (omega (arith, l))

pub raised_starts : (ws : List ℕ) (p : ℕ) → p < length ws → starts (set ws p (get_or ws p 0 + 1)) ≡ starts ws + 1
raised_starts [] p l = absurd (omega (arith, l))
raised_starts (w ∷ ws) zero l = omega arith
raised_starts (w ∷ ws) (suc p) l = let e = raised_starts ws p (omega (arith, l)) in omega (arith, e)

pub raised_some : (ws : List ℕ) (p : ℕ) → AllSome ws → AllSome (set ws p (get_or ws p 0 + 1))
raised_some [] p h = tt
raised_some (w ∷ ws) zero h = (omega arith, h.1)
raised_some (w ∷ ws) (suc p) h = (h.0, raised_some ws p h.1)

pub small_at : (ws : List ℕ) (p : ℕ) → get_or ws p 0 ≤ starts ws
small_at [] p = omega arith
small_at (w ∷ ws) zero = omega arith
small_at (w ∷ ws) (suc p) = let e = small_at ws p in omega (arith, e)

pub new_starts : (ws : List ℕ) → starts (ws ++ 1 ∷ []) ≡ starts ws + 1
new_starts [] = omega arith
new_starts (w ∷ ws) = let e = new_starts ws in omega (arith, e)

pub new_some : (ws : List ℕ) → AllSome ws → AllSome (ws ++ 1 ∷ [])
new_some [] h = (omega arith, tt)
new_some (w ∷ ws) h = (h.0, new_some ws h.1)

-- ---- classes

abbrev pub weights_in : {V : Type 0} → List (V × ℕ) → List ℕ
weights_in es = map (λ c. c.1) es

abbrev pub shown_in : {V : Type 0} → List (V × ℕ) → List V
shown_in es = map (λ c. c.0) es

-- the class at a place has one more
pub record IsRaised {V : Type 0} (es fs : List (V × ℕ)) (p : ℕ) : Type 0 where
  pub there : p < length es
  pub weights : weights_in fs ≡ set (weights_in es) p (get_or (weights_in es) p 0 + 1)
  pub long : length fs ≡ length es
  pub shown : shown_in fs ≡ shown_in es

-- there is one class more
pub record IsNew {V : Type 0} (es fs : List (V × ℕ)) (z : V) (p : ℕ) : Type 0 where
  pub end : p ≡ length es
  pub weights : weights_in fs ≡ weights_in es ++ 1 ∷ []
  pub long : length fs ≡ length es + 1
  pub shown : shown_in fs ≡ shown_in es ++ z ∷ []

abbrev pub Grows : {V : Type 0} → List (V × ℕ) → List (V × ℕ) → V → ℕ → Type 0
Grows es fs z p = IsRaised es fs p ⊎ IsNew es fs z p

raised_on : {V : Type 0} (e : V × ℕ) (es fs : List (V × ℕ)) (p q : ℕ) → q ≡ suc p → IsRaised es fs p → IsRaised (e ∷ es) (e ∷ fs) q
raised_on e es fs p q is h =
    let there = h.there in
    let long = h.long in
    record {
      there = omega (arith, is, there);
      weights = subst (λ r. e.1 ∷ weights_in fs ≡ set (e.1 ∷ weights_in es) r (get_or (e.1 ∷ weights_in es) r 0 + 1)) (sym is)
          (ap (λ t. e.1 ∷ t) h.weights);
      long = omega (arith, long);
      shown = ap (λ t. e.0 ∷ t) h.shown;
    }

new_on : {V : Type 0} (e : V × ℕ) (es fs : List (V × ℕ)) (z : V) (p q : ℕ) → q ≡ suc p → IsNew es fs z p → IsNew (e ∷ es) (e ∷ fs) z q
new_on e es fs z p q is h =
    let end = h.end in
    let long = h.long in
    record {
      end = omega (arith, is, end);
      weights = ap (λ t. e.1 ∷ t) h.weights;
      long = omega (arith, long);
      shown = ap (λ t. e.0 ∷ t) h.shown;
    }

grows_by : {V : Type 0} (b : Bool) (e : V × ℕ) (es fs : List (V × ℕ)) (z : V) (p : ℕ) → Grows es fs z p
    → Grows (e ∷ es) (cond b ((e.0, e.1 + 1) ∷ es) (e ∷ fs)) z (cond (not b) (1 + p) 0)
grows_by true e es fs z p h = inl (record { there = omega arith; weights = refl; long = refl; shown = refl })
grows_by false e es fs z p (inl h) = inl (raised_on e es fs p (1 + p) (omega arith) h)
grows_by false e es fs z p (inr h) = inr (new_on e es fs z p (1 + p) (omega arith) h)

pub grown : {V : Type 0} (same : V → V → Bool) (es : List (V × ℕ)) (z : V) → Grows es (add same es z 1) z (position_or_len (same z) (shown_in es))
grown same [] z = inr (record { end = refl; weights = refl; long = omega arith; shown = refl })
grown same (e ∷ es) z =
    grows_by (same z e.0) e es (add same es z 1) z (position_or_len (same z) (shown_in es)) (grown same es z)

-- ---- what is shown

shown_by : {V : Type 0} (b a : Bool) (x z : V) (ks ls : List V) → ls ≡ (if a then ks else ks ++ z ∷ []) →
    cond b (x ∷ ks) (x ∷ ls) ≡ (if b || a then x ∷ ks else (x ∷ ks) ++ z ∷ [])
shown_by true a x z ks ls h = refl
shown_by false true x z ks ls h = ap (λ t. x ∷ t) h
shown_by false false x z ks ls h = ap (λ t. x ∷ t) h

first_of : {V : Type 0} (b : Bool) (e : V × ℕ) (es fs : List (V × ℕ))
    → shown_in (cond b ((e.0, e.1 + 1) ∷ es) (e ∷ fs)) ≡ cond b (e.0 ∷ shown_in es) (e.0 ∷ shown_in fs)
first_of true e es fs = refl
first_of false e es fs = refl

pub shown_add : {V : Type 0} (same : V → V → Bool) (es : List (V × ℕ)) (z : V) → shown_in (add same es z 1) ≡ insert_key same (shown_in es) z
shown_add same [] z = refl
shown_add same (e ∷ es) z =
    first_of (same z e.0) e es (add same es z 1)
    ∙ shown_by (same z e.0) (list_any (same z) (shown_in es)) e.0 z (shown_in es) (shown_in (add same es z 1)) (shown_add same es z)

-- ---- first runs

-- the number of a first run stands at the end exactly where there is one class more
pub firsts_same : {V : Type 0} (es fs : List (V × ℕ)) (more firsts : List ℕ) → length fs ≡ length es
    → cond (nat_lt (length es) (length fs)) more firsts ≡ firsts
firsts_same es fs more firsts e = go (nat_lt (length es) (length fs)) refl
  where
    go : (b : Bool) → nat_lt (length es) (length fs) ≡ b → cond b more firsts ≡ firsts
    go true h = let l = ltb-true (length es) (length fs) h in absurd (omega (arith, l, e))
    go false h = refl

pub firsts_more : {V : Type 0} (es fs : List (V × ℕ)) (more firsts : List ℕ) → length fs ≡ length es + 1
    → cond (nat_lt (length es) (length fs)) more firsts ≡ more
firsts_more es fs more firsts e = ap (λ b. cond b more firsts) (lt-ltb (length es) (length fs) (omega (arith, e)))
