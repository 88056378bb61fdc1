-- What the ways of a set hold, and which way has a tag.
use Rattle.std.proofs.Common.{◌≡◌, ℕ, zero, suc, ◌-◌, ◌^◌, ◌<◌, ◌≤◌, List, [], ◌∷◌, ◌++◌, length, get_or, true, false, refl, sym, ap, ◌∙◌, ◌⊎◌, inl, inr, arith}
use Rattle.std.specs.Prelude.{not, eqb, replicate}
use Rattle.std.specs.List.{All, list_any}
use Rattle.std.proofs.lemmas.List.{append-nil, length-append, length-replicate, get_or-replicate, get_or_append_left, get_or-append_right}
use Rattle.std.proofs.lemmas.List.Elements.{All-head, All-tail, filter-append}
use Rattle.std.proofs.lemmas.Bool.{cases_lt, eq-eqb, ne_eqb, or_left, or_right}
use Rattle.part_cache.specs.Ways.{empty_way, held_tags, absent, AreWays}

held_small : (xs : List ℕ) → All (λ t. t < 2 ^ 32) xs → held_tags xs ≡ xs
held_small [] h = refl
held_small (x ∷ xs) h =
    let lt : x < 2 ^ 32 = All-head (λ t. t < 2 ^ 32) x xs h in
    let ne : eqb x empty_way ≡ false = ne_eqb x empty_way (λ e. omega arith) in
    rw ne (ap (λ t. x ∷ t) (held_small xs (All-tail (λ t. t < 2 ^ 32) x xs h)))

pub held_empty : (n : ℕ) → held_tags (replicate n empty_way) ≡ []
held_empty zero = refl
held_empty (suc n) = held_empty n

pub held_is : (tags : List ℕ) (s : AreWays tags) → held_tags tags ≡ s.held
held_is tags s =
    ap held_tags s.are
    ∙ filter-append (λ t. not (eqb t empty_way)) s.held (replicate (8 - length s.held) empty_way)
    ∙ ap (λ t. held_tags s.held ++ t) (held_empty (8 - length s.held))
    ∙ append-nil (held_tags s.held)
    ∙ held_small s.held s.small

pub length_ways : (tags : List ℕ) → AreWays tags → length tags ≡ 8
length_ways tags s =
    let few = s.few in
    omega (arith, ap length s.are, length-append s.held (replicate (8 - length s.held) empty_way), length-replicate (8 - length s.held) empty_way)

-- equal lists of tags are in equal ways
pub ways_same : (xs ys : List ℕ) → AreWays xs → AreWays ys → held_tags xs ≡ held_tags ys → xs ≡ ys
ways_same xs ys s t e =
    let h : s.held ≡ t.held = sym (held_is xs s) ∙ e ∙ held_is ys t in
    s.are ∙ ap (λ h. h ++ replicate (8 - length h) empty_way) h ∙ sym t.are

any_none : (tag : ℕ) (xs : List ℕ) → ((k : ℕ) → k < length xs → get_or xs k 0 ≡ tag → ⊥) → absent tag xs
any_none tag [] h = refl
any_none tag (x ∷ xs) h =
    let ne : eqb tag x ≡ false = ne_eqb tag x (λ e. h 0 (omega arith) (sym e)) in
    rw ne (any_none tag xs (λ k lt. h (suc k) (omega arith)))

pub any_some : (tag : ℕ) (xs : List ℕ) (k : ℕ) → k < length xs → get_or xs k 0 ≡ tag → list_any (eqb tag) xs ≡ true
any_some tag [] k lt e = absurd (omega arith)
any_some tag (x ∷ xs) zero lt e = or_left (eqb tag x) (list_any (eqb tag) xs) (eq-eqb tag x (sym e))
any_some tag (x ∷ xs) (suc k) lt e = or_right (eqb tag x) (list_any (eqb tag) xs) (any_some tag xs k (omega arith) e)

-- the way that has a tag is one of those that hold one
pub way_held : (tags : List ℕ) (s : AreWays tags) (tag k : ℕ) → tag < 2 ^ 32 → k < 8 → get_or tags k 0 ≡ tag → (k < length s.held) × (get_or s.held k 0 ≡ tag)
way_held tags s tag k small lt e = go (cases_lt k (length s.held))
  where
    read : get_or (s.held ++ replicate (8 - length s.held) empty_way) k 0 ≡ tag
    read = sym (ap (λ t. get_or t k 0) s.are) ∙ e

    go : ((k < length s.held) ⊎ (length s.held ≤ k)) → (k < length s.held) × (get_or s.held k 0 ≡ tag)
    go (inl l) = (l, sym (get_or_append_left s.held (replicate (8 - length s.held) empty_way) 0 k l) ∙ read)
    go (inr ge) =
        let empty : empty_way ≡ tag =
        sym (get_or-append_right s.held (replicate (8 - length s.held) empty_way) (length s.held) k 0 refl ge
        ∙ get_or-replicate (8 - length s.held) (k - length s.held) empty_way 0 (omega arith))
        ∙ read in
        absurd (omega arith)

-- no way has the tag
pub none_held : (tags : List ℕ) → AreWays tags → (tag : ℕ) → ((k : ℕ) → k < 8 → get_or tags k 0 ≡ tag → ⊥) → false ≡ list_any (eqb tag) (held_tags tags)
none_held tags s tag h =
    sym (ap (list_any (eqb tag)) (held_is tags s)
    ∙ any_none tag s.held (λ k lt e. h k (omega (arith, s.few)) (ap (λ t. get_or t k 0) s.are
    ∙ get_or_append_left s.held (replicate (8 - length s.held) empty_way) 0 k lt ∙ e)))

-- a way has the tag
pub some_held : (tags : List ℕ) → AreWays tags → (tag k : ℕ) → tag < 2 ^ 32 → k < 8 → get_or tags k 0 ≡ tag → true ≡ list_any (eqb tag) (held_tags tags)
some_held tags s tag k small lt e =
    let w = way_held tags s tag k small lt e in
    sym (ap (list_any (eqb tag)) (held_is tags s) ∙ any_some tag s.held k w.0 w.1)

-- where at most two ways hold a tag, and the first two do not have this one, no way has it
pub two_held : (tags : List ℕ) → AreWays tags → (tag : ℕ) → tag < 2 ^ 32 → length (held_tags tags) ≤ 2 → (get_or tags 0 0 ≡ tag → ⊥)
    → (get_or tags 1 0 ≡ tag → ⊥) → false ≡ list_any (eqb tag) (held_tags tags)
two_held tags s tag small few first second = none_held tags s tag (λ k lt e. at k (way_held tags s tag k small lt e).0 e)
  where
    at : (k : ℕ) → k < length s.held → get_or tags k 0 ≡ tag → ⊥
    at zero lt e = first e
    at (suc zero) lt e = second e
    at (suc (suc k)) lt e = omega (arith, few, ap length (held_is tags s), lt)
