-- Lists of miss counts that are the same.
use Rattle.std.proofs.Common.{◌≡◌, ◌≢◌, ◌<◌, ◌+◌, ◌-◌, ◌||◌, take, ℕ, suc, List, [], ◌∷◌, map}
use Rattle.std.proofs.Common.{drop, length, get_or, sym, ◌∙◌, subst, true, false, cond, eqb, Bool, arith, ap, refl, inl, inr}
use Rattle.std.specs.List.{list_any, AllByRecursion, IsDistinct}
use Rattle.std.specs.Set.{distinct_count, unique_keys}
use Rattle.std.proofs.Math.Seq.{drop-cons}
use Rattle.std.proofs.lemmas.List.{take_all, length-drop}
use Rattle.std.specs.Bool.{Decides}
use Rattle.std.specs.Cmp.{IsEquivalence}
use Rattle.std.proofs.lemmas.Bool.{cases_Bool, or_parts}
use Rattle.std.proofs.lemmas.Map.Made.{length-from_same_keys}
use Rattle.std.specs.Prelude.{MatchBool}
use Rattle.std.proofs.Common.{eq-eqb, eqb-true, true≢false}
use Rattle.std.specs.Cmp.Lexicographic.{pointwise, pointwise_decides}
use Rattle.std.specs.Cmp.Derive.Mapped.{pointwise-map}

numbers : (x y : ℕ) → Decides (eqb x y) (x ≡ y)
numbers x y = (λ e. eqb-true x y e, λ e. eq-eqb x y e)

pub counts : (xs ys : List ℕ) → Decides (pointwise eqb xs ys) (xs ≡ ys)
counts = pointwise_decides numbers

pub lists : (xs ys : List (List ℕ)) → Decides (pointwise (pointwise eqb) xs ys) (xs ≡ ys)
lists = pointwise_decides (pointwise_decides numbers)

decided : (b : Bool) {P : Type 0} → Decides b P → MatchBool b P (P → ⊥)
decided true d = d.0 refl
decided false d = λ p. true≢false (sym (d.1 p))

pub are_same : {X : Type 0} (f : X → List ℕ) (xs ys : List X) (b : Bool) → b ≡ pointwise (λ x y. pointwise eqb (f x) (f y)) xs ys →
    MatchBool b (map f xs ≡ map f ys) (map f xs ≢ map f ys)
are_same f xs ys b e =
    let same : pointwise (pointwise eqb) (map f xs) (map f ys) ≡ b = pointwise-map f (pointwise eqb) xs ys ∙ sym e in
    decided b (subst (λ z. Decides z (map f xs ≡ map f ys)) same (lists (map f xs) (map f ys)))

any_mapped : {X : Type 0} (f : X → List ℕ) (p : List ℕ → Bool) (xs : List X) → list_any p (map f xs) ≡ list_any (λ x. p (f x)) xs
any_mapped f p [] = refl
any_mapped f p (x ∷ xs) = ap (λ z. p (f x) || z) (any_mapped f p xs)

-- how many different ones there are from a place on: one more than from the next one, where it is not among these
pub different_more : {X : Type 0} (f : X → List ℕ) (xs : List X) (i : ℕ) (x : X) (b : Bool) → i < length xs → x ≡ get_or xs i x →
    b ≡ list_any (λ y. pointwise eqb (f x) (f y)) (take (length xs - (i + 1)) (drop (i + 1) xs)) →
    distinct_count (pointwise eqb) (map f (drop i xs)) ≡ cond b 0 1 + distinct_count (pointwise eqb) (map f (drop (i + 1) xs))
different_more {X = X} f xs i x b h is e =
    let next : suc i ≡ i + 1 = omega arith in
    let one : drop i xs ≡ x ∷ drop (i + 1) xs = drop-cons xs i x h ∙ (ap (λ z. z ∷ drop (suc i) xs) (sym is) ∙ ap (λ z. x ∷ drop z xs) next) in
    let long = length-drop (i + 1) xs in
    let all = take_all (length xs - (i + 1)) (drop (i + 1) xs) (omega (arith, long)) in
    let any : list_any (pointwise eqb (f x)) (map f (drop (i + 1) xs)) ≡ b = any_mapped f (pointwise eqb (f x)) (drop (i + 1) xs)
    ∙ (ap (list_any (λ y. pointwise eqb (f x) (f y))) (sym all) ∙ sym e) in
    ap (λ z. distinct_count (pointwise eqb) (map f z)) one
    ∙ (ap (λ z. length (cond z (unique (drop (i + 1) xs)) (f x ∷ unique (drop (i + 1) xs)))) any ∙ counted b (f x) (unique (drop (i + 1) xs)))
  where
    unique : List X → List (List ℕ)
    unique ys = unique_keys (pointwise eqb) (map f ys)

    counted : (b : Bool) (k : List ℕ) (ks : List (List ℕ)) → length (cond b ks (k ∷ ks)) ≡ cond b 0 1 + length ks
    counted true k ks = omega arith
    counted false k ks = omega arith

-- ---- lists with the same members have as many different ones

abbrev alike : List ℕ → List ℕ → Bool
alike = pointwise eqb

alike_false : (x y : List ℕ) → (x ≡ y → ⊥) → alike x y ≡ false
alike_false x y h = elim (cases_Bool (alike x y)) [
  | inl e ↦ absurd (h ((counts x y).0 e))
  | inr e ↦ e
]

turned : (x y : List ℕ) → alike x y ≡ alike y x
turned x y = elim (cases_Bool (alike x y)) [
  | inl e ↦ e ∙ sym ((counts y x).1 (sym ((counts x y).0 e)))
  | inr e ↦ e ∙ sym (alike_false y x (λ s. true≢false (sym ((counts x y).1 (sym s)) ∙ e)))
]

equivalence : IsEquivalence alike
equivalence = record {
  refl = λ x. (counts x x).1 refl;
  symm = turned;
  congr = λ x y z e. ap (λ u. alike u z) ((counts x y).0 e);
}

abbrev among : List (List ℕ) → List ℕ → Bool
among xs q = list_any (alike q) xs

kept_among : (b c : Bool) (x q : List ℕ) (xs us : List (List ℕ)) → among xs x ≡ b → alike q x ≡ c → among us q ≡ among xs q →
    among (cond b us (x ∷ us)) q ≡ (c || among xs q)
kept_among true true x q xs us m t r = r ∙ (ap (among xs) ((counts q x).0 t) ∙ m)
kept_among true false x q xs us m t r = r
kept_among false c x q xs us m t r = ap (λ z. z || among us q) t ∙ ap (λ z. c || z) r

unique_among : (xs : List (List ℕ)) (q : List ℕ) → among (unique_keys alike xs) q ≡ among xs q
unique_among [] q = refl
unique_among (x ∷ xs) q = kept_among (among xs x) (alike q x) x q xs (unique_keys alike xs) refl refl (unique_among xs q)

apart : (x : List ℕ) (ys : List (List ℕ)) → among ys x ≡ false → AllByRecursion (λ y. alike x y ≡ false) ys
apart x [] h = tt
apart x (y ∷ ys) h = let parts = or_parts (alike x y) (among ys x) h in (parts.0, apart x ys parts.1)

kept_apart : (b : Bool) (x : List ℕ) (xs : List (List ℕ)) → among xs x ≡ b → IsDistinct alike (unique_keys alike xs) →
    IsDistinct alike (cond b (unique_keys alike xs) (x ∷ unique_keys alike xs))
unfolding IsDistinct
kept_apart true x xs m r = r
kept_apart false x xs m r = (apart x (unique_keys alike xs) (unique_among xs x ∙ m), r)

unique_apart : (xs : List (List ℕ)) → IsDistinct alike (unique_keys alike xs)
unfolding IsDistinct
unique_apart [] = tt
unique_apart (x ∷ xs) = kept_apart (among xs x) x xs refl (unique_apart xs)

pub same_members : (xs ys : List (List ℕ)) → ((q : List ℕ) → list_any (pointwise eqb q) xs ≡ list_any (pointwise eqb q) ys) →
    distinct_count (pointwise eqb) xs ≡ distinct_count (pointwise eqb) ys
same_members xs ys h =
    length-from_same_keys equivalence (unique_keys alike xs) (unique_keys alike ys) (unique_apart xs) (unique_apart ys)
    (λ q. unique_among xs q ∙ (h q ∙ sym (unique_among ys q)))
