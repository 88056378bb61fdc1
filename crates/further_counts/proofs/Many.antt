-- Any number of views after each other: the product.
use Rattle.std.proofs.Common.{◌≡◌, ℕ, zero, suc, ◌*◌, ◌≤◌, List, [], ◌∷◌, length, map, Bool, refl, sym, ap, ◌∙◌, subst, arith}
use Rattle.std.specs.Prelude.{cond, not}
use Rattle.std.specs.List.{filter}
use Rattle.std.proofs.lemmas.List.{length-map}
use Rattle.std.proofs.lemmas.Simd.{map-map}
use Rattle.mit_syntax.specs.Todo.{Todo}
use Rattle.label_lattice.specs.Order.{Order, lattice_of}
use Rattle.env_contract.specs.Env.{Env}
use Rattle.label_code.specs.Machine.{Event}
use Rattle.label_code.specs.declared.code.Instr.{Instr}
use Rattle.leak_bound.specs.Records.{distinct, distinct_count, Tests}
use Rattle.leak_bound.specs.Sound.{Agree, seen_from}
use Rattle.leak_bound.proofs.Same.{same_events, tests_events}
use Rattle.leak_bound.proofs.Few.{map_distinct}
use Rattle.sharp_bound.specs.Firsts.{PredictsBy}
use Rattle.sharp_bound.specs.Sharp.{cut_count, SharpSound, SharpCut}
use Rattle.sharp_bound.specs.Guess.{that_show}
use Rattle.further_counts.specs.Twice.{both, Covers}
use Rattle.further_counts.specs.Many.{seen_in, product_of, FewMany, SharpMany}
use Rattle.sharp_bound.proofs.Guess.{few_shown}
use Rattle.further_counts.proofs.Twice.{few_twice}
use Rattle.further_counts.proofs.Both.{those_agree, those_hold, those_views, halted_by, cut_by, cut_less}

-- what is written in another way is as often different
count_on : {X V W : Type 0} (f : V → W) (same : W → W → Bool) (see : X → V) (xs : List X)
    → distinct_count same (map (λ x. f (see x)) xs) ≡ distinct_count (λ a b. same (f a) (f b)) (map see xs)
count_on f same see xs =
    ap (distinct_count same) (sym (map-map f see xs))
    ∙ ap length (sym (map_distinct f same (map see xs)))
    ∙ length-map (distinct (λ a b. same (f a) (f b)) (map see xs)) f

-- a list is its first and the rest
joined : {V : Type 0} → List V × V → List V
joined p = p.1 ∷ p.0

tests_joined : {V : Type 0} (alike : List V → List V → Bool) → Tests alike → Tests (λ (a b : List V × V). alike (joined a) (joined b))
unfolding joined
tests_joined {V} alike tests =
    record {
      same_from = λ a b e. tests.same_from (joined a) (joined b) (ap joined e);
      same_to = λ a b e. apart a.0 b.0 a.1 b.1 (tests.same_to (joined a) (joined b) e);
    }
  where
    apart : (v w : List V) (x y : V) → x ∷ v ≡ y ∷ w → ◌≡◌ {A = List V × V} (v, x) (w, y)
    apart v w x y e = cc

pub few_many : (X V : Type 0) → FewMany X V
unfolding joined
few_many X V view same alike tests tests' xs ms zero h = few_shown (seen_in view 0) alike tests' xs 1 (one xs)
  where
    none : (ys : List X) → filter (λ z. not (alike [] z)) (map (seen_in view 0) ys) ≡ []
    none [] = refl
    none (y ∷ ys) = ap (λ b. cond (not b) ([] ∷ filter (λ z. not (alike [] z)) (map (seen_in view 0) ys))
        (filter (λ z. not (alike [] z)) (map (seen_in view 0) ys))) (tests'.same_from [] [] refl) ∙ none ys

    same_distinct : (ys : List X) → filter (λ z. not (alike [] z)) (distinct alike (map (seen_in view 0) ys)) ≡ []
    same_distinct [] = refl
    same_distinct (y ∷ ys) =
        ap (λ b. cond (not b) ([] ∷ filter (λ z. not (alike [] z)) (filter (λ z. not (alike [] z)) (distinct alike (map (seen_in view 0) ys))))
        (filter (λ z. not (alike [] z)) (filter (λ z. not (alike [] z)) (distinct alike (map (seen_in view 0) ys))))) (tests'.same_from [] [] refl)
        ∙ ap (filter (λ z. not (alike [] z))) (same_distinct ys)

    one : (ys : List X) → distinct_count alike (map (seen_in view 0) ys) ≤ 1
    one [] = omega arith
    one (y ∷ ys) = let e = ap length (same_distinct ys) in omega (arith, e)
few_many X V view same alike tests tests' xs ms (suc n) h =
    let before = few_many X V view same alike tests tests' xs ms n (λ i lt. h i (omega arith)) in
    let two = few_twice X (List V) V (seen_in view n) (view n) alike same (λ a b. alike (joined a) (joined b)) tests' tests (tests_joined alike tests') xs
    (product_of ms n) (ms n) before (h n (omega arith)) in
    few_shown (seen_in view (suc n)) alike tests' xs (product_of ms n * ms n)
    (subst (λ z. z ≤ product_of ms n * ms n) (sym (count_on joined alike (both (seen_in view n) (view n)) xs)) two.count)

pub is_sharp_many : {E X M L : Type 0} {serves : E → Type 0} (v : Env E) (order : Order) (g ls : ℕ → ℕ → ℕ) (image : ℕ → List Instr) (p : ℕ → Todo M L) →
    ((i : ℕ) → SharpSound v order serves (g i) (ls i) (image i) (p i)) → ((i : ℕ) → SharpCut v order serves (g i) (ls i) (image i) (p i))
    → SharpMany X v order serves g ls image p
is_sharp_many {E} {X} {M} {L} {serves} v order g ls image p sound cut =
    record {
      halted = λ o low t some start xs firsts ms n agree holds alike tests.
          let view : ℕ → List (List Event) → X → List Event = λ i w x. seen_from v (lattice_of order) (g i) (image i) o (t i) (start i w x) in
          few_many X (List Event) view same_events alike tests_events tests xs ms n
          (λ i lt w. halted_by serves v order (g i) (ls i) (image i) (p i) (sound i) o low (t i) (some i) (start i w)
          (that_show (seen_in view i) alike w xs) (firsts i) (ms i)
          (those_agree (seen_in view i) alike tests (start i) (Agree v (lattice_of order) serves (g i) o) xs (agree i lt) w)
          (those_hold (seen_in view i) alike tests (start i) (λ s. Covers v order (g i) (ls i) (image i) (p i) o (t i) (firsts i) (ms i) s) xs (holds i lt) w));
      cut = λ o low t some start xs firsts n agree holds alike tests.
          let view : ℕ → List (List Event) → X → List Event = λ i w x. seen_from v (lattice_of order) (g i) (image i) o (t i) (start i w x) in
          few_many X (List Event) view same_events alike tests_events tests xs _ n
          (λ i lt w.
          let ys = that_show (seen_in view i) alike w xs in
          let r = cut_by serves v order (g i) (ls i) (image i) (p i) (cut i) o low (t i) (some i) (start i w) ys (firsts i)
          (those_agree (seen_in view i) alike tests (start i) (Agree v (lattice_of order) serves (g i) o) xs (agree i lt) w)
          (those_hold (seen_in view i) alike tests (start i)
          (λ s. PredictsBy v (lattice_of order) (g i) (ls i) (image i) (p i) o (t i) (firsts i) s) xs (holds i lt) w) in
          let e = ap (cut_count v order (g i) (ls i) (image i) (p i) o (t i) (firsts i)) (those_views (seen_in view i) alike tests (start i) w xs) in
          let less = cut_less serves v order (g i) (ls i) (image i) (p i) o (t i) (firsts i) (λ x. start i (seen_in view i x) x)
          (λ x. alike w (seen_in view i x)) xs in
          few_shown _ same_events tests_events ys _ (omega (arith, r.count, e, less)));
    }
