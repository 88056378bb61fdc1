-- Two runs after each other of one secret show few.
use Rattle.std.proofs.Common.{◌≡◌, ℕ, zero, suc, ◌+◌, ◌-◌, ◌<◌, ◌≤◌, List, [], ◌∷◌, refl, sym, ap, ◌∙◌, subst, arith, map}
use Rattle.std.specs.Prelude.{Bool, true, false, cond, max}
use Rattle.std.specs.List.{filter}
use Rattle.std.proofs.Math.Nat.{le-max_left, le-max_right, max-le}
use Rattle.std.proofs.lemmas.Nat.{mul-le}
use Rattle.std.proofs.lemmas.Simd.{map-map}
use Rattle.mit_syntax.specs.Todo.{Todo}
use Rattle.label_lattice.specs.Order.{Order, lattice_of}
use Rattle.env_contract.specs.Env.{Env}
use Rattle.label_code.specs.Machine.{Event}
use Rattle.label_code.specs.Run.{Start, run_from}
use Rattle.label_code.specs.declared.code.Instr.{Instr}
use Rattle.leak_bound.specs.Relevant.{ended_count}
use Rattle.leak_bound.specs.Records.{distinct_count, Tests, Each, Pairwise}
use Rattle.leak_bound.specs.Sound.{Agree, seen_from, Halts, most_ended}
use Rattle.leak_bound.proofs.Same.{same_events, tests_events}
use Rattle.leak_bound.proofs.Few.{Each-map, Each-pass}
use Rattle.sharp_bound.specs.Guess.{FewShown, that_show}
use Rattle.leak_bound.specs.Rising.{rising, sharp}
use Rattle.leak_bound.proofs.Choose.{pascal}
use Rattle.sharp_bound.specs.Firsts.{PredictsBy}
use Rattle.sharp_bound.specs.Sharp.{relevant_at, ends_by, cut_count, SharpSound, SharpCut}
use Rattle.further_counts.specs.Twice.{Covers, SharpTwice}
use Rattle.sharp_bound.proofs.Guess.{few_shown}
use Rattle.further_counts.proofs.Twice.{few_twice}

each-mapped : {X Y : Type 0} (P : Y → Type 0) (f : X → Y) (xs : List X) → Each (λ x. P (f x)) xs → Each P (map f xs)
each-mapped P f [] h = tt
each-mapped P f (x ∷ xs) h = (h.0, each-mapped P f xs h.1)

-- two of a list that passed
pub pairs_pass : {X : Type 0} (R : X → X → Type 0) (t : X → Bool) (xs : List X) → Pairwise R xs
    → Pairwise (λ x y. R x y × (t x ≡ true) × (t y ≡ true)) (filter t xs)
pairs_pass R t xs h =
    Each-map (λ x. Each (R x) xs × (t x ≡ true)) (λ x. Each (λ y. R x y × (t x ≡ true) × (t y ≡ true)) (filter t xs))
    (λ x a. Each-map (λ y. R x y × (t y ≡ true)) (λ y. R x y × (t x ≡ true) × (t y ≡ true)) (λ y b. (b.0, a.1, b.1)) (filter t xs) (Each-pass (R x) t xs a.0))
    (filter t xs) (Each-pass (λ x. Each (R x) xs) t xs h)

-- those that have shown the same
pub those_agree : {X V S : Type 0} (see : X → V) (same : V → V → Bool) → Tests same → (start : V → X → S) (R : S → S → Type 0) (xs : List X)
    → Pairwise (λ x y. see x ≡ see y → R (start (see x) x) (start (see y) y)) xs → (w : V)
    → Pairwise (λ x y. R (start w x) (start w y)) (that_show see same w xs)
those_agree {X} see same tests start R xs h w =
    let P : X → X → Type 0 = λ x y. see x ≡ see y → R (start (see x) x) (start (see y) y) in
    let t : X → Bool = λ x. same w (see x) in
    Each-map (λ x. Each (λ y. P x y × (t x ≡ true) × (t y ≡ true)) (that_show see same w xs))
    (λ x. Each (λ y. R (start w x) (start w y)) (that_show see same w xs))
    (λ x a. Each-map (λ y. P x y × (t x ≡ true) × (t y ≡ true)) (λ y. R (start w x) (start w y))
    (λ y b.
    let e : w ≡ see x = tests.same_to w (see x) b.1 in
    let e' : w ≡ see y = tests.same_to w (see y) b.2 in
    subst (λ z. R (start w x) (start z y)) (sym e')
    (subst (λ z. R (start z x) (start (see y) y)) (sym e) (b.0 (sym e ∙ e'))))
    (that_show see same w xs) a)
    (that_show see same w xs) (pairs_pass P t xs h)

pub those_hold : {X V S : Type 0} (see : X → V) (same : V → V → Bool) → Tests same → (start : V → X → S) (P : S → Type 0) (xs : List X)
    → Each (λ x. P (start (see x) x)) xs → (w : V) → Each (λ x. P (start w x)) (that_show see same w xs)
those_hold see same tests start P xs h w =
    Each-map (λ x. P (start (see x) x) × (same w (see x) ≡ true)) (λ x. P (start w x))
    (λ x a. subst (λ z. P (start z x)) (sym (tests.same_to w (see x) a.1)) a.0)
    (that_show see same w xs) (Each-pass (λ x. P (start (see x) x)) (λ x. same w (see x)) xs h)

pub those_views : {X V S : Type 0} (see : X → V) (same : V → V → Bool) → Tests same → (start : V → X → S) (w : V) (xs : List X)
    → map (start w) (that_show see same w xs) ≡ map (λ x. start (see x) x) (that_show see same w xs)
those_views see same tests start w [] = refl
those_views see same tests start w (y ∷ ys) = one (same w (see y)) refl (those_views see same tests start w ys)
  where
    one : (b : Bool) → same w (see y) ≡ b → map (start w) (that_show see same w ys) ≡ map (λ x. start (see x) x) (that_show see same w ys) →
        map (start w) (cond b (y ∷ that_show see same w ys) (that_show see same w ys))
        ≡ map (λ x. start (see x) x) (cond b (y ∷ that_show see same w ys) (that_show see same w ys))
    one true e r = ap (λ z. start z y ∷ map (start w) (that_show see same w ys)) (tests.same_to w (see y) e) ∙ ap (λ z. start (see y) y ∷ z) r
    one false e r = r

-- more numbers, more lists
rising-more : (c k : ℕ) → rising (suc c) k ≤ rising (suc c) (suc k)
rising-more c k = omega (arith, pascal c k)

rising-most : (c n k : ℕ) → rising (suc c) k ≤ rising (suc c) (n + k)
rising-most c zero k = let e : k ≡ 0 + k = omega arith in subst (λ z. rising (suc c) k ≤ rising (suc c) z) e (omega arith)
rising-most c (suc n) k =
    let e : suc (n + k) ≡ suc n + k = omega arith in
    subst (λ z. rising (suc c) k ≤ rising (suc c) z) e (omega (arith, rising-most c n k, rising-more c (n + k)))

rising-mono : (c k k' : ℕ) → k ≤ k' → rising (suc c) k ≤ rising (suc c) k'
rising-mono c k k' h = let e : (k' - k) + k ≡ k' = omega arith in subst (λ z. rising (suc c) k ≤ rising (suc c) z) e (rising-most c (k' - k) k)

rising-up_to : (c k k' : ℕ) → k ≤ k' → rising (c + 1) k ≤ rising (c + 1) k'
rising-up_to c k k' h = let e : suc c ≡ c + 1 = omega arith in subst (λ z. rising z k ≤ rising z k') e (rising-mono c k k' h)

sharp-mono : (values : ℕ → ℕ) (n : ℕ) (ks ks' : ℕ → ℕ) → ((l : ℕ) → ks l ≤ ks' l) → sharp (λ l. values l + 1) n ks ≤ sharp (λ l. values l + 1) n ks'
sharp-mono values zero ks ks' h = omega arith
sharp-mono values (suc n) ks ks' h = mul-le _ _ _ _ (rising-up_to (values n) (ks n) (ks' n) (h n)) (sharp-mono values n ks ks' h)

-- fewer starts, fewer ends
most_filter : {E X : Type 0} (v : Env E) (image : List Instr) (rel : ℕ → Bool) (t : ℕ) (f : X → Start E) (pick : X → Bool) (xs : List X)
    → most_ended v image rel t (map f (filter pick xs)) ≤ most_ended v image rel t (map f xs)
most_filter v image rel t f pick [] = omega arith
most_filter v image rel t f pick (x ∷ xs) = go (pick x) (most_filter v image rel t f pick xs)
  where
    here : ℕ
    here = ended_count rel (run_from v image t (f x)).core.log

    most : ℕ
    most = most_ended v image rel t (map f xs)

    go : (b : Bool) → most_ended v image rel t (map f (filter pick xs)) ≤ most
        → most_ended v image rel t (map f (cond b (x ∷ filter pick xs) (filter pick xs))) ≤ max here most
    go true r = max-le (le-max_left here most) (omega (arith, r, le-max_right here most))
    go false r = omega (arith, r, le-max_right here most)

abbrev PredictsFrom : {E M L : Type 0} → Env E → Order → (ℕ → ℕ) → (ℕ → ℕ) → List Instr → Todo M L → ℕ → ℕ → (ℕ → ℕ) → Start E → Type 0
PredictsFrom v order g ls image p o t firsts s = PredictsBy v (lattice_of order) g ls image p o t firsts s

module _ {E X M L : Type 0} (serves : E → Type 0) (v : Env E) (order : Order) (g ls : ℕ → ℕ) (image : List Instr) (p : Todo M L) where
  abbrev Agrees : ℕ → (X → Start E) → X → X → Type 0
  Agrees o f x y = Agree v (lattice_of order) serves g o (f x) (f y)

  agree-views : (o : ℕ) (f : X → Start E) (xs : List X) → Pairwise (Agrees o f) xs → Pairwise (Agree v (lattice_of order) serves g o) (map f xs)
  agree-views o f xs h =
      each-mapped (λ s. Each (Agree v (lattice_of order) serves g o s) (map f xs)) f xs
      (Each-map (λ x. Each (Agrees o f x) xs) (λ x. Each (Agree v (lattice_of order) serves g o (f x)) (map f xs))
      (λ x a. each-mapped (Agree v (lattice_of order) serves g o (f x)) f xs a) xs h)

  abbrev shows : ℕ → ℕ → (X → Start E) → X → List Event
  shows o t f x = seen_from v (lattice_of order) g image o t (f x)

  pub halted_by : SharpSound v order serves g ls image p → (o : ℕ) → o < order.size → (t : ℕ) → 0 < t → (f : X → Start E) (xs : List X) (firsts : ℕ → ℕ) (n : ℕ)
      → Pairwise (Agrees o f) xs → Each (λ x. Covers v order g ls image p o t firsts n (f x)) xs → FewShown (shows o t f) same_events xs n
  halted_by sound o low t some f [] firsts n agree h = few_shown (shows o t f) same_events tests_events [] n (omega arith)
  halted_by sound o low t some f (x ∷ xs) firsts n agree h =
      let C : X → Type 0 = λ x. Covers v order g ls image p o t firsts n (f x) in
      let halts = each-mapped (Halts v image t) f (x ∷ xs) (Each-map C (λ x. Halts v image t (f x)) (λ x a. a.halts) (x ∷ xs) h) in
      let predicts = each-mapped (PredictsFrom v order g ls image p o t firsts) f (x ∷ xs) (Each-map C (λ x. PredictsFrom v order g ls image p o t firsts (f x))
      (λ x a. a.predicts) (x ∷ xs) h) in
      let r = sound.few o low t some (map f (x ∷ xs)) (agree-views o f (x ∷ xs) agree) halts firsts predicts same_events tests_events in
      let count : distinct_count same_events (map (shows o t f) (x ∷ xs)) ≤ sharp (ends_by t firsts) order.size r.0 =
      subst (λ z. distinct_count same_events z ≤ sharp (ends_by t firsts) order.size r.0)
      (map-map (seen_from v (lattice_of order) g image o t) f (x ∷ xs)) r.2.count in
      few_shown (shows o t f) same_events tests_events (x ∷ xs) n (omega (arith, count, h.0.counts r.0 r.1.0))

  pub cut_by : SharpCut v order serves g ls image p → (o : ℕ) → o < order.size → (t : ℕ) → 0 < t → (f : X → Start E) (xs : List X) (firsts : ℕ → ℕ)
      → Pairwise (Agrees o f) xs → Each (λ x. PredictsFrom v order g ls image p o t firsts (f x)) xs
      → FewShown (shows o t f) same_events xs (cut_count v order g ls image p o t firsts (map f xs))
  cut_by sound o low t some f xs firsts agree predicts =
      let r = sound.few o low t some (map f xs) (agree-views o f xs agree) firsts (each-mapped (PredictsFrom v order g ls image p o t firsts) f xs predicts)
      same_events tests_events in
      let n = cut_count v order g ls image p o t firsts (map f xs) in
      few_shown (shows o t f) same_events tests_events xs n
      (subst (λ z. distinct_count same_events z ≤ n) (map-map (seen_from v (lattice_of order) g image o t) f xs) r.0.count)

  pub cut_less : (o t : ℕ) (firsts : ℕ → ℕ) (f : X → Start E) (pick : X → Bool) (xs : List X)
      → cut_count v order g ls image p o t firsts (map f (filter pick xs)) ≤ cut_count v order g ls image p o t firsts (map f xs)
  cut_less o t firsts f pick xs =
      sharp-mono (ends_by t firsts) order.size _ _ (λ l. most_filter v image (relevant_at (lattice_of order) g ls o p l) t f pick xs)

module _ {E X : Type 0} (serves : E → Type 0) (v : Env E) (order : Order) (g : ℕ → ℕ) (image : List Instr) (g' : ℕ → ℕ) (image' : List Instr) (o t t' : ℕ)
    (first : X → Start E) (second : List Event → X → Start E) (xs : List X) where
  abbrev see : X → List Event
  see x = seen_from v (lattice_of order) g image o t (first x)

  abbrev later : X → Start E
  later x = second (see x) x

  abbrev next : List Event → X → List Event
  next w x = seen_from v (lattice_of order) g' image' o t' (second w x)

  abbrev those : List Event → List X
  those w = that_show see same_events w xs

pub is_sharp_twice : {E X M L M' L' : Type 0} {serves : E → Type 0} (v : Env E) (order : Order) (g ls : ℕ → ℕ) (image : List Instr) (p : Todo M L)
    (g' ls' : ℕ → ℕ) (image' : List Instr) (p' : Todo M' L') →
    SharpSound v order serves g ls image p → SharpSound v order serves g' ls' image' p' → SharpCut v order serves g ls image p
    → SharpCut v order serves g' ls' image' p' → SharpTwice X v order serves g ls image p g' ls' image' p'
is_sharp_twice {serves = serves} v order g ls image p g' ls' image' p' sound sound' cut cut' =
    record {
      halted = λ o low t t' some some' first second xs firsts firsts' n m agree later_agree holds later_holds alike tests.
          few_twice _ _ _ (see serves v order g image g' image' o t t' first second xs) (next serves v order g image g' image' o t t' first second xs)
          same_events same_events alike tests_events tests_events tests xs n m
          (halted_by serves v order g ls image p sound o low t some first xs firsts n agree holds)
          (λ w. halted_by serves v order g' ls' image' p' sound' o low t' some' (second w) (those serves v order g image g' image' o t t' first second xs w)
          firsts' m
          (those_agree (see serves v order g image g' image' o t t' first second xs) same_events tests_events second
          (Agree v (lattice_of order) serves g' o) xs later_agree w)
          (those_hold (see serves v order g image g' image' o t t' first second xs) same_events tests_events second
          (λ s. Covers v order g' ls' image' p' o t' firsts' m s) xs later_holds w));
      cut = λ o low t t' some some' first second xs firsts firsts' agree later_agree holds later_holds alike tests.
          few_twice _ _ _ (see serves v order g image g' image' o t t' first second xs) (next serves v order g image g' image' o t t' first second xs)
          same_events same_events alike tests_events tests_events tests xs _ _
          (cut_by serves v order g ls image p cut o low t some first xs firsts agree holds)
          (λ w.
          let ys = those serves v order g image g' image' o t t' first second xs w in
          let P : Start _ → Type 0 = λ s. PredictsBy v (lattice_of order) g' ls' image' p' o t' firsts' s in
          let r = cut_by serves v order g' ls' image' p' cut' o low t' some' (second w) ys firsts'
          (those_agree (see serves v order g image g' image' o t t' first second xs) same_events tests_events second
          (Agree v (lattice_of order) serves g' o) xs later_agree w)
          (those_hold (see serves v order g image g' image' o t t' first second xs) same_events tests_events second P xs later_holds w) in
          let e = ap (cut_count v order g' ls' image' p' o t' firsts')
          (those_views (see serves v order g image g' image' o t t' first second xs) same_events tests_events second w xs) in
          few_shown _ same_events tests_events ys _ (omega (
            arith,
            r.count,
            e,
            cut_less serves v order g' ls' image' p' o t' firsts' (later serves v order g image g' image' o t t' first second xs)
                (λ x. same_events w (see serves v order g image g' image' o t t' first second xs x)) xs,
          )));
    }
