-- All choices, and those whose cycles add up to at most T.
use Rattle.std.proofs.Common.{◌≡◌, ℕ, zero, suc, ◌+◌, ◌*◌, ◌≤◌, List, [], ◌∷◌, ◌++◌, length, Bool, true, false, refl, sym, ap, ◌∙◌, subst, inl, inr, arith}
use Rattle.std.proofs.Common.{length-append}
use Rattle.std.specs.Prelude.{cond, leb}
use Rattle.std.specs.List.{filter}
use Rattle.std.proofs.lemmas.Bool.{leb-true, le-leb}
use Rattle.std.proofs.lemmas.List.Sums.{length-filter, count_by-le-length}
use Rattle.leak_bound.specs.Records.{Each}
use Rattle.leak_bound.proofs.Few.{Each-map, Each-append, Each-pass, Each-filter}
use Rattle.leak_bound.specs.Rising.{rising, sharp}
use Rattle.sharp_count.specs.Levels.{miss_counts}
use Rattle.sharp_count.specs.Lists.{NeverFalling, IsAmong, AllDiffer}
use Rattle.sharp_count.specs.Ways.{IsChoice, cycles_of, cycles_in, AreWays, WaysAreFew}
use Rattle.sharp_count.proofs.Listing.{listing, length-listing, each_falls, has_all, all_differ, among_left, among_right, differ-append, each_true}

abbrev pub Choice : Type 0
Choice = List (List ℕ)

module _ {X : Type 0} where
  pub among_passed : (t : X → Bool) (x : X) (xs : List X) → t x ≡ true → IsAmong x xs → IsAmong x (filter t xs)
  among_passed t x [] e h = h
  among_passed t x (y ∷ xs) e (inl q) = subst (λ b. IsAmong x (cond b (y ∷ filter t xs) (filter t xs))) (sym (ap t (sym q) ∙ e)) (inl q)
  among_passed t x (y ∷ xs) e (inr h) = go (t y) (among_passed t x xs e h)
    where
      go : (b : Bool) → IsAmong x (filter t xs) → IsAmong x (cond b (y ∷ filter t xs) (filter t xs))
      go true r = inr r
      go false r = r

  pub differ_passed : (t : X → Bool) (xs : List X) → AllDiffer xs → AllDiffer (filter t xs)
  differ_passed t [] h = tt
  differ_passed t (x ∷ xs) h = go (t x) (differ_passed t xs h.1)
    where
      go : (b : Bool) → AllDiffer (filter t xs) → AllDiffer (cond b (x ∷ filter t xs) (filter t xs))
      go true r = (Each-filter (λ y. x ≡ y → ⊥) t xs h.0, r)
      go false r = r

-- a list of miss counts before each choice
abbrev before_all : List ℕ → List Choice → List Choice
before_all ms [] = []
before_all ms (c ∷ cs) = (ms ∷ c) ∷ before_all ms cs

-- each list before each choice
abbrev pub pairs : List (List ℕ) → List Choice → List Choice
pairs [] cs = []
pairs (ms ∷ all) cs = before_all ms cs ++ pairs all cs

length-before_all : (ms : List ℕ) (cs : List Choice) → length (before_all ms cs) ≡ length cs
length-before_all ms [] = refl
length-before_all ms (c ∷ cs) = ap suc (length-before_all ms cs)

pub length-pairs : (all : List (List ℕ)) (cs : List Choice) → length (pairs all cs) ≡ length all * length cs
length-pairs [] cs = omega arith
length-pairs (ms ∷ all) cs =
    let one : suc (length all) * length cs ≡ length cs + length all * length cs = omega arith in
    length-append (before_all ms cs) (pairs all cs) ∙ omega (arith, length-before_all ms cs, length-pairs all cs, one)

each-before_all : (P Q : Choice → Type 0) (ms : List ℕ) → ((c : Choice) → P c → Q (ms ∷ c)) → (cs : List Choice) → Each P cs → Each Q (before_all ms cs)
each-before_all P Q ms f [] h = tt
each-before_all P Q ms f (c ∷ cs) h = (f c h.0, each-before_all P Q ms f cs h.1)

pub each-pairs : (R : List ℕ → Type 0) (P Q : Choice → Type 0) → ((ms : List ℕ) (c : Choice) → R ms → P c → Q (ms ∷ c))
    → (all : List (List ℕ)) (cs : List Choice) → Each R all → Each P cs → Each Q (pairs all cs)
each-pairs R P Q f [] cs h k = tt
each-pairs R P Q f (ms ∷ all) cs h k =
    Each-append Q (before_all ms cs) (pairs all cs) (each-before_all P Q ms (λ c p. f ms c h.0 p) cs k) (each-pairs R P Q f all cs h.1 k)

among-before_all : (ms : List ℕ) (c : Choice) (cs : List Choice) → IsAmong c cs → IsAmong (ms ∷ c) (before_all ms cs)
among-before_all ms c [] h = absurd h
among-before_all ms c (d ∷ cs) (inl e) = inl (ap (λ z. ms ∷ z) e)
among-before_all ms c (d ∷ cs) (inr h) = inr (among-before_all ms c cs h)

pub among-pairs : (ms : List ℕ) (c : Choice) (all : List (List ℕ)) (cs : List Choice) → IsAmong ms all → IsAmong c cs → IsAmong (ms ∷ c) (pairs all cs)
among-pairs ms c [] cs h k = absurd h
among-pairs ms c (ns ∷ all) cs (inl e) k =
    among_left (ms ∷ c) (before_all ns cs) (pairs all cs) (subst (λ z. IsAmong (z ∷ c) (before_all ns cs)) (sym e) (among-before_all ns c cs k))
among-pairs ms c (ns ∷ all) cs (inr h) k = among_right (ms ∷ c) (before_all ns cs) (pairs all cs) (among-pairs ms c all cs h k)

tails : (ms ns : List ℕ) (c d : Choice) → ms ∷ c ≡ ns ∷ d → c ≡ d
tails ms ns c d e = cc

heads : (ms ns : List ℕ) (c d : Choice) → ms ∷ c ≡ ns ∷ d → ms ≡ ns
heads ms ns c d e = cc

differ-before_all : (ms : List ℕ) (cs : List Choice) → AllDiffer cs → AllDiffer (before_all ms cs)
differ-before_all ms [] h = tt
differ-before_all ms (c ∷ cs) h =
    (each-before_all (λ d. c ≡ d → ⊥) (λ d. ms ∷ c ≡ d → ⊥) ms (λ d ne e. ne (tails ms ms c d e)) cs h.0, differ-before_all ms cs h.1)

-- what begins with another list is another
differ_from : (ms : List ℕ) (all : List (List ℕ)) (cs : List Choice) → Each (λ ns. ms ≡ ns → ⊥) all → (c : Choice) → Each (λ d. ms ∷ c ≡ d → ⊥) (pairs all cs)
differ_from ms all cs h c =
    each-pairs (λ ns. ms ≡ ns → ⊥) (λ d. Unit {0}) (λ d. ms ∷ c ≡ d
    → ⊥) (λ ns d ne u e. ne (heads ms ns c d e)) all cs h (each_true (λ d. Unit {0}) (λ d. tt) cs)

pub differ-pairs : (all : List (List ℕ)) (cs : List Choice) → AllDiffer all → AllDiffer cs → AllDiffer (pairs all cs)
differ-pairs [] cs h k = tt
differ-pairs (ms ∷ all) cs h k =
    differ-append (before_all ms cs) (pairs all cs) (differ-before_all ms cs k) (differ-pairs all cs h.1 k)
    (each-before_all (λ d. Unit {0}) (λ c. Each (λ d. c ≡ d → ⊥) (pairs all cs)) ms
    (λ c u. differ_from ms all cs h.0 c) cs (each_true (λ d. Unit {0}) (λ d. tt) cs))

-- all choices
abbrev pub choices : (ℕ → ℕ) → ℕ → (ℕ → ℕ) → List Choice
choices values zero counts = [] ∷ []
choices values (suc l) counts = pairs (listing 0 (values l) (counts l)) (choices values l counts)

length-choices : (values : ℕ → ℕ) (n : ℕ) (counts : ℕ → ℕ) → length (choices values n counts) ≡ sharp values n counts
length-choices values zero counts = refl
length-choices values (suc l) counts =
    length-pairs (listing 0 (values l) (counts l)) (choices values l counts)
    ∙ ap (λ z. z * length (choices values l counts)) (length-listing 0 (values l) (counts l))
    ∙ ap (λ z. rising (values l) (counts l) * z) (length-choices values l counts)

pub each_choice : (values : ℕ → ℕ) (n : ℕ) (counts : ℕ → ℕ) → Each (IsChoice values n counts) (choices values n counts)
each_choice values zero counts = (refl, tt)
each_choice values (suc l) counts =
    each-pairs (NeverFalling 0 (values l) (counts l)) (IsChoice values l counts) (IsChoice values (suc l) counts) (λ ms c h k. (h, k))
    (listing 0 (values l) (counts l)) (choices values l counts) (each_falls (values l) 0 (values l) (counts l) (omega arith)) (each_choice values l counts)

pub whole_choices : (values : ℕ → ℕ) (n : ℕ) (counts : ℕ → ℕ) (c : Choice) → IsChoice values n counts c → IsAmong c (choices values n counts)
whole_choices values zero counts c h = inl h
whole_choices values (suc l) counts [] h = absurd h
whole_choices values (suc l) counts (ms ∷ c) h =
    among-pairs ms c (listing 0 (values l) (counts l)) (choices values l counts)
    (has_all (values l) 0 (values l) (counts l) ms (omega arith) h.0) (whole_choices values l counts c h.1)

pub differ_choices : (values : ℕ → ℕ) (n : ℕ) (counts : ℕ → ℕ) → AllDiffer (choices values n counts)
differ_choices values zero counts = (tt, tt)
differ_choices values (suc l) counts =
    differ-pairs (listing 0 (values l) (counts l)) (choices values l counts) (all_differ 0 (values l) (counts l)) (differ_choices values l counts)

-- those whose cycles add up to at most T
abbrev pub ways : ℕ → (ℕ → ℕ) → ℕ → (ℕ → ℕ) → List Choice
ways t firsts n counts = filter (λ c. leb (cycles_in firsts n c) t) (choices (λ l. miss_counts t (firsts l)) n counts)

pub are_ways : (t : ℕ) (firsts : ℕ → ℕ) (n : ℕ) (counts : ℕ → ℕ) → AreWays t firsts n counts (ways t firsts n counts)
are_ways t firsts n counts =
    let values : ℕ → ℕ = λ l. miss_counts t (firsts l) in
    let fits : Choice → Bool = λ c. leb (cycles_in firsts n c) t in
    let all = choices values n counts in
    record {
      each = Each-map (λ c. IsChoice values n counts c × (fits c ≡ true)) (λ c. IsChoice values n counts c × (cycles_in firsts n c ≤ t))
          (λ c h. (h.0, leb-true (cycles_in firsts n c) t h.1)) (filter fits all)
          (Each-pass (IsChoice values n counts) fits all (each_choice values n counts));
      whole = λ c h le. among_passed fits c all (le-leb (cycles_in firsts n c) t le) (whole_choices values n counts c h);
      differ = differ_passed fits all (differ_choices values n counts);
    }

pub ways_are_few : WaysAreFew
ways_are_few t firsts n counts =
    let values : ℕ → ℕ = λ l. miss_counts t (firsts l) in
    let fits : Choice → Bool = λ c. leb (cycles_in firsts n c) t in (
      ways t firsts n counts,
      are_ways t firsts n counts,
      omega (arith, length-filter fits (choices values n counts), count_by-le-length fits (choices values n counts), length-choices values n counts),
    )

-- of one level these are the lists of miss counts whose cycles add up to at most T
length-singles : (fits : Choice → Bool) (all : List (List ℕ)) → length (filter fits (pairs all ([] ∷ []))) ≡ length (filter (λ ms. fits (ms ∷ [])) all)
length-singles fits [] = refl
length-singles fits (ms ∷ all) = go (fits (ms ∷ [])) (length-singles fits all)
  where
    go : (b : Bool) → length (filter fits (pairs all ([] ∷ []))) ≡ length (filter (λ ns. fits (ns ∷ [])) all) →
        length (cond b ((ms ∷ []) ∷ filter fits (pairs all ([] ∷ []))) (filter fits (pairs all ([] ∷ []))))
        ≡ length (cond b (ms ∷ filter (λ ns. fits (ns ∷ [])) all) (filter (λ ns. fits (ns ∷ [])) all))
    go true e = ap suc e
    go false e = e

pub length-one_level : (t first k : ℕ)
    → length (ways t (λ l. first) 1 (λ l. k)) ≡ length (filter (λ ms. leb (cycles_of first ms + 0) t) (listing 0 (miss_counts t first) k))
length-one_level t first k = length-singles (λ c. leb (cycles_in (λ l. first) 1 c) t) (listing 0 (miss_counts t first) k)
