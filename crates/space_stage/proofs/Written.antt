-- The starts of a space, written out: how many there are, and that each is for the program.
use Rattle.std.proofs.Common.{◌≡◌, ◌∙◌, ◌<◌, ◌+◌, ◌*◌, refl, sym, ap, ap₂, subst, arith, ℕ, zero, suc, List, [], ◌∷◌, ◌++◌, All, length, Option}
use Rattle.std.proofs.Common.{inl, inr, add-one}
use Rattle.mit_syntax.specs.Program.{Syntax}
use Rattle.start_file.specs.Starts.{StartValue, IsFor}
use Rattle.start_space.specs.Space.{size, nth}
use Rattle.space_starts.specs.declared.space.Interval.{Interval}
use Rattle.space_starts.specs.Space.{SpaceValue, many, counts, chosen, size_of, start_at, starts_from, IsValues, IsSpaceFor}
use Rattle.space_stage.specs.Given.{GivenValue, GivenIs, IsFitting}
use Rattle.space_stage.specs.Listed.{WritesOut, AreFitting}
use Rattle.space_stage.proofs.Counts.{count_list}

-- ---- one start more

starts_last : (s : SpaceValue) (n c : ℕ) → starts_from s n (suc c) ≡ starts_from s n c ++ start_at s (n + c) ∷ []
starts_last s n zero = let e : n ≡ n + 0 = omega arith in ap (λ k. start_at s k ∷ []) e
starts_last s n (suc c) =
    let e : n + 1 + c ≡ n + suc c = omega arith in
    ap (λ z. start_at s n ∷ z) (starts_last s (n + 1) c ∙ ap (λ k. starts_from s (n + 1) c ++ start_at s k ∷ []) e)

pub one_more : (s : SpaceValue) (c : ℕ) (old new : List StartValue) (x : StartValue) → old ≡ starts_from s 0 c → x ≡ start_at s c
    → new ≡ old ++ x ∷ [] → new ≡ starts_from s 0 (c + 1)
one_more s c old new x h is e =
    let at : 0 + c ≡ c = omega arith in
    e ∙ ap₂ (λ z y. z ++ y ∷ []) h is ∙ ap (λ k. starts_from s 0 c ++ start_at s k ∷ []) (sym at) ∙ sym (starts_last s 0 c)
    ∙ ap (λ k. starts_from s 0 k) (sym (add-one c))

-- ---- how many there are

long : (s : SpaceValue) (n c : ℕ) → length (starts_from s n c) ≡ c
long s n zero = refl
long s n (suc c) = ap suc (long s (n + 1) c)

product : (a b : ℕ) → 0 < a → 0 < b → 0 < a * b
product zero b h k = absurd (omega (arith, h))
product (suc a) zero h k = absurd (omega (arith, k))
product (suc a) (suc b) h k = omega arith

some_many : (is : List Interval) → 0 < length is → 0 < many is
some_many [] h = absurd (omega (arith, h))
some_many (i ∷ is) h = omega arith

some_size : (vs : List (List Interval)) → All IsValues vs → 0 < size (counts vs)
some_size [] h = omega arith
some_size (v ∷ vs) h =
    let first = some_many v (h 0 v (omega arith)).some in
    let rest = some_size vs (λ k d lt. h (suc k) d (omega (arith, lt))) in
    product (many v) (size (counts vs)) first rest

-- ---- each is for the program

values_long : (vs : List (List Interval)) (n : ℕ) → length (chosen vs (nth (counts vs) n)) ≡ length vs
values_long [] n = refl
values_long (v ∷ vs) n = ap suc (values_long vs _)

module _ (p : Syntax) (s : SpaceValue) (h : IsSpaceFor p s) where
  start_fits : (n : ℕ) → IsFor p (start_at s n)
  start_fits n = record { memory = values_long s.memory n ∙ h.memory; touches = h.touches }

  starts_fit : (n c : ℕ) → All (IsFor p) (starts_from s n c)
  starts_fit n zero = λ k d lt. absurd (omega (arith, lt))
  starts_fit n (suc c) = with_first (starts_fit (n + 1) c)
    where
      with_first : All (IsFor p) (starts_from s (n + 1) c) → All (IsFor p) (start_at s n ∷ starts_from s (n + 1) c)
      with_first rest zero d lt = start_fits n
      with_first rest (suc k) d lt = rest k d (omega (arith, lt))

-- what is given to a program and written out is for it
pub fits : (content : Option (Option (List ℕ))) (p : Syntax) (g : GivenValue) (ss : List StartValue) → GivenIs content p g → IsFitting p g → WritesOut g ss
    → AreFitting p ss
fits content p (inl rs) ss g f h =
    let n = count_list content p rs g in
    subst (λ (z : List StartValue). AreFitting p z) (sym h) (record { some = n.0; few = n.1; starts = f })
fits content p (inr s) ss g f h =
    let n : length ss ≡ size_of s = ap length h.1 ∙ long s 0 (size_of s) in
    let some = some_size s.memory f.values in
    let few = h.0 in
    record {
      some = omega (arith, n, some);
      few = omega (arith, n, few);
      starts = subst (λ (z : List StartValue). All (IsFor p) z) (sym h.1) (starts_fit p s f 0 (size_of s));
    }
