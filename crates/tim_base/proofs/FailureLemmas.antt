-- One fault more.
use Rattle.std.proofs.Common.{◌≡◌, inl, inr, ℕ, ◌+◌, ◌≤◌, List, [], ◌∷◌, ◌++◌, Bool, true, false, cond, eqb, refl, ap, arith, ◌^◌, ◌-◌}
use Rattle.std.proofs.lemmas.Bool.Decides.{Decides-eqb}
use Rattle.std.specs.Cmp.Lexicographic.{pointwise}
use Rattle.std.specs.Prelude.{◌&&◌}
use Rattle.tim_base.specs.Faults.{raised, Rose}
use Rattle.tim_base.specs.Failures.{Failures, times, faults_of, IsOneMore}

both : (a b : Bool) → a ≡ true → b ≡ true → (a && b) ≡ true
both true b p q = q
both false b p q = absurd cc

same_name : (n : List ℕ) → pointwise eqb n n ≡ true
same_name [] = refl
same_name (b ∷ n) = both (eqb b b) (pointwise eqb n n) ((Decides-eqb b b).1 refl) (same_name n)

times_end : (name : List ℕ) (ns : List (List ℕ)) (n : List ℕ) → times name (ns ++ n ∷ []) ≡ times name ns + cond (pointwise eqb name n) 1 0
times_end name [] n = omega arith
times_end name (m ∷ ns) n = let e = times_end name ns n in omega (arith, e)

raised_later : (n : ℕ) → n ≤ 2 ^ 64 - 1 → n ≤ raised n
raised_later n l = omega (arith, l)

pub counts_later : (old new : Failures) (name : List ℕ) → old.lost ≤ 2 ^ 64 - 1 → IsOneMore old new name → (file : List ℕ)
    → faults_of old file ≤ faults_of new file
counts_later old new name few (inl e) file =
    let more : faults_of new file ≡ times file (old.named ++ name ∷ []) + old.lost = ap (λ (f : Failures). faults_of f file) e in
    let end = times_end file old.named name in
    omega (arith, more, end)
counts_later old new name few (inr e) file =
    let more : faults_of new file ≡ times file old.named + raised old.lost = ap (λ (f : Failures). faults_of f file) e in
    let l = raised_later old.lost few in
    omega (arith, more, l)

pub count_rises : (old new : Failures) (name : List ℕ) → IsOneMore old new name → Rose (faults_of old name) (faults_of new name)
count_rises old new name (inl e) =
    let more : faults_of new name ≡ times name (old.named ++ name ∷ []) + old.lost = ap (λ (f : Failures). faults_of f name) e in
    let end = times_end name old.named name in
    let unit : ℕ = 1 in
    let one : cond (pointwise eqb name name) 1 0 ≡ unit = ap (λ b. cond b 1 0) (same_name name) in
    omega (arith, more, end, one)
count_rises old new name (inr e) =
    let more : faults_of new name ≡ times name old.named + raised old.lost = ap (λ (f : Failures). faults_of f name) e in
    omega (arith, more)
