-- A list that has the estimate of each mitigate under its mark.
use Rattle.std.proofs.Common.{◌≡◌, ◌≤◌, ℕ, ◌+◌, refl, sym, ap, ◌∙◌, subst, List, [], ◌∷◌, ◌++◌, length, append_assoc, length-append, All, Some, arith}
use Rattle.std.specs.Prelude.{ℤ, Bool, true, false, cond, slice_get}
use Rattle.std.proofs.lemmas.List.Elements.{All-append}
use Rattle.mit_syntax.specs.Expression.{Expression, Number, Variable, Binary, Element}
use Rattle.mit_syntax.specs.Todo.{Todo, Done, Skip, Assign, Put, Sleep, If, While, Mitigate, then_todo}
use Rattle.mit_syntax.specs.Plan.{Plan, mitigates}
use Rattle.mit_syntax.specs.Declarations.{Declaration, variables}
use Rattle.mit_syntax.specs.Program.{Syntax, plan_of}
use Rattle.mit_syntax.specs.Valid.{AreNumbered, AreShaped, IsKnown, AreKnown, IsValid}
use Rattle.mit_syntax.specs.Values.{value_of, holds}
use Rattle.mit_syntax.proofs.Numbers.{few_cells}
use Rattle.mit_syntax.proofs.Facts.{scalar_below, array_below, array_some}
use Rattle.source_meaning.specs.Source.{source_act}
use Rattle.source_meaning.specs.InRange.{IsIn}
use Rattle.source_meaning.proofs.Single.{All-none, All-one}
use Rattle.level_counts.specs.Estimates.{estimates_of}

pub length-estimates : {M L : Type 0} (p : Todo M L) → length (estimates_of p) ≡ mitigates p
length-estimates Done = refl
length-estimates (Skip m r) = length-estimates r
length-estimates (Assign m x e r) = length-estimates r
length-estimates (Put m f n i e r) = length-estimates r
length-estimates (Sleep m e r) = length-estimates r
length-estimates (If m e a b r) =
    let one = length-append (estimates_of a) (estimates_of b ++ estimates_of r) in
    let two = length-append (estimates_of b) (estimates_of r) in
    omega (arith, one, two, length-estimates a, length-estimates b, length-estimates r)
length-estimates (While m e c r) = let one = length-append (estimates_of c) (estimates_of r) in omega (arith, one, length-estimates c, length-estimates r)
length-estimates (Mitigate m k l e c r) = let one = length-append (estimates_of c) (estimates_of r) in
    omega (arith, one, length-estimates c, length-estimates r)

-- each mitigate that is to do has its estimate there
abbrev pub Tells : {M L : Type 0} → List Expression → Todo M L → Type 0
Tells es Done = Unit {0}
Tells es (Skip m r) = Tells es r
Tells es (Assign m x e r) = Tells es r
Tells es (Put m f n i e r) = Tells es r
Tells es (Sleep m e r) = Tells es r
Tells es (If m e a b r) = Tells es a × Tells es b × Tells es r
Tells es (While m e c r) = Tells es c × Tells es r
Tells es (Mitigate m k l e c r) = (slice_get es k ≡ Some e) × Tells es c × Tells es r

get_seam : (pre : List Expression) (e : Expression) (post : List Expression) → slice_get (pre ++ e ∷ post) (length pre) ≡ Some e
get_seam [] e post = refl
get_seam (x ∷ pre) e post = get_seam pre e post

longer : (pre a : List Expression) (k n : ℕ) → length pre ≡ k → length a ≡ n → length (pre ++ a) ≡ k + n
longer pre a k n h l = let s = length-append pre a in omega (arith, h, l, s)

module _ (all : List Expression) where
  tells_at : (p : Plan) (k : ℕ) (pre post : List Expression) → AreNumbered k p → length pre ≡ k → all ≡ pre ++ (estimates_of p ++ post) → Tells all p
  tells_at Done k pre post num len is = tt
  tells_at (Skip w p) k pre post num len is = tells_at p k pre post num len is
  tells_at (Assign w x e p) k pre post num len is = tells_at p k pre post num len is
  tells_at (Put w f n j e p) k pre post num len is = tells_at p k pre post num len is
  tells_at (Sleep w e p) k pre post num len is = tells_at p k pre post num len is
  tells_at (If w e a b p) k pre post num len is =
      let ea = estimates_of a in
      let eb = estimates_of b in
      let ep = estimates_of p in
      let s1 : all ≡ pre ++ (ea ++ ((eb ++ ep) ++ post)) = is ∙ ap (λ z. pre ++ z) (append_assoc ea (eb ++ ep) post) in
      let s2 : all ≡ (pre ++ ea) ++ (eb ++ (ep ++ post)) =
      s1 ∙ ap (λ z. pre ++ (ea ++ z)) (append_assoc eb ep post) ∙ sym (append_assoc pre ea (eb ++ (ep ++ post))) in
      let s3 : all ≡ ((pre ++ ea) ++ eb) ++ (ep ++ post) = s2 ∙ sym (append_assoc (pre ++ ea) eb (ep ++ post)) in
      let n1 = longer pre ea k (mitigates a) len (length-estimates a) in
      let n2 = longer (pre ++ ea) eb (k + mitigates a) (mitigates b) n1 (length-estimates b) in (
        tells_at a k pre ((eb ++ ep) ++ post) num.0 len s1,
        tells_at b (k + mitigates a) (pre ++ ea) (ep ++ post) num.1 n1 s2,
        tells_at p (k + mitigates a + mitigates b) ((pre ++ ea) ++ eb) post num.2 n2 s3,
      )
  tells_at (While w e c p) k pre post num len is =
      let ec = estimates_of c in
      let ep = estimates_of p in
      let s1 : all ≡ pre ++ (ec ++ (ep ++ post)) = is ∙ ap (λ z. pre ++ z) (append_assoc ec ep post) in
      let s2 : all ≡ (pre ++ ec) ++ (ep ++ post) = s1 ∙ sym (append_assoc pre ec (ep ++ post)) in
      let n1 = longer pre ec k (mitigates c) len (length-estimates c) in
      (tells_at c k pre (ep ++ post) num.0 len s1, tells_at p (k + mitigates c) (pre ++ ec) post num.1 n1 s2)
  tells_at (Mitigate w j l e c p) k pre post num len is =
      let ec = estimates_of c in
      let ep = estimates_of p in
      let s0 : all ≡ pre ++ (e ∷ ((ec ++ ep) ++ post)) = is in
      let s1 : all ≡ (pre ++ e ∷ []) ++ (ec ++ (ep ++ post)) =
      s0 ∙ ap (λ z. pre ++ (e ∷ z)) (append_assoc ec ep post) ∙ sym (append_assoc pre (e ∷ []) (ec ++ (ep ++ post))) in
      let s2 : all ≡ ((pre ++ e ∷ []) ++ ec) ++ (ep ++ post) = s1 ∙ sym (append_assoc (pre ++ e ∷ []) ec (ep ++ post)) in
      let n1 = longer pre (e ∷ []) k 1 len refl in
      let n2 = longer (pre ++ e ∷ []) ec (k + 1) (mitigates c) n1 (length-estimates c) in
      let here : slice_get all j ≡ Some e = ap (λ z. slice_get z j) s0 ∙ ap (slice_get (pre ++ (e ∷ ((ec ++ ep) ++ post)))) (num.0 ∙ sym len)
      ∙ get_seam pre e ((ec ++ ep) ++ post) in
      (here, tells_at c (k + 1) (pre ++ e ∷ []) (ep ++ post) num.1 n1 s1, tells_at p (k + 1 + mitigates c) ((pre ++ e ∷ []) ++ ec) post num.2 n2 s2)

-- the list of a program's estimates does
pub tells_first : (s : Syntax) → IsValid s → Tells (estimates_of (plan_of s)) (plan_of s)
tells_first s v = tells_at (estimates_of (plan_of s)) (plan_of s) 0 [] [] v.numbered refl (no_more (estimates_of (plan_of s)))
  where
    no_more : (xs : List Expression) → xs ≡ xs ++ []
    no_more [] = refl
    no_more (x ∷ xs) = ap (λ z. x ∷ z) (no_more xs)

tells_then : {M L : Type 0} (es : List Expression) (p q : Todo M L) → Tells es p → Tells es q → Tells es (then_todo p q)
tells_then es Done q h g = g
tells_then es (Skip m p) q h g = tells_then es p q h g
tells_then es (Assign m x e p) q h g = tells_then es p q h g
tells_then es (Put m f n i e p) q h g = tells_then es p q h g
tells_then es (Sleep m e p) q h g = tells_then es p q h g
tells_then es (If m e a b p) q h g = (h.0, h.1, tells_then es p q h.2 g)
tells_then es (While m e c p) q h g = (h.0, tells_then es p q h.1 g)
tells_then es (Mitigate m k l e c p) q h g = (h.0, h.1, tells_then es p q h.2 g)

tells_cond : {M L : Type 0} (es : List Expression) (b : Bool) (p q : Todo M L) → Tells es p → Tells es q → Tells es (cond b p q)
tells_cond es true p q h g = h
tells_cond es false p q h g = g

-- so it is after a step
pub tells_act : {M L : Type 0} (es : List Expression) (p : Todo M L) (m : List ℤ) → Tells es p → Tells es (source_act p m []).todo
tells_act es Done m h = tt
tells_act es (Skip l r) m h = h
tells_act es (Sleep l e r) m h = h
tells_act es (Assign l x e r) m h = h
tells_act es (Put l f n i e r) m h = h
tells_act es (If l e a b r) m h = tells_cond es (holds (value_of e m)) (then_todo a r) (then_todo b r) (tells_then es a r h.0 h.2) (tells_then es b r h.1 h.2)
tells_act es (While l e c r) m h = tells_cond es (holds (value_of e m)) (then_todo c (While l e c r)) r (tells_then es c (While l e c r) h.0 h) h.1
tells_act es (Mitigate l n v e c r) m h = tells_then es c r h.1 h.2

-- ---- their variables are those of a memory

module _ (ds : List Declaration) (shaped : AreShaped ds) (n : ℕ) where
  known_in : (e : Expression) → IsKnown ds e → IsIn (variables ds) e
  known_in (Number z) k = tt
  known_in (Variable x) k = scalar_below ds k.0 x k.1
  known_in (Binary o l r) k = (known_in l k.0, known_in r k.1)
  known_in (Element f j i) k = ((array_some ds k.0.0 f j k.0.1 shaped, array_below ds k.0.0 f j k.0.1), known_in i k.1)

  known_all : (p : Plan) → AreKnown n ds p → All (IsIn (variables ds)) (estimates_of p)
  known_all Done h = All-none (IsIn (variables ds))
  known_all (Skip w p) h = known_all p h.1
  known_all (Assign w x e p) h = known_all p h.3
  known_all (Put w f j i e p) h = known_all p h.4
  known_all (Sleep w e p) h = known_all p h.2
  known_all (If w e a b p) h =
      let P = IsIn (variables ds) in
      All-append P (estimates_of a) (estimates_of b ++ estimates_of p) (known_all a h.4)
      (All-append P (estimates_of b) (estimates_of p) (known_all b h.5) (known_all p h.6))
  known_all (While w e c p) h = All-append (IsIn (variables ds)) (estimates_of c) (estimates_of p) (known_all c h.3) (known_all p h.4)
  known_all (Mitigate w k l e c p) h =
      let P = IsIn (variables ds) in
      All-append P (e ∷ []) (estimates_of c ++ estimates_of p) (All-one P e (known_in e h.2))
      (All-append P (estimates_of c) (estimates_of p) (known_all c h.4) (known_all p h.5))

pub all_in : (s : Syntax) → IsValid s → All (IsIn (variables s.declarations)) (estimates_of (plan_of s))
all_in s v = known_all s.declarations v.arrays s.order.size (plan_of s) v.known

-- the same of a table that has them
pub table_in : (r s : Syntax) (table : List Expression) (n : ℕ) → r ≡ s → IsValid r → table ≡ estimates_of (plan_of s)
    → n ≡ variables s.declarations → All (IsIn n) table
table_in r s table n e valid same long =
    subst (λ z. All (IsIn n) z) (sym same) (subst (λ z. All (IsIn z) (estimates_of (plan_of s))) (sym long) (all_in s (subst IsValid e valid)))

pub few_variables : (r s : Syntax) (n : ℕ) → r ≡ s → IsValid r → n ≡ variables s.declarations → n ≤ 3072
few_variables r s n e valid long = let v = subst IsValid e valid in let few = few_cells s.declarations v.few in omega (arith, few, long)
