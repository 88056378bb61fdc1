-- The labels that commands write are the only ones that are kept.
use Rattle.std.proofs.Common.{◌≡◌, refl, sym, ap, ◌∙◌, subst, ℕ, ◌+◌, ◌<◌, ◌≤◌, arith, Some, ⊎_elim}
use Rattle.std.proofs.lemmas.Bool.{cases_lt}
use Rattle.label_lattice.specs.Order.{Order}
use Rattle.mit_syntax.specs.Todo.{Marks, Done, Skip, Assign, Put, Sleep, If, While, Mitigate}
use Rattle.mit_syntax.specs.Plan.{Plan, count, mitigates}
use Rattle.mit_syntax.specs.Valid.{AreNumbered}
use Rattle.timing_types.specs.Labelling.{Labelling, AreKept, Keeps, marks_of, level_of}
use Rattle.label_write.specs.Written.{as_label, written_plan}
use Rattle.label_write.proofs.Validity.{same_count}

-- of each number from a on, below b
abbrev pub Range : (ℕ → Type 0) → ℕ → ℕ → Type 0
Range P a b = (j : ℕ) → a ≤ j → j < b → P j

one : (P : ℕ → Type 0) (i b : ℕ) → P i → Range P (i + 1) b → Range P i b
one P i b h r j a c =
    ⊎_elim
    (λ (x : j < i + 1). let e : i ≡ j = omega (arith, a, x) in subst P e h)
    (λ (x : i + 1 ≤ j). r j x c)
    (cases_lt j (i + 1))

join : (P : ℕ → Type 0) (a b c : ℕ) → Range P a b → Range P b c → Range P a c
join P a b c r s j h k = ⊎_elim (λ (x : j < b). r j h x) (λ (x : b ≤ j). s j x k) (cases_lt j b)

upto : (P : ℕ → Type 0) (a b c : ℕ) → c ≤ b → Range P a b → Range P a c
upto P a b c le r j h k = r j h (omega (arith, le, k))

module _ (o : Order) (l : Labelling) (ms : ℕ → Marks) (ls : ℕ → ℕ) where
  -- where the parts of a command begin, as the written list counts
  module _ (a b p : Plan) (i : ℕ) where
    second : Keeps ms ls (written_plan o l b (i + 1 + count a)) (i + 1 + count (written_plan o l a (i + 1)))
        → Keeps ms ls (written_plan o l b (i + 1 + count a)) (i + 1 + count a)
    second h = subst (λ n. Keeps ms ls (written_plan o l b (i + 1 + count a)) (i + 1 + n)) (same_count o l a (i + 1)) h

    third : Keeps ms ls (written_plan o l p (i + 1 + count a + count b))
        (i + 1 + count (written_plan o l a (i + 1)) + count (written_plan o l b (i + 1 + count a)))
        → Keeps ms ls (written_plan o l p (i + 1 + count a + count b)) (i + 1 + count a + count b)
    third h =
        subst (λ n. Keeps ms ls (written_plan o l p (i + 1 + count a + count b)) (i + 1 + count a + n)) (same_count o l b (i + 1 + count a))
        (subst (λ n. Keeps ms ls (written_plan o l p (i + 1 + count a + count b)) (i + 1 + n + count (written_plan o l b (i + 1 + count a))))
        (same_count o l a (i + 1)) h)

  abbrev SameMarks : ℕ → Type 0
  SameMarks j = ms j ≡ marks_of o l j

  abbrev SameLevel : ℕ → Type 0
  SameLevel k = ls k ≡ level_of o l k

  kept : (i : ℕ) → AreKept (Some (as_label (marks_of o l i).er, as_label (marks_of o l i).ew)) (ms i) → SameMarks i
  kept i h =
      let a : (ms i).er ≡ (marks_of o l i).er = h.0 in
      let b : (ms i).ew ≡ (marks_of o l i).ew = h.1 in
      ap (λ (z : ℕ). let m : Marks = record { er = z; ew = (ms i).ew } in m) a ∙ ap (λ (z : ℕ). let m : Marks =
      record { er = (marks_of o l i).er; ew = z } in m) b

  pub marks_same : (p : Plan) (i : ℕ) → Keeps ms ls (written_plan o l p i) i → Range SameMarks i (i + count p)
  marks_same Done i h = λ j a b. absurd (omega (arith, a, b))
  marks_same (Skip w p) i h = one SameMarks i (i + (1 + count p)) (kept i h.0)
      (upto SameMarks (i + 1) (i + 1 + count p) (i + (1 + count p)) (omega arith) (marks_same p (i + 1) h.1))
  marks_same (Assign w x e p) i h =
      one SameMarks i (i + (1 + count p)) (kept i h.0) (upto SameMarks (i + 1) (i + 1 + count p) (i + (1 + count p)) (omega arith) (marks_same p (i + 1) h.1))
  marks_same (Put w f n j e p) i h =
      one SameMarks i (i + (1 + count p)) (kept i h.0) (upto SameMarks (i + 1) (i + 1 + count p) (i + (1 + count p)) (omega arith) (marks_same p (i + 1) h.1))
  marks_same (Sleep w e p) i h = one SameMarks i (i + (1 + count p)) (kept i h.0)
      (upto SameMarks (i + 1) (i + 1 + count p) (i + (1 + count p)) (omega arith) (marks_same p (i + 1) h.1))
  marks_same (If w e a b p) i h =
      one SameMarks i (i + (1 + count a + count b + count p)) (kept i h.0)
      (join SameMarks (i + 1) (i + 1 + count a) (i + (1 + count a + count b + count p)) (marks_same a (i + 1) h.1)
      (join SameMarks (i + 1 + count a) (i + 1 + count a + count b) (i + (1 + count a + count b + count p))
      (marks_same b (i + 1 + count a) (second a b p i h.2))
      (upto SameMarks (i + 1 + count a + count b) (i + 1 + count a + count b + count p) (i + (1 + count a + count b + count p)) (omega arith)
      (marks_same p (i + 1 + count a + count b) (third a b p i h.3)))))
  marks_same (While w e c p) i h =
      one SameMarks i (i + (1 + count c + count p)) (kept i h.0)
      (join SameMarks (i + 1) (i + 1 + count c) (i + (1 + count c + count p)) (marks_same c (i + 1) h.1)
      (upto SameMarks (i + 1 + count c) (i + 1 + count c + count p) (i + (1 + count c + count p)) (omega arith)
      (marks_same p (i + 1 + count c) (second c p p i h.2))))
  marks_same (Mitigate w k v e c p) i h =
      one SameMarks i (i + (1 + count c + count p)) (kept i h.0)
      (join SameMarks (i + 1) (i + 1 + count c) (i + (1 + count c + count p)) (marks_same c (i + 1) h.2)
      (upto SameMarks (i + 1 + count c) (i + 1 + count c + count p) (i + (1 + count c + count p)) (omega arith)
      (marks_same p (i + 1 + count c) (second c p p i h.3))))

  pub levels_same : (p : Plan) (i n : ℕ) → AreNumbered n p → Keeps ms ls (written_plan o l p i) i → Range SameLevel n (n + mitigates p)
  levels_same Done i n q h = λ j a b. absurd (omega (arith, a, b))
  levels_same (Skip w p) i n q h = levels_same p (i + 1) n q h.1
  levels_same (Assign w x e p) i n q h = levels_same p (i + 1) n q h.1
  levels_same (Put w f m j e p) i n q h = levels_same p (i + 1) n q h.1
  levels_same (Sleep w e p) i n q h = levels_same p (i + 1) n q h.1
  levels_same (If w e a b p) i n q h =
      join SameLevel n (n + mitigates a) (n + (mitigates a + mitigates b + mitigates p)) (levels_same a (i + 1) n q.0 h.1)
      (join SameLevel (n + mitigates a) (n + mitigates a + mitigates b) (n + (mitigates a + mitigates b + mitigates p))
      (levels_same b (i + 1 + count a) (n + mitigates a) q.1 (second a b p i h.2))
      (upto SameLevel (n + mitigates a + mitigates b) (n + mitigates a + mitigates b + mitigates p)
      (n + (mitigates a + mitigates b + mitigates p)) (omega arith)
      (levels_same p (i + 1 + count a + count b) (n + mitigates a + mitigates b) q.2 (third a b p i h.3))))
  levels_same (While w e c p) i n q h =
      join SameLevel n (n + mitigates c) (n + (mitigates c + mitigates p)) (levels_same c (i + 1) n q.0 h.1)
      (upto SameLevel (n + mitigates c) (n + mitigates c + mitigates p) (n + (mitigates c + mitigates p)) (omega arith)
      (levels_same p (i + 1 + count c) (n + mitigates c) q.1 (second c p p i h.2)))
  levels_same (Mitigate w k v e c p) i n q h =
      one SameLevel n (n + (1 + mitigates c + mitigates p)) (subst SameLevel q.0 h.1)
      (join SameLevel (n + 1) (n + 1 + mitigates c) (n + (1 + mitigates c + mitigates p)) (levels_same c (i + 1) (n + 1) q.1 h.2)
      (upto SameLevel (n + 1 + mitigates c) (n + 1 + mitigates c + mitigates p) (n + (1 + mitigates c + mitigates p)) (omega arith)
      (levels_same p (i + 1 + count c) (n + 1 + mitigates c) q.2 (second c p p i h.3))))

-- and they are kept
module _ (o : Order) (l : Labelling) where
  abbrev Own : Plan → ℕ → Type 0
  Own p i = Keeps (marks_of o l) (level_of o l) p i

  own_second : (a b : Plan) (i : ℕ) → Own (written_plan o l b (i + 1 + count a)) (i + 1 + count a)
      → Own (written_plan o l b (i + 1 + count a)) (i + 1 + count (written_plan o l a (i + 1)))
  own_second a b i h = subst (λ n. Own (written_plan o l b (i + 1 + count a)) (i + 1 + n)) (sym (same_count o l a (i + 1))) h

  own_third : (a b p : Plan) (i : ℕ) → Own (written_plan o l p (i + 1 + count a + count b)) (i + 1 + count a + count b)
      → Own (written_plan o l p (i + 1 + count a + count b)) (i + 1 + count (written_plan o l a (i + 1)) + count (written_plan o l b (i + 1 + count a)))
  own_third a b p i h =
      subst (λ n. Own (written_plan o l p (i + 1 + count a + count b)) (i + 1 + n + count (written_plan o l b (i + 1 + count a))))
      (sym (same_count o l a (i + 1)))
      (subst (λ n. Own (written_plan o l p (i + 1 + count a + count b)) (i + 1 + count a + n)) (sym (same_count o l b (i + 1 + count a))) h)

  pub keeps_own : (p : Plan) (i : ℕ) → Own (written_plan o l p i) i
  keeps_own Done i = tt
  keeps_own (Skip w p) i = ((refl, refl), keeps_own p (i + 1))
  keeps_own (Assign w x e p) i = ((refl, refl), keeps_own p (i + 1))
  keeps_own (Put w f n j e p) i = ((refl, refl), keeps_own p (i + 1))
  keeps_own (Sleep w e p) i = ((refl, refl), keeps_own p (i + 1))
  keeps_own (If w e a b p) i =
      ((refl, refl), keeps_own a (i + 1), own_second a b i (keeps_own b (i + 1 + count a)), own_third a b p i (keeps_own p (i + 1 + count a + count b)))
  keeps_own (While w e c p) i = ((refl, refl), keeps_own c (i + 1), own_second c p i (keeps_own p (i + 1 + count c)))
  keeps_own (Mitigate w k v e c p) i = ((refl, refl), refl, keeps_own c (i + 1), own_second c p i (keeps_own p (i + 1 + count c)))
