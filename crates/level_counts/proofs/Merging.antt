-- The first predictions of one run more, at their places.
use Rattle.std.proofs.Common.{◌≡◌, ◌<◌, ◌≤◌, ℕ, ◌+◌, ◌⊎◌, inl, inr, ⊎_elim, sym, ap, ◌∙◌, subst, List, [], ◌∷◌, ◌++◌, length, arith}
use Rattle.std.specs.Prelude.{Bool, ℤ, take, map, get_or}
use Rattle.std.proofs.lemmas.Bool.{cases_lt}
use Rattle.std.proofs.lemmas.List.{get_or_past, length-map, length-take}
use Rattle.start_file.specs.Starts.{seen}
use Rattle.start_file.specs.declared.start.Start.{Start}
use Rattle.mit_syntax.specs.Program.{plan_of}
use Rattle.timing_types.specs.Labelled.{LabelledProgram, order_of, labels_of, levels_of}
use Rattle.source_meaning.specs.Source.{source_start, source_steps}
use Rattle.leak_bound.specs.Relevant.{relevances}
use Rattle.sharp_bound.specs.Sharp.{relevant_at}
use Rattle.own_firsts.specs.Count.{many_at, first_at}
use Rattle.level_counts.specs.Begun.{IsLeast, FirstBeginsEach, memories_of}
use Rattle.level_counts.specs.Listed.{PredictedAt, PredictedAtIn, IsListed, AreListed}
use Rattle.level_counts.specs.Noted.{lesser}
use Rattle.level_counts.proofs.Steps.{some_prediction}
use Rattle.level_counts.proofs.Leasts.{least_same, least_both}
use Rattle.level_counts.proofs.Taking.{memory_more}

module _ (q : LabelledProgram) (o : ℕ) where
  abbrev At : ℕ → ℕ → List ℤ → ℕ → Type 0
  At l i m = PredictedAt (relevant_at (order_of q) (labels_of q) (levels_of q) o (plan_of q.program) l) (plan_of q.program) m i

  abbrev In : ℕ → ℕ → List (List ℤ) → ℕ → Type 0
  In l i ms = PredictedAtIn (relevant_at (order_of q) (labels_of q) (levels_of q) o (plan_of q.program) l) (plan_of q.program) ms i

  in_some : (l i : ℕ) (ms : List (List ℤ)) (x : ℕ) → In l i ms x → 0 < x
  in_some l i [] x h = absurd h
  in_some l i (m ∷ ms) x (inl b) = some_prediction (source_steps b.0 (source_start (plan_of q.program) m)).todo
      (source_steps b.0 (source_start (plan_of q.program) m)).memory b.1 x b.2
  in_some l i (m ∷ ms) x (inr h) = in_some l i ms x h

  to : (l i : ℕ) (ms ns : List (List ℤ)) (x : ℕ) → In l i ms x ⊎ In l i ns x → In l i (ms ++ ns) x
  to l i [] ns x (inl h) = absurd h
  to l i [] ns x (inr h) = h
  to l i (m ∷ ms) ns x (inl (inl b)) = inl b
  to l i (m ∷ ms) ns x (inl (inr h)) = inr (to l i ms ns x (inl h))
  to l i (m ∷ ms) ns x (inr h) = inr (to l i ms ns x (inr h))

  from : (l i : ℕ) (ms ns : List (List ℤ)) (x : ℕ) → In l i (ms ++ ns) x → In l i ms x ⊎ In l i ns x
  from l i [] ns x h = inr h
  from l i (m ∷ ms) ns x (inl b) = inl (inl b)
  from l i (m ∷ ms) ns x (inr h) = ⊎_elim (λ (a : In l i ms x). inl (inr a)) (λ (a : In l i ns x). inr a) (from l i ms ns x h)

  -- of one run: what is listed at a place is all that is predicted there, and nothing is where none is listed
  one_least : (m : List ℤ) (listed : List (List ℕ)) → IsListed q o m listed → (l i : ℕ) → IsLeast (In l i (m ∷ [])) (first_at listed l i)
  one_least m listed h l i = record { least = least; one = one }
    where
      least : (y : ℕ) → In l i (m ∷ []) y → first_at listed l i ≤ y
      least y (inl b) = let e = (h.only l i y b).1 in omega (arith, e)
      least y (inr b) = absurd b

      never : many_at listed l ≤ i → (y : ℕ) → In l i (m ∷ []) y → ⊥
      never le y (inl b) = let c = (h.only l i y b).0 in omega (arith, c, le)
      never le y (inr b) = b

      one : In l i (m ∷ []) (first_at listed l i) ⊎ ((first_at listed l i ≡ 0) × ((y : ℕ) → In l i (m ∷ []) y → ⊥))
      one =
          ⊎_elim
          (λ (lt : i < many_at listed l). inl (inl (h.each l i lt)))
          (λ (le : many_at listed l ≤ i). inr (get_or_past _ i 0 le, never le))
          (cases_lt i (many_at listed l))

  pub listed_one : (m : List ℤ) (listed : List (List ℕ)) → IsListed q o m listed → AreListed q o (m ∷ []) listed
  listed_one m listed h = record {
    size = h.size;
    begun = h.begun;
    least = λ l i x lt. (one_least m listed h l i).least x;
    one = λ l i lt. inl (h.each l i lt);
  }

  counts_first : (ms ns : List (List ℤ)) (a b : List (List ℕ)) → 0 < length ms → ((l : ℕ) → many_at b l ≡ many_at a l)
      → FirstBeginsEach q o ms (many_at a) → FirstBeginsEach q o (ms ++ ns) (many_at b)
  counts_first [] ns a b some same h = absurd (omega (arith, some))
  counts_first (m ∷ ms) ns a b some same h = (h.0, h.1, λ l. h.2 l ∙ sym (same l))

  pub listed_more : (n : List ℤ) (ms : List (List ℤ)) (old run new : List (List ℕ)) → 0 < length ms → AreListed q o ms old → IsListed q o n run
      → length new ≡ length old → ((l : ℕ) → many_at new l ≡ many_at old l)
      → ((l i : ℕ) → i < many_at old l → first_at new l i ≡ lesser (first_at old l i) (first_at run l i)) → AreListed q o (ms ++ n ∷ []) new
  listed_more n ms old run new some h k size long is = record {
    size = size ∙ h.size;
    begun = counts_first ms (n ∷ []) old new some long h.begun;
    least = λ l i x lt. (both l i lt).least x;
    one = λ l i lt. ⊎_elim (λ (a : In l i (ms ++ n ∷ []) (first_at new l i)). a)
        (λ (a : (first_at new l i ≡ 0) × ((y : ℕ) → In l i (ms ++ n ∷ []) y → ⊥)).
        absurd (a.1 (first_at old l i) (to l i ms (n ∷ []) (first_at old l i) (inl (h.one l i (lower l i lt)))))) (both l i lt).one;
  }
    where
      lower : (l i : ℕ) → i < many_at new l → i < many_at old l
      lower l i lt = let e = long l in omega (arith, lt, e)

      its : (l i : ℕ) → i < many_at old l → IsLeast (In l i ms) (first_at old l i)
      its l i lt = record { least = λ y. h.least l i y lt; one = inl (h.one l i lt) }

      both : (l i : ℕ) → i < many_at new l → IsLeast (In l i (ms ++ n ∷ [])) (first_at new l i)
      both l i lt =
          subst (IsLeast (In l i (ms ++ n ∷ []))) (sym (is l i (lower l i lt)))
          (least_same (λ x. In l i ms x ⊎ In l i (n ∷ []) x) (In l i (ms ++ n ∷ [])) (lesser (first_at old l i) (first_at run l i))
          (to l i ms (n ∷ [])) (from l i ms (n ∷ []))
          (least_both (In l i ms) (In l i (n ∷ [])) (in_some l i ms) (in_some l i (n ∷ [])) (first_at old l i) (first_at run l i)
          (its l i (lower l i lt)) (one_least n run k l i)))

-- ---- the memories of starts

module _ (q : LabelledProgram) (o : ℕ) (starts : List Start) where
  pub listed_start : (x : Start) (n : List ℤ) (run : List (List ℕ)) → 0 < length starts → x ≡ get_or starts 0 x → n ≡ x.memory.items → IsListed q o n run
      → AreListed q o (take 1 (memories_of (map seen starts))) run
  listed_start x n run lt is e h =
      subst (λ z. AreListed q o z run) (sym (memory_more starts 0 x lt is ∙ ap (λ z. z ∷ []) (sym e))) (listed_one q o n run h)

  pub listed_next : (i : ℕ) (x : Start) (n : List ℤ) (old run new : List (List ℕ)) → 0 < i → i < length starts → x ≡ get_or starts i x
      → n ≡ x.memory.items → AreListed q o (take i (memories_of (map seen starts))) old → IsListed q o n run → length new ≡ length old
      → ((l : ℕ) → many_at new l ≡ many_at old l) → ((l k : ℕ) → k < many_at old l → first_at new l k ≡ lesser (first_at old l k) (first_at run l k))
      → AreListed q o (take (i + 1) (memories_of (map seen starts))) new
  listed_next i x n old run new some lt is e h k size long first =
      let ms = memories_of (map seen starts) in
      let many : 0 < length (take i ms) = omega (arith, some, lt, length-take i ms, length-map (map seen starts) (λ s. s.memory), length-map starts seen) in
      subst (λ z. AreListed q o z new) (sym (memory_more starts i x lt is ∙ ap (λ z. take i ms ++ z ∷ []) (sym e)))
      (listed_more q o n (take i ms) old run new many h k size long first)

-- what is listed by marks that tell which mitigates are relevant
abbrev pub ListedByMarks : List Bool → List ℤ → List (List ℕ) → LabelledProgram → Type 0
ListedByMarks marks m listed q = (o : ℕ) → marks ≡ relevances (order_of q) (labels_of q) (levels_of q) o (order_of q).bottom (plan_of q.program)
    → IsListed q o m listed

pub listed_same : (r q : LabelledProgram) (marks found : List Bool) (m : List ℤ) (listed : List (List ℕ)) → r ≡ q → ListedByMarks marks m listed r
    → marks ≡ found → (o : ℕ) → found ≡ relevances (order_of q) (labels_of q) (levels_of q) o (order_of q).bottom (plan_of q.program) → IsListed q o m listed
listed_same r q marks found m listed e h same o is = subst (ListedByMarks marks m listed) e h o (same ∙ is)
