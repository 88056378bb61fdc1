-- The first predictions of one run more.
use Rattle.std.proofs.Common.{◌≡◌, ◌<◌, ◌≤◌, ℕ, ◌+◌, ◌⊎◌, inl, inr, ⊎_elim, refl, sym, ap, ◌∙◌, subst, List, [], ◌∷◌, ◌++◌, length, arith}
use Rattle.leak_bound.specs.Relevant.{relevances}
use Rattle.std.specs.Prelude.{Bool, ℤ, slice_set}
use Rattle.std.proofs.lemmas.Bool.{cases_lt, cases_eq}
use Rattle.std.proofs.lemmas.List.{length-set, get_or-set_same, get_or-set_other}
use Rattle.std.proofs.lemmas.List.{get_or_past, length-map, length-take, get_or-map, take_more}
use Rattle.std.specs.Prelude.{take, map, get_or}
use Rattle.start_file.specs.Starts.{StartValue, seen}
use Rattle.start_file.specs.declared.start.Start.{Start}
use Rattle.mit_syntax.specs.Program.{plan_of}
use Rattle.timing_types.specs.Labelled.{LabelledProgram, order_of, labels_of, levels_of}
use Rattle.sharp_count.specs.declared.count.LevelRuns.{LevelRuns}
use Rattle.sharp_count.specs.Levels.{told_of, counts_of}
use Rattle.sharp_bound.specs.Sharp.{relevant_at}
use Rattle.level_counts.specs.Begun.{PredictedIn, IsLeast, FirstBeginsEach, AreTold, memories_of}
use Rattle.level_counts.specs.Noted.{lesser, with_first}
use Rattle.level_counts.proofs.Steps.{some_prediction}
use Rattle.level_counts.proofs.Leasts.{least_same, least_both}
use Rattle.source_meaning.specs.Source.{source_start, source_steps}

abbrev none : LevelRuns
none = record { mitigations = 0; first = 0 }

-- of the first i levels
pub record Taken (old run : List LevelRuns) (i : ℕ) (new : List LevelRuns) : Type 0 where
  pub size : length new ≡ length old
  pub before : (k : ℕ) → k < i → told_of new k ≡ with_first (told_of old k) (told_of run k)
  pub after : (k : ℕ) → i ≤ k → told_of new k ≡ told_of old k

pub taken_none : (old run : List LevelRuns) → Taken old run 0 old
taken_none old run = record { size = refl; before = λ k h. absurd (omega (arith, h)); after = λ k h. refl }

pub taken_more : (old run new : List LevelRuns) (i : ℕ) (t : LevelRuns) → Taken old run i new → i < length old → t ≡ with_first (told_of new i) (told_of run i)
    → Taken old run (i + 1) (slice_set new i t)
taken_more old run new i t h l e = record {
  size = length-set new i t ∙ h.size;
  before = λ k lt. ⊎_elim (same k) (other k lt) (cases_eq k i);
  after = λ k le. get_or-set_other new i k t none (λ q. absurd (omega (arith, q, le))) ∙ h.after k (omega (arith, le));
}
  where
    same : (k : ℕ) → k ≡ i → told_of (slice_set new i t) k ≡ with_first (told_of old k) (told_of run k)
    same k q =
        let sz = h.size in
        ap (told_of (slice_set new i t)) q ∙ get_or-set_same new i t none (omega (arith, l, sz)) ∙ e
        ∙ ap (λ z. with_first z (told_of run i)) (h.after i (omega arith)) ∙ ap (λ z. with_first (told_of old z) (told_of run z)) (sym q)

    other : (k : ℕ) → k < i + 1 → (k ≡ i → ⊥) → told_of (slice_set new i t) k ≡ with_first (told_of old k) (told_of run k)
    other k lt q = get_or-set_other new i k t none q ∙ h.before k (⊎_elim (λ (a : k < i). a) (λ (b : i ≤ k). absurd (q (omega (arith, b, lt)))) (cases_lt k i))

past : (xs : List LevelRuns) (k : ℕ) → length xs ≤ k → told_of xs k ≡ none
past xs k h = get_or_past xs k none h

pub taken_all : (old run new : List LevelRuns) (i : ℕ) → Taken old run i new → length old ≡ length run → length run ≤ i → (k : ℕ)
    → told_of new k ≡ with_first (told_of old k) (told_of run k)
taken_all old run new i h same all k =
    ⊎_elim
    (λ (lt : k < i). h.before k lt)
    (λ (le : i ≤ k). h.after k le ∙ (past old k (omega (arith, le, same, all))
    ∙ sym (ap (λ z. with_first z (told_of run k)) (past old k (omega (arith, le, same, all)))
    ∙ ap (with_first none) (past run k (omega (arith, le, all))))))
    (cases_lt k i)

-- ---- what is told of one run more

module _ (q : LabelledProgram) (o : ℕ) where
  abbrev In : ℕ → List (List ℤ) → ℕ → Type 0
  In l = PredictedIn (relevant_at (order_of q) (labels_of q) (levels_of q) o (plan_of q.program) l) (plan_of q.program)

  in_some : (l : ℕ) (ms : List (List ℤ)) (x : ℕ) → In l ms x → 0 < x
  in_some l [] x h = absurd h
  in_some l (m ∷ ms) x (inl b) = some_prediction (source_steps b.0 (source_start (plan_of q.program) m)).todo
      (source_steps b.0 (source_start (plan_of q.program) m)).memory b.1 x b.2
  in_some l (m ∷ ms) x (inr h) = in_some l ms x h

  to : (l : ℕ) (ms ns : List (List ℤ)) (x : ℕ) → In l ms x ⊎ In l ns x → In l (ms ++ ns) x
  to l [] ns x (inl h) = absurd h
  to l [] ns x (inr h) = h
  to l (m ∷ ms) ns x (inl (inl b)) = inl b
  to l (m ∷ ms) ns x (inl (inr h)) = inr (to l ms ns x (inl h))
  to l (m ∷ ms) ns x (inr h) = inr (to l ms ns x (inr h))

  from : (l : ℕ) (ms ns : List (List ℤ)) (x : ℕ) → In l (ms ++ ns) x → In l ms x ⊎ In l ns x
  from l [] ns x h = inr h
  from l (m ∷ ms) ns x (inl b) = inl (inl b)
  from l (m ∷ ms) ns x (inr h) = ⊎_elim (λ (a : In l ms x). inl (inr a)) (λ (a : In l ns x). inr a) (from l ms ns x h)

  counts_first : (ms ns : List (List ℤ)) (a b : List LevelRuns) → 0 < length ms → ((l : ℕ) → (told_of b l).mitigations ≡ (told_of a l).mitigations)
      → FirstBeginsEach q o ms (counts_of a) → FirstBeginsEach q o (ms ++ ns) (counts_of b)
  counts_first [] ns a b some same h = absurd (omega (arith, some))
  counts_first (m ∷ ms) ns a b some same h = (h.0, h.1, λ l. h.2 l ∙ sym (same l))

  pub told_more : (n : List ℤ) (ms : List (List ℤ)) (old run new : List LevelRuns) → 0 < length ms → AreTold q o ms old → AreTold q o (n ∷ []) run
      → length new ≡ length old → ((l : ℕ) → told_of new l ≡ with_first (told_of old l) (told_of run l)) →
      AreTold q o (ms ++ n ∷ []) new
  told_more n ms old run new some h k size is = record {
    size = size ∙ h.size;
    begun = counts_first ms (n ∷ []) old new some (λ l. ap (λ z. z.mitigations) (is l)) h.begun;
    first = λ l.
        subst (IsLeast (In l (ms ++ n ∷ []))) (sym (ap (λ z. z.first) (is l)))
        (least_same (λ x. In l ms x ⊎ In l (n ∷ []) x) (In l (ms ++ n ∷ [])) (lesser (told_of old l).first (told_of run l).first)
        (to l ms (n ∷ [])) (from l ms (n ∷ []))
        (least_both (In l ms) (In l (n ∷ [])) (in_some l ms) (in_some l (n ∷ [])) (told_of old l).first (told_of run l).first (h.first l) (k.first l)));
  }

-- ---- the memories of starts

pub memory_more : (starts : List Start) (i : ℕ) (x : Start) → i < length starts → x ≡ get_or starts i x
    → take (i + 1) (memories_of (map seen starts)) ≡ take i (memories_of (map seen starts)) ++ x.memory.items ∷ []
memory_more starts i x lt is =
    take_more_at (memories_of (map seen starts)) i x.memory.items (omega (arith, lt, length-map (map seen starts) (λ s. s.memory), length-map starts seen))
    (get_or-map (λ (s : StartValue). s.memory) (map seen starts) i (seen x) x.memory.items (omega (arith, lt, length-map starts seen))
    ∙ ap (λ (s : StartValue). s.memory) (get_or-map seen starts i x (seen x) lt) ∙ sym (ap (λ (s : Start). s.memory.items) is))
  where
    take_more_at : (xs : List (List ℤ)) (j : ℕ) (y : List ℤ) → j < length xs → get_or xs j y ≡ y → take (j + 1) xs ≡ take j xs ++ y ∷ []
    take_more_at xs j y l e = take_more xs j y l ∙ ap (λ z. take j xs ++ z ∷ []) e

module _ (q : LabelledProgram) (o : ℕ) (starts : List Start) where
  pub told_one : (x : Start) (n : List ℤ) (run : List LevelRuns) → 0 < length starts → x ≡ get_or starts 0 x → n ≡ x.memory.items → AreTold q o (n ∷ []) run
      → AreTold q o (take 1 (memories_of (map seen starts))) run
  told_one x n run lt is e h = subst (λ z. AreTold q o z run) (sym (memory_more starts 0 x lt is ∙ ap (λ z. z ∷ []) (sym e))) h

  pub told_next : (i : ℕ) (x : Start) (n : List ℤ) (old run new : List LevelRuns) → 0 < i → i < length starts → x ≡ get_or starts i x → n ≡ x.memory.items
      → AreTold q o (take i (memories_of (map seen starts))) old → AreTold q o (n ∷ []) run →
      length new ≡ length old → ((l : ℕ) → told_of new l ≡ with_first (told_of old l) (told_of run l))
      → AreTold q o (take (i + 1) (memories_of (map seen starts))) new
  told_next i x n old run new some lt is e h k size told =
      let ms = memories_of (map seen starts) in
      let long : 0 < length (take i ms) = omega (arith, some, lt, length-take i ms, length-map (map seen starts) (λ s. s.memory), length-map starts seen) in
      subst (λ z. AreTold q o z new) (sym (memory_more starts i x lt is ∙ ap (λ z. take i ms ++ z ∷ []) (sym e)))
      (told_more q o n (take i ms) old run new long h k size told)

-- what is told by marks that tell which mitigates are relevant
abbrev pub ByMarks : List Bool → List (List ℤ) → List LevelRuns → LabelledProgram → Type 0
ByMarks marks ms levels q = (o : ℕ) → marks ≡ relevances (order_of q) (labels_of q) (levels_of q) o (order_of q).bottom (plan_of q.program)
    → AreTold q o ms levels

pub told_same : (r q : LabelledProgram) (marks found : List Bool) (ms : List (List ℤ)) (levels : List LevelRuns) → r ≡ q → ByMarks marks ms levels r
    → marks ≡ found → (o : ℕ) → found ≡ relevances (order_of q) (labels_of q) (levels_of q) o (order_of q).bottom (plan_of q.program) → AreTold q o ms levels
told_same r q marks found ms levels e h same o is = subst (ByMarks marks ms levels) e h o (same ∙ is)
