-- The sharp count of what is told of the levels bounds what the runs show.
use Rattle.std.proofs.Common.{◌≡◌, ◌<◌, ◌≤◌, ℕ, zero, suc, ◌+◌, ◌*◌, ◌^◌, List, [], ◌∷◌, length, map, refl, sym, ap, ◌∙◌, subst, Some}
use Rattle.std.proofs.Common.{inl, inr, ◌⊎◌, ⊎_elim, arith, le_trans}
use Rattle.std.proofs.Math.Nat.{pow-suc, pow-zero}
use Rattle.std.specs.Prelude.{Bool, true, ℤ, eqb}
use Rattle.std.specs.List.{count_by}
use Rattle.std.proofs.lemmas.Bool.{eq-eqb, and_from, cases_lt}
use Rattle.std.proofs.lemmas.List.{get_or_past}
use Rattle.label_lattice.specs.Order.{Order, lattice_of, count_not_below}
use Rattle.mit_syntax.specs.Todo.{Todo, Done, Skip, Assign, Put, Sleep, If, While, Mitigate, commands_of}
use Rattle.mit_syntax.specs.Plan.{Plan}
use Rattle.mit_syntax.specs.Program.{Syntax, plan_of}
use Rattle.mit_syntax.specs.Values.{value_of}
use Rattle.mit_parser.specs.Words.{Told}
use Rattle.mit_parser.specs.Spells.{IsProgram}
use Rattle.doubling_schedule.specs.Doubling.{prediction}
use Rattle.timing_types.specs.Labelled.{LabelledProgram, order_of, labels_of, levels_of}
use Rattle.source_meaning.specs.Source.{source_start, source_steps, started_in, notes_of}
use Rattle.source_meaning.proofs.Told.{ended_same}
use Rattle.source_meaning.proofs.Unlabelled.{notes_unlabelled}
use Rattle.env_contract.specs.Env.{Env}
use Rattle.env_contract.specs.declared.place.Touch.{Touch}
use Rattle.label_code.specs.Run.{Start}
use Rattle.code_lower.specs.Lowered.{lowered}
use Rattle.leak_bound.specs.Digits.{digits}
use Rattle.leak_bound.specs.Relevant.{is_relevant}
use Rattle.leak_bound.specs.Records.{Each, Pairwise, Tests}
use Rattle.leak_bound.specs.Sound.{bound, FirstBegins, Halts}
use Rattle.leak_bound.specs.Source.{IsTypedWith}
use Rattle.sharp_count.specs.declared.count.LevelRuns.{LevelRuns}
use Rattle.leak_bound.specs.Rising.{rising, sharp}
use Rattle.sharp_count.specs.Count.{fitting}
use Rattle.sharp_count.specs.Levels.{counts_of, firsts_of}
use Rattle.sharp_count.specs.Shared.{shared_by, shared, shared_of}
use Rattle.sharp_count.proofs.Fitting.{told}
use Rattle.sharp_count.proofs.Lone.{shared_is_enough}
use Rattle.sharp_count.proofs.Ways.{ways, are_ways}
use Rattle.sharp_bound.specs.Firsts.{PredictsNext, PredictsBy}
use Rattle.sharp_bound.specs.Sharp.{SharpSound, FewHalted, BeginsEach, relevant_at, ends_by}
use Rattle.sharp_bound.specs.Guess.{FewShown}
use Rattle.sharp_bound.specs.End.{seen_to_end}
use Rattle.sharp_bound.specs.Shared.{FewShared}
use Rattle.sharp_bound.proofs.Guess.{few_shown}
use Rattle.own_firsts.specs.Count.{many_at, first_at, own_by, own, own_of}
use Rattle.own_firsts.specs.Own.{FewOwn}
use Rattle.own_firsts.specs.Predicted.{begun_of, PredictsOwnBy}
use Rattle.own_firsts.proofs.Counted.{own_is_enough}
use Rattle.own_firsts.proofs.Listed.{own_ways, are_own_ways}
use Rattle.sharp_history.specs.Over.{LoweredSharpOver, LoweredSharpEndOver, LoweredSharedOver, LoweredOwnOver}
use Rattle.start_file.specs.Starts.{StartValue}
use Rattle.leak_audit.specs.Agreement.{AgreeFor, start_of, starts_of}
use Rattle.leak_audit.specs.Sequences.{same_sequence}
use Rattle.leak_audit.specs.Surveyed.{sequence_from}
use Rattle.leak_audit.proofs.Classing.{tests_sequences}
use Rattle.leak_audit.proofs.Measuring.{power_is}
use Rattle.history_bound.specs.Over.{AnyHistory, history_made}
use Rattle.leak_audit.specs.declared.report.AuditReport.{AuditReport}
use Rattle.leak_audit.specs.Report.{IsReport}
use Rattle.level_counts.specs.Begun.{begins_next, PredictedIn, FirstBeginsEach, AreTold, memories_of}
use Rattle.level_counts.specs.Listed.{PredictedAtIn, AreListed}
use Rattle.tool_stages.specs.declared.envs.Environment.{Environment}
use Rattle.tool_stages.specs.Stages.{Types}
use Rattle.tool_stages.specs.Envs.{IsPartitioned, environment}
use Rattle.tool_stages.proofs.SoundLemmas.{typed_made}
use Rattle.lab_bound.specs.Text.{sharp_of, AreApart}
use Rattle.lab_bound.specs.Enough.{AllAreEnough}
use Rattle.lab_bound.proofs.Bare.{bare_after}

-- what no first prediction of a level is below is a first prediction for it
predicts_next : {M L : Type 0} (rel : ℕ → Bool) (ls firsts : ℕ → ℕ) (p : Todo M L) (m : List ℤ)
    → ((k x : ℕ) → begins_next p m ≡ Some (k, x) → rel k ≡ true → firsts (ls k) ≤ x) → PredictsNext rel ls firsts p m
predicts_next rel ls firsts Done m h = tt
predicts_next rel ls firsts (Skip w r) m h = tt
predicts_next rel ls firsts (Assign w x e r) m h = tt
predicts_next rel ls firsts (Put w f n i e r) m h = tt
predicts_next rel ls firsts (Sleep w e r) m h = tt
predicts_next rel ls firsts (If w e a b r) m h = tt
predicts_next rel ls firsts (While w e c r) m h = tt
predicts_next rel ls firsts (Mitigate w k l e c r) m h = h k (prediction (value_of e m) 0) refl

same_product : (values c d : ℕ → ℕ) (n : ℕ) → ((l : ℕ) → c l ≡ d l) → sharp values n c ≡ sharp values n d
same_product values c d zero h = refl
same_product values c d (suc l) h = ap (λ z. rising (values l) z * sharp values l c) (h l) ∙ ap (λ z. rising (values l) (d l) * z) (same_product values c d l h)

same_shares : (t : ℕ) (firsts c d : ℕ → ℕ) (n : ℕ) → ((l : ℕ) → c l ≡ d l) → shared t firsts n c ≡ shared t firsts n d
same_shares t firsts c d zero h = refl
same_shares t firsts c d (suc l) h =
    ap (λ z. shared_by t (firsts l) z * shared t firsts l c) (h l) ∙ ap (λ z. shared_by t (firsts l) (d l) * z) (same_shares t firsts c d l h)

-- where nothing begins, there is one list
one_list : (values c : ℕ → ℕ) (n : ℕ) → ((l : ℕ) → c l ≡ 0) → sharp values n c ≡ 1
one_list values c zero h = refl
one_list values c (suc l) h = ap (λ z. rising (values l) z * sharp values l c) (h l) ∙ ap (λ z. rising (values l) 0 * z) (one_list values c l h)

one_power : (e : ℕ) → 1 ^ e ≡ 1
one_power zero = pow-zero 1
one_power (suc e) = pow-suc 1 e ∙ ap (λ z. z * 1) (one_power e)

module _ (q : LabelledProgram) (o : ℕ) where
  abbrev Each' : List ℤ → (ℕ → ℕ) → Type 0
  Each' m counts = BeginsEach (order_of q) (labels_of q) (levels_of q) o (plan_of q.program) m counts

  -- a run begins one number of mitigates of each level
  pub begins_each_one : (m : List ℤ) (c d : ℕ → ℕ) → Each' m c → Each' m d → (l : ℕ) → c l ≡ d l
  begins_each_one m c d a b l =
      sym (a.2 l) ∙ ap (λ z. count_by (relevant_at (order_of q) (labels_of q) (levels_of q) o (plan_of q.program) l) (started_in z))
      (ended_same (plan_of q.program) m a.0 b.0 a.1 b.1) ∙ b.2 l

  begins_each_with : (m : List ℤ) (c d : ℕ → ℕ) → ((l : ℕ) → c l ≡ d l) → Each' m c → Each' m d
  begins_each_with m c d same a = (a.0, a.1, λ l. a.2 l ∙ same l)

-- the first run of some memories begins one number of mitigates of each level
pub same_counts : (q : LabelledProgram) (o : ℕ) (ms : List (List ℤ)) (c d : ℕ → ℕ) → FirstBeginsEach q o ms c → FirstBeginsEach q o ms d → (l : ℕ) → c l ≡ d l
same_counts q o [] c d h k l = h l ∙ sym (k l)
same_counts q o (m ∷ ms) c d h k l = begins_each_one q o m c d h k l

same_own : (t : ℕ) (firsts : ℕ → ℕ → ℕ) (c d : ℕ → ℕ) (n : ℕ) → ((l : ℕ) → c l ≡ d l) → own t firsts n c ≡ own t firsts n d
same_own t firsts c d zero h = refl
same_own t firsts c d (suc l) h =
    ap (λ z. own_by t (firsts l) z * own t firsts l c) (h l) ∙ ap (λ z. own_by t (firsts l) (d l) * z) (same_own t firsts c d l h)

-- a place that is not listed asks for nothing
listed_below : (firsts : List (List ℕ)) (l i x : ℕ) → (i < many_at firsts l → first_at firsts l i ≤ x) → first_at firsts l i ≤ x
listed_below firsts l i x h =
    ⊎_elim
    (λ (lt : i < many_at firsts l). h lt)
    (λ (le : many_at firsts l ≤ i). let none : first_at firsts l i ≡ 0 = get_or_past _ i 0 le in omega (arith, none))
    (cases_lt i (many_at firsts l))

module _ {E : Type 0} (v : Env E) (serves : Order → E → Type 0) (made : Order → List Touch → E) (q : LabelledProgram) (o t : ℕ) where
  abbrev Rel : ℕ → Bool
  Rel = is_relevant (order_of q) (labels_of q) (levels_of q) o (plan_of q.program)

  predicts_each : (ss : List StartValue) (levels : List LevelRuns)
      → ((l x : ℕ) → PredictedIn (relevant_at (order_of q) (labels_of q) (levels_of q) o (plan_of q.program) l) (plan_of q.program) (memories_of ss) x
      → firsts_of levels l ≤ x) →
      Each (λ s. PredictsBy v (order_of q) (labels_of q) (levels_of q) (lowered q).instrs (plan_of q.program) o t (firsts_of levels) s)
      (starts_of made q.program.order ss)
  predicts_each [] levels h = tt
  predicts_each (s ∷ ss) levels h = (
    λ n lt. predicts_next Rel (levels_of q) (firsts_of levels) (source_steps n (source_start (commands_of (plan_of q.program)) s.memory)).todo
        (source_steps n (source_start (commands_of (plan_of q.program)) s.memory)).memory
        (λ k x is in'. h (levels_of q k) x (inl (
          n,
          k,
          sym (bare_after (plan_of q.program) s.memory n) ∙ is,
          and_from (Rel k) (eqb (levels_of q k) (levels_of q k)) in' (eq-eqb (levels_of q k) (levels_of q k) refl),
        ))),
    predicts_each ss levels (λ l x k. h l x (inr k)),
  )

  -- the same by own first predictions
  predicts_own : (ss : List StartValue) (firsts : List (List ℕ))
      → ((l i x : ℕ) → i < many_at firsts l → PredictedAtIn (relevant_at (order_of q) (labels_of q) (levels_of q) o (plan_of q.program) l) (plan_of q.program)
      (memories_of ss) i x → first_at firsts l i ≤ x) →
      Each (λ s. PredictsOwnBy v (order_of q) (labels_of q) (levels_of q) (lowered q).instrs (plan_of q.program) o t (first_at firsts) s)
      (starts_of made q.program.order ss)
  predicts_own [] firsts h = tt
  predicts_own (s ∷ ss) firsts h = (here, predicts_own ss firsts (λ l i x lt k. h l i x lt (inr k)))
    where
      p : Plan
      p = plan_of q.program

      here : PredictsOwnBy v (order_of q) (labels_of q) (levels_of q) (lowered q).instrs p o t (first_at firsts) (start_of made q.program.order s)
      here n lt =
          let notes = notes_of (commands_of p) s.memory n in
          predicts_next Rel (levels_of q) (λ l. first_at firsts l (begun_of Rel (levels_of q) notes l))
          (source_steps n (source_start (commands_of p) s.memory)).todo (source_steps n (source_start (commands_of p) s.memory)).memory
          (λ k x is in'.
          let l = levels_of q k in
          let i = begun_of Rel (levels_of q) notes l in
          listed_below firsts l i x (λ less. h l i x less (inl (
            n,
            k,
            sym (bare_after p s.memory n) ∙ is,
            and_from (Rel k) (eqb l l) in' (eq-eqb l l refl),
            ap (λ z. begun_of Rel (levels_of q) z l) (sym (notes_unlabelled (λ _. tt) (λ _. tt) p s.memory n)),
          ))))

  each_memory : (P : List ℤ → Type 0) (ss : List StartValue) → Each (λ (s : Start E). P s.memory) (starts_of made q.program.order ss) → Each P (memories_of ss)
  each_memory P [] h = tt
  each_memory P (s ∷ ss) h = (h.0, each_memory P ss h.1)

  counts_same : (ss : List StartValue) (known counts : ℕ → ℕ)
      → Each (λ m. BeginsEach (order_of q) (labels_of q) (levels_of q) o (plan_of q.program) m counts) (memories_of ss)
      → FirstBeginsEach q o (memories_of ss) known →
      (ss ≡ []) ⊎ ((l : ℕ) → counts l ≡ known l)
  counts_same [] known counts h k = inl refl
  counts_same (s ∷ ss) known counts h k = inr (begins_each_one q o s.memory counts known h.0 k)

  -- starts of which the theorem speaks, with what is told of their levels
  pub record Study (ss : List StartValue) (levels : List LevelRuns) : Type 0 where
    pub agree : Pairwise (AgreeFor v serves q o) (starts_of made q.program.order ss)
    pub halted : Each (Halts v (lowered q).instrs t) (starts_of made q.program.order ss)
    pub size : length levels ≡ q.program.order.size
    pub begun : FirstBeginsEach q o (memories_of ss) (counts_of levels)
    pub least : (l x : ℕ) → PredictedIn (relevant_at (order_of q) (labels_of q) (levels_of q) o (plan_of q.program) l) (plan_of q.program) (memories_of ss) x
        → firsts_of levels l ≤ x

  -- so it is of starts of which there is a report
  pub reported : (ss : List StartValue) (r : AuditReport) (levels : List LevelRuns) → IsReport v serves q o t (starts_of made q.program.order ss) r
      → AreTold q o (memories_of ss) levels → Study ss levels
  reported ss r levels is h =
      record { agree = is.agree; halted = is.halted; size = h.size; begun = h.begun; least = λ l x k. (h.first l).least x k }

  -- a view that shows few of the runs that halt
  pub few_told : {V : Type 0} (view : Start E → V)
      → FewHalted v q.program.order (serves q.program.order) (labels_of q) (levels_of q) (lowered q).instrs (plan_of q.program) o t view →
      (ss : List StartValue) (levels : List LevelRuns) → Study ss levels → (same : V → V → Bool) → Tests same →
      FewShown view same (starts_of made q.program.order ss) (sharp_of t levels)
  few_told {V} view few ss levels h same tests =
      let firsts = firsts_of levels in
      let some = few (starts_of made q.program.order ss) h.agree h.halted firsts (predicts_each ss levels h.least) same tests in
      let counts = some.0 in
      let size : q.program.order.size ≡ length levels = sym h.size in
      go ss levels counts
      (subst (λ n. FewShown view same (starts_of made q.program.order ss) (sharp (ends_by t firsts) n counts)) size some.2)
      (counts_same ss (counts_of levels) counts
      (each_memory (λ m. BeginsEach (order_of q) (labels_of q) (levels_of q) o (plan_of q.program) m counts) ss some.1) h.begun)
    where
      go : (ss : List StartValue) (levels : List LevelRuns) (counts : ℕ → ℕ)
          → FewShown view same (starts_of made q.program.order ss) (sharp (ends_by t (firsts_of levels)) (length levels) counts)
          → (ss ≡ []) ⊎ ((l : ℕ) → counts l ≡ counts_of levels l) → FewShown view same (starts_of made q.program.order ss) (sharp_of t levels)
      go ss levels counts some (inl none) =
          subst (λ (z : List StartValue). FewShown view same (starts_of made q.program.order z) (sharp_of t levels)) (sym none)
          (record { count = omega arith; best_few = λ w. omega arith; guess = λ w g. omega arith })
      go ss levels counts some (inr alike) =
          subst (FewShown view same (starts_of made q.program.order ss))
          (same_product (ends_by t (firsts_of levels)) counts (counts_of levels) (length levels) alike) some

  -- the same by shared time, where relevant mitigates stand apart
  pub shared_told : {V : Type 0} (view : Start E → V)
      → FewShared v q.program.order (serves q.program.order) (labels_of q) (levels_of q) (lowered q).instrs (plan_of q.program) o t view → AreApart q o →
      (ss : List StartValue) (levels : List LevelRuns) → Study ss levels → (same : V → V → Bool) → Tests same →
      FewShown view same (starts_of made q.program.order ss) (shared_of t levels)
  shared_told {V} view few apart ss levels h same tests =
      let firsts = firsts_of levels in
      let some = few apart (starts_of made q.program.order ss) h.agree h.halted firsts (predicts_each ss levels h.least) same tests in
      let counts = some.0 in
      let size : q.program.order.size ≡ length levels = sym h.size in
      let are = are_ways t firsts q.program.order.size counts in
      let way = some.2 (ways t firsts q.program.order.size counts) are in
      let enough = (shared_is_enough t firsts q.program.order.size counts (ways t firsts q.program.order.size counts) are).0 in
      go ss levels counts
      (subst (λ n. FewShown view same (starts_of made q.program.order ss) (shared t firsts n counts)) size
      (few_shown view same tests (starts_of made q.program.order ss) (shared t firsts q.program.order.size counts) (le_trans way.count enough)))
      (counts_same ss (counts_of levels) counts
      (each_memory (λ m. BeginsEach (order_of q) (labels_of q) (levels_of q) o (plan_of q.program) m counts) ss some.1) h.begun)
    where
      go : (ss : List StartValue) (levels : List LevelRuns) (counts : ℕ → ℕ)
          → FewShown view same (starts_of made q.program.order ss) (shared t (firsts_of levels) (length levels) counts)
          → (ss ≡ []) ⊎ ((l : ℕ) → counts l ≡ counts_of levels l) → FewShown view same (starts_of made q.program.order ss) (shared_of t levels)
      go ss levels counts some (inl none) =
          subst (λ (z : List StartValue). FewShown view same (starts_of made q.program.order z) (shared_of t levels)) (sym none)
          (record { count = omega arith; best_few = λ w. omega arith; guess = λ w g. omega arith })
      go ss levels counts some (inr alike) =
          subst (FewShown view same (starts_of made q.program.order ss)) (same_shares t (firsts_of levels) counts (counts_of levels) (length levels) alike) some

  -- starts of which the theorem by own first predictions speaks, with what is listed
  pub record OwnStudy (ss : List StartValue) (firsts : List (List ℕ)) : Type 0 where
    pub agree : Pairwise (AgreeFor v serves q o) (starts_of made q.program.order ss)
    pub halted : Each (Halts v (lowered q).instrs t) (starts_of made q.program.order ss)
    pub size : length firsts ≡ q.program.order.size
    pub begun : FirstBeginsEach q o (memories_of ss) (many_at firsts)
    pub least : (l i x : ℕ) → i < many_at firsts l
        → PredictedAtIn (relevant_at (order_of q) (labels_of q) (levels_of q) o (plan_of q.program) l) (plan_of q.program) (memories_of ss) i x
        → first_at firsts l i ≤ x

  pub listed : (ss : List StartValue) (r : AuditReport) (firsts : List (List ℕ)) → IsReport v serves q o t (starts_of made q.program.order ss) r
      → AreListed q o (memories_of ss) firsts → OwnStudy ss firsts
  listed ss r firsts is h = record { agree = is.agree; halted = is.halted; size = h.size; begun = h.begun; least = h.least }

  -- a view that shows few by own first predictions, where relevant mitigates stand apart
  pub own_told : {V : Type 0} (view : Start E → V)
      → FewOwn v q.program.order (serves q.program.order) (labels_of q) (levels_of q) (lowered q).instrs (plan_of q.program) o t view → AreApart q o →
      (ss : List StartValue) (firsts : List (List ℕ)) → OwnStudy ss firsts → (same : V → V → Bool) → Tests same →
      FewShown view same (starts_of made q.program.order ss) (own_of t firsts)
  own_told {V} view few apart ss firsts h same tests =
      let some = few apart (starts_of made q.program.order ss) h.agree h.halted (first_at firsts) (predicts_own ss firsts h.least) same tests in
      let counts = some.0 in
      let size : q.program.order.size ≡ length firsts = sym h.size in
      let ways = own_ways t (first_at firsts) q.program.order.size counts in
      let are = are_own_ways t (first_at firsts) q.program.order.size counts in
      let way = some.2 ways are in
      let enough = (own_is_enough t (first_at firsts) q.program.order.size counts).0 ways are in
      go ss firsts counts
      (subst (λ n. FewShown view same (starts_of made q.program.order ss) (own t (first_at firsts) n counts)) size
      (few_shown view same tests (starts_of made q.program.order ss) (own t (first_at firsts) q.program.order.size counts) (le_trans way.count enough)))
      (counts_same ss (many_at firsts) counts (each_memory (λ m. BeginsEach (order_of q) (labels_of q) (levels_of q) o (plan_of q.program) m counts) ss some.1)
      h.begun)
    where
      go : (ss : List StartValue) (firsts : List (List ℕ)) (counts : ℕ → ℕ)
          → FewShown view same (starts_of made q.program.order ss) (own t (first_at firsts) (length firsts) counts)
          → (ss ≡ []) ⊎ ((l : ℕ) → counts l ≡ many_at firsts l) → FewShown view same (starts_of made q.program.order ss) (own_of t firsts)
      go ss firsts counts some (inl none) =
          subst (λ (z : List StartValue). FewShown view same (starts_of made q.program.order z) (own_of t firsts)) (sym none)
          (record { count = omega arith; best_few = λ w. omega arith; guess = λ w g. omega arith })
      go ss firsts counts some (inr alike) =
          subst (FewShown view same (starts_of made q.program.order ss)) (same_own t (first_at firsts) counts (many_at firsts) (length firsts) alike) some

  each_with : (ms : List (List ℤ)) (c d : ℕ → ℕ) → ((l : ℕ) → c l ≡ d l)
      → Each (λ m. BeginsEach (order_of q) (labels_of q) (levels_of q) o (plan_of q.program) m c) ms
      → Each (λ m. BeginsEach (order_of q) (labels_of q) (levels_of q) o (plan_of q.program) m d) ms
  each_with [] c d same h = tt
  each_with (m ∷ ms) c d same h = (begins_each_with q o m c d same h.0, each_with ms c d same h.1)

  -- where nothing begins, the sharp count and the bound are 1
  no_more : (levels : List LevelRuns) (k : ℕ) → ((l : ℕ) → counts_of levels l ≡ 0) → k ≡ 0 → sharp_of t levels ≤ bound q.program.order o t k
  no_more levels k begun none =
      let one : sharp_of t levels ≡ 1 = one_list (ends_by t (firsts_of levels)) (counts_of levels) (length levels) begun in
      let other : bound q.program.order o t k ≡ 1 =
      ap (λ z. (z + 1) ^ (count_not_below (lattice_of q.program.order) o q.program.order.size * digits t)) none
      ∙ one_power (count_not_below (lattice_of q.program.order) o q.program.order.size * digits t) in
      omega (arith, one, other)

  -- what the theorem says of starts of which there is a report
  pub record Found (ss : List StartValue) (levels : List LevelRuns) : Type 0 where
    pub begun : Each (λ m. BeginsEach (order_of q) (labels_of q) (levels_of q) o (plan_of q.program) m (counts_of levels)) (memories_of ss)
    pub few : FewShown (sequence_from v q o t) same_sequence (starts_of made q.program.order ss) (sharp_of t levels)
    pub within : (k : ℕ) → FirstBegins (order_of q) (labels_of q) (levels_of q) o (plan_of q.program) (starts_of made q.program.order ss) k
        → sharp_of t levels ≤ bound q.program.order o t k

  pub found : SharpSound v q.program.order (serves q.program.order) (labels_of q) (levels_of q) (lowered q).instrs (plan_of q.program)
      → o < q.program.order.size → 0 < t →
      (ss : List StartValue) (levels : List LevelRuns) → Study ss levels → Found ss levels
  found sound low some ss levels h =
      let firsts = firsts_of levels in
      let few = sound.few o low t some (starts_of made q.program.order ss) h.agree h.halted firsts (predicts_each ss levels h.least)
      same_sequence tests_sequences in
      let counts = few.0 in
      let each = each_memory (λ m. BeginsEach (order_of q) (labels_of q) (levels_of q) o (plan_of q.program) m counts) ss few.1 in
      let size : q.program.order.size ≡ length levels = sym h.size in
      go ss levels counts h each (subst
      (λ n. FewShown (sequence_from v q o t) same_sequence (starts_of made q.program.order ss) (sharp (ends_by t firsts) n counts)) size few.2)
      (λ k first. subst (λ n. sharp (ends_by t firsts) n counts ≤ bound q.program.order o t k) size
      (le_trans (few.3 k first).0 (few.3 k first).1))
      (counts_same ss (counts_of levels) counts each h.begun)
    where
      go : (ss : List StartValue) (levels : List LevelRuns) (counts : ℕ → ℕ) → Study ss levels
          → Each (λ m. BeginsEach (order_of q) (labels_of q) (levels_of q) o (plan_of q.program) m counts) (memories_of ss) →
          FewShown (sequence_from v q o t) same_sequence (starts_of made q.program.order ss) (sharp (ends_by t (firsts_of levels)) (length levels) counts)
          → ((k : ℕ) → FirstBegins (order_of q) (labels_of q) (levels_of q) o (plan_of q.program) (starts_of made q.program.order ss) k
          → sharp (ends_by t (firsts_of levels)) (length levels) counts ≤ bound q.program.order o t k)
          → (ss ≡ []) ⊎ ((l : ℕ) → counts l ≡ counts_of levels l) → Found ss levels
      go ss levels counts h each few within (inl none) =
          let begun : (l : ℕ) → counts_of levels l ≡ 0 =
          subst (λ (z : List StartValue). FirstBeginsEach q o (memories_of z) (counts_of levels)) none h.begun in
          subst (λ (z : List StartValue). Found z levels) (sym none)
          (record {
            begun = tt;
            few = record { count = omega arith; best_few = λ w. omega arith; guess = λ w g. omega arith };
            within = λ k first. no_more levels k begun first;
          })
      go ss levels counts h each few within (inr same) =
          record {
            begun = each_with (memories_of ss) counts (counts_of levels) same each;
            few = subst (FewShown (sequence_from v q o t) same_sequence (starts_of made q.program.order ss))
                (same_product (ends_by t (firsts_of levels)) counts (counts_of levels) (length levels) same) few;
            within = λ k first. subst (λ z. z ≤ bound q.program.order o t k)
                (same_product (ends_by t (firsts_of levels)) counts (counts_of levels) (length levels) same) (within k first);
          }

  counted : (ss : List StartValue) (r : AuditReport) (levels : List LevelRuns) → IsReport v serves q o t (starts_of made q.program.order ss) r → Found ss levels
      → (n : ℕ) → fitting (sharp_of t levels) ≡ Some n → r.measures.distinct ≤ n
  counted ss r levels is f n e =
      let same = (told (sharp_of t levels) n (sym e)).0 in
      let c = f.few.count in
      let d = is.measures.distinct in
      omega (arith, same, c, d)

  bounded : (ss : List StartValue) (r : AuditReport) (levels : List LevelRuns) → IsReport v serves q o t (starts_of made q.program.order ss) r → Found ss levels
      → sharp_of t levels ≤ r.measures.base ^ r.measures.exponent
  bounded ss r levels is f =
      subst (λ z. sharp_of t levels ≤ z)
      (power_is q.program.order o t r.mitigations (map (sequence_from v q o t) (starts_of made q.program.order ss)) r.measures is.measures)
      (f.within r.mitigations is.mitigations)

-- a first prediction at a place is one of its level
placed_in : {M L : Type 0} (rel : ℕ → Bool) (p : Todo M L) (ms : List (List ℤ)) (i x : ℕ) → PredictedAtIn rel p ms i x → PredictedIn rel p ms x
placed_in rel p [] i x h = h
placed_in rel p (m ∷ ms) i x (inl b) = inl (b.0, b.1, b.2, b.3)
placed_in rel p (m ∷ ms) i x (inr h) = inr (placed_in rel p ms i x h)

-- the count by own first predictions is at most the sharp count
own_within : (q : LabelledProgram) (o t : ℕ) (ms : List (List ℤ)) (levels : List LevelRuns) (firsts : List (List ℕ)) → AreTold q o ms levels
    → AreListed q o ms firsts → own_of t firsts ≤ sharp_of t levels
own_within q o t ms levels firsts told listed =
    let p = plan_of q.program in
    let size : length firsts ≡ length levels = listed.size ∙ sym told.size in
    let few = (own_is_enough t (first_at firsts) (length firsts) (many_at firsts)).1 (firsts_of levels)
    (λ l i lt. (told.first l).least (first_at firsts l i)
    (placed_in (relevant_at (order_of q) (labels_of q) (levels_of q) o p l) p ms i (first_at firsts l i) (listed.one l i lt))) in
    let alike = same_product (ends_by t (firsts_of levels)) (many_at firsts) (counts_of levels) (length levels)
    (same_counts q o ms (many_at firsts) (counts_of levels) listed.begun told.begun) in
    let here : own_of t firsts ≤ sharp (ends_by t (firsts_of levels)) (length levels) (many_at firsts) =
    subst (λ n. own_of t firsts ≤ sharp (ends_by t (firsts_of levels)) n (many_at firsts)) size few in
    subst (λ z. own_of t firsts ≤ z) alike here

-- the count by shared time is at most the sharp count
shares_within : (t : ℕ) (levels : List LevelRuns) → shared_of t levels ≤ sharp_of t levels
shares_within t levels =
    let firsts = firsts_of levels in
    let counts = counts_of levels in
    (shared_is_enough t firsts (length levels) counts (ways t firsts (length levels) counts) (are_ways t firsts (length levels) counts)).1

pub typed_with : (words : List Told) (p : Syntax) (q : LabelledProgram) → IsProgram words p → Types p q → IsTypedWith q
typed_with words p q spelled types = typed_made words p q spelled types.program types.least.labels.keeps types.typed

pub below : (p : Syntax) (q : LabelledProgram) (o : ℕ) → Types p q → o < p.order.size → o < q.program.order.size
below p q o types l = subst (λ (z : Syntax). o < z.order.size) (sym types.program) l

-- in each environment of a machine with partitions
module _ (sharp : (e : Environment) → IsPartitioned e → LoweredSharpOver (environment e) AnyHistory)
    (ending : (e : Environment) → IsPartitioned e → LoweredSharpEndOver (environment e) AnyHistory)
    (sharing : (e : Environment) → IsPartitioned e → LoweredSharedOver (environment e) AnyHistory)
    (owning : (e : Environment) → IsPartitioned e → LoweredOwnOver (environment e) AnyHistory) where
  pub all_enough : AllAreEnough
  all_enough e t parted some words p q o ss r levels spelled types low is h =
      let v = environment e q.program.order in
      let is_typed = typed_with words p q spelled types in
      let low' = below p q o types low in
      let study = reported v AnyHistory history_made q o t ss r levels is h in
      let f = found v AnyHistory history_made q o t (sharp e parted q is_typed) low' some ss levels study in
      record {
        begun = f.begun;
        bounds = record {
          few = f.few;
          ended = λ end same tests. few_told v AnyHistory history_made q o t (seen_to_end v (order_of q) (labels_of q) (lowered q).instrs o t)
              ((ending e parted q is_typed).halted o low' end t some) ss levels study same tests;
          shared = λ apart. shared_told v AnyHistory history_made q o t (sequence_from v q o t) ((sharing e parted q is_typed).few o low' t some) apart
              ss levels
              study same_sequence tests_sequences;
          shared_ended = λ apart end same tests. shared_told v AnyHistory history_made q o t (seen_to_end v (order_of q) (labels_of q) (lowered q).instrs o t)
              ((ending e parted q is_typed).shared o low' end t some) apart ss levels study same tests;
        };
        counted = counted v AnyHistory history_made q o t ss r levels is f;
        shared_within = shares_within t levels;
        own = λ firsts are.
            let own_study = listed v AnyHistory history_made q o t ss r firsts is are in (
              record {
                few = λ apart. own_told v AnyHistory history_made q o t (sequence_from v q o t) ((owning e parted q is_typed).few o low' t some) apart ss firsts
                    own_study same_sequence tests_sequences;
                ended = λ apart end same tests. own_told v AnyHistory history_made q o t (seen_to_end v (order_of q) (labels_of q) (lowered q).instrs o t)
                    ((owning e parted q is_typed).ended o low' end t some) apart ss firsts own_study same tests;
              },
              own_within q o t (memories_of ss) levels firsts h are,
            );
        within = bounded v AnyHistory history_made q o t ss r levels is f;
      }
