-- What is told of the levels after each step of a walk.
use Rattle.std.proofs.Common.{◌≡◌, ◌<◌, ◌≤◌, ℕ, zero, suc, ◌+◌, ◌-◌, ◌⊎◌, inl, inr, ⊎_elim, refl, sym, ap, ◌∙◌, subst, List, [], ◌∷◌, ◌++◌, length}
use Rattle.std.proofs.Common.{append-nil, Option, Some, None, replicate, arith}
use Rattle.std.specs.Prelude.{ℤ, Bool, true, false, cond, eqb, ◌&&◌, slice_get, slice_set, slice_index_or}
use Rattle.std.specs.List.{count_by}
use Rattle.std.proofs.lemmas.Bool.{cases_lt, cases_eq, eq-eqb, ne_eqb, both_ways}
use Rattle.std.proofs.lemmas.List.Sums.{sum_by-append, sum_by-cons}
use Rattle.std.proofs.lemmas.List.{length-set, get_or-set_same, get_or-set_other}
use Rattle.mit_syntax.specs.Expression.{Expression}
use Rattle.mit_syntax.specs.Todo.{Done}
use Rattle.mit_syntax.specs.Plan.{Plan}
use Rattle.mit_syntax.specs.Program.{Syntax, plan_of}
use Rattle.mit_syntax.specs.Declarations.{variables}
use Rattle.mit_syntax.specs.Valid.{IsValid}
use Rattle.mit_syntax.specs.Values.{value_of}
use Rattle.doubling_schedule.specs.Doubling.{prediction}
use Rattle.timing_types.specs.Labelled.{LabelledProgram, order_of, labels_of, levels_of}
use Rattle.source_meaning.specs.declared.walk.Walk.{Walk}
use Rattle.source_meaning.specs.declared.walk.Walk.TheVariants.{Assigned as DidAssign, Began, Silent, Ended}
use Rattle.source_meaning.specs.Source.{Note, Assigned, Started, Source, source_step, source_steps, source_start, started_in, notes_of, marks_of, HasEnded}
use Rattle.source_meaning.specs.Frames.{todo_of}
use Rattle.source_meaning.specs.Walked.{Standing, told_by, source_at, IsStep}
use Rattle.source_meaning.proofs.GoOn.{go_on}
use Rattle.source_meaning.proofs.Told.{done_stays}
use Rattle.leak_bound.specs.Relevant.{relevances, is_relevant}
use Rattle.sharp_count.specs.declared.count.LevelRuns.{LevelRuns}
use Rattle.sharp_count.specs.Levels.{told_of, counts_of}
use Rattle.sharp_bound.specs.Sharp.{relevant_at}
use Rattle.level_counts.specs.Estimates.{estimates_of}
use Rattle.level_counts.specs.Begun.{begins_next, begins_after, PredictedIn, IsLeast, AreTold}
use Rattle.level_counts.specs.declared.note.Mitigation.{Mitigation}
use Rattle.level_counts.specs.Noted.{lesser, with_one, begun_at, with_begun, noted, stored}
use Rattle.level_counts.proofs.Table.{Tells, tells_first, tells_act}
use Rattle.level_counts.proofs.Steps.{Quiet, Begins, does, memory_after, some_prediction}
use Rattle.level_counts.proofs.Leasts.{least_same, least_one, least_both}

abbrev pub none : LevelRuns
none = record { mitigations = 0; first = 0 }

count_append : (p : ℕ → Bool) (xs ys : List ℕ) → count_by p (xs ++ ys) ≡ count_by p xs + count_by p ys
count_append p xs ys = sum_by-append (λ x. cond (p x) 1 0) xs ys

started_append : (a b : List Note) → started_in (a ++ b) ≡ started_in a ++ started_in b
started_append [] b = refl
started_append (Assigned x n ∷ a) b = started_append a b
started_append (Started k ∷ a) b = ap (λ z. k ∷ z) (started_append a b)

module _ (rel : ℕ → Bool) (ls : ℕ → ℕ) (p : Plan) (m : List ℤ) where
  abbrev pub at_level : ℕ → ℕ → Bool
  at_level l k = rel k && eqb (ls k) l

  -- one of the first n steps begins a relevant mitigate of the level, with this first prediction
  abbrev pub Before : ℕ → ℕ → ℕ → Type 0
  Before n l x = (i : ℕ) × (i < n) × (k : ℕ) × (begins_after p m i ≡ Some (k, x)) × (at_level l k ≡ true)

  -- what is told of the levels after n steps
  pub record Counted (n : ℕ) (levels : List LevelRuns) : Type 0 where
    pub few : (l : ℕ) → (told_of levels l).mitigations ≤ n
    pub begun : (l : ℕ) → count_by (at_level l) (marks_of p m n) ≡ counts_of levels l
    pub first : (l : ℕ) → IsLeast (Before n l) (told_of levels l).first

  none_told : (size l : ℕ) → told_of (replicate size none) l ≡ none
  none_told zero l = refl
  none_told (suc size) zero = refl
  none_told (suc size) (suc l) = none_told size l

  counted_first : (size : ℕ) → Counted 0 (replicate size none)
  counted_first size = record {
    few = λ l. let e = ap (λ t. t.mitigations) (none_told size l) in omega (arith, e);
    begun = λ l. sym (ap (λ t. t.mitigations) (none_told size l));
    first = λ l. subst (IsLeast (Before 0 l)) (sym (ap (λ t. t.first) (none_told size l))) (record {
      least = λ y b. let c = b.1 in
          absurd (omega (arith, c));
      one = inr (refl, λ y b. let c = b.1 in absurd (omega (arith, c)));
    });
  }

  before_some : (n l x : ℕ) → Before n l x → 0 < x
  before_some n l x b = some_prediction (source_steps b.0 (source_start p m)).todo (source_steps b.0 (source_start p m)).memory b.2 x b.3

  earlier : (n i : ℕ) → i < n + 1 → (i < n) ⊎ (i ≡ n)
  earlier n i h = ⊎_elim (λ (a : i < n). inl a) (λ (b : n ≤ i). let e : i ≡ n = omega (arith, b, h) in inr e) (cases_lt i n)

  later : (n l x : ℕ) → Before n l x → Before (n + 1) l x
  later n l x b = let c = b.1 in (b.0, omega (arith, c), b.2, b.3, b.4)

  -- a step that begins nothing of the level
  others : (n l : ℕ) → ((x : ℕ) (k : ℕ) → begins_after p m n ≡ Some (k, x) → at_level l k ≡ true → ⊥) → (x : ℕ) → Before (n + 1) l x → Before n l x
  others n l never x b = ⊎_elim (λ (a : b.0 < n). (b.0, a, b.2, b.3, b.4))
      (λ (e : b.0 ≡ n). absurd (never x b.2 (subst (λ z. begins_after p m z ≡ Some (b.2, x)) e b.3) b.4)) (earlier n b.0 b.1)

  quiet_next : (n : ℕ) (levels : List LevelRuns) → Counted n levels → begins_after p m n ≡ None → marks_of p m (n + 1) ≡ marks_of p m n → Counted (n + 1) levels
  quiet_next n levels h e same = record {
    few = λ l. let f = h.few l in omega (arith, f);
    begun = λ l. ap (count_by (at_level l)) same ∙ h.begun l;
    first = λ l. least_same (Before n l) (Before (n + 1) l) (told_of levels l).first (later n l) (others n l (λ x k is y. let bad : None ≡ Some (k, x) =
        sym e ∙ is in absurd (cc))) (h.first l);
  }

  module _ (n k x : ℕ) (levels : List LevelRuns) (h : Counted n levels) (is : begins_after p m n ≡ Some (k, x)) (marks : marks_of p m (n + 1) ≡ marks_of p m n
      ++ k ∷ []) (below : ls k < length levels) where
    abbrev new : List LevelRuns
    new = slice_set levels (ls k) (with_one (told_of levels (ls k)) x)

    count_one : (l : ℕ) → count_by (at_level l) (marks_of p m (n + 1)) ≡ counts_of levels l + cond (at_level l k) 1 0
    count_one l =
        let a = count_append (at_level l) (marks_of p m n) (k ∷ []) in
        let b = h.begun l in
        let c = sum_by-cons (λ y. cond (at_level l y) 1 0) k [] in
        let d : count_by (at_level l) (marks_of p m n ++ k ∷ []) ≡ counts_of levels l + cond (at_level l k) 1 0 = omega (arith, a, b, c) in
        ap (count_by (at_level l)) marks ∙ d

    only : (l y j : ℕ) → begins_after p m n ≡ Some (j, y) → (j ≡ k) × (y ≡ x)
    only l y j e =
        let s : ◌≡◌ {A = Option (ℕ × ℕ)} (Some (j, y)) (Some (k, x)) = sym e ∙ is in
        let t : ◌≡◌ {A = ℕ × ℕ} (j, y) (k, x) = cc in
        (ap (λ z. z.0) t, ap (λ z. z.1) t)

    -- of another level, or not relevant
    off : (l : ℕ) → at_level l k ≡ false → (t : LevelRuns) → t ≡ told_of levels l → (t.mitigations ≤ n + 1)
        × (count_by (at_level l) (marks_of p m (n + 1)) ≡ t.mitigations) × IsLeast (Before (n + 1) l) t.first
    off l out t e =
        let f = h.few l in
        let c = ap (λ z. z.mitigations) e in
        let o = count_one l in
        let z : cond (at_level l k) 1 0 ≡ 0 = ap {B = ℕ} (λ (b : Bool). cond b 1 0) out in (
          omega (arith, f, c),
          (let r : count_by (at_level l) (marks_of p m (n + 1)) ≡ t.mitigations = omega (arith, o, z, c) in r),
          subst (IsLeast (Before (n + 1) l)) (sym (ap (λ z. z.first) e))
              (least_same (Before n l) (Before (n + 1) l) (told_of levels l).first (later n l) (others n l (λ y j f in'. let s = only l y j f in
              both_ways (at_level l k) out (subst (λ z. at_level l z ≡ true) s.0 in'))) (h.first l)),
        )

    on : (l : ℕ) → at_level l k ≡ true → (t : LevelRuns) → t ≡ with_one (told_of levels l) x → (t.mitigations ≤ n + 1)
        × (count_by (at_level l) (marks_of p m (n + 1)) ≡ t.mitigations) × IsLeast (Before (n + 1) l) t.first
    on l in' t e =
        let f = h.few l in
        let c = ap (λ z. z.mitigations) e in
        let o = count_one l in
        let z : cond (at_level l k) 1 0 ≡ 1 = ap {B = ℕ} (λ (b : Bool). cond b 1 0) in' in (
          omega (arith, f, c),
          (let r : count_by (at_level l) (marks_of p m (n + 1)) ≡ t.mitigations = omega (arith, o, z, c) in r),
          subst (IsLeast (Before (n + 1) l)) (sym (ap (λ z. z.first) e))
              (least_same (λ y. Before n l y ⊎ (y ≡ x)) (Before (n + 1) l) (lesser (told_of levels l).first x) to from
              (least_both (Before n l) (λ y. y ≡ x) (before_some n l) (λ y e. subst (λ z. 0 < z) (sym e) some) (told_of levels l).first
              x (h.first l) (least_one x))),
        )
      where
        some : 0 < x
        some = some_prediction (source_steps n (source_start p m)).todo (source_steps n (source_start p m)).memory k x is

        to : (y : ℕ) → Before n l y ⊎ (y ≡ x) → Before (n + 1) l y
        to y (inl b) = later n l y b
        to y (inr e) = (n, omega arith, k, is ∙ ap (λ z. Some (k, z)) (sym e), in')

        from : (y : ℕ) → Before (n + 1) l y → Before n l y ⊎ (y ≡ x)
        from y b = ⊎_elim (λ (a : b.0 < n). inl (b.0, a, b.2, b.3, b.4))
            (λ (e : b.0 ≡ n). inr (only l y b.2 (subst (λ z. begins_after p m z ≡ Some (b.2, y)) e b.3)).1) (earlier n b.0 b.1)

    abbrev Good : ℕ → LevelRuns → Type 0
    Good l t = (t.mitigations ≤ n + 1) × (count_by (at_level l) (marks_of p m (n + 1)) ≡ t.mitigations) × IsLeast (Before (n + 1) l) t.first

    counted_of : (ns : List LevelRuns) → ((l : ℕ) → Good l (told_of ns l)) → Counted (n + 1) ns
    counted_of ns g = record { few = λ l. (g l).0; begun = λ l. (g l).1; first = λ l. (g l).2 }

    begins_next_counted : Counted (n + 1) (cond (rel k) new levels)
    begins_next_counted = go (rel k) refl
      where
        go : (b : Bool) → rel k ≡ b → Counted (n + 1) (cond b new levels)
        go false e = counted_of levels (λ l. off l (ap (λ z. z && eqb (ls k) l) e) (told_of levels l) refl)
        go true e = counted_of new (λ l. ⊎_elim (same l) (other l) (cases_eq l (ls k)))
          where
            same : (l : ℕ) → l ≡ ls k → Good l (told_of new l)
            same l q =
                on l (ap (λ z. z && eqb (ls k) l) e ∙ eq-eqb (ls k) l (sym q)) (told_of new l)
                (ap (told_of new) q ∙ get_or-set_same levels (ls k) (with_one (told_of levels (ls k)) x) none below
                ∙ ap (λ z. with_one (told_of levels z) x) (sym q))

            other : (l : ℕ) → (l ≡ ls k → ⊥) → Good l (told_of new l)
            other l q =
                off l (ap (λ z. z && eqb (ls k) l) e ∙ ne_eqb (ls k) l (λ r. q (sym r))) (told_of new l)
                (get_or-set_other levels (ls k) l (with_one (told_of levels (ls k)) x) none q)

-- ---- where a walk stands

pub record Going (rel : ℕ → Bool) (ls : ℕ → ℕ) (s : Syntax) (m : List ℤ) (n : ℕ) (walker : Standing) (now : List ℤ) (levels : List LevelRuns) : Type 0 where
  pub stands : source_steps n (source_start (plan_of s) m) ≡ source_at walker (notes_of (plan_of s) m n)
  pub tells : Tells (estimates_of (plan_of s)) (todo_of walker.lists)
  pub memory : now ≡ walker.memory
  pub long : length now ≡ variables s.declarations
  pub size : length levels ≡ s.order.size
  pub counted : Counted rel ls (plan_of s) m n levels

counted_if : (b : Bool) (x : Mitigation) (levels : List LevelRuns) → with_begun (cond b (Some x) None) levels ≡ cond b (with_begun (Some x) levels) levels
counted_if true x levels = refl
counted_if false x levels = refl

length_stored : (walk : Walk) (m : List ℤ) → length (stored walk m) ≡ length m
length_stored (DidAssign x n) m = length-set m x n
length_stored (Began k) m = refl
length_stored Silent m = refl
length_stored Ended m = refl

module _ (rel : ℕ → Bool) (ls : ℕ → ℕ) (s : Syntax) (m : List ℤ) where
  pub going_first : (walker : Standing) (now : List ℤ) (levels : List LevelRuns) → IsValid s → source_start (plan_of s) m ≡ source_at walker [] → now ≡ m
      → length m ≡ variables s.declarations → levels ≡ replicate s.order.size none → Going rel ls s m 0 walker now levels
  going_first walker now levels valid e same long none_yet = record {
    stands = e;
    tells = subst (λ σ. Tells (estimates_of (plan_of s)) σ.todo) e (tells_first s valid);
    memory = same ∙ ap (λ σ. σ.memory) e;
    long = ap length same ∙ long;
    size = ap length none_yet ∙ length-replicate s.order.size;
    counted = subst (Counted rel ls (plan_of s) m 0) (sym none_yet) (counted_first rel ls (plan_of s) m s.order.size);
  }
    where
      length-replicate : (k : ℕ) → length (replicate k none) ≡ k
      length-replicate zero = refl
      length-replicate (suc k) = let e = length-replicate k in omega (arith, e)

  -- of a program that is this one
  pub going_begin : (r : Syntax) (walker : Standing) (now : List ℤ) (levels : List LevelRuns) → r ≡ s → IsValid r
      → source_start (plan_of r) m ≡ source_at walker [] → now ≡ m → length m ≡ variables s.declarations → levels ≡ replicate r.order.size none
      → Going rel ls s m 0 walker now levels
  going_begin r walker now levels e valid begin same long none_yet =
      going_first walker now levels (subst IsValid e valid) (subst (λ (z : Syntax). source_start (plan_of z) m ≡ source_at walker []) e begin) same long
      (none_yet ∙ ap (λ (z : Syntax). replicate z.order.size none) e)

  module _ (n : ℕ) (walker new : Standing) (walk : Walk) (now : List ℤ) (levels : List LevelRuns) (h : Going rel ls s m n walker now levels)
      (step : IsStep walker walk new) where
    abbrev p : Plan
    p = plan_of s

    goes_on : source_steps (n + 1) (source_start p m) ≡ source_at new (notes_of p m n ++ told_by walk)
    goes_on = go_on p m n (notes_of p m n) walker new walk h.stands step

    todo_here : (source_steps n (source_start p m)).todo ≡ todo_of walker.lists
    todo_here = ap (λ σ. σ.todo) h.stands

    memory_here : (source_steps n (source_start p m)).memory ≡ walker.memory
    memory_here = ap (λ σ. σ.memory) h.stands

    pub after_here : (o : Option (ℕ × ℕ)) → begins_next (todo_of walker.lists) walker.memory ≡ o → begins_after p m n ≡ o
    after_here o e = ap (λ z. begins_next z (source_steps n (source_start p m)).memory) todo_here ∙ ap (begins_next (todo_of walker.lists)) memory_here ∙ e

    pub marks_more : (ks : List ℕ) → started_in (told_by walk) ≡ ks → marks_of p m (n + 1) ≡ marks_of p m n ++ ks
    marks_more ks e = ap (λ σ. started_in σ.notes) goes_on ∙ started_append (notes_of p m n) (told_by walk) ∙ ap (λ z. marks_of p m n ++ z) e

    pub marks_same : started_in (told_by walk) ≡ [] → marks_of p m (n + 1) ≡ marks_of p m n
    marks_same e = marks_more [] e ∙ append-nil (marks_of p m n)

    levels_after : List LevelRuns
    levels_after = noted rel ls (estimates_of p) walk walker.memory levels

    counted_quiet : Quiet rel ls (estimates_of p) (todo_of walker.lists) walker.memory walk
        → Counted rel ls p m (n + 1) (noted rel ls (estimates_of p) walk walker.memory levels)
    counted_quiet q = subst (Counted rel ls p m (n + 1)) (sym (ap (λ z. with_begun z levels) q.none))
        (quiet_next rel ls p m n levels h.counted (after_here None q.next) (marks_same q.marks))

    counted_begins : ((k : ℕ) → ls k < s.order.size) → Begins (estimates_of p) (todo_of walker.lists) walker.memory walk
        → Counted rel ls p m (n + 1) (noted rel ls (estimates_of p) walk walker.memory levels)
    counted_begins below b =
        let x = prediction (value_of b.estimate walker.memory) 0 in
        let lt = below b.mark in
        let sz = h.size in
        let less : ls b.mark < length levels = omega (arith, lt, sz) in
        let c = begins_next_counted rel ls p m n b.mark x levels h.counted (after_here (Some (b.mark, x)) b.next)
        (marks_more (b.mark ∷ []) (ap (λ w. started_in (told_by w)) b.walk_is)) less in
        subst (Counted rel ls p m (n + 1))
        (sym (ap (λ w. noted rel ls (estimates_of p) w walker.memory levels) b.walk_is
        ∙ ap (λ o. with_begun (cond (rel b.mark) (begun_at (ls b.mark) o walker.memory) None) levels) b.told
        ∙ counted_if (rel b.mark) (record { level = ls b.mark; first = x }) levels)) c

    length_noted : (w : Walk) (es : List Expression) → length (noted rel ls es w walker.memory levels) ≡ length levels
    length_noted (DidAssign x k) es = refl
    length_noted (Began k) es = both (rel k) (slice_get es k)
      where
        at : (o : Option Expression) → length (with_begun (begun_at (ls k) o walker.memory) levels) ≡ length levels
        at None = refl
        at (Some e) = length-set levels (ls k) (with_one (told_of levels (ls k)) (prediction (value_of e walker.memory) 0))

        both : (b : Bool) (o : Option Expression) → length (with_begun (cond b (begun_at (ls k) o walker.memory) None) levels) ≡ length levels
        both true o = at o
        both false o = refl
    length_noted Silent es = refl
    length_noted Ended es = refl

    pub going_next : ((k : ℕ) → ls k < s.order.size) → Going rel ls s m (n + 1) new (stored walk now) (noted rel ls (estimates_of p) walk now levels)
    going_next below = record {
      stands = goes_on ∙ ap (source_at new) (sym (ap (λ σ. σ.notes) goes_on));
      tells = subst (λ σ. Tells (estimates_of p) σ.todo) step.step (tells_act (estimates_of p) (todo_of walker.lists) walker.memory h.tells);
      memory = ap (stored walk) h.memory ∙ sym (memory_after (todo_of walker.lists) walker.memory new walk step.step);
      long = length_stored walk now ∙ h.long;
      size = ap (λ z. length (noted rel ls (estimates_of p) walk z levels)) h.memory ∙ length_noted walk (estimates_of p) ∙ h.size;
      counted = subst (λ z. Counted rel ls p m (n + 1) (noted rel ls (estimates_of p) walk z levels)) (sym h.memory)
          (⊎_elim counted_quiet (counted_begins below) (does rel ls (estimates_of p) walker.memory (todo_of walker.lists) new walk h.tells step.step));
    }

    -- with what the code has noted
    pub going_on : (table : List Expression) (now' : List ℤ) (levels' : List LevelRuns) → table ≡ estimates_of p → ((k : ℕ) → ls k < s.order.size)
        → now' ≡ stored walk now → levels' ≡ noted rel ls table walk now levels → Going rel ls s m (n + 1) new now' levels'
    going_on table now' levels' e below a b =
        subst (λ z. Going rel ls s m (n + 1) new z levels') (sym a)
        (subst (Going rel ls s m (n + 1) new (stored walk now)) (sym (b ∙ ap (λ z. noted rel ls z walk now levels) e)) (going_next below))

    pub ended_here : walk ≡ Ended → HasEnded p m n
    ended_here e = todo_here ∙ (step.ended e).0

-- ---- the end of a walk

steps_stay : {M L : Type 0} (n k : ℕ) (σ : Source M L) → (source_steps n σ).todo ≡ Done → source_steps (n + k) σ ≡ source_steps n σ
steps_stay zero k σ h = let e : 0 + k ≡ k = omega arith in ap (λ z. source_steps z σ) e ∙ done_stays k σ h
steps_stay (suc n) k σ h = let e : suc n + k ≡ suc (n + k) = omega arith in ap (λ z. source_steps z σ) e ∙ steps_stay n k (source_step σ) h

module _ (q : LabelledProgram) (o : ℕ) (m : List ℤ) (n : ℕ) (ended : HasEnded (plan_of q.program) m n) where
  abbrev rel : ℕ → Bool
  rel = is_relevant (order_of q) (labels_of q) (levels_of q) o (plan_of q.program)

  pub nothing_later : (i : ℕ) → n ≤ i → begins_after (plan_of q.program) m i ≡ None
  nothing_later i le =
      let stay = steps_stay n (i - n) (source_start (plan_of q.program) m) ended in
      let e : n + (i - n) ≡ i = omega (arith, le) in
      ap (λ z. begins_after (plan_of q.program) m z) (sym e) ∙ ap (λ σ. begins_next σ.todo σ.memory) stay
      ∙ ap (λ z. begins_next z (source_steps n (source_start (plan_of q.program) m)).memory) ended

  to : (l x : ℕ) → Before rel (levels_of q) (plan_of q.program) m n l x
      → PredictedIn (relevant_at (order_of q) (labels_of q) (levels_of q) o (plan_of q.program) l) (plan_of q.program) (m ∷ []) x
  to l x b = inl (b.0, b.2, b.3, b.4)

  from : (l x : ℕ) → PredictedIn (relevant_at (order_of q) (labels_of q) (levels_of q) o (plan_of q.program) l) (plan_of q.program) (m ∷ []) x
      → Before rel (levels_of q) (plan_of q.program) m n l x
  from l x (inl b) =
      ⊎_elim
      (λ (lt : b.0 < n). (b.0, lt, b.1, b.2, b.3))
      (λ (le : n ≤ b.0). let bad : None ≡ Some (b.1, x) = sym (nothing_later b.0 le) ∙ b.2 in absurd (cc))
      (cases_lt b.0 n)
  from l x (inr b) = absurd b

  -- by a list that tells which mitigates are relevant
  pub told_at_end : (levels : List LevelRuns) → length levels ≡ q.program.order.size → Counted rel (levels_of q) (plan_of q.program) m n levels
      → AreTold q o (m ∷ []) levels
  told_at_end levels size h = record {
    size = size;
    begun = (n, ended, h.begun);
    first = λ l. least_same (Before rel (levels_of q) (plan_of q.program) m n l)
        (PredictedIn (relevant_at (order_of q) (labels_of q) (levels_of q) o (plan_of q.program) l) (plan_of q.program) (m ∷ []))
        (told_of levels l).first (to l) (from l) (h.first l);
  }

pub told_by_marks : (q : LabelledProgram) (o : ℕ) (m : List ℤ) (n : ℕ) (marks : List Bool) (levels : List LevelRuns) → HasEnded (plan_of q.program) m n
    → length levels ≡ q.program.order.size →
    Counted (λ k. slice_index_or marks k false) (levels_of q) (plan_of q.program) m n levels →
    marks ≡ relevances (order_of q) (labels_of q) (levels_of q) o (order_of q).bottom (plan_of q.program) → AreTold q o (m ∷ []) levels
told_by_marks q o m n marks levels ended size h e =
    told_at_end q o m n ended levels size (subst (λ z. Counted (λ k. slice_index_or z k false) (levels_of q) (plan_of q.program) m n levels) e h)
