-- What is listed of the levels after each step of a walk.
use Rattle.std.proofs.Common.{◌≡◌, ◌<◌, ◌≤◌, ℕ, zero, suc, ◌+◌, ◌⊎◌, inl, inr, ⊎_elim, refl, sym, ap, ◌∙◌, subst, List, [], ◌∷◌, ◌++◌, length, length-append}
use Rattle.std.proofs.Common.{Option, Some, None, replicate, arith}
use Rattle.std.specs.Prelude.{ℤ, Bool, true, false, cond, eqb, ◌&&◌, slice_set, slice_index_or}
use Rattle.std.specs.List.{count_by}
use Rattle.std.proofs.lemmas.Bool.{cases_lt, cases_eq, eq-eqb, ne_eqb, both_ways}
use Rattle.std.proofs.lemmas.List.Sums.{sum_by-append, sum_by-cons}
use Rattle.std.proofs.lemmas.List.{length-set, get_or-set_same, get_or-set_other}
use Rattle.mit_syntax.specs.Plan.{Plan}
use Rattle.mit_syntax.specs.Expression.{Expression}
use Rattle.mit_syntax.specs.Program.{Syntax, plan_of}
use Rattle.mit_syntax.specs.Declarations.{variables}
use Rattle.mit_syntax.specs.Valid.{IsValid}
use Rattle.mit_syntax.specs.Values.{value_of}
use Rattle.doubling_schedule.specs.Doubling.{prediction}
use Rattle.timing_types.specs.Labelled.{LabelledProgram, order_of, labels_of, levels_of}
use Rattle.source_meaning.specs.declared.walk.Walk.{Walk}
use Rattle.source_meaning.specs.declared.walk.Walk.TheVariants.{Ended}
use Rattle.source_meaning.specs.Source.{source_start, started_in, marks_of, HasEnded}
use Rattle.source_meaning.specs.Frames.{todo_of}
use Rattle.source_meaning.specs.Walked.{Standing, told_by, source_at, IsStep}
use Rattle.leak_bound.specs.Relevant.{relevances, is_relevant}
use Rattle.sharp_count.specs.declared.count.LevelRuns.{LevelRuns}
use Rattle.sharp_bound.specs.Sharp.{relevant_at}
use Rattle.own_firsts.specs.Count.{firsts_at, many_at, first_at}
use Rattle.level_counts.specs.declared.note.Mitigation.{Mitigation}
use Rattle.level_counts.specs.Estimates.{estimates_of}
use Rattle.level_counts.specs.Begun.{begins_after}
use Rattle.level_counts.specs.Listed.{PredictedAt, IsListed}
use Rattle.level_counts.specs.Noted.{begun_at, begun, noted, with_listed, stored}
use Rattle.level_counts.proofs.Steps.{Quiet, Begins, does}
use Rattle.level_counts.proofs.Going.{Going, going_begin, going_on, after_here, marks_more, marks_same, nothing_later, none, ended_here}

get_left : (xs ys : List ℕ) (i : ℕ) → i < length xs → slice_index_or (xs ++ ys) i 0 ≡ slice_index_or xs i 0
get_left [] ys i h = absurd (omega (arith, h))
get_left (x ∷ xs) ys zero h = refl
get_left (x ∷ xs) ys (suc i) h = get_left xs ys i (omega (arith, h))

get_last : (xs : List ℕ) (x : ℕ) → slice_index_or (xs ++ x ∷ []) (length xs) 0 ≡ x
get_last [] x = refl
get_last (y ∷ xs) x = get_last xs x

module _ (rel : ℕ → Bool) (ls : ℕ → ℕ) (p : Plan) (m : List ℤ) where
  abbrev of : ℕ → ℕ → Bool
  of l k = rel k && eqb (ls k) l

  -- how many of the level begin before a step
  abbrev earlier_of : ℕ → ℕ → ℕ
  earlier_of l n = count_by (of l) (marks_of p m n)

  -- what is listed of one level after n steps
  pub record Places (n l : ℕ) (firsts : List ℕ) : Type 0 where
    pub many : earlier_of l n ≡ length firsts
    pub each : (i : ℕ) → i < length firsts
        → (j : ℕ) × (j < n) × (k : ℕ) × (begins_after p m j ≡ Some (k, slice_index_or firsts i 0)) × (of l k ≡ true) × (earlier_of l j ≡ i)
    pub only : (j k x : ℕ) → j < n → begins_after p m j ≡ Some (k, x) → of l k ≡ true
        → (earlier_of l j < length firsts) × (slice_index_or firsts (earlier_of l j) 0 ≡ x)

  places_none : (l : ℕ) → Places 0 l []
  places_none l = record { many = refl; each = λ i h. absurd (omega (arith, h)); only = λ j k x h. absurd (omega (arith, h)) }

  before_or : (n j : ℕ) → j < n + 1 → (j < n) ⊎ (j ≡ n)
  before_or n j h = ⊎_elim (λ (a : j < n). inl a) (λ (b : n ≤ j). let e : j ≡ n = omega (arith, b, h) in inr e) (cases_lt j n)

  -- a step that begins nothing of the level
  places_off : (n l : ℕ) (firsts : List ℕ) → Places n l firsts → ((k x : ℕ) → begins_after p m n ≡ Some (k, x) → of l k ≡ true → ⊥)
      → earlier_of l (n + 1) ≡ earlier_of l n → Places (n + 1) l firsts
  places_off n l firsts h never same = record {
    many = same ∙ h.many;
    each = λ i lt. let a = h.each i lt in let b = a.1 in (a.0, omega (arith, b), a.2, a.3, a.4, a.5);
    only = λ j k x lt is on. ⊎_elim (λ (a : j < n). h.only j k x a is on)
        (λ (e : j ≡ n). absurd (never k x (subst (λ z. begins_after p m z ≡ Some (k, x)) e is) on)) (before_or n j lt);
  }

  -- a step that begins one of the level
  places_on : (n l k x : ℕ) (firsts : List ℕ) → Places n l firsts → begins_after p m n ≡ Some (k, x) → of l k ≡ true
      → earlier_of l (n + 1) ≡ earlier_of l n + 1 → Places (n + 1) l (firsts ++ x ∷ [])
  places_on n l k x firsts h is on one = record {
    many = let a = h.many in let b = long in omega (arith, a, b, one);
    each = each;
    only = only;
  }
    where
      long : length (firsts ++ x ∷ []) ≡ length firsts + 1
      long = length-append firsts (x ∷ [])

      each : (i : ℕ) → i < length (firsts ++ x ∷ []) → (j : ℕ) × (j < n + 1) × (k' : ℕ)
          × (begins_after p m j ≡ Some (k', slice_index_or (firsts ++ x ∷ []) i 0)) × (of l k' ≡ true) × (earlier_of l j ≡ i)
      each i lt =
          ⊎_elim
          (λ (a : i < length firsts).
          let b = h.each i a in
          let c = b.1 in
          (b.0, omega (arith, c), b.2, b.3 ∙ ap (λ z. Some (b.2, z)) (sym (get_left firsts (x ∷ []) i a)), b.4, b.5))
          (λ (a : length firsts ≤ i).
          let e : i ≡ length firsts = omega (arith, a, lt, long) in
          let c = h.many in
          (n, omega arith, k, is ∙ ap (λ z. Some (k, z)) (sym (ap (λ z. slice_index_or (firsts ++ x ∷ []) z 0) e ∙ get_last firsts x)), on, c ∙ sym e))
          (cases_lt i (length firsts))

      only : (j k' y : ℕ) → j < n + 1 → begins_after p m j ≡ Some (k', y) → of l k' ≡ true
          → (earlier_of l j < length (firsts ++ x ∷ [])) × (slice_index_or (firsts ++ x ∷ []) (earlier_of l j) 0 ≡ y)
      only j k' y lt its in' =
          ⊎_elim
          (λ (a : j < n). let b = h.only j k' y a its in' in let c = b.0 in (omega (arith, c, long), get_left firsts (x ∷ []) (earlier_of l j) b.0 ∙ b.1))
          (λ (e : j ≡ n).
          let at : earlier_of l j ≡ length firsts = ap (earlier_of l) e ∙ h.many in
          let same : ◌≡◌ {A = Option (ℕ × ℕ)} (Some (k, x)) (Some (k', y)) = sym is ∙ subst (λ z. begins_after p m z ≡ Some (k', y)) e its in
          let pair : ◌≡◌ {A = ℕ × ℕ} (k, x) (k', y) = cc in
          (omega (arith, at, long), ap (λ z. slice_index_or (firsts ++ x ∷ []) z 0) at ∙ get_last firsts x ∙ ap (λ z. z.1) pair))
          (before_or n j lt)

  count_more : (l n k : ℕ) → marks_of p m (n + 1) ≡ marks_of p m n ++ k ∷ [] → earlier_of l (n + 1) ≡ earlier_of l n + cond (of l k) 1 0
  count_more l n k marks =
      let a = sum_by-append (λ z. cond (of l z) 1 0) (marks_of p m n) (k ∷ []) in
      let b = sum_by-cons (λ z. cond (of l z) 1 0) k [] in
      let c : count_by (of l) (marks_of p m n ++ k ∷ []) ≡ earlier_of l n + cond (of l k) 1 0 = omega (arith, a, b) in
      ap (count_by (of l)) marks ∙ c

  -- a mitigate begins, which is listed if it is relevant
  module _ (n k x : ℕ) (listed : List (List ℕ)) (h : (l : ℕ) → Places n l (firsts_at listed l)) (is : begins_after p m n ≡ Some (k, x))
      (marks : marks_of p m (n + 1) ≡ marks_of p m n ++ k ∷ []) (below : ls k < length listed) where
    off : (l : ℕ) → of l k ≡ false → Places (n + 1) l (firsts_at listed l)
    off l out =
        let z : cond (of l k) 1 0 ≡ 0 = ap {B = ℕ} (λ (b : Bool). cond b 1 0) out in
        let r : earlier_of l n + cond (of l k) 1 0 ≡ earlier_of l n = omega (arith, z) in
        places_off n l (firsts_at listed l) (h l) never (count_more l n k marks ∙ r)
      where
        never : (j y : ℕ) → begins_after p m n ≡ Some (j, y) → of l j ≡ true → ⊥
        never j y e in' =
            let same : ◌≡◌ {A = Option (ℕ × ℕ)} (Some (j, y)) (Some (k, x)) = sym e ∙ is in
            let pair : ◌≡◌ {A = ℕ × ℕ} (j, y) (k, x) = cc in
            both_ways (of l k) out (subst (λ z. of l z ≡ true) (ap (λ z. z.0) pair) in')

    on : (l : ℕ) → of l k ≡ true → Places (n + 1) l (firsts_at listed l ++ x ∷ [])
    on l in' =
        let z : cond (of l k) 1 0 ≡ 1 = ap {B = ℕ} (λ (b : Bool). cond b 1 0) in' in
        let r : earlier_of l n + cond (of l k) 1 0 ≡ earlier_of l n + 1 = omega (arith, z) in
        places_on n l k x (firsts_at listed l) (h l) is in' (count_more l n k marks ∙ r)

    abbrev one : Mitigation
    one = record { level = ls k; first = x }

    pub places_begun : (l : ℕ) → Places (n + 1) l (firsts_at (with_listed (cond (rel k) (Some one) None) listed) l)
    places_begun = go (rel k) refl
      where
        go : (b : Bool) → rel k ≡ b → (l : ℕ) → Places (n + 1) l (firsts_at (with_listed (cond b (Some one) None) listed) l)
        go false e l = off l (ap (λ z. z && eqb (ls k) l) e)
        go true e l = ⊎_elim same other (cases_eq l (ls k))
          where
            new : List (List ℕ)
            new = slice_set listed (ls k) (firsts_at listed (ls k) ++ x ∷ [])

            same : l ≡ ls k → Places (n + 1) l (firsts_at new l)
            same q =
                subst (Places (n + 1) l)
                (sym (ap (firsts_at new) q ∙ get_or-set_same listed (ls k) (firsts_at listed (ls k) ++ x ∷ []) [] below
                ∙ ap (λ z. firsts_at listed z ++ x ∷ []) (sym q)))
                (on l (ap (λ z. z && eqb (ls k) l) e ∙ eq-eqb (ls k) l (sym q)))

            other : (l ≡ ls k → ⊥) → Places (n + 1) l (firsts_at new l)
            other q =
                subst (Places (n + 1) l) (sym (get_or-set_other listed (ls k) l (firsts_at listed (ls k) ++ x ∷ []) [] q))
                (off l (ap (λ z. z && eqb (ls k) l) e ∙ ne_eqb (ls k) l (λ r. q (sym r))))

-- ---- where a walk stands, with what is listed

pub record GoingListed (rel : ℕ → Bool) (ls : ℕ → ℕ) (s : Syntax) (m : List ℤ) (n : ℕ) (walker : Standing) (now : List ℤ) (listed : List (List ℕ)) :
    Type 0 where
  pub levels : List LevelRuns
  pub going : Going rel ls s m n walker now levels
  pub size : length listed ≡ s.order.size
  pub places : (l : ℕ) → Places rel ls (plan_of s) m n l (firsts_at listed l)

none_listed : (size l : ℕ) → firsts_at (replicate size []) l ≡ []
none_listed zero l = refl
none_listed (suc size) zero = refl
none_listed (suc size) (suc l) = none_listed size l

length-empty : (size : ℕ) (xs : List (List ℕ)) → xs ≡ replicate size [] → length xs ≡ size
length-empty size xs e = ap length e ∙ go size
  where
    go : (n : ℕ) → length (replicate {A = List ℕ} n []) ≡ n
    go zero = refl
    go (suc n) = ap suc (go n)

length-listed : (o : Option Mitigation) (listed : List (List ℕ)) → length (with_listed o listed) ≡ length listed
length-listed None listed = refl
length-listed (Some b) listed = length-set listed b.level (firsts_at listed b.level ++ b.first ∷ [])

module _ (rel : ℕ → Bool) (ls : ℕ → ℕ) (s : Syntax) (m : List ℤ) where
  pub listed_begin : (r : Syntax) (walker : Standing) (now : List ℤ) (listed : List (List ℕ)) → r ≡ s → IsValid r
      → source_start (plan_of r) m ≡ source_at walker [] → now ≡ m → length m ≡ variables s.declarations → listed ≡ replicate r.order.size []
      → GoingListed rel ls s m 0 walker now listed
  listed_begin r walker now listed e valid begin same long empty = record {
    levels = replicate r.order.size none;
    going = going_begin rel ls s m r walker now (replicate r.order.size none) e valid begin same long refl;
    size = length-empty r.order.size listed empty ∙ ap (λ (z : Syntax). z.order.size) e;
    places = λ l. subst (Places rel ls (plan_of s) m 0 l) (sym (ap (λ z. firsts_at z l) empty ∙ none_listed r.order.size l))
        (places_none rel ls (plan_of s) m l);
  }

  module _ (n : ℕ) (walker new : Standing) (walk : Walk) (now : List ℤ) (listed : List (List ℕ)) (h : GoingListed rel ls s m n walker now listed)
      (step : IsStep walker walk new) where
    abbrev p : Plan
    p = plan_of s

    abbrev levels : List LevelRuns
    levels = h.levels

    abbrev is_begun : Option Mitigation
    is_begun = begun rel ls (estimates_of p) walk walker.memory

    listed_quiet : Quiet rel ls (estimates_of p) (todo_of walker.lists) walker.memory walk → (l : ℕ)
        → Places rel ls p m (n + 1) l (firsts_at (with_listed is_begun listed) l)
    listed_quiet q l =
        let nothing = after_here rel ls s m n walker new walk now levels h.going step None q.next in
        subst (λ z. Places rel ls p m (n + 1) l (firsts_at (with_listed z listed) l)) (sym q.none)
        (places_off rel ls p m n l (firsts_at listed l) (h.places l)
        (λ k x is on. let bad : None ≡ Some (k, x) = sym nothing ∙ is in absurd (cc))
        (ap (count_by (of rel ls p m l)) (marks_same rel ls s m n walker new walk now levels h.going step q.marks)))

    listed_begins : ((k : ℕ) → ls k < s.order.size) → Begins (estimates_of p) (todo_of walker.lists) walker.memory walk → (l : ℕ)
        → Places rel ls p m (n + 1) l (firsts_at (with_listed is_begun listed) l)
    listed_begins below b l =
        let x = prediction (value_of b.estimate walker.memory) 0 in
        let lt = below b.mark in
        let sz = h.size in
        let less : ls b.mark < length listed = omega (arith, lt, sz) in
        let c = places_begun rel ls p m n b.mark x listed h.places
        (after_here rel ls s m n walker new walk now levels h.going step (Some (b.mark, x)) b.next)
        (marks_more rel ls s m n walker new walk now levels h.going step (b.mark ∷ []) (ap (λ w. started_in (told_by w)) b.walk_is)) less l in
        subst (λ z. Places rel ls p m (n + 1) l (firsts_at (with_listed z listed) l))
        (sym (ap (λ w. begun rel ls (estimates_of p) w walker.memory) b.walk_is
        ∙ ap (λ o. cond (rel b.mark) (begun_at (ls b.mark) o walker.memory) None) b.told)) c

    -- with what the code has listed
    pub listed_on : (table : List Expression) (now' : List ℤ) (listed' : List (List ℕ)) → table ≡ estimates_of p → ((k : ℕ) → ls k < s.order.size)
        → now' ≡ stored walk now → listed' ≡ with_listed (begun rel ls table walk now) listed → GoingListed rel ls s m (n + 1) new now' listed'
    listed_on table now' listed' e below a b =
        let is : listed' ≡ with_listed is_begun listed =
        b ∙ ap (λ z. with_listed (begun rel ls z walk now) listed) e
        ∙ ap (λ z. with_listed (begun rel ls (estimates_of p) walk z) listed) h.going.memory in
        record {
          levels = noted rel ls table walk now levels;
          going = going_on rel ls s m n walker new walk now levels h.going step table now' (noted rel ls table walk now levels) e below a refl;
          size = ap length is ∙ length-listed is_begun listed ∙ h.size;
          places = λ l. subst (λ z. Places rel ls p m (n + 1) l (firsts_at z l)) (sym is)
              (⊎_elim (λ (q : Quiet rel ls (estimates_of p) (todo_of walker.lists) walker.memory walk). listed_quiet q l)
              (λ (c : Begins (estimates_of p) (todo_of walker.lists) walker.memory walk). listed_begins below c l)
              (does rel ls (estimates_of p) walker.memory (todo_of walker.lists) new walk h.going.tells step.step));
        }

    pub listed_ended : walk ≡ Ended → HasEnded p m n
    listed_ended e = ended_here rel ls s m n walker new walk now levels h.going step e

-- ---- the end of a walk

module _ (q : LabelledProgram) (o : ℕ) (m : List ℤ) (n : ℕ) (ended : HasEnded (plan_of q.program) m n) where
  abbrev relevant : ℕ → Bool
  relevant = is_relevant (order_of q) (labels_of q) (levels_of q) o (plan_of q.program)

  listed_at_end : (listed : List (List ℕ)) → length listed ≡ q.program.order.size
      → ((l : ℕ) → Places relevant (levels_of q) (plan_of q.program) m n l (firsts_at listed l)) → IsListed q o m listed
  listed_at_end listed size h = record {
    size = size;
    begun = (n, ended, λ l. (h l).many);
    each = λ l i lt. let a = (h l).each i lt in (a.0, a.2, a.3, a.4, a.5);
    only = only;
  }
    where
      only : (l i x : ℕ) → PredictedAt (relevant_at (order_of q) (labels_of q) (levels_of q) o (plan_of q.program) l) (plan_of q.program) m i x
          → (i < many_at listed l) × (first_at listed l i ≡ x)
      only l i x b =
          ⊎_elim
          (λ (lt : b.0 < n).
          subst (λ z. (z < many_at listed l) × (first_at listed l z ≡ x)) b.4 ((h l).only b.0 b.1 x lt b.2 b.3))
          (λ (le : n ≤ b.0). let bad : None ≡ Some (b.1, x) = sym (nothing_later q o m n ended b.0 le) ∙ b.2 in absurd (cc))
          (cases_lt b.0 n)

pub listed_by_marks : (q : LabelledProgram) (o : ℕ) (m : List ℤ) (n : ℕ) (marks : List Bool) (listed : List (List ℕ)) → HasEnded (plan_of q.program) m n
    → length listed ≡ q.program.order.size →
    ((l : ℕ) → Places (λ k. slice_index_or marks k false) (levels_of q) (plan_of q.program) m n l (firsts_at listed l)) →
    marks ≡ relevances (order_of q) (labels_of q) (levels_of q) o (order_of q).bottom (plan_of q.program) → IsListed q o m listed
listed_by_marks q o m n marks listed ended size h e =
    listed_at_end q o m n ended listed size
    (subst (λ z. (l : ℕ) → Places (λ k. slice_index_or z k false) (levels_of q) (plan_of q.program) m n l (firsts_at listed l)) e h)
