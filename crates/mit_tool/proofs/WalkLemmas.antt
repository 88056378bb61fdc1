-- Steps of a run without its time, and the lines that they write.
use Rattle.std.proofs.Common.{◌≡◌, ℕ, zero, suc, ◌+◌, ◌-◌, ◌<◌, ◌≤◌, List, [], ◌∷◌, ◌++◌, append_assoc, ◌⊎◌, refl, sym, ap, subst, ◌∙◌, inl, inr, arith, Bool}
use Rattle.std.proofs.Common.{true, false, Option, ⊎_elim}
use Rattle.std.specs.Prelude.{ℤ, pos, negsuc, cond}
use Rattle.std.specs.Io.KnownBytes.{Appends}
use Rattle.std.proofs.KnownBytes.{Appends-nil, Appends-trans}
use Rattle.std.proofs.lemmas.Bool.{cases_lt}
use Rattle.std.proofs.lemmas.List.{append-nil}
use Rattle.tim_base.specs.Sinks.{AppendsPrefix}
use Rattle.mit_syntax.specs.Declarations.{Declaration, variables}
use Rattle.mit_syntax.specs.Todo.{Done, Skip, Assign, Put, Sleep, If, While, Mitigate, then_todo}
use Rattle.mit_syntax.specs.Plan.{Plan}
use Rattle.mit_syntax.specs.Program.{Syntax, plan_of}
use Rattle.mit_syntax.specs.Valid.{IsValid}
use Rattle.mit_syntax.specs.Values.{element, holds, value_of}
use Rattle.source_meaning.specs.declared.walk.Walk.{Walk}
use Rattle.source_meaning.specs.declared.walk.Walk.TheVariants.{Assigned as DidAssign, Began, Silent, Ended}
use Rattle.source_meaning.specs.Source.{Note, Assigned, Started, Source, source_act, source_step, source_steps, source_start, assigned_in, notes_of, HasEnded}
use Rattle.source_meaning.specs.InRange.{AreIn}
use Rattle.source_meaning.specs.Frames.{todo_of}
use Rattle.source_meaning.specs.Walked.{Standing, told_by, source_at, IsStep}
use Rattle.source_meaning.proofs.GoOn.{go_on}
use Rattle.source_meaning.proofs.Told.{done_stays}
use Rattle.source_meaning.proofs.Begins.{first_in}
use Rattle.tool_texts.specs.Texts.{value_line, value_lines, ended_line, not_ended_line}
use Rattle.mit_tool.specs.Means.{lines_after, IsLastLine, text_of_walk, IsWalkBelow, WritesSome, BreaksOff}
use Rattle.tool_texts.proofs.EndLemmas.{prefix_after}

-- ---- variables stay in range

then_in : (k : ℕ) (p q : Plan) → AreIn k p → AreIn k q → AreIn k (then_todo p q)
then_in k Done q h g = g
then_in k (Skip m p) q h g = then_in k p q h g
then_in k (Assign m x e p) q h g = (h.0, h.1, then_in k p q h.2 g)
then_in k (Put m f n i e p) q h g = (h.0, h.1, h.2, then_in k p q h.3 g)
then_in k (Sleep m e p) q h g = then_in k p q h g
then_in k (If m e a b p) q h g = (h.0, h.1, h.2, then_in k p q h.3 g)
then_in k (While m e c p) q h g = (h.0, h.1, then_in k p q h.2 g)
then_in k (Mitigate m j l e c p) q h g = (h.0, then_in k p q h.1 g)

cond_in : (k : ℕ) (b : Bool) (p q : Plan) → AreIn k p → AreIn k q → AreIn k (cond b p q)
cond_in k true p q h g = h
cond_in k false p q h g = g

act_in : (k : ℕ) (p : Plan) (m : List ℤ) → AreIn k p → AreIn k (source_act p m []).todo
act_in k Done m h = tt
act_in k (Skip l r) m h = h
act_in k (Sleep l e r) m h = h
act_in k (Assign l x e r) m h = h.2
act_in k (Put l f n i e r) m h = h.3
act_in k (If l e a b r) m h = cond_in k (holds (value_of e m)) (then_todo a r) (then_todo b r) (then_in k a r h.1.1 h.3) (then_in k b r h.2.1 h.3)
act_in k (While l e c r) m h = cond_in k (holds (value_of e m)) (then_todo c (While l e c r)) r (then_in k c (While l e c r) h.1.1 h) h.2
act_in k (Mitigate l n v e c r) m h = then_in k c r h.0.1 h.1

abbrev AreNotesBelow : ℕ → List Note → Type 0
AreNotesBelow k [] = Unit {0}
AreNotesBelow k (Assigned x n ∷ ns) = (x < k) × AreNotesBelow k ns
AreNotesBelow k (Started j ∷ ns) = AreNotesBelow k ns

element_below : (f n : ℕ) (z : ℤ) → 0 < n → element f n z < f + n
element_below f n (pos k) h = omega arith
element_below f n (negsuc k) h = omega arith

act_below : (k : ℕ) (p : Plan) (m : List ℤ) → AreIn k p → AreNotesBelow k (source_act p m []).notes
act_below k Done m h = tt
act_below k (Skip l r) m h = tt
act_below k (Sleep l e r) m h = tt
act_below k (Assign l x e r) m h = (h.0, tt)
act_below k (Put l f n i e r) m h =
    let low = element_below f n (value_of i m) h.0.0 in
    let most = h.0.1 in
    let under : element f n (value_of i m) < k = omega (arith, low, most) in
    (under, tt)
act_below k (If l e a b r) m h = tt
act_below k (While l e c r) m h = tt
act_below k (Mitigate l n v e c r) m h = tt

told_below : (k : ℕ) (walk : Walk) → AreNotesBelow k (told_by walk) → IsWalkBelow k walk
told_below k (DidAssign x n) h = h.0
told_below k (Began j) h = tt
told_below k Silent h = tt
told_below k Ended h = tt

-- a step's assignment is to a variable in range
pub walk_below : (k : ℕ) (old new : Standing) (walk : Walk) → AreIn k (todo_of old.lists) → IsStep old walk new → IsWalkBelow k walk
walk_below k old new walk h s =
    told_below k walk (subst (λ σ. AreNotesBelow k σ.notes) s.step (act_below k (todo_of old.lists) old.memory h))

step_in : (k : ℕ) (old new : Standing) (walk : Walk) → AreIn k (todo_of old.lists) → IsStep old walk new → AreIn k (todo_of new.lists)
step_in k old new walk h s = subst (λ σ. AreIn k σ.todo) s.step (act_in k (todo_of old.lists) old.memory h)

-- ---- lines

assigned_in-append : (a b : List Note) → assigned_in (a ++ b) ≡ assigned_in a ++ assigned_in b
assigned_in-append [] b = refl
assigned_in-append (Assigned x n ∷ a) b = ap (λ l. (x, n) ∷ l) (assigned_in-append a b)
assigned_in-append (Started j ∷ a) b = assigned_in-append a b

value_lines-append : (ds : List Declaration) (a b : List (ℕ × ℤ)) → value_lines ds (a ++ b) ≡ value_lines ds a ++ value_lines ds b
value_lines-append ds [] b = refl
value_lines-append ds (e ∷ a) b =
    ap (λ l. value_line ds e.0 e.1 ++ l) (value_lines-append ds a b) ∙ sym (append_assoc (value_line ds e.0 e.1) (value_lines ds a) (value_lines ds b))

told_lines : (ds : List Declaration) (walk : Walk) → value_lines ds (assigned_in (told_by walk)) ≡ text_of_walk ds walk
told_lines ds (DidAssign x n) = append-nil (value_line ds x n)
told_lines ds (Began j) = refl
told_lines ds Silent = refl
told_lines ds Ended = refl

-- ---- where a walk stands

pub record Walking (p : Syntax) (memory : List ℤ) (steps taken : ℕ) (walker : Standing) (old now : Option (List ℕ)) : Type 0 where
  pub stands : source_steps taken (source_start (plan_of p) memory) ≡ source_at walker (notes_of (plan_of p) memory taken)
  pub inside : AreIn (variables p.declarations) (todo_of walker.lists)
  pub within : taken ≤ steps
  pub going : (k : ℕ) → k < taken → HasEnded (plan_of p) memory k → ⊥
  pub written : Appends old now (lines_after p memory taken)

pub walking_first : (p : Syntax) (memory : List ℤ) (steps : ℕ) (walker : Standing) (old : Option (List ℕ)) → IsValid p
    → source_start (plan_of p) memory ≡ source_at walker [] → Walking p memory steps 0 walker old old
walking_first p memory steps walker old valid e =
    record {
      stands = e;
      inside = subst (λ σ. AreIn (variables p.declarations) σ.todo) e (first_in p valid);
      within = omega arith;
      going = λ k h. absurd (omega (arith, h));
      written = Appends-nil old;
    }

-- the notes are those that are told
stands_told : (p : Plan) (memory : List ℤ) (n : ℕ) (walker : Standing) (notes : List Note) → source_steps n (source_start p memory) ≡ source_at walker notes
    → source_steps n (source_start p memory) ≡ source_at walker (notes_of p memory n)
stands_told p memory n walker notes e = e ∙ ap (source_at walker) (sym (ap (λ σ. σ.notes) e))

not_yet : (p : Plan) (memory : List ℤ) (n : ℕ) (old new : Standing) (notes : List Note) (walk : Walk)
    → source_steps n (source_start p memory) ≡ source_at old notes → IsStep old walk new → (walk ≡ Ended → ⊥) → HasEnded p memory n → ⊥
not_yet p memory n old new notes walk e s n' done = n' (s.going (sym (ap (λ σ. σ.todo) e) ∙ done))

lines_more : (p : Syntax) (memory : List ℤ) (taken : ℕ) (walker new : Standing) (walk : Walk)
    → source_steps taken (source_start (plan_of p) memory) ≡ source_at walker (notes_of (plan_of p) memory taken) → IsStep walker walk new
    → lines_after p memory (taken + 1) ≡ lines_after p memory taken ++ text_of_walk p.declarations walk
lines_more p memory taken walker new walk e s =
    let plan = plan_of p in
    let notes = notes_of plan memory taken in
    ap (λ σ. value_lines p.declarations (assigned_in σ.notes)) (go_on plan memory taken notes walker new walk e s)
    ∙ ap (value_lines p.declarations) (assigned_in-append notes (told_by walk))
    ∙ value_lines-append p.declarations (assigned_in notes) (assigned_in (told_by walk))
    ∙ ap (λ l. lines_after p memory taken ++ l) (told_lines p.declarations walk)

pub walking_next : (p : Syntax) (memory : List ℤ) (steps taken : ℕ) (walker new : Standing) (walk : Walk) (old now now' : Option (List ℕ))
    → Walking p memory steps taken walker old now
    → IsStep walker walk new → (walk ≡ Ended → ⊥) → taken < steps → Appends now now' (text_of_walk p.declarations walk)
    → Walking p memory steps (taken + 1) new old now'
walking_next p memory steps taken walker new walk old now now' h s n less line =
    let plan = plan_of p in
    let notes = notes_of plan memory taken in
    let on = go_on plan memory taken notes walker new walk h.stands s in
    let more = lines_more p memory taken walker new walk h.stands s in
    record {
      stands = stands_told plan memory (taken + 1) new (notes ++ told_by walk) on;
      inside = step_in (variables p.declarations) walker new walk h.inside s;
      within = omega (arith, less);
      going = λ k l done. still k (earlier k l) done;
      written = subst (Appends old now') (sym more) (Appends-trans old now now' (lines_after p memory taken) (text_of_walk p.declarations walk) h.written line);
    }
  where
    earlier : (k : ℕ) → k < taken + 1 → (k < taken) ⊎ (k ≡ taken)
    earlier k l = ⊎_elim (λ (a : k < taken). inl a) (λ (b : taken ≤ k). let same : k ≡ taken = omega (arith, b, l) in inr same) (cases_lt k taken)

    still : (k : ℕ) → (k < taken) ⊎ (k ≡ taken) → HasEnded (plan_of p) memory k → ⊥
    still k (inl l) done = h.going k l done
    still k (inr e) done = not_yet (plan_of p) memory taken walker new (notes_of (plan_of p) memory taken) walk h.stands s n
        (subst (HasEnded (plan_of p) memory) e done)

-- ---- the end of a walk

notes_stay : {M L : Type 0} (k : ℕ) (σ : Source M L) (n : ℕ) → (source_steps n σ).todo ≡ Done → (source_steps (n + k) σ).notes ≡ (source_steps n σ).notes
notes_stay k σ zero h = let e : 0 + k ≡ k = omega arith in ap (λ z. (source_steps z σ).notes) e ∙ ap (λ z. z.notes) (done_stays k σ h)
notes_stay k σ (suc n) h = let e : suc n + k ≡ suc (n + k) = omega arith in ap (λ z. (source_steps z σ).notes) e ∙ notes_stay k (source_step σ) n h

lines_stay : (p : Syntax) (memory : List ℤ) (n steps : ℕ) → n ≤ steps → HasEnded (plan_of p) memory n → lines_after p memory steps ≡ lines_after p memory n
lines_stay p memory n steps l h =
    let e : steps ≡ n + (steps - n) = omega (arith, l) in
    ap (lines_after p memory) e ∙ ap (λ ns. value_lines p.declarations (assigned_in ns)) (notes_stay (steps - n) (source_start (plan_of p) memory) n h)

module _ (p : Syntax) (memory : List ℤ) (steps taken : ℕ) (walker new : Standing) (walk : Walk) (old now : Option (List ℕ))
    (h : Walking p memory steps taken walker old now) (s : IsStep walker walk new) where
  ended_here : walk ≡ Ended → HasEnded (plan_of p) memory taken
  ended_here e = ap (λ σ. σ.todo) h.stands ∙ (s.ended e).0

  pub ends_last : walk ≡ Ended → (line : List ℕ) → line ≡ ended_line taken → IsLastLine (plan_of p) memory steps line
  ends_last e line is = inl (taken, record { within = h.within; ended = ended_here e; least = h.going }, is)

  pub ends_lines : walk ≡ Ended → Appends old now (lines_after p memory steps)
  ends_lines e = subst (Appends old now) (sym (lines_stay p memory taken steps h.within (ended_here e))) h.written

  all_taken : steps ≤ taken → taken ≡ steps
  all_taken l = omega (arith, l, h.within)

  pub stops_last : (walk ≡ Ended → ⊥) → steps ≤ taken → (line : List ℕ) → line ≡ not_ended_line steps → IsLastLine (plan_of p) memory steps line
  stops_last n l line is =
      inr (
        (λ done. not_yet (plan_of p) memory taken walker new (notes_of (plan_of p) memory taken) walk h.stands s n
            (subst (HasEnded (plan_of p) memory) (sym (all_taken l)) done)),
        is,
      )

  pub stops_lines : steps ≤ taken → Appends old now (lines_after p memory steps)
  stops_lines l = subst (λ k. Appends old now (lines_after p memory k)) (all_taken l) h.written

-- a write failed in the line of a step
pub breaks_off : (p : Syntax) (memory : List ℤ) (steps taken : ℕ) (walker new : Standing) (walk : Walk) (old now now' : Option (List ℕ))
    → Walking p memory steps taken walker old now
    → IsStep walker walk new → taken < steps → AppendsPrefix now now' (text_of_walk p.declarations walk) → BreaksOff old now' p memory steps
breaks_off p memory steps taken walker new walk old now now' h s less line =
    let more : lines_after p memory taken ++ text_of_walk p.declarations walk ≡ lines_after p memory (taken + 1) =
    sym (lines_more p memory taken walker new walk h.stands s) in
    record {
      steps = taken + 1;
      within = omega (arith, less);
      prefix =
          prefix_after old now now' (lines_after p memory taken) (text_of_walk p.declarations walk) (lines_after p memory (taken + 1)) h.written line more;
    }

pub writes_some : (p : Syntax) (memory : List ℤ) (steps taken : ℕ) (walker : Standing) (old now : Option (List ℕ)) → Walking p memory steps taken walker old now
    → WritesSome old now p memory steps
writes_some p memory steps taken walker old now h = record { steps = taken; within = h.within; lines = h.written }

pub writes_none : (p : Syntax) (memory : List ℤ) (steps : ℕ) (old : Option (List ℕ)) → WritesSome old old p memory steps
writes_none p memory steps old = record { steps = 0; within = omega arith; lines = Appends-nil old }
