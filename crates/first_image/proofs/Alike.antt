-- In two environments of which one does what the other does, runs from starts that are alike have the same entries.
use Rattle.std.proofs.Common.{◌≡◌, ℕ, zero, suc, ◌+◌, ◌*◌, ◌^◌, ◌<◌, ◌≤◌, List, [], ◌∷◌, ◌++◌, refl, sym, ap, ◌∙◌, subst}
use Rattle.std.specs.Prelude.{Bool, true, cond, ℤ, Option, Some, None, slice_get}
use Rattle.mit_syntax.specs.Todo.{Marks}
use Rattle.mit_syntax.specs.Values.{element}
use Rattle.env_contract.specs.declared.place.Kind.TheVariants.{Code, Data}
use Rattle.env_contract.specs.Env.{Env}
use Rattle.env_contract.specs.Alike.{DoesAs}
use Rattle.label_code.specs.declared.code.Work.{Work}
use Rattle.label_code.specs.declared.code.Work.TheVariants.{Push, Load, Store, LoadAt, StoreAt, Apply, Brz, Brnz, Jmp, Sleep, Mitb, Mite, Nop, Halt}
use Rattle.label_code.specs.declared.code.Instr.{Instr}
use Rattle.label_code.specs.Machine.{Machine, step, steps, start, first, rest, marks_of}
use Rattle.label_code.specs.Alike.{machine_in, AreAlike, HasLabelsBelow}
use Rattle.label_code.proofs.Alike.{step_alike}
use Rattle.first_replay.specs.Replay.{Entry, Timed, cost_after, what_of, entry_of, entry, trace, replay}
use Rattle.run_entries.specs.Told.{counts_told}
use Rattle.entry_run.specs.Runs.{work, Tells, IsTooLong}

module _ {E F : Type 0} (v : Env E) (w : Env F) (n : ℕ) (related : E → F → Type 0) (does : DoesAs v w n related) where
  cost_alike : (i : Work) (m : Marks) (ops : List ℤ) (e : E) (f : F) → m.er < n → m.ew < n → related e f → cost_after v m i ops e ≡ cost_after w m i ops f
  cost_alike (Push k) m ops e f a b r = refl
  cost_alike (Load x) m ops e f a b r = does.cost Data (2 ^ 20 + 8 * x) m.er m.ew e f a b r
  cost_alike (Store x) m ops e f a b r = does.cost Data (2 ^ 20 + 8 * x) m.er m.ew e f a b r
  cost_alike (LoadAt x k) m ops e f a b r = does.cost Data (2 ^ 20 + 8 * element x k (first ops)) m.er m.ew e f a b r
  cost_alike (StoreAt x k) m ops e f a b r = does.cost Data (2 ^ 20 + 8 * element x k (first (rest ops))) m.er m.ew e f a b r
  cost_alike (Apply o) m ops e f a b r = refl
  cost_alike (Brz t) m ops e f a b r = refl
  cost_alike (Brnz t) m ops e f a b r = refl
  cost_alike (Jmp t) m ops e f a b r = refl
  cost_alike Sleep m ops e f a b r = refl
  cost_alike (Mitb l k) m ops e f a b r = refl
  cost_alike Mite m ops e f a b r = refl
  cost_alike Nop m ops e f a b r = refl
  cost_alike Halt m ops e f a b r = refl

  module _ (image : List Instr) (labels : HasLabelsBelow n image) where
    entry_same : (x : Machine E) (f : F) → related x.core.env f → entry v image x ≡ entry w image (machine_in f x)
    entry_same x f r = ap (λ (z : Entry). cond x.halted [] (z ∷ [])) (at (slice_get image x.place) refl)
      where
        at : (i : Option Instr) → slice_get image x.place ≡ i → entry_of v i x.place x.operands x.core.env ≡ entry_of w i x.place x.operands f
        at None e = refl
        at (Some i) e =
            let low = labels x.place i e in
            let fetch = does.cost Code (4 * x.place) i.er.number i.ew.number x.core.env f low.0 low.1 r in
            let next = does.next Code (4 * x.place) i.er.number i.ew.number x.core.env f low.0 low.1 r in
            let after = cost_alike i.work (marks_of i) x.operands (v.next_of Code (4 * x.place) i.er.number i.ew.number x.core.env)
            (w.next_of Code (4 * x.place) i.er.number i.ew.number f) low.0 low.1 next in
            let one : Entry → Entry = λ z. z in
            ap (λ (c : ℕ). one (record {
              cost = 1 + c + cost_after v (marks_of i) i.work x.operands (v.next_of Code (4 * x.place) i.er.number i.ew.number x.core.env);
              what = what_of i.work x.place x.operands;
            })) fetch
            ∙ ap (λ (c : ℕ). one (record {
              cost = 1 + w.cost_of Code (4 * x.place) i.er.number i.ew.number f + c;
              what = what_of i.work x.place x.operands;
            })) after

    entry_alike : (x : Machine E) (y : Machine F) → AreAlike related x y → entry v image x ≡ entry w image y
    entry_alike x y a = entry_same x y.core.env a.envs ∙ ap (entry w image) (sym a.same)

    trace_alike : (k : ℕ) (x : Machine E) (y : Machine F) → AreAlike related x y → trace v image k x ≡ trace w image k y
    trace_alike zero x y a = refl
    trace_alike (suc k) x y a =
        ap (λ z. z ++ trace v image k (step v image x)) (entry_alike x y a)
        ∙ ap (λ z. entry w image y ++ z) (trace_alike k (step v image x) (step w image y) (step_alike v w n related does image labels x y a))

    steps_alike : (k : ℕ) (x : Machine E) (y : Machine F) → AreAlike related x y → AreAlike related (steps v image k x) (steps w image k y)
    steps_alike zero x y a = a
    steps_alike (suc k) x y a = steps_alike k (step v image x) (step w image y) (step_alike v w n related does image labels x y a)

    begin : (memory : List ℤ) (e : E) (f : F) → related e f → AreAlike related (start memory e) (start memory f)
    begin memory e f r = record { same = refl; envs = r }

    pub tells_alike : (limit : ℕ) (memory : List ℤ) (e : E) (f : F) (es : List Entry) → related e f → Tells v image limit (start memory e) es
        → Tells w image limit (start memory f) es
    tells_alike limit memory e f es r h =
        let a = begin memory e f r in
        let same : trace v image h.count (start memory e) ≡ trace w image h.count (start memory f) = trace_alike h.count (start memory e) (start memory f) a in
        let both = steps_alike h.count (start memory e) (start memory f) a in
        record {
          count = h.count;
          halted = ap (λ z. z.halted) both.same ∙ h.halted;
          same = λ numbers t none. h.same numbers t none ∙ ap (λ z. replay numbers z t) same;
          counts = λ such numbers t none. h.counts such numbers t none ∙ ap (λ z. counts_told such numbers z t) same;
          within = subst (λ z. work z ≤ limit) same h.within;
        }

    pub too_long_alike : (limit : ℕ) (memory : List ℤ) (e : E) (f : F) → related e f → IsTooLong v image limit (start memory e)
        → IsTooLong w image limit (start memory f)
    too_long_alike limit memory e f r h =
        let same : trace v image h.count (start memory e) ≡ trace w image h.count (start memory f) =
        trace_alike h.count (start memory e) (start memory f) (begin memory e f r) in
        record { count = h.count; above = subst (λ z. limit < work z) same h.above }
