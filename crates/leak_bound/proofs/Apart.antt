-- Stretches of the machine's run, and a halted run taken apart command by command.
use Rattle.std.proofs.Common.{◌≡◌, ℕ, zero, suc, ◌+◌, ◌-◌, ◌<◌, ◌≤◌, List, ◌∷◌, refl, sym, ap, ◌∙◌, subst, ◌⊎◌, inl, inr, ⊎_elim, arith}
use Rattle.std.specs.Prelude.{Bool, true, false, cond, ℤ}
use Rattle.std.proofs.lemmas.Bool.{cases_lt, both_ways}
use Rattle.mit_syntax.specs.Expression.{Expression}
use Rattle.mit_syntax.specs.Todo.{Marks, Marked, Done, Skip, Assign, Put, Sleep, If, While, Mitigate}
use Rattle.mit_syntax.specs.Values.{value_of, holds}
use Rattle.doubling_schedule.specs.Doubling.{at_least_zero}
use Rattle.label_lattice.specs.Lattice.{Lattice}
use Rattle.env_contract.specs.Env.{Env}
use Rattle.label_code.specs.Machine.{Core, Machine, Opened, Ended, fetched, touched, waited, written, closed, at, step, steps, label}
use Rattle.label_code.specs.declared.code.Work.TheVariants.{Store, Brz, Brnz, Jmp, Sleep as SleepWork, Mitb, Mite, Nop}
use Rattle.label_code.specs.declared.code.Instr.{Instr}
use Rattle.code_lower.specs.Layout.{Stands, expr_size, size, HasExpr, raised, HasCode}
use Rattle.code_lower.proofs.Timed.{tested, stored, begun, opening, tested_clock, timed_log}
use Rattle.leak_bound.proofs.Runs.{Do, Loop, Runs, done, skip, assign, put, sleep, if_true, if_false, while_none, while_some, mitigate, last, again, late}
use Rattle.label_code.proofs.Upto.{upto, upto-late}
use Rattle.label_code.proofs.Ticks.{closed_clock, Sane, steps_out}
use Rattle.leak_bound.proofs.Record.{grows_run}
use Rattle.label_code.proofs.Leads.{Leads, leads_to, steps-add, stays}
use Rattle.code_lower.proofs.Stretches.{one, test_leads, put_leads}

module _ {E : Type 0} (v : Env E) (image : List Instr) where
  -- the rest of a run whose last state is y, at the time lim: y has halted, or its next step ends after lim
  module _ (lat : Lattice) (g : ℕ → ℕ) (lim : ℕ) (y : Machine E) (sane : Sane y.opened y.core.clock) (over : (y.halted ≡ true)
      ⊎ ((y.halted ≡ false) × (lim < (step v image y).core.clock))) where
    -- from z the run goes on to y in fewer than b steps, or z is past the cut and has nothing more up to it
    pub data Onward (b : ℕ) (z : Machine E) : Type 0 where
      on : (left : ℕ) → left < b → steps v image left z ≡ y → Onward b z
      cut : y.halted ≡ false → lim < z.core.clock → upto lim z.core.log ≡ upto lim y.core.log → Onward b z

    wider : (b b' : ℕ) (z : Machine E) → b ≤ b' → Onward b z → Onward b' z
    wider b b' z h (on left l e) = on left (omega arith) e
    wider b b' z h (cut i l e) = cut i l e

    moved : (b a a' : ℕ) (ops : List ℤ) (os : List Opened) (s : Core E) → a ≡ a' → Onward b (at a ops os s) → Onward b (at a' ops os s)
    moved b a a' ops os s q (on left l e) = on left l (ap (λ z. steps v image left (at z ops os s)) (sym q) ∙ e)
    moved b a a' ops os s q (cut i l e) = cut i l e

    -- the run passes each state that it leads to and that is not halted, or is cut before it
    passed : (n : ℕ) (x z : Machine E) → steps v image n x ≡ y → Leads v image x z → z.halted ≡ false → Onward n z
    passed n x z e l f = go (cases_lt n l.count)
      where
        go : (n < l.count) ⊎ (l.count ≤ n) → Onward n z
        go (inl lt) =
            let sum : n + suc (l.count - n - 1) ≡ l.count = omega arith in
            let z_is = sym l.ends ∙ ap (λ k. steps v image k x) (sym sum) ∙ steps-add v image n (suc (l.count - n - 1)) x
            ∙ ap (steps v image (suc (l.count - n - 1))) e in
            ⊎_elim
            (λ (h : y.halted ≡ true). absurd (both_ways z.halted f (ap (λ q. q.halted) (z_is ∙ stays v image (suc (l.count - n - 1)) y h) ∙ h)))
            (λ (h : (y.halted ≡ false) × (lim < (step v image y).core.clock)).
            let r = steps_out v image lim (l.count - n - 1) y sane h.1 in
            cut h.0 (subst (λ q. lim < q.core.clock) (sym z_is) r.0) (ap (λ q. upto lim q.core.log) z_is ∙ r.1))
            over
        go (inr le) =
            let p = l.some in
            let sum : l.count + (n - l.count) ≡ n = omega arith in
            on (n - l.count) (omega arith) (ap (steps v image (n - l.count)) (sym l.ends) ∙ sym (steps-add v image l.count (n - l.count) x)
            ∙ ap (λ k. steps v image k x) sum ∙ e)

    -- the same from where a part ended
    through : (n : ℕ) (x z : Machine E) → Leads v image x z → z.halted ≡ false → x.core.clock ≤ z.core.clock
        → (lim < z.core.clock → upto lim z.core.log ≡ upto lim x.core.log) → Onward (suc n) x → Onward n z
    through n x z l f up q (on left lt e) = wider left n z (omega arith) (passed left x z e l f)
    through n x z l f up q (cut i h e) = let far : lim < z.core.clock = omega arith in cut i far (q far ∙ e)

    -- a list whose code the run passes, or in which it is cut
    pub record Part (p : Marked) (a : ℕ) (ops : List ℤ) (os : List Opened) (n : ℕ) (s : Core E) : Type 0 where
      pub after : Core E
      pub run : Runs v lat g lim (Do p a) s after
      pub rest : Onward (suc n) (at (a + size p) ops os after)

    pub record LoopPart (m : Marks) (e : Expression) (c : Marked) (a : ℕ) (ops : List ℤ) (os : List Opened) (n : ℕ) (s : Core E) : Type 0 where
      pub after : Core E
      pub run : Runs v lat g lim (Loop m e c a) s after
      pub rest : Onward (suc n) (at (a + size c + expr_size e + 1) ops os after)

    abbrev Passes : Marked → ℕ → List ℤ → List Opened → Type 0
    Passes p a ops os = (n : ℕ) (s : Core E) → steps v image n (at a ops os s) ≡ y → Part p a ops os n s

    -- a list from where a part ended
    inside : (p : Marked) (a : ℕ) (ops : List ℤ) (os : List Opened) (n : ℕ) (s : Core E) → Passes p a ops os
        → Onward (suc n) (at a ops os s) → Part p a ops os n s
    inside p a ops os n s pass (on left l e) =
        let r = pass left s e in
        record { after = r.after; run = r.run; rest = wider (suc left) (suc n) _ (omega arith) r.rest }
    inside p a ops os n s pass (cut i l e) = record { after = s; run = late l; rest = cut i l e }

    beyond : (p : Marked) (a : ℕ) (ops : List ℤ) (os : List Opened) (n : ℕ) (s : Core E) → Passes p a ops os → Onward n (at a ops os s) → Part p a ops os n s
    beyond p a ops os n s pass x = inside p a ops os n s pass (wider n (suc n) _ (omega arith) x)

    -- a command, and the rest of its list
    joined : (p r : Marked) (a q : ℕ) (ops : List ℤ) (os : List Opened) (n : ℕ) (s s1 : Core E) → q + size r ≡ a + size p
        → ((s' : Core E) → Runs v lat g lim (Do r q) s1 s' → Runs v lat g lim (Do p a) s s') → Part r q ops os n s1 → Part p a ops os n s
    joined p r a q ops os n s s1 place make t = record { after = t.after; run = make t.after t.run; rest = moved (suc n) _ _ ops os t.after place t.rest }

    -- the body of a loop, as often as the run passes it
    turn_part : (m : Marks) (e : Expression) (c : Marked) (a : ℕ) (ops : List ℤ) (os : List Opened) → HasExpr image (raised lat g e m) e (a + size c)
        → Stands image (a + size c + expr_size e) (Brnz a) (raised lat g e m) → (n : ℕ) (s : Core E) → Part c a ops os n s
        → ((k : ℕ) (s1 : Core E) → k < n → steps v image k (at a ops os s1) ≡ y → LoopPart m e c a ops os k s1) → LoopPart m e c a ops os n s
    turn_part m e c a ops os he hi n s b next = turn (holds (value_of e b.after.memory)) refl
      where
        rm : Marks
        rm = raised lat g e m

        s2 : Core E
        s2 = tested v rm e (a + size c) b.after

        q : ℕ
        q = a + size c + expr_size e + 1

        -- the test below the body, at a guard's value
        test : (w : Bool) → holds (value_of e b.after.memory) ≡ w → Onward n (at (cond w a q) ops os s2)
        test w f =
            through n (at (a + size c) ops os b.after) (at (cond w a q) ops os s2)
            (leads_to v image _ _ _ (test_leads v image (Brnz a) e rm (a + size c) ops os b.after he hi) (ap (λ z. at (cond z a q) ops os s2) f)) refl
            (tested_clock v rm e (a + size c) b.after) (λ h. ap (upto lim) (timed_log v rm e (a + size c) b.after)) b.rest

        more : holds (value_of e b.after.memory) ≡ true → Onward n (at a ops os s2) → LoopPart m e c a ops os n s
        more f (on left l e') =
            let t = next left s2 l e' in
            record { after = t.after; run = again b.run f t.run; rest = wider (suc left) (suc n) _ (omega arith) t.rest }
        more f (cut i l e') = record { after = s2; run = again b.run f (late l); rest = cut i l e' }

        turn : (w : Bool) → holds (value_of e b.after.memory) ≡ w → LoopPart m e c a ops os n s
        turn false f = record { after = s2; run = last b.run f; rest = wider n (suc n) _ (omega arith) (test false f) }
        turn true f = more f (test true f)

    loop_part : (m : Marks) (e : Expression) (c : Marked) (a : ℕ) (ops : List ℤ) (os : List Opened) → Passes c a ops os
        → HasExpr image (raised lat g e m) e (a + size c) → Stands image (a + size c + expr_size e) (Brnz a) (raised lat g e m) → (fuel n : ℕ) (s : Core E)
        → n ≤ fuel → steps v image n (at a ops os s) ≡ y → LoopPart m e c a ops os n s
    loop_part m e c a ops os body he hi zero n s le h = turn_part m e c a ops os he hi n s (body n s h) (λ k s1 less h1. absurd (omega arith))
    loop_part m e c a ops os body he hi (suc fuel) n s le h =
        turn_part m e c a ops os he hi n s (body n s h) (λ k s1 less h1. loop_part m e c a ops os body he hi fuel k s1 (omega arith) h1)

    -- a loop from where a part ended
    inside_loop : (m : Marks) (e : Expression) (c : Marked) (a : ℕ) (ops : List ℤ) (os : List Opened) (n : ℕ) (s : Core E) → Passes c a ops os
        → HasExpr image (raised lat g e m) e (a + size c) → Stands image (a + size c + expr_size e) (Brnz a) (raised lat g e m) → Onward n (at a ops os s)
        → LoopPart m e c a ops os n s
    inside_loop m e c a ops os n s body he hi (on left l h) =
        let r = loop_part m e c a ops os body he hi left left s (omega arith) h in
        record { after = r.after; run = r.run; rest = wider (suc left) (suc n) _ (omega arith) r.rest }
    inside_loop m e c a ops os n s body he hi (cut i l h) = record { after = s; run = late l; rest = cut i l h }

    if_apart : (m : Marks) (e : Expression) (c d r : Marked) (a : ℕ) → HasCode lat g image (If m e c d r) a → (ops : List ℤ) (os : List Opened)
        → Passes c (a + expr_size e + 1) ops os → Passes d (a + expr_size e + 1 + size c + 1) ops os
        → Passes r (a + expr_size e + 1 + size c + 1 + size d) ops os → Passes (If m e c d r) a ops os
    if_apart m e c d r a code ops os pc pd pr n s h = turn (holds (value_of e s.memory)) refl
      where
        b : ℕ
        b = a + expr_size e

        j : ℕ
        j = a + expr_size e + 1 + size c

        q : ℕ
        q = a + expr_size e + 1 + size c + 1 + size d

        s0 : Core E
        s0 = tested v m e a s

        test : (w : Bool) → holds (value_of e s.memory) ≡ w → Onward n (at (cond w (b + 1) (j + 1)) ops os s0)
        test w f =
            passed n (at a ops os s) (at (cond w (b + 1) (j + 1)) ops os s0) h
            (leads_to v image _ _ _ (test_leads v image (Brz (j + 1)) e m a ops os s code.0 code.1) (ap (λ z. at (cond z (b + 1) (j + 1)) ops os s0) f)) refl

        turn : (w : Bool) → holds (value_of e s.memory) ≡ w → Part (If m e c d r) a ops os n s
        turn true f =
            let x = beyond c (b + 1) ops os n s0 pc (test true f) in
            let s2 = fetched v (raised lat g e m) j x.after in
            joined (If m e c d r) r a q ops os n s s2 (omega arith) (λ s' z. if_true f x.run z)
            (beyond r q ops os n s2 pr (through n (at j ops os x.after) (at q ops os s2) (one v image (Jmp q) (raised lat g e m) j ops os x.after code.3) refl
            (omega arith) (λ l. refl) x.rest))
        turn false f =
            let x = beyond d (j + 1) ops os n s0 pd (test false f) in
            joined (If m e c d r) r a q ops os n s x.after (omega arith) (λ s' z. if_false f x.run z) (inside r q ops os n x.after pr x.rest)

    while_apart : (m : Marks) (e : Expression) (c r : Marked) (a : ℕ) → HasCode lat g image (While m e c r) a → (ops : List ℤ) (os : List Opened)
        → Passes c (a + expr_size e + 1) ops os → Passes r (a + expr_size e + 1 + size c + expr_size e + 1) ops os → Passes (While m e c r) a ops os
    while_apart m e c r a code ops os pc pr n s h = turn (holds (value_of e s.memory)) refl
      where
        b : ℕ
        b = a + expr_size e

        q : ℕ
        q = a + expr_size e + 1 + size c + expr_size e + 1

        s0 : Core E
        s0 = tested v m e a s

        test : (w : Bool) → holds (value_of e s.memory) ≡ w → Onward n (at (cond w (b + 1) q) ops os s0)
        test w f =
            passed n (at a ops os s) (at (cond w (b + 1) q) ops os s0) h
            (leads_to v image _ _ _ (test_leads v image (Brz q) e m a ops os s code.0 code.1) (ap (λ z. at (cond z (b + 1) q) ops os s0) f)) refl

        turn : (w : Bool) → holds (value_of e s.memory) ≡ w → Part (While m e c r) a ops os n s
        turn true f =
            let x = inside_loop m e c (b + 1) ops os n s0 pc code.3 code.4 (test true f) in
            joined (While m e c r) r a q ops os n s x.after (omega arith) (λ s' z. while_some f x.run z) (inside r q ops os n x.after pr x.rest)
        turn false f = joined (While m e c r) r a q ops os n s s0 (omega arith) (λ s' z. while_none f z) (beyond r q ops os n s0 pr (test false f))

    pub taken_apart : (p : Marked) (a : ℕ) → HasCode lat g image p a → (ops : List ℤ) (os : List Opened) → Passes p a ops os
    taken_apart Done a code ops os n s h =
        let e : a ≡ a + 0 = omega arith in
        record { after = s; run = done; rest = moved (suc n) a (a + 0) ops os s e (on n (omega arith) h) }
    taken_apart (Skip m r) a code ops os n s h =
        let s1 = fetched v m a s in
        joined (Skip m r) r a (a + 1) ops os n s s1 (omega arith) (λ s' k. skip k)
        (beyond r (a + 1) ops os n s1 (taken_apart r (a + 1) code.1 ops os)
        (passed n (at a ops os s) (at (a + 1) ops os s1) h (one v image Nop m a ops os s code.0) refl))
    taken_apart (Assign m z e r) a code ops os n s h =
        let b = a + expr_size e in
        let s1 = written z (value_of e s.memory) (touched v m z (tested v m e a s)) in
        joined (Assign m z e r) r a (b + 1) ops os n s s1 (omega arith) (λ s' k. assign k)
        (beyond r (b + 1) ops os n s1 (taken_apart r (b + 1) code.2 ops os)
        (passed n (at a ops os s) (at (b + 1) ops os s1) h (test_leads v image (Store z) e m a ops os s code.0 code.1) refl))
    taken_apart (Put m f i j e r) a code ops os n s h =
        let b = a + expr_size j + expr_size e in
        let s1 = stored v m f i j e a s in
        joined (Put m f i j e r) r a (b + 1) ops os n s s1 (omega arith) (λ s' k. put k)
        (beyond r (b + 1) ops os n s1 (taken_apart r (b + 1) code.3 ops os)
        (passed n (at a ops os s) (at (b + 1) ops os s1) h (put_leads v image f i j e m a ops os s code.0 code.1 code.2) refl))
    taken_apart (Sleep m e r) a code ops os n s h =
        let b = a + expr_size e in
        let s1 = waited (at_least_zero (value_of e s.memory)) (tested v m e a s) in
        joined (Sleep m e r) r a (b + 1) ops os n s s1 (omega arith) (λ s' k. sleep k)
        (beyond r (b + 1) ops os n s1 (taken_apart r (b + 1) code.2 ops os)
        (passed n (at a ops os s) (at (b + 1) ops os s1) h (test_leads v image SleepWork e m a ops os s code.0 code.1) refl))
    taken_apart (If m e c d r) a code ops os n s h =
        if_apart m e c d r a code ops os (taken_apart c (a + expr_size e + 1) code.2 ops os) (taken_apart d (a + expr_size e + 1 + size c + 1) code.4 ops os)
        (taken_apart r (a + expr_size e + 1 + size c + 1 + size d) code.5 ops os) n s h
    taken_apart (While m e c r) a code ops os n s h =
        while_apart m e c r a code ops os (taken_apart c (a + expr_size e + 1) code.2 ops os)
        (taken_apart r (a + expr_size e + 1 + size c + expr_size e + 1) code.5 ops os) n s h
    taken_apart (Mitigate m mark l e c r) a code ops os n s h =
        let b = a + expr_size e in
        let j = b + 1 + size c in
        let s0 = tested v m e a s in
        let w = opening (value_of e s.memory) l mark s0 in
        let x = beyond c (b + 1) ops (w ∷ os) n (begun mark s0) (taken_apart c (b + 1) code.2 ops (w ∷ os))
        (passed n (at a ops os s) (at (b + 1) ops (w ∷ os) (begun mark s0)) h (test_leads v image (Mitb (label l) mark) e m a ops os s code.0 code.1) refl) in
        let q = fetched v m j x.after in
        let s2 = closed w q in
        let up = (grows_run v lat g 0 lim x.run).clock in
        let since : w.since ≤ q.clock = omega arith in
        joined (Mitigate m mark l e c r) r a (j + 1) ops os n s s2 (omega arith) (λ s' z. mitigate x.run z)
        (beyond r (j + 1) ops os n s2 (taken_apart r (j + 1) code.4 ops os)
        (through n (at j ops (w ∷ os) x.after) (at (j + 1) ops os s2) (one v image Mite m j ops (w ∷ os) x.after code.3) refl
        (omega (arith, closed_clock w q since)) (λ far. upto-late lim q.log (Ended mark s2.clock) far) x.rest))
