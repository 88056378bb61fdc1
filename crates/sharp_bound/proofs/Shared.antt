-- Where no relevant mitigate stands in another, the cycles of a run's entries fit into the run.
use Rattle.std.proofs.Common.{◌≡◌, ℕ, ◌+◌, ◌-◌, ◌≤◌, List, [], ◌∷◌, ◌++◌, Bool, true, false, refl, sym, ap, ◌∙◌, subst, inl, inr, arith}
use Rattle.std.specs.Prelude.{cond, not, leb, ◌&&◌, ℤ, slice_set}
use Rattle.mit_syntax.specs.Expression.{Expression}
use Rattle.mit_syntax.specs.Todo.{Marked, Done, Skip, Assign, Put, Sleep, If, While, Mitigate, then_todo, commands_of}
use Rattle.mit_syntax.specs.Values.{element, value_of}
use Rattle.doubling_schedule.specs.Doubling.{prediction, misses_after}
use Rattle.label_lattice.specs.Lattice.{Lattice, Flows, IsLattice}
use Rattle.timing_types.specs.Typing.{label_of}
use Rattle.env_contract.specs.Env.{Env}
use Rattle.env_contract.specs.Laws.{IsLawful}
use Rattle.label_code.specs.Machine.{Core, Opened, Began, fetched, touched, written, closed}
use Rattle.label_code.proofs.Upto.{upto}
use Rattle.code_lower.specs.Layout.{expr_size, size, raised}
use Rattle.code_lower.proofs.Timed.{timed_clock, tested_clock, reached_clock, tested, reached, begun, opening}
use Rattle.leak_bound.specs.Records.{Entry}
use Rattle.leak_bound.proofs.Counting.{picked}
use Rattle.leak_bound.proofs.Headline.{none_ended}
use Rattle.leak_bound.proofs.Marks.{low_count}
use Rattle.leak_bound.proofs.Tells.{Tells}
use Rattle.leak_bound.proofs.Runs.{Job, Do, Loop, Runs, done, skip, assign, put, sleep, if_true, if_false, while_none, while_some, mitigate, last, again, late}
use Rattle.leak_bound.proofs.Low.{entry_of, record_of}
use Rattle.leak_bound.proofs.Record.{grows_run}
use Rattle.sharp_bound.specs.Shared.{NoneRelevant, StandApart}
use Rattle.sharp_bound.proofs.Firsts.{Bare, Here, After, tally, tested_tally, reached_tally, closed_tally, noted_in, wrote, began, mono, todo_of, TellsJob}
use Rattle.sharp_bound.proofs.Firsts.{LevelsJob, doubled, goes_on, ends_after, from_same, from_skip, from_sleep, from_assign, from_put, from_if, from_while}
use Rattle.sharp_bound.proofs.Firsts.{from_mitigate, tested_memory, reached_memory}
use Rattle.sharp_bound.proofs.Choices.{spent, spent-append}

no_entry : (r : List Entry) → picked (λ l. true) r ≡ 0 → r ≡ []
no_entry [] e = refl
no_entry (x ∷ r) e = absurd (omega (arith, e))

module _ {E : Type 0} {serves : E → Type 0} (v : Env E) (lat : Lattice) (ll : IsLattice lat) (laws : IsLawful v lat serves) (g : ℕ → ℕ) (o lim : ℕ)
    (rel : ℕ → Bool) (ls firsts : ℕ → ℕ) (total : ℕ) where
  none_tells : (pc : ℕ) (p : Marked) → Tells lat g o rel pc p → NoneRelevant rel (commands_of p) → Tells lat g o (λ k. false) pc p
  none_tells pc Done t h = tt
  none_tells pc (Skip m r) t h = none_tells pc r t h
  none_tells pc (Assign m x e r) t h = none_tells pc r t h
  none_tells pc (Put m f n i e r) t h = none_tells pc r t h
  none_tells pc (Sleep m e r) t h = none_tells pc r t h
  none_tells pc (If m e a b r) t h =
      (none_tells (lat.join pc (label_of lat g e)) a t.0 h.0, none_tells (lat.join pc (label_of lat g e)) b t.1 h.1, none_tells pc r t.2 h.2)
  none_tells pc (While m e c r) t h = (none_tells (lat.join pc (label_of lat g e)) c t.0 h.0, none_tells pc r t.1 h.1)
  none_tells pc (Mitigate m k l e c r) t h = (sym h.0 ∙ t.0, none_tells pc c t.1 h.1, none_tells pc r t.2 h.2)

  -- where no mitigate is relevant, the record has no entry
  pub none_record : {c : Marked} {a : ℕ} {s s' : Core E} (pc : ℕ) → Tells lat g o rel pc c → NoneRelevant rel (commands_of c) → Flows lat pc o
      → (d : Runs v lat g lim (Do c a) s s') → record_of v lat g o lim d ≡ []
  none_record {c = c} {s = s} {s' = s'} pc t h low d =
      let n = low_count v lat ll laws g o lim (λ l. true) (λ k. false) pc (none_tells pc c t h) low d in
      let none = none_ended (λ k. false) (λ k. refl) in
      no_entry (record_of v lat g o lim d) (omega (arith, n, none (upto lim s.log), none (upto lim s'.log)))

  abbrev ApartJob : Job → Type 0
  ApartJob (Do p a) = StandApart rel (commands_of p)
  ApartJob (Loop m e c a) = StandApart rel (commands_of c)

  abbrev At : Bare → Core E → Type 0
  At todo s = Here v lat g o lim rel ls firsts total todo s

  still : (todo : Bare) (s : Core E) → After v lat g o lim rel ls firsts total todo s → s.clock ≤ lim → At todo s
  still todo s (inl h) by = h
  still todo s (inr far) by = absurd (omega arith)

  -- what a guard may leave out
  guarded : (b : Bool) (c c' : ℕ) (r : List Entry) → (b ≡ true → c + spent firsts r ≤ c') → c ≤ c' → c + spent firsts (cond b r []) ≤ c'
  guarded true c c' r h le = h refl
  guarded false c c' r h le = omega (arith, le)

  -- the part of a run before what is left, and the rest
  chained : (c c1 c2 c' : ℕ) (a b : List Entry) → c + spent firsts a ≤ c1 → c1 ≤ c2 → c2 + spent firsts b ≤ c' → c + spent firsts (a ++ b) ≤ c'
  chained c c1 c2 c' a b h le k = omega (arith, h, le, k, spent-append firsts a b)

  entry_fits : (pc l mark : ℕ) (e : Expression) (memory : List ℤ) (since : ℕ) (q : Core E) → Flows lat pc o → rel mark ≡ (lat.flows pc o && not (lat.flows l o))
      → l ≡ ls mark → (rel mark ≡ true → firsts (ls mark) ≤ prediction (value_of e memory) 0) →
      since + spent firsts (entry_of v lat g o lim (record { estimate = value_of e memory; level = l; mark = mark; since = since }) q) ≤
      (closed (record { estimate = value_of e memory; level = l; mark = mark; since = since }) q).clock
  entry_fits pc l mark e memory since q low tells level first = go (lat.flows l o) refl (leb (closed w q).clock lim)
    where
      w : Opened
      w = record { estimate = value_of e memory; level = l; mark = mark; since = since }

      count : ℕ
      count = misses_after w.estimate (q.clock - w.since) (q.misses w.level)

      go : (f : Bool) → lat.flows l o ≡ f → (b : Bool)
          → since + spent firsts (cond f [] (cond b ((l, count) ∷ []) [])) ≤ since + prediction (value_of e memory) count
      go true q1 b = omega arith
      go false q1 false = omega arith
      go false q1 true =
          let relevant : rel mark ≡ true = tells ∙ ap (λ f. f && not (lat.flows l o)) low ∙ ap (λ f. true && not f) q1 in
          let least : firsts l ≤ prediction (value_of e memory) 0 = subst (λ z. firsts z ≤ prediction (value_of e memory) 0) (sym level) (first relevant) in
          omega (arith, doubled (value_of e memory) count (firsts l) least)

  -- a mitigate that is not relevant has no entry of its own
  pub no_own : (pc l mark : ℕ) (w : Opened) (q : Core E) → w.level ≡ l → Flows lat pc o → rel mark ≡ (lat.flows pc o && not (lat.flows l o)) → rel mark ≡ false
      → entry_of v lat g o lim w q ≡ []
  no_own pc l mark w q level low tells none = go (lat.flows w.level o) refl
    where
      go : (f : Bool) → lat.flows w.level o ≡ f
          → cond {A = List Entry} f [] (cond (leb (closed w q).clock lim) ((w.level, misses_after w.estimate (q.clock - w.since) (q.misses w.level)) ∷ []) [])
          ≡ []
      go true e = refl
      go false e =
          let b : lat.flows l o ≡ false = ap (λ z. lat.flows z o) (sym level) ∙ e in
          let relevant : rel mark ≡ true = tells ∙ ap (λ f. f && not (lat.flows l o)) low ∙ ap (λ f. true && not f) b in
          let clash : true ≡ false = sym relevant ∙ none in
          absurd cc

  pub fits_run : {j : Job} {s s' : Core E} (pc : ℕ) → TellsJob v lat g o lim rel ls firsts total pc j → LevelsJob v lat g o lim rel ls firsts total j
      → ApartJob j → Flows lat pc o → (d : Runs v lat g lim j s s') (rest : Bare) → At (todo_of v lat g o lim rel ls firsts total j rest) s → s'.clock ≤ lim
      → tally v lat g o lim rel ls firsts total s' ≤ total → s.clock + spent firsts (record_of v lat g o lim d) ≤ s'.clock
  fits_run pc t l u low done rest h by fin = omega arith
  fits_run pc t l u low (late far) rest h by fin = absurd (omega arith)
  fits_run {s = s} pc t l u low (skip {r = r} k) rest h by fin =
      omega (
        arith,
        fits_run pc t l u low k rest (from_skip v lat g o lim rel ls firsts total tt (then_todo (commands_of r) rest) s.memory
            (tally v lat g o lim rel ls firsts total s) h) by fin,
      )
  fits_run {s = s} pc t l u low (assign {m = m} {x = x} {e = e} {r = r} {a = a} k) rest h by fin =
      omega (
        arith,
        timed_clock v m e a s,
        fits_run pc t l u low k rest (still (then_todo (commands_of r) rest) (written x (value_of e s.memory) (touched v m x (tested v m e a s)))
            (wrote v lat g o lim rel ls firsts total x (value_of e s.memory) (touched v m x (tested v m e a s)) (then_todo (commands_of r) rest)
            (from_same v lat g o lim rel ls firsts total (then_todo (commands_of r) rest) _ _ _ _
            (ap (λ z. slice_set z x (value_of e s.memory)) (tested_memory v lat g o lim rel ls firsts total m e a s))
            (ap (λ z. z + 1) (tested_tally v lat g o lim rel ls firsts total m e a s))
            (from_assign v lat g o lim rel ls firsts total tt x e (then_todo (commands_of r) rest) s.memory (tally v lat g o lim rel ls firsts total s) h)))
            (omega (arith, (grows_run v lat g o lim k).clock, by))) by fin,
      )
  fits_run {s = s} pc t l u low (put {m = m} {f = f} {n = n} {i = i} {e = e} {r = r} {a = a} k) rest h by fin =
      omega (
        arith,
        reached_clock v m i e a s,
        fits_run pc t l u low k rest (still (then_todo (commands_of r) rest)
            (written (element f n (value_of i s.memory)) (value_of e s.memory) (touched v m (element f n (value_of i s.memory)) (reached v m i e a s)))
            (wrote v lat g o lim rel ls firsts total (element f n (value_of i s.memory)) (value_of e s.memory)
            (touched v m (element f n (value_of i s.memory)) (reached v m i e a s)) (then_todo (commands_of r) rest)
            (from_same v lat g o lim rel ls firsts total (then_todo (commands_of r) rest) _ _ _ _
            (ap (λ z. slice_set z (element f n (value_of i s.memory)) (value_of e s.memory)) (reached_memory v lat g o lim rel ls firsts total m i e a s))
            (ap (λ z. z + 1) (reached_tally v lat g o lim rel ls firsts total m i e a s))
            (from_put v lat g o lim rel ls firsts total tt f n i e (then_todo (commands_of r) rest) s.memory (tally v lat g o lim rel ls firsts total s) h)))
            (omega (arith, (grows_run v lat g o lim k).clock, by))) by fin,
      )
  fits_run {s = s} pc t l u low (sleep {m = m} {e = e} {r = r} {a = a} k) rest h by fin =
      omega (
        arith,
        timed_clock v m e a s,
        fits_run pc t l u low k rest (from_same v lat g o lim rel ls firsts total (then_todo (commands_of r) rest) _ _ _ _
            (tested_memory v lat g o lim rel ls firsts total m e a s) (tested_tally v lat g o lim rel ls firsts total m e a s)
            (from_sleep v lat g o lim rel ls firsts total tt e (then_todo (commands_of r) rest) s.memory (tally v lat g o lim rel ls firsts total s) h)) by fin,
      )
  fits_run {s = s} {s' = s'} pc t l u low (if_true {m = m} {e = e} {c = c} {d = d} {r = r} {a = a} {s1 = s1} w b k) rest h by fin =
      let more = then_todo (commands_of r) rest in
      let x = label_of lat g e in
      let here = from_same v lat g o lim rel ls firsts total (then_todo (commands_of c) more) _ _ _ _ (tested_memory v lat g o lim rel ls firsts total m e a s)
      (tested_tally v lat g o lim rel ls firsts total m e a s) (from_if v lat g o lim rel ls firsts total tt e (commands_of c) (commands_of d) more s.memory
      (tally v lat g o lim rel ls firsts total s) true w h) in
      let after = (grows_run v lat g o lim k).clock in
      let inside = (grows_run v lat g o lim b).clock in
      let in_time : s1.clock ≤ lim = omega (arith, after, by) in
      chained s.clock s1.clock (fetched v (raised lat g e m) (a + expr_size e + 1 + size c) s1).clock s'.clock
      (cond (lat.flows x o) (record_of v lat g o lim b) []) (record_of v lat g o lim k)
      (guarded (lat.flows x o) s.clock s1.clock (record_of v lat g o lim b)
      (λ f. omega (
        arith,
        tested_clock v m e a s,
        fits_run (lat.join pc x) t.0 l.0 u.0 (ll.least pc x o low f) b more here in_time (omega (arith, mono v lat g o lim rel ls firsts total k, fin)),
      ))
      (omega (arith, tested_clock v m e a s, inside)))
      (omega arith)
      (fits_run pc t.2 l.2 u.2 low k rest (still more s1 (goes_on v lat g o lim rel ls firsts total b more here) in_time) by fin)
  fits_run {s = s} {s' = s'} pc t l u low (if_false {m = m} {e = e} {c = c} {d = d} {r = r} {a = a} {s1 = s1} w b k) rest h by fin =
      let more = then_todo (commands_of r) rest in
      let x = label_of lat g e in
      let here = from_same v lat g o lim rel ls firsts total (then_todo (commands_of d) more) _ _ _ _ (tested_memory v lat g o lim rel ls firsts total m e a s)
      (tested_tally v lat g o lim rel ls firsts total m e a s) (from_if v lat g o lim rel ls firsts total tt e (commands_of c) (commands_of d) more s.memory
      (tally v lat g o lim rel ls firsts total s) false w h) in
      let after = (grows_run v lat g o lim k).clock in
      let inside = (grows_run v lat g o lim b).clock in
      let in_time : s1.clock ≤ lim = omega (arith, after, by) in
      chained s.clock s1.clock s1.clock s'.clock (cond (lat.flows x o) (record_of v lat g o lim b) []) (record_of v lat g o lim k)
      (guarded (lat.flows x o) s.clock s1.clock (record_of v lat g o lim b)
      (λ f. omega (
        arith,
        tested_clock v m e a s,
        fits_run (lat.join pc x) t.1 l.1 u.1 (ll.least pc x o low f) b more here in_time (omega (arith, mono v lat g o lim rel ls firsts total k, fin)),
      ))
      (omega (arith, tested_clock v m e a s, inside)))
      (omega arith)
      (fits_run pc t.2 l.2 u.2 low k rest (still more s1 (goes_on v lat g o lim rel ls firsts total b more here) in_time) by fin)
  fits_run {s = s} {s' = s'} pc t l u low (while_none {m = m} {e = e} {c = c} {r = r} {a = a} w k) rest h by fin =
      let more = then_todo (commands_of r) rest in
      let s0 = tested v m e a s in
      chained s.clock s0.clock s0.clock s'.clock (cond (lat.flows (label_of lat g e) o) [] []) (record_of v lat g o lim k)
      (guarded (lat.flows (label_of lat g e) o) s.clock s0.clock [] (λ f. omega (arith, tested_clock v m e a s)) (tested_clock v m e a s))
      (omega arith)
      (fits_run pc t.1 l.1 u.1 low k rest (from_same v lat g o lim rel ls firsts total more _ _ _ _ (tested_memory v lat g o lim rel ls firsts total m e a s)
      (tested_tally v lat g o lim rel ls firsts total m e a s)
      (from_while v lat g o lim rel ls firsts total tt e (commands_of c) more s.memory (tally v lat g o lim rel ls firsts total s) false w h)) by fin)
  fits_run {s = s} {s' = s'} pc t l u low (while_some {m = m} {e = e} {c = c} {r = r} {a = a} {s1 = s1} w b k) rest h by fin =
      let more = then_todo (commands_of r) rest in
      let x = label_of lat g e in
      let here = from_same v lat g o lim rel ls firsts total (then_todo (commands_of c) (While tt e (commands_of c) more)) _ _ _ _
      (tested_memory v lat g o lim rel ls firsts total m e a s) (tested_tally v lat g o lim rel ls firsts total m e a s)
      (from_while v lat g o lim rel ls firsts total tt e (commands_of c) more s.memory (tally v lat g o lim rel ls firsts total s) true w h) in
      let after = (grows_run v lat g o lim k).clock in
      let inside = (grows_run v lat g o lim b).clock in
      let in_time : s1.clock ≤ lim = omega (arith, after, by) in
      chained s.clock s1.clock s1.clock s'.clock (cond (lat.flows x o) (record_of v lat g o lim b) []) (record_of v lat g o lim k)
      (guarded (lat.flows x o) s.clock s1.clock (record_of v lat g o lim b)
      (λ f. omega (
        arith,
        tested_clock v m e a s,
        fits_run (lat.join pc x) t.0 l.0 u.0 (ll.least pc x o low f) b more here in_time (omega (arith, mono v lat g o lim rel ls firsts total k, fin)),
      ))
      (omega (arith, tested_clock v m e a s, inside)))
      (omega arith)
      (fits_run pc t.1 l.1 u.1 low k rest (still more s1 (goes_on v lat g o lim rel ls firsts total b more here) in_time) by fin)
  fits_run {s = s} {s' = s'} pc t l u low (mitigate {m = m} {k = mark} {l = level} {e = e} {c = c} {r = r} {a = a} {s1 = s1} b k) rest h by fin =
      let more = then_todo (commands_of r) rest in
      let s0 = tested v m e a s in
      let s2 = fetched v m (a + expr_size e + 1 + size c) s1 in
      let w = opening (value_of e s.memory) level mark s0 in
      let begins = began v lat g o lim rel ls firsts total mark s0 (then_todo (commands_of c) more)
      (from_same v lat g o lim rel ls firsts total (then_todo (commands_of c) more) _ _ _ _ (tested_memory v lat g o lim rel ls firsts total m e a s)
      (ap (λ z. z + 1) (tested_tally v lat g o lim rel ls firsts total m e a s))
      (from_mitigate v lat g o lim rel ls firsts total tt tt mark e (commands_of c) more s.memory (tally v lat g o lim rel ls firsts total s) h)) in
      let inside = (grows_run v lat g o lim b).clock in
      let after = (grows_run v lat g o lim k).clock in
      let closing = ends_after v lat g o lim rel ls firsts total m mark level (value_of e s.memory) (a + expr_size e + 1 + size c) s0 s1 inside in
      let in_time : s1.clock ≤ lim = omega (arith, after, by, closing) in
      let start_in : s0.clock ≤ lim = omega (arith, inside, in_time) in
      let here = still (then_todo (commands_of c) more) (begun mark s0) begins start_in in
      let inner : tally v lat g o lim rel ls firsts total s1 ≤ total =
      omega (arith, closed_tally v lat g o lim rel ls firsts total w s2, mono v lat g o lim rel ls firsts total k, fin) in
      let counted = noted_in v lat g o lim rel ls firsts total s0.log (Began mark s0.clock) start_in refl in
      let own = record_of v lat g o lim b in
      let entry = entry_of v lat g o lim w s2 in
      let fits = entry_fits pc level mark e s.memory s0.clock s2 low t.0 l.0
      (h.2 0 (omega (arith, h.1, tested_tally v lat g o lim rel ls firsts total m e a s, counted, mono v lat g o lim rel ls firsts total b, inner))) in
      chained s.clock (closed w s2).clock (closed w s2).clock s'.clock (own ++ entry) (record_of v lat g o lim k)
      (omega (
        arith,
        tested_clock v m e a s,
        both (rel mark) refl s0.clock s1.clock (closed w s2).clock own entry closing
            (λ q. none_record pc t.1 (u.0 q) low b) (λ q. no_own pc level mark w s2 refl low t.0 q) fits
            (λ q. fits_run pc t.1 l.1 u.1 low b more here in_time inner),
      ))
      (omega arith)
      (fits_run pc t.2 l.2 u.2 low k rest (from_same v lat g o lim rel ls firsts total more _ _ _ _ refl (closed_tally v lat g o lim rel ls firsts total w s2)
      (still more s1 (goes_on v lat g o lim rel ls firsts total b more here) in_time)) by fin)
    where
      both : (x : Bool) → rel mark ≡ x → (c0 c1 c2 : ℕ) (own entry : List Entry) → c1 ≤ c2 → (rel mark ≡ true → own ≡ []) → (rel mark ≡ false → entry ≡ [])
          → c0 + spent firsts entry ≤ c2 → (rel mark ≡ false → c0 + spent firsts own ≤ c1) → c0 + spent firsts (own ++ entry) ≤ c2
      both true q c0 c1 c2 own entry le none nothing fits body = let e = ap (spent firsts) (none q) in omega (arith, e, spent-append firsts own entry, fits)
      both false q c0 c1 c2 own entry le none nothing fits body = let e = ap (spent firsts) (nothing q) in
          omega (arith, e, spent-append firsts own entry, body q, le)
  fits_run pc t l u low (last {m = m} {e = e} {c = c} {a = a} {s1 = s1} b w) rest h by fin =
      let up = tested_clock v (raised lat g e m) e (a + size c) s1 in
      omega (
        arith,
        up,
        fits_run pc t l u low b (While tt e (commands_of c) rest) h (omega (arith, up, by))
            (omega (arith, tested_tally v lat g o lim rel ls firsts total (raised lat g e m) e (a + size c) s1, fin)),
      )
  fits_run {s = s} {s' = s'} pc t l u low (again {m = m} {e = e} {c = c} {a = a} {s1 = s1} b w k) rest h by fin =
      let todo = While tt e (commands_of c) rest in
      let up = tested_clock v (raised lat g e m) e (a + size c) s1 in
      let after = (grows_run v lat g o lim k).clock in
      let in_time : s1.clock ≤ lim = omega (arith, after, by, up) in
      let there = from_same v lat g o lim rel ls firsts total (then_todo (commands_of c) todo) _ _ _ _
      (tested_memory v lat g o lim rel ls firsts total (raised lat g e m) e (a + size c) s1)
      (tested_tally v lat g o lim rel ls firsts total (raised lat g e m) e (a + size c) s1)
      (from_while v lat g o lim rel ls firsts total tt e (commands_of c) rest s1.memory (tally v lat g o lim rel ls firsts total s1) true w
      (still todo s1 (goes_on v lat g o lim rel ls firsts total b todo h) in_time)) in
      chained s.clock s1.clock (tested v (raised lat g e m) e (a + size c) s1).clock s'.clock (record_of v lat g o lim b) (record_of v lat g o lim k)
      (fits_run pc t l u low b todo h in_time (omega (
        arith,
        tested_tally v lat g o lim rel ls firsts total (raised lat g e m) e (a + size c) s1,
        mono v lat g o lim rel ls firsts total k,
        fin,
      ))) up
      (fits_run pc t l u low k rest there by fin)
