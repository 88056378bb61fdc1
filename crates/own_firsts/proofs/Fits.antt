-- Where no relevant mitigate stands in another, the cycles of a run's entries fit into the run, each with its own first
-- prediction.
use Rattle.std.proofs.Common.{◌≡◌, ℕ, suc, ◌+◌, ◌-◌, ◌≤◌, ◌<◌, List, [], ◌∷◌, ◌++◌, length}
use Rattle.std.proofs.Common.{Bool, true, false, refl, sym, ap, ◌∙◌, subst, arith}
use Rattle.std.specs.Prelude.{cond, not, leb, ◌&&◌, ℤ}
use Rattle.mit_syntax.specs.Expression.{Expression}
use Rattle.mit_syntax.specs.Todo.{Marked, Done, If, While, Mitigate, then_todo, commands_of}
use Rattle.mit_syntax.specs.Values.{element, value_of}
use Rattle.doubling_schedule.specs.Doubling.{prediction, misses_after}
use Rattle.label_lattice.specs.Lattice.{Lattice, Flows, IsLattice}
use Rattle.timing_types.specs.Typing.{label_of}
use Rattle.source_meaning.specs.Source.{Source}
use Rattle.env_contract.specs.Env.{Env}
use Rattle.env_contract.specs.Laws.{IsLawful}
use Rattle.label_code.specs.Machine.{Core, Opened, Began, fetched, touched, written, closed}
use Rattle.label_code.proofs.Upto.{upto}
use Rattle.code_lower.specs.Follows.{told}
use Rattle.code_lower.specs.Layout.{expr_size, size, raised}
use Rattle.code_lower.proofs.Timed.{timed_clock, tested_clock, reached_clock, tested, reached, begun, opening}
use Rattle.leak_bound.specs.Records.{Entry}
use Rattle.leak_bound.specs.Relevant.{LevelsAre}
use Rattle.leak_bound.proofs.Final.{begun-told}
use Rattle.leak_bound.proofs.Low.{entry_of, record_of}
use Rattle.leak_bound.proofs.Record.{grows_run}
use Rattle.leak_bound.proofs.Runs.{Job, Do, Loop, Runs, done, skip, assign, put, sleep, if_true, if_false, while_none, while_some, mitigate, last, again, late}
use Rattle.leak_bound.proofs.Tells.{Tells}
use Rattle.sharp_bound.specs.Firsts.{PredictsNext}
use Rattle.sharp_bound.specs.Shared.{StandApart}
use Rattle.sharp_bound.proofs.Firsts.{Bare, doubled, mono, noted_in, tested_tally, closed_tally}
use Rattle.leak_bound.proofs.Counting.{picked, is_at}
use Rattle.sharp_bound.proofs.Shared.{none_record, no_own}
use Rattle.own_firsts.specs.Predicted.{begun_of}
use Rattle.own_firsts.proofs.Balance.{begun_at, grown, tested_begins, reached_begins, written_begins, begun_begins}
use Rattle.own_firsts.proofs.Following.{Here, todo_of, still, goes_on, after_assign, after_put, after_sleep, after_if, after_while, after_begin}
use Rattle.own_firsts.proofs.Following.{after_close, after_fetch, after_body, ends_after}
use Rattle.own_firsts.proofs.Spent.{spent_own, spent_append, after_these, guarded, chained, picked_alone}

module _ {E : Type 0} {serves : E → Type 0} (v : Env E) (lat : Lattice) (ll : IsLattice lat) (laws : IsLawful v lat serves) (g : ℕ → ℕ) (o lim : ℕ)
    (rel : ℕ → Bool) (ls : ℕ → ℕ) (firsts : ℕ → ℕ → ℕ) (total : ℕ) where
  -- a relevant mitigate that is next has such a first prediction, while fewer notes are told than so many
  abbrev pub Predicted : Source (Unit {0}) (Unit {0}) → Type 0
  Predicted s = length s.notes < total → PredictsNext rel ls (λ l. firsts l (begun_of rel ls s.notes l)) s.todo s.memory

  abbrev pub At : Bare → Core E → Type 0
  At todo s = Here v lat g o lim Predicted todo s

  abbrev tally : Core E → ℕ
  tally s = length (told (upto lim s.log))

  -- these are how many of each level have begun
  abbrev pub AreBegun : (ℕ → ℕ) → Core E → Type 0
  AreBegun x s = (l : ℕ) → x l ≡ begun_at v lat ll laws g o lim rel ls l s

  abbrev pub TellsJob : ℕ → Job → Type 0
  TellsJob pc (Do p a) = Tells lat g o rel pc p
  TellsJob pc (Loop m e c a) = Tells lat g o rel pc c

  abbrev pub LevelsJob : Job → Type 0
  LevelsJob (Do p a) = LevelsAre ls p
  LevelsJob (Loop m e c a) = LevelsAre ls c

  abbrev pub ApartJob : Job → Type 0
  ApartJob (Do p a) = StandApart rel (commands_of p)
  ApartJob (Loop m e c a) = StandApart rel (commands_of c)

  abbrev of : ℕ → ℕ → Bool
  of l k = rel k && is_at l (ls k)

  -- after the first command of a job, of which nothing is left but that
  rest_begun : {p : Marked} {a : ℕ} {s s' : Core E} (pc : ℕ) → Tells lat g o rel pc p → LevelsAre ls p → Flows lat pc o
      → (d : Runs v lat g lim (Do p a) s s') → s'.clock ≤ lim → (r : List Entry) → record_of v lat g o lim d ≡ r ++ [] → (x : ℕ → ℕ) → AreBegun x s
      → AreBegun (after_these x r) s'
  rest_begun pc t u low d by r is x h l =
      let c = grown v lat ll laws g o lim rel ls pc l t u low d by in
      let k = ap (picked (is_at l)) is in
      omega (arith, c, k, picked_alone (is_at l) r, h l)

  entry_fits : (pc l mark : ℕ) (e : Expression) (memory : List ℤ) (since : ℕ) (q : Core E) (x : ℕ → ℕ) → Flows lat pc o
      → rel mark ≡ (lat.flows pc o && not (lat.flows l o)) → l ≡ ls mark
      → (rel mark ≡ true → firsts (ls mark) (x (ls mark)) ≤ prediction (value_of e memory) 0) →
      since + spent_own firsts x (entry_of v lat g o lim (record { estimate = value_of e memory; level = l; mark = mark; since = since }) q) ≤
      (closed (record { estimate = value_of e memory; level = l; mark = mark; since = since }) q).clock
  entry_fits pc l mark e memory since q x low tells level first = go (lat.flows l o) refl (leb (closed w q).clock lim)
    where
      w : Opened
      w = record { estimate = value_of e memory; level = l; mark = mark; since = since }

      count : ℕ
      count = misses_after w.estimate (q.clock - w.since) (q.misses w.level)

      go : (f : Bool) → lat.flows l o ≡ f → (b : Bool)
          → since + spent_own firsts x (cond f [] (cond b ((l, count) ∷ []) [])) ≤ since + prediction (value_of e memory) count
      go true q1 b = omega arith
      go false q1 false = omega arith
      go false q1 true =
          let relevant : rel mark ≡ true = tells ∙ ap (λ f. f && not (lat.flows l o)) low ∙ ap (λ f. true && not f) q1 in
          let least : firsts l (x l) ≤ prediction (value_of e memory) 0 =
          subst (λ z. firsts z (x z) ≤ prediction (value_of e memory) 0) (sym level) (first relevant) in
          omega (arith, doubled (value_of e memory) count (firsts l (x l)) least)

  -- a mitigate's body and its entry, of which there is one at most
  one_of : (x : ℕ → ℕ) (f : Bool) (c0 c1 c2 : ℕ) (own entry : List Entry) → c1 ≤ c2 → (f ≡ true → own ≡ []) → (f ≡ false → entry ≡ [])
      → c0 + spent_own firsts x entry ≤ c2 → (f ≡ false → c0 + spent_own firsts x own ≤ c1) → c0 + spent_own firsts x (own ++ entry) ≤ c2
  one_of x true c0 c1 c2 own entry le none nothing fits body =
      let e = ap (λ z. spent_own firsts x (z ++ entry)) (none refl) in
      omega (arith, e, fits)
  one_of x false c0 c1 c2 own entry le none nothing fits body =
      let e = ap (λ z. spent_own firsts (after_these x own) z) (nothing refl) in
      omega (arith, e, spent_append firsts x own entry, body refl, le)

  pub fits_run : {j : Job} {s s' : Core E} (pc : ℕ) → TellsJob pc j → LevelsJob j → ApartJob j → Flows lat pc o
      → (d : Runs v lat g lim j s s') (rest : Bare) → At (todo_of v lat g o lim Predicted j rest) s → s'.clock ≤ lim → tally s' ≤ total
      → (x : ℕ → ℕ) → AreBegun x s → s.clock + spent_own firsts x (record_of v lat g o lim d) ≤ s'.clock
  fits_run pc t l u low done rest h by fin x are = omega arith
  fits_run pc t l u low (late far) rest h by fin x are = absurd (omega arith)
  fits_run {s = s} pc t l u low (skip {r = r} k) rest h by fin x are =
      omega (arith, fits_run pc t l u low k rest (λ n. h (suc n)) by fin x are)
  fits_run {s = s} pc t l u low (assign {m = m} {x = y} {e = e} {r = r} {a = a} k) rest h by fin x are =
      let q = touched v m y (tested v m e a s) in
      let more = then_todo (commands_of r) rest in
      let after = (grows_run v lat g o lim k).clock in
      omega (
        arith,
        timed_clock v m e a s,
        fits_run pc t l u low k rest
            (still v lat g o lim Predicted more (written y (value_of e s.memory) q) (after_assign v lat g o lim Predicted m y e more a s h)
            (omega (arith, after, by)))
            by fin x
            (λ i. are i ∙ sym (written_begins v lat g o lim (of i) y (value_of e s.memory) q ∙ tested_begins v lat g o lim (of i) m e a s)),
      )
  fits_run {s = s} pc t l u low (put {m = m} {f = f} {n = n} {i = i} {e = e} {r = r} {a = a} k) rest h by fin x are =
      let y = element f n (value_of i s.memory) in
      let q = touched v m y (reached v m i e a s) in
      let more = then_todo (commands_of r) rest in
      let after = (grows_run v lat g o lim k).clock in
      omega (
        arith,
        reached_clock v m i e a s,
        fits_run pc t l u low k rest
            (still v lat g o lim Predicted more (written y (value_of e s.memory) q) (after_put v lat g o lim Predicted m f n i e more a s h)
            (omega (arith, after, by)))
            by fin x
            (λ z. are z ∙ sym (written_begins v lat g o lim (of z) y (value_of e s.memory) q ∙ reached_begins v lat g o lim (of z) m i e a s)),
      )
  fits_run {s = s} pc t l u low (sleep {m = m} {e = e} {r = r} {a = a} k) rest h by fin x are =
      omega (
        arith,
        timed_clock v m e a s,
        fits_run pc t l u low k rest (after_sleep v lat g o lim Predicted m e (then_todo (commands_of r) rest) a s h) by fin x
            (λ i. are i ∙ sym (tested_begins v lat g o lim (of i) m e a s)),
      )
  fits_run {s = s} {s' = s'} pc t l u low (if_true {m = m} {e = e} {c = c} {d = d} {r = r} {a = a} {s1 = s1} w b k) rest h by fin x are =
      let more = then_todo (commands_of r) rest in
      let y = label_of lat g e in
      let s2 = fetched v (raised lat g e m) (a + expr_size e + 1 + size c) s1 in
      let here = after_if v lat g o lim Predicted m e (commands_of c) (commands_of d) more a s true w h in
      let after = (grows_run v lat g o lim k).clock in
      let inside = (grows_run v lat g o lim b).clock in
      let in_time : s1.clock ≤ lim = omega (arith, after, by) in
      let first = cond (lat.flows y o) (record_of v lat g o lim b) [] in
      chained firsts x s.clock s1.clock s2.clock s'.clock first (record_of v lat g o lim k)
      (guarded firsts x (lat.flows y o) s.clock s1.clock (record_of v lat g o lim b)
      (λ f. omega (
        arith,
        tested_clock v m e a s,
        fits_run (lat.join pc y) t.0 l.0 u.0 (ll.least pc y o low f) b more here in_time
            (omega (arith, mono v lat g o lim rel ls (λ z. 0) total k, fin)) x (λ i. are i ∙ sym (tested_begins v lat g o lim (of i) m e a s)),
      ))
      (omega (arith, tested_clock v m e a s, inside)))
      (omega arith)
      (fits_run pc t.2 l.2 u.2 low k rest
      (still v lat g o lim Predicted more s2
      (after_fetch v lat g o lim Predicted (raised lat g e m) (a + expr_size e + 1 + size c) more s1 (goes_on v lat g o lim Predicted b more here))
      (omega (arith, after, by))) by fin (after_these x first)
      (rest_begun {p = If m e c d Done} {a = a} pc (t.0, t.1, tt) (l.0, l.1, tt) low (if_true w b done) (omega (arith, after, by)) first refl x are))
  fits_run {s = s} {s' = s'} pc t l u low (if_false {m = m} {e = e} {c = c} {d = d} {r = r} {a = a} {s1 = s1} w b k) rest h by fin x are =
      let more = then_todo (commands_of r) rest in
      let y = label_of lat g e in
      let here = after_if v lat g o lim Predicted m e (commands_of c) (commands_of d) more a s false w h in
      let after = (grows_run v lat g o lim k).clock in
      let inside = (grows_run v lat g o lim b).clock in
      let in_time : s1.clock ≤ lim = omega (arith, after, by) in
      let first = cond (lat.flows y o) (record_of v lat g o lim b) [] in
      chained firsts x s.clock s1.clock s1.clock s'.clock first (record_of v lat g o lim k)
      (guarded firsts x (lat.flows y o) s.clock s1.clock (record_of v lat g o lim b)
      (λ f. omega (
        arith,
        tested_clock v m e a s,
        fits_run (lat.join pc y) t.1 l.1 u.1 (ll.least pc y o low f) b more here in_time
            (omega (arith, mono v lat g o lim rel ls (λ z. 0) total k, fin)) x (λ i. are i ∙ sym (tested_begins v lat g o lim (of i) m e a s)),
      ))
      (omega (arith, tested_clock v m e a s, inside)))
      (omega arith)
      (fits_run pc t.2 l.2 u.2 low k rest
      (still v lat g o lim Predicted more s1 (goes_on v lat g o lim Predicted b more here) in_time) by fin (after_these x first)
      (rest_begun {p = If m e c d Done} {a = a} pc (t.0, t.1, tt) (l.0, l.1, tt) low (if_false w b done) in_time first refl x are))
  fits_run {s = s} {s' = s'} pc t l u low (while_none {m = m} {e = e} {c = c} {r = r} {a = a} w k) rest h by fin x are =
      let more = then_todo (commands_of r) rest in
      let s0 = tested v m e a s in
      let after = (grows_run v lat g o lim k).clock in
      let first = cond {A = List Entry} (lat.flows (label_of lat g e) o) [] [] in
      chained firsts x s.clock s0.clock s0.clock s'.clock first (record_of v lat g o lim k)
      (guarded firsts x (lat.flows (label_of lat g e) o) s.clock s0.clock [] (λ f. omega (arith, tested_clock v m e a s)) (tested_clock v m e a s))
      (omega arith)
      (fits_run pc t.1 l.1 u.1 low k rest (after_while v lat g o lim Predicted m e (commands_of c) more a s false w h) by fin (after_these x first)
      (rest_begun {p = While m e c Done} {a = a} pc (t.0, tt) (l.0, tt) low (while_none w done) (omega (arith, after, by)) first refl x are))
  fits_run {s = s} {s' = s'} pc t l u low (while_some {m = m} {e = e} {c = c} {r = r} {a = a} {s1 = s1} w b k) rest h by fin x are =
      let more = then_todo (commands_of r) rest in
      let y = label_of lat g e in
      let here = after_while v lat g o lim Predicted m e (commands_of c) more a s true w h in
      let after = (grows_run v lat g o lim k).clock in
      let inside = (grows_run v lat g o lim b).clock in
      let in_time : s1.clock ≤ lim = omega (arith, after, by) in
      let first = cond (lat.flows y o) (record_of v lat g o lim b) [] in
      chained firsts x s.clock s1.clock s1.clock s'.clock first (record_of v lat g o lim k)
      (guarded firsts x (lat.flows y o) s.clock s1.clock (record_of v lat g o lim b)
      (λ f. omega (
        arith,
        tested_clock v m e a s,
        fits_run (lat.join pc y) t.0 l.0 u.0 (ll.least pc y o low f) b more here in_time
            (omega (arith, mono v lat g o lim rel ls (λ z. 0) total k, fin)) x (λ i. are i ∙ sym (tested_begins v lat g o lim (of i) m e a s)),
      ))
      (omega (arith, tested_clock v m e a s, inside)))
      (omega arith)
      (fits_run pc t.1 l.1 u.1 low k rest
      (still v lat g o lim Predicted more s1 (goes_on v lat g o lim Predicted b more here) in_time) by fin (after_these x first)
      (rest_begun {p = While m e c Done} {a = a} pc (t.0, tt) (l.0, tt) low (while_some w b done) in_time first refl x are))
  fits_run {s = s} {s' = s'} pc t l u low (mitigate {m = m} {k = mark} {l = level} {e = e} {c = c} {r = r} {a = a} {s1 = s1} b k) rest h by fin x are =
      let more = then_todo (commands_of r) rest in
      let s0 = tested v m e a s in
      let s2 = fetched v m (a + expr_size e + 1 + size c) s1 in
      let w = opening (value_of e s.memory) level mark s0 in
      let begins = after_begin v lat g o lim Predicted m mark e (commands_of c) more a s h in
      let inside = (grows_run v lat g o lim b).clock in
      let after = (grows_run v lat g o lim k).clock in
      let closing = ends_after v lat g o lim Predicted m mark level (value_of e s.memory) (a + expr_size e + 1 + size c) s0 s1 inside in
      let in_time : s1.clock ≤ lim = omega (arith, after, by, closing) in
      let start_in : s0.clock ≤ lim = omega (arith, inside, in_time) in
      let here = still v lat g o lim Predicted (then_todo (commands_of c) more) (begun mark s0) begins start_in in
      let inner : tally s1 ≤ total =
      omega (arith, closed_tally v lat g o lim rel ls (λ z. 0) total w s2, mono v lat g o lim rel ls (λ z. 0) total k, fin) in
      let counted = noted_in v lat g o lim rel ls (λ z. 0) total s0.log (Began mark s0.clock) start_in refl in
      let before : tally s < total =
      omega (arith, tested_tally v lat g o lim rel ls (λ z. 0) total m e a s, counted, mono v lat g o lim rel ls (λ z. 0) total b, inner) in
      let own = record_of v lat g o lim b in
      let entry = entry_of v lat g o lim w s2 in
      let first = own ++ entry in
      let fits = entry_fits pc level mark e s.memory s0.clock s2 x low t.0 l.0
      (λ q. subst (λ z. firsts (ls mark) z ≤ prediction (value_of e s.memory) 0)
      (sym (are (ls mark) ∙ begun-told (of (ls mark)) (upto lim s.log))) (h 0 before q)) in
      chained firsts x s.clock (closed w s2).clock (closed w s2).clock s'.clock first (record_of v lat g o lim k)
      (omega (
        arith,
        tested_clock v m e a s,
        one_of x (rel mark) s0.clock s1.clock (closed w s2).clock own entry closing
            (λ q. none_record v lat ll laws g o lim rel ls (λ z. 0) total pc t.1 (u.0 q) low b)
            (λ q. no_own v lat ll laws g o lim rel ls (λ z. 0) total pc level mark w s2 refl low t.0 q) fits
            (λ q. fits_run pc t.1 l.1 u.1 low b more here in_time inner x
            (λ i. are i ∙ sym (begun_begins v lat g o lim (of i) mark s0 (ap (λ z. z && is_at i (ls mark)) q)
            ∙ tested_begins v lat g o lim (of i) m e a s))),
      ))
      (omega arith)
      (fits_run pc t.2 l.2 u.2 low k rest
      (still v lat g o lim Predicted more (closed w s2)
      (after_close v lat g o lim Predicted w m (a + expr_size e + 1 + size c) more s1 closing (goes_on v lat g o lim Predicted b more here))
      (omega (arith, after, by))) by fin (after_these x first)
      (rest_begun {p = Mitigate m mark level e c Done} {a = a} pc (t.0, t.1, tt) (l.0, l.1, tt) low (mitigate b done)
      (omega (arith, after, by)) first refl x are))
  fits_run pc t l u low (last {m = m} {e = e} {c = c} {a = a} {s1 = s1} b w) rest h by fin x are =
      let up = tested_clock v (raised lat g e m) e (a + size c) s1 in
      omega (
        arith,
        up,
        fits_run pc t l u low b (While tt e (commands_of c) rest) h (omega (arith, up, by))
            (omega (arith, tested_tally v lat g o lim rel ls (λ z. 0) total (raised lat g e m) e (a + size c) s1, fin)) x are,
      )
  fits_run {s = s} {s' = s'} pc t l u low (again {m = m} {e = e} {c = c} {a = a} {s1 = s1} b w k) rest h by fin x are =
      let todo = While tt e (commands_of c) rest in
      let s2 = tested v (raised lat g e m) e (a + size c) s1 in
      let up = tested_clock v (raised lat g e m) e (a + size c) s1 in
      let after = (grows_run v lat g o lim k).clock in
      let in_time : s1.clock ≤ lim = omega (arith, after, by, up) in
      let first = record_of v lat g o lim b in
      let there = still v lat g o lim Predicted (then_todo (commands_of c) todo) s2
      (after_body v lat g o lim Predicted (raised lat g e m) e (commands_of c) rest (a + size c) s1 true w (goes_on v lat g o lim Predicted b todo h))
      (omega (arith, after, by)) in
      chained firsts x s.clock s1.clock s2.clock s'.clock first (record_of v lat g o lim k)
      (fits_run pc t l u low b todo h in_time (omega (
        arith,
        tested_tally v lat g o lim rel ls (λ z. 0) total (raised lat g e m) e (a + size c) s1,
        mono v lat g o lim rel ls (λ z. 0) total k,
        fin,
      )) x are) up
      (fits_run pc t l u low k rest there by fin (after_these x first)
      (λ i. let c1 = grown v lat ll laws g o lim rel ls pc i t l low b in_time in
      let c2 = tested_begins v lat g o lim (of i) (raised lat g e m) e (a + size c) s1 in omega (arith, c1, c2, are i)))
