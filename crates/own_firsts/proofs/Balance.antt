-- What a run begins up to the cut it also ends, where it comes to its end in time.
use Rattle.std.proofs.Common.{◌≡◌, ℕ, ◌+◌, ◌≤◌, List, [], ◌∷◌, ◌++◌, refl, ap, ◌∙◌, arith}
use Rattle.std.specs.Prelude.{Bool, true, false, cond, leb, ◌&&◌, ℤ}
use Rattle.std.proofs.lemmas.Bool.{le-leb}
use Rattle.mit_syntax.specs.Expression.{Expression}
use Rattle.mit_syntax.specs.Todo.{Marks, Marked}
use Rattle.mit_syntax.specs.Values.{element, value_of}
use Rattle.label_lattice.specs.Lattice.{Lattice, Flows, IsLattice}
use Rattle.env_contract.specs.Env.{Env}
use Rattle.env_contract.specs.Laws.{IsLawful}
use Rattle.label_code.specs.Machine.{Core, Opened, Event, Wrote, Began, Ended, fetched, touched, written, closed}
use Rattle.label_code.proofs.Upto.{clock_of, upto, upto-append}
use Rattle.code_lower.specs.Layout.{expr_size, size, raised}
use Rattle.code_lower.proofs.Timed.{timed_log, reached_log, tested_clock, tested, reached, begun, opening}
use Rattle.leak_bound.specs.Relevant.{begun_count, ended_count, LevelsAre}
use Rattle.leak_bound.proofs.Balance.{begun-append}
use Rattle.leak_bound.proofs.Low.{record_of}
use Rattle.leak_bound.proofs.Marks.{nought, tested_count, reached_count, written_count, closed_count, low_count}
use Rattle.leak_bound.proofs.Marks.{begun_count as begun_same}
use Rattle.leak_bound.proofs.Record.{closed_grows, grows_run}
use Rattle.leak_bound.proofs.Runs.{Job, Do, Runs, done, skip, assign, put, sleep, if_true, if_false, while_none, while_some, mitigate, last, again, late}
use Rattle.leak_bound.proofs.Tells.{Tells, tells_both}
use Rattle.leak_bound.proofs.Counting.{picked, is_at}

-- one event more
one_begun : (rel : ℕ → Bool) (lim : ℕ) (es : List Event) (e : Event)
    → begun_count rel (upto lim (es ++ e ∷ [])) ≡ begun_count rel (upto lim es) + cond (leb (clock_of e) lim) (begun_count rel (e ∷ [])) 0
one_begun rel lim es e = ap (begun_count rel) (upto-append lim es (e ∷ [])) ∙ begun-append rel (upto lim es) (upto lim (e ∷ []))
    ∙ ap (λ z. begun_count rel (upto lim es) + z) (go (leb (clock_of e) lim))
  where
    go : (b : Bool) → begun_count rel (cond b (e ∷ []) []) ≡ cond b (begun_count rel (e ∷ [])) 0
    go true = refl
    go false = refl

module _ {E : Type 0} (v : Env E) (lat : Lattice) (g : ℕ → ℕ) (o lim : ℕ) (rel : ℕ → Bool) where
  abbrev pub begins : Core E → ℕ
  begins s = begun_count rel (upto lim s.log)

  abbrev ends : Core E → ℕ
  ends s = ended_count rel (upto lim s.log)

  pub tested_begins : (m : Marks) (e : Expression) (a : ℕ) (s : Core E) → begins (tested v m e a s) ≡ begins s
  tested_begins m e a s = ap (λ z. begun_count rel (upto lim z)) (timed_log v m e a s)

  pub reached_begins : (m : Marks) (i e : Expression) (a : ℕ) (s : Core E) → begins (reached v m i e a s) ≡ begins s
  reached_begins m i e a s = ap (λ z. begun_count rel (upto lim z)) (reached_log v m i e a s)

  pub written_begins : (x : ℕ) (n : ℤ) (s : Core E) → begins (written x n s) ≡ begins s
  written_begins x n s = omega (arith, one_begun rel lim s.log (Wrote x n s.clock), nought (leb s.clock lim))

  -- a mitigation that does not count
  pub begun_begins : (k : ℕ) (s : Core E) → rel k ≡ false → begins (begun k s) ≡ begins s
  begun_begins k s none =
      let c = ap (λ b. cond {A = ℕ} (leb s.clock lim) (cond b 1 0 + 0) 0) none in
      omega (arith, one_begun rel lim s.log (Began k s.clock), c, nought (leb s.clock lim))

  closed_begins : (w : Opened) (s : Core E) → begins (closed w s) ≡ begins s
  closed_begins w s = omega (arith, one_begun rel lim s.log (Ended w.mark (closed w s).clock), nought (leb (closed w s).clock lim))

  begun_in : (k : ℕ) (s : Core E) → s.clock ≤ lim → begins (begun k s) ≡ begins s + cond (rel k) 1 0
  begun_in k s by =
      let c = ap (λ b. cond {A = ℕ} b (cond (rel k) 1 0 + 0) 0) (le-leb s.clock lim by) in
      omega (arith, one_begun rel lim s.log (Began k s.clock), c)

  closed_in : (w : Opened) (s : Core E) → (closed w s).clock ≤ lim → ends (closed w s) ≡ ends s + cond (rel w.mark) 1 0
  closed_in w s by =
      let c = ap (λ b. cond {A = ℕ} b (cond (rel w.mark) 1 0 + 0) 0) (le-leb (closed w s).clock lim by) in
      omega (arith, closed_count v lim rel w s, c)

  balanced : {j : Job} {s s' : Core E} (d : Runs v lat g lim j s s') → s'.clock ≤ lim → begins s' + ends s ≡ begins s + ends s'
  balanced done by = refl
  balanced (late far) by = absurd (omega arith)
  balanced (skip k) by = balanced k by
  balanced {s = s} (assign {m = m} {x = x} {e = e} {a = a} k) by =
      let q = touched v m x (tested v m e a s) in
      omega (
        arith,
        balanced k by,
        written_begins x (value_of e s.memory) q,
        tested_begins m e a s,
        written_count v lim rel x (value_of e s.memory) q,
        tested_count v lim rel m e a s,
      )
  balanced {s = s} (put {m = m} {f = f} {n = n} {i = i} {e = e} {a = a} k) by =
      let x = element f n (value_of i s.memory) in
      let q = touched v m x (reached v m i e a s) in
      omega (
        arith,
        balanced k by,
        written_begins x (value_of e s.memory) q,
        reached_begins m i e a s,
        written_count v lim rel x (value_of e s.memory) q,
        reached_count v lim rel m i e a s,
      )
  balanced {s = s} (sleep {m = m} {e = e} {a = a} k) by = omega (arith, balanced k by, tested_begins m e a s, tested_count v lim rel m e a s)
  balanced {s = s} (if_true {m = m} {e = e} {a = a} {s1 = s1} w b k) by =
      let after = (grows_run v lat g o lim k).clock in
      omega (arith, balanced b (omega (arith, after, by)), balanced k by, tested_begins m e a s, tested_count v lim rel m e a s)
  balanced {s = s} (if_false {m = m} {e = e} {a = a} {s1 = s1} w b k) by =
      let after = (grows_run v lat g o lim k).clock in
      omega (arith, balanced b (omega (arith, after, by)), balanced k by, tested_begins m e a s, tested_count v lim rel m e a s)
  balanced {s = s} (while_none {m = m} {e = e} {a = a} w k) by = omega (arith, balanced k by, tested_begins m e a s, tested_count v lim rel m e a s)
  balanced {s = s} (while_some {m = m} {e = e} {a = a} {s1 = s1} w b k) by =
      let after = (grows_run v lat g o lim k).clock in
      omega (arith, balanced b (omega (arith, after, by)), balanced k by, tested_begins m e a s, tested_count v lim rel m e a s)
  balanced {s = s} (mitigate {m = m} {k = mark} {l = l} {e = e} {c = c} {a = a} {s1 = s1} b k) by =
      let s0 = tested v m e a s in
      let s2 = fetched v m (a + expr_size e + 1 + size c) s1 in
      let w = opening (value_of e s.memory) l mark s0 in
      let inside = (grows_run v lat g o lim b).clock in
      let after = (grows_run v lat g o lim k).clock in
      let up = (closed_grows lim w s2 (omega (arith, inside))).clock in
      let end : (closed w s2).clock ≤ lim = omega (arith, after, by) in
      omega (
        arith,
        balanced b (omega (arith, up, end)),
        balanced k by,
        begun_in mark s0 (omega (arith, inside, up, end)),
        begun_same v lim rel mark s0,
        closed_begins w s2,
        closed_in w s2 end,
        tested_begins m e a s,
        tested_count v lim rel m e a s,
      )
  balanced (last {m = m} {e = e} {c = c} {a = a} {s1 = s1} b w) by =
      let m' = raised lat g e m in
      omega (
        arith,
        balanced b (omega (arith, tested_clock v m' e (a + size c) s1, by)),
        tested_begins m' e (a + size c) s1,
        tested_count v lim rel m' e (a + size c) s1,
      )
  balanced (again {m = m} {e = e} {c = c} {a = a} {s1 = s1} b w k) by =
      let m' = raised lat g e m in
      let after = (grows_run v lat g o lim k).clock in
      omega (
        arith,
        balanced b (omega (arith, tested_clock v m' e (a + size c) s1, after, by)),
        balanced k by,
        tested_begins m' e (a + size c) s1,
        tested_count v lim rel m' e (a + size c) s1,
      )

module _ {E : Type 0} {serves : E → Type 0} (v : Env E) (lat : Lattice) (ll : IsLattice lat) (laws : IsLawful v lat serves) (g : ℕ → ℕ) (o lim : ℕ)
    (rel : ℕ → Bool) (ls : ℕ → ℕ) where
  -- how many relevant mitigations of a level have begun up to the cut
  abbrev pub begun_at : ℕ → Core E → ℕ
  begun_at l s = begins v lat g o lim (λ k. rel k && is_at l (ls k)) s

  -- as many of each level have begun after a job as its record has entries of it, beside those before
  pub grown : {p : Marked} {a : ℕ} {s s' : Core E} (pc l : ℕ) → Tells lat g o rel pc p → LevelsAre ls p → Flows lat pc o
      → (d : Runs v lat g lim (Do p a) s s') → s'.clock ≤ lim → begun_at l s' ≡ begun_at l s + picked (is_at l) (record_of v lat g o lim d)
  grown {p = p} pc l t u low d by =
      let of : ℕ → Bool = λ k. rel k && is_at l (ls k) in
      let c = low_count v lat ll laws g o lim (is_at l) of pc (tells_both lat g o (is_at l) rel ls pc p t u) low d in
      omega (arith, c, balanced v lat g o lim of d by)
