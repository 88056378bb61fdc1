-- The record has an entry for each relevant mitigation of a picked level that ended up to the cut.
use Rattle.std.proofs.Common.{◌≡◌, ℕ, ◌+◌, ◌-◌, List, [], ◌∷◌, ◌++◌, refl, ap, ◌∙◌, arith}
use Rattle.std.specs.Prelude.{Bool, true, false, cond, not, ◌&&◌, ℤ, leb}
use Rattle.std.proofs.lemmas.Bool.{cond-false, false_from_ne_true, both_ways}
use Rattle.mit_syntax.specs.Expression.{Expression}
use Rattle.mit_syntax.specs.Todo.{Marks}
use Rattle.mit_syntax.specs.Values.{element, value_of}
use Rattle.label_lattice.specs.Lattice.{Lattice, Flows, IsLattice}
use Rattle.timing_types.specs.Typing.{label_of}
use Rattle.env_contract.specs.Env.{Env}
use Rattle.label_code.specs.Machine.{Core, Opened, Event, Wrote, Began, Ended, fetched, touched, written, closed}
use Rattle.doubling_schedule.specs.Doubling.{misses_after}
use Rattle.code_lower.specs.Layout.{expr_size, size, raised}
use Rattle.env_contract.specs.Laws.{IsLawful}
use Rattle.leak_bound.specs.Relevant.{ended_count}
use Rattle.leak_bound.proofs.Balance.{ended-append}
use Rattle.leak_bound.proofs.Counting.{picked, picked-append}
use Rattle.leak_bound.proofs.Tells.{TellsOf, swapped}
use Rattle.leak_bound.specs.Records.{Entry}
use Rattle.code_lower.proofs.Timed.{timed_log, tested, reached, reached_log, begun, opening}
use Rattle.leak_bound.proofs.Runs.{Job, Do, Loop, Runs, done, skip, assign, put, sleep, if_true, if_false, while_none, while_some, mitigate, last, again, late}
use Rattle.leak_bound.proofs.Low.{entry_of, record_of}
use Rattle.label_code.proofs.Upto.{clock_of, upto, upto-append}

-- one more event
pub one_more : (rel : ℕ → Bool) (lim : ℕ) (es : List Event) (e : Event)
    → ended_count rel (upto lim (es ++ e ∷ [])) ≡ ended_count rel (upto lim es) + cond (leb (clock_of e) lim) (ended_count rel (e ∷ [])) 0
one_more rel lim es e = ap (ended_count rel) (upto-append lim es (e ∷ [])) ∙ ended-append rel (upto lim es) (upto lim (e ∷ []))
    ∙ ap (λ z. ended_count rel (upto lim es) + z) (go (leb (clock_of e) lim))
  where
    go : (b : Bool) → ended_count rel (cond b (e ∷ []) []) ≡ cond b (ended_count rel (e ∷ [])) 0
    go true = refl
    go false = refl

pub nought : (b : Bool) → cond {A = ℕ} b 0 0 ≡ 0
nought true = refl
nought false = refl

-- what does not end a mitigate leaves the count, and the end of one adds to it
module _ {E : Type 0} (v : Env E) (lim : ℕ) (rel : ℕ → Bool) where
  abbrev counted : Core E → ℕ
  counted s = ended_count rel (upto lim s.log)

  pub tested_count : (m : Marks) (e : Expression) (a : ℕ) (s : Core E) → counted (tested v m e a s) ≡ counted s
  tested_count m e a s = ap (λ z. ended_count rel (upto lim z)) (timed_log v m e a s)

  pub reached_count : (m : Marks) (i e : Expression) (a : ℕ) (s : Core E) → counted (reached v m i e a s) ≡ counted s
  reached_count m i e a s = ap (λ z. ended_count rel (upto lim z)) (reached_log v m i e a s)

  pub written_count : (x : ℕ) (n : ℤ) (s : Core E) → counted (written x n s) ≡ counted s
  written_count x n s = omega (arith, one_more rel lim s.log (Wrote x n s.clock), nought (leb s.clock lim))

  pub begun_count : (k : ℕ) (s : Core E) → counted (begun k s) ≡ counted s
  begun_count k s = omega (arith, one_more rel lim s.log (Began k s.clock), nought (leb s.clock lim))

  pub closed_count : (w : Opened) (s : Core E) → counted (closed w s) ≡ counted s + cond (leb (closed w s).clock lim) (cond (rel w.mark) 1 0 + 0) 0
  closed_count w s = one_more rel lim s.log (Ended w.mark (closed w s).clock)

-- a join that is not low
module _ (lat : Lattice) (ll : IsLattice lat) (o : ℕ) where
  pub high_join : (pc l : ℕ) → (Flows lat pc o → ⊥) → Flows lat (lat.join pc l) o → ⊥
  high_join pc l h low = h (ll.chain pc (lat.join pc l) o (ll.left pc l) low)

  pub high_join_right : (pc l : ℕ) → (Flows lat l o → ⊥) → Flows lat (lat.join pc l) o → ⊥
  high_join_right pc l h low = h (ll.chain l (lat.join pc l) o (ll.right pc l) low)

module _ {E : Type 0} {serves : E → Type 0} (v : Env E) (lat : Lattice) (ll : IsLattice lat) (laws : IsLawful v lat serves) (g : ℕ → ℕ)
    (o lim : ℕ) (pick rel : ℕ → Bool) where
  abbrev TellsJob : ℕ → Job → Type 0
  TellsJob pc (Do p a) = TellsOf lat g o pick rel pc p
  TellsJob pc (Loop m e c a) = TellsOf lat g o pick rel pc c

  abbrev count : Core E → ℕ
  count s = ended_count rel (upto lim s.log)

  -- nothing relevant begins where pc is not low
  high_count : {j : Job} {s s' : Core E} (pc : ℕ) → TellsJob pc j → (Flows lat pc o → ⊥) → Runs v lat g lim j s s' → count s' ≡ count s
  high_count pc t h done = refl
  high_count pc t h (late x) = refl
  high_count pc t h (skip k) = high_count pc t h k
  high_count {s = s} pc t h (assign {m = m} {x = x} {e = e} {a = a} k) =
      high_count pc t h k ∙ written_count v lim rel x (value_of e s.memory) (touched v m x (tested v m e a s)) ∙ tested_count v lim rel m e a s
  high_count {s = s} pc t h (put {m = m} {f = f} {n = n} {i = i} {e = e} {a = a} k) =
      let x = element f n (value_of i s.memory) in
      high_count pc t h k ∙ written_count v lim rel x (value_of e s.memory) (touched v m x (reached v m i e a s)) ∙ reached_count v lim rel m i e a s
  high_count {s = s} pc t h (sleep {m = m} {e = e} {a = a} k) = high_count pc t h k ∙ tested_count v lim rel m e a s
  high_count {s = s} pc t h (if_true {m = m} {e = e} {a = a} w b k) =
      high_count pc t.2 h k ∙ high_count (lat.join pc (label_of lat g e)) t.0 (high_join lat ll o pc _ h) b ∙ tested_count v lim rel m e a s
  high_count {s = s} pc t h (if_false {m = m} {e = e} {a = a} w b k) =
      high_count pc t.2 h k ∙ high_count (lat.join pc (label_of lat g e)) t.1 (high_join lat ll o pc _ h) b ∙ tested_count v lim rel m e a s
  high_count {s = s} pc t h (while_none {m = m} {e = e} {a = a} w k) = high_count pc t.1 h k ∙ tested_count v lim rel m e a s
  high_count {s = s} pc t h (while_some {m = m} {e = e} {a = a} w b k) =
      high_count pc t.1 h k ∙ high_count (lat.join pc (label_of lat g e)) t.0 (high_join lat ll o pc _ h) b ∙ tested_count v lim rel m e a s
  high_count {s = s} pc t h (mitigate {m = m} {k = mark} {l = l} {e = e} {c = c} {a = a} {s1 = s1} b k) =
      let x = high_count pc t.2 h k in
      let y = high_count pc t.1 h b in
      let z = tested_count v lim rel m e a s in
      let no_one = cond-false {A = ℕ} (rel mark) 1 0 (t.0 ∙ ap (λ f. pick l && (f && not (lat.flows l o))) (false_from_ne_true (lat.flows pc o) h)
      ∙ swapped (pick l) false) in
      let s0 = tested v m e a s in
      let w = opening (value_of e s.memory) l mark s0 in
      let s2 = fetched v m (a + expr_size e + 1 + size c) s1 in
      let b_ = leb (closed w s2).clock lim in
      let q = closed_count v lim rel w s2 ∙ ap (λ i. count s2 + cond b_ (i + 0) 0) no_one in
      x ∙ omega (arith, q, nought b_) ∙ y ∙ begun_count v lim rel mark s0 ∙ z
  high_count pc t h (last {m = m} {e = e} {c = c} {a = a} {s1 = s1} b w) = tested_count v lim rel (raised lat g e m) e (a + size c) s1 ∙ high_count pc t h b
  high_count pc t h (again {m = m} {e = e} {c = c} {a = a} {s1 = s1} b w k) =
      high_count pc t h k ∙ tested_count v lim rel (raised lat g e m) e (a + size c) s1 ∙ high_count pc t h b

  -- what a guard decides
  guard_count : (l n n' : ℕ) (r : List Entry) → (Flows lat l o → n' ≡ n + picked pick r) → ((Flows lat l o → ⊥) → n' ≡ n)
      → n' ≡ n + picked pick (cond (lat.flows l o) r [])
  guard_count l n n' r low nope = go (lat.flows l o) refl
    where
      go : (b : Bool) → lat.flows l o ≡ b → n' ≡ n + picked pick (cond b r [])
      go true e = low e
      go false e = let x = nope (λ t. both_ways (lat.flows l o) e t) in omega arith

  pub low_count : {j : Job} {s s' : Core E} (pc : ℕ) → TellsJob pc j → Flows lat pc o → (d : Runs v lat g lim j s s')
      → count s' ≡ count s + picked pick (record_of v lat g o lim d)
  low_count pc t h done = omega arith
  low_count pc t h (late x) = omega arith
  low_count pc t h (skip k) = low_count pc t h k
  low_count {s = s} pc t h (assign {m = m} {x = x} {e = e} {a = a} k) =
      let q = written_count v lim rel x (value_of e s.memory) (touched v m x (tested v m e a s)) ∙ tested_count v lim rel m e a s in
      let r = low_count pc t h k in
      r ∙ ap (λ i. i + picked pick (record_of v lat g o lim k)) q
  low_count {s = s} pc t h (put {m = m} {f = f} {n = n} {i = i} {e = e} {a = a} k) =
      let x = element f n (value_of i s.memory) in
      let q = written_count v lim rel x (value_of e s.memory) (touched v m x (reached v m i e a s)) ∙ reached_count v lim rel m i e a s in
      let r = low_count pc t h k in
      r ∙ ap (λ z. z + picked pick (record_of v lat g o lim k)) q
  low_count {s = s} pc t h (sleep {m = m} {e = e} {a = a} k) = let q = tested_count v lim rel m e a s in omega (arith, low_count pc t h k)
  low_count {s = s} pc t h (if_true {m = m} {e = e} {a = a} {s1 = s1} w b k) =
      let l = label_of lat g e in
      let q = tested_count v lim rel m e a s in
      let r = record_of v lat g o lim b in
      let p = guard_count l (count (tested v m e a s)) (count s1) r (λ y. low_count (lat.join pc l) t.0 (ll.least pc l o h y) b)
      (λ y. high_count (lat.join pc l) t.0 (high_join_right lat ll o pc l y) b) in
      omega (arith, p, low_count pc t.2 h k, picked-append pick (cond (lat.flows l o) r []) (record_of v lat g o lim k))
  low_count {s = s} pc t h (if_false {m = m} {e = e} {a = a} {s1 = s1} w b k) =
      let l = label_of lat g e in
      let q = tested_count v lim rel m e a s in
      let r = record_of v lat g o lim b in
      let p = guard_count l (count (tested v m e a s)) (count s1) r (λ y. low_count (lat.join pc l) t.1 (ll.least pc l o h y) b)
      (λ y. high_count (lat.join pc l) t.1 (high_join_right lat ll o pc l y) b) in
      omega (arith, p, low_count pc t.2 h k, picked-append pick (cond (lat.flows l o) r []) (record_of v lat g o lim k))
  low_count {s = s} pc t h (while_none {m = m} {e = e} {a = a} w k) =
      let l = label_of lat g e in
      let q = tested_count v lim rel m e a s in
      let p = guard_count l (count s) (count s) [] (λ y. omega arith) (λ y. refl) in
      omega (arith, p, low_count pc t.1 h k, picked-append pick (cond (lat.flows l o) [] []) (record_of v lat g o lim k))
  low_count {s = s} pc t h (while_some {m = m} {e = e} {a = a} {s1 = s1} w b k) =
      let l = label_of lat g e in
      let q = tested_count v lim rel m e a s in
      let r = record_of v lat g o lim b in
      let p = guard_count l (count (tested v m e a s)) (count s1) r (λ y. low_count (lat.join pc l) t.0 (ll.least pc l o h y) b)
      (λ y. high_count (lat.join pc l) t.0 (high_join_right lat ll o pc l y) b) in
      omega (arith, p, low_count pc t.1 h k, picked-append pick (cond (lat.flows l o) r []) (record_of v lat g o lim k))
  low_count {s = s} pc t h (mitigate {m = m} {k = mark} {l = l} {e = e} {c = c} {a = a} {s1 = s1} b k) =
      let s0 = tested v m e a s in
      let x = low_count pc t.2 h k in
      let y = low_count pc t.1 h b in
      let z = tested_count v lim rel m e a s in
      let s2 = fetched v m (a + expr_size e + 1 + size c) s1 in
      let w = opening (value_of e s.memory) l mark s0 in
      let part : Entry = (l, misses_after (value_of e s.memory) (s2.clock - s0.clock) (s2.misses l)) in
      let here = t.0 ∙ ap (λ f. pick l && (f && not (lat.flows l o))) h in
      let b_ = leb (closed w s2).clock lim in
      let one = ap (λ f. cond {A = ℕ} b_ (cond {A = ℕ} f 1 0 + 0) 0) here ∙ entry (lat.flows l o) b_ part in
      let rb = record_of v lat g o lim b in
      let q = closed_count v lim rel w s2 in
      let u = begun_count v lim rel mark s0 in
      x ∙ ap (λ i. i + picked pick (record_of v lat g o lim k))
      (q ∙ ap (λ i. i + cond b_ (cond (rel mark) 1 0 + 0) 0) (y ∙ ap (λ i. i + picked pick rb) (u ∙ z)))
      ∙ omega (
        arith,
        one,
        picked-append pick rb (entry_of v lat g o lim w s2),
        picked-append pick (rb ++ entry_of v lat g o lim w s2) (record_of v lat g o lim k),
      )
    where
      entry : (f b : Bool) (x : Entry) → cond b (cond (pick x.0 && not f) 1 0 + 0) 0 ≡ picked pick (cond f [] (cond b (x ∷ []) []))
      entry true true x = ap (λ z. cond {A = ℕ} z 1 0 + 0) (swapped (pick x.0) false)
      entry true false x = refl
      entry false true x = ap (λ z. cond {A = ℕ} z 1 0 + 0) (swapped (pick x.0) true)
      entry false false x = refl
  low_count pc t h (last {m = m} {e = e} {c = c} {a = a} {s1 = s1} b w) = tested_count v lim rel (raised lat g e m) e (a + size c) s1 ∙ low_count pc t h b
  low_count pc t h (again {m = m} {e = e} {c = c} {a = a} {s1 = s1} b w k) =
      let q = tested_count v lim rel (raised lat g e m) e (a + size c) s1 in
      omega (arith, low_count pc t h b, low_count pc t h k, picked-append pick (record_of v lat g o lim b) (record_of v lat g o lim k))
