-- A mitigation that ended in time lasted at least as long as its first prediction, doubled at each miss.
use Rattle.std.proofs.Common.{◌≡◌, ℕ, suc, ◌+◌, ◌-◌, ◌*◌, ◌^◌, ◌<◌, ◌≤◌, List, [], ◌∷◌, ◌++◌, refl, sym, ap, ◌∙◌, subst, ◌⊎◌, inl, inr, arith, length}
use Rattle.std.proofs.Common.{length-append, ⊎_elim}
use Rattle.std.specs.Prelude.{Bool, true, false, cond, not, max, leb, ◌&&◌, ℤ, slice_set}
use Rattle.std.proofs.lemmas.Bool.{leb-true, le-leb, cases_lt}
use Rattle.std.proofs.Math.Nat.{mul-le-mul_left, le-max_right, max-le}
use Rattle.mit_syntax.specs.Expression.{Expression}
use Rattle.mit_syntax.specs.Todo.{Todo, Marks, Marked, Done, Skip, Assign, Put, Sleep, If, While, Mitigate, then_todo, commands_of}
use Rattle.mit_syntax.specs.Values.{element, value_of, holds}
use Rattle.doubling_schedule.specs.Doubling.{at_least_zero, prediction, misses_after}
use Rattle.label_lattice.specs.Lattice.{Lattice, Flows, IsLattice}
use Rattle.timing_types.specs.Typing.{label_of}
use Rattle.source_meaning.proofs.Begins.{then_done}
use Rattle.source_meaning.specs.Source.{Note, Assigned, Started, Source, source_steps}
use Rattle.env_contract.specs.Env.{Env}
use Rattle.label_code.specs.Machine.{Core, Opened, Event, Wrote, Began, Ended, fetched, touched, written, closed}
use Rattle.label_code.proofs.Upto.{clock_of, upto, upto-append}
use Rattle.code_lower.specs.Follows.{told}
use Rattle.code_lower.proofs.Follow.{told-append}
use Rattle.code_lower.specs.Layout.{expr_size, size, raised}
use Rattle.code_lower.proofs.Timed.{timed_memory, timed_log, reached_log, tested_clock, timed, tested, reached, begun, opening}
use Rattle.leak_bound.specs.Relevant.{LevelsAre}
use Rattle.leak_bound.specs.Records.{Entry}
use Rattle.leak_bound.proofs.Tells.{Tells}
use Rattle.leak_bound.proofs.Runs.{Job, Do, Loop, Runs, done, skip, assign, put, sleep, if_true, if_false, while_none, while_some, mitigate, last, again, late}
use Rattle.leak_bound.proofs.Low.{entry_of, record_of}
use Rattle.leak_bound.proofs.Marks.{nought}
use Rattle.leak_bound.proofs.Record.{closed_grows, grows_run}
use Rattle.sharp_bound.specs.Firsts.{PredictsNext, Predicts, AtLeastOne}

-- commands without marks and levels
abbrev pub Bare : Type 0
Bare = Todo (Unit {0}) (Unit {0})

-- each entry, with the first prediction of its level, took its cycles by c
abbrev pub TookFirst : (ℕ → ℕ) → ℕ → List Entry → Type 0
TookFirst firsts c [] = Unit {0}
TookFirst firsts c (e ∷ r) = (2 ^ e.1 * max (firsts e.0) 1 ≤ c) × TookFirst firsts c r

took_append : (firsts : ℕ → ℕ) (c : ℕ) (a b : List Entry) → TookFirst firsts c a → TookFirst firsts c b → TookFirst firsts c (a ++ b)
took_append firsts c [] b h k = k
took_append firsts c (e ∷ a) b h k = (h.0, took_append firsts c a b h.1 k)

took_cond : (firsts : ℕ → ℕ) (c : ℕ) (b : Bool) (a : List Entry) → (b ≡ true → TookFirst firsts c a) → TookFirst firsts c (cond b a [])
took_cond firsts c true a h = h refl
took_cond firsts c false a h = tt

took_none : (firsts : ℕ → ℕ) (c : ℕ) (a : List Entry) → a ≡ [] → TookFirst firsts c a
took_none firsts c a e = subst (TookFirst firsts c) (sym e) tt

-- a first prediction, and one after misses
pub doubled : (estimate : ℤ) (m f : ℕ) → f ≤ prediction estimate 0 → 2 ^ m * max f 1 ≤ prediction estimate m
doubled estimate m f h =
    let a = max (at_least_zero estimate) 1 in
    let one : 1 ≤ a = le-max_right (at_least_zero estimate) 1 in
    let less : max f 1 ≤ a = max-le (omega (arith, h)) one in
    omega (arith, mul-le-mul_left (2 ^ m) less)

module _ {E : Type 0} (v : Env E) (lat : Lattice) (g : ℕ → ℕ) (o lim : ℕ) (rel : ℕ → Bool) (ls firsts : ℕ → ℕ) (total : ℕ) where
  abbrev pub at : Bare → List ℤ → List Note → Source (Unit {0}) (Unit {0})
  at todo memory notes = record { todo = todo; memory = memory; notes = notes }

  -- how many notes are told up to the cut
  abbrev pub tally : Core E → ℕ
  tally s = length (told (upto lim s.log))

  -- after so many notes: each relevant mitigate that begins from here in time has such a first prediction
  abbrev pub From : Bare → List ℤ → ℕ → Type 0
  From todo memory c =
      (notes : List Note) × (length notes ≡ c)
      × ((n : ℕ) → length (source_steps n (at todo memory notes)).notes < total
      → PredictsNext rel ls firsts (source_steps n (at todo memory notes)).todo (source_steps n (at todo memory notes)).memory)

  abbrev pub Here : Bare → Core E → Type 0
  Here todo s = From todo s.memory (tally s)

  -- what is still to do where a job begins
  abbrev pub todo_of : Job → Bare → Bare
  todo_of (Do p a) rest = then_todo (commands_of p) rest
  todo_of (Loop m e c a) rest = then_todo (commands_of c) (While tt e (commands_of c) rest)

  -- where a job has ended: so it is still, or the cut is past
  abbrev pub After : Bare → Core E → Type 0
  After rest s = Here rest s ⊎ (lim < s.clock)

  pub tested_memory : (m : Marks) (e : Expression) (a : ℕ) (s : Core E) → (tested v m e a s).memory ≡ s.memory
  tested_memory m e a s = timed_memory v m e a s

  pub reached_memory : (m : Marks) (i e : Expression) (a : ℕ) (s : Core E) → (reached v m i e a s).memory ≡ s.memory
  reached_memory m i e a s = timed_memory v m e (a + expr_size i) (timed v m i a s) ∙ timed_memory v m i a s

  pub from_same : (todo : Bare) (m m' : List ℤ) (c c' : ℕ) → m' ≡ m → c' ≡ c → From todo m c → From todo m' c'
  from_same todo m m' c c' e f h = subst (λ z. From todo z c') (sym e) (subst (λ z. From todo m z) (sym f) h)

  -- one event more
  noted : (es : List Event) (e : Event)
      → length (told (upto lim (es ++ e ∷ []))) ≡ length (told (upto lim es)) + cond (leb (clock_of e) lim) (length (told (e ∷ []))) 0
  noted es e =
      ap (λ z. length (told z)) (upto-append lim es (e ∷ []))
      ∙ ap length (told-append (upto lim es) (upto lim (e ∷ [])))
      ∙ length-append (told (upto lim es)) (told (upto lim (e ∷ [])))
      ∙ ap (λ z. length (told (upto lim es)) + z) (go (leb (clock_of e) lim))
    where
      go : (b : Bool) → length (told (cond b (e ∷ []) [])) ≡ cond b (length (told (e ∷ []))) 0
      go true = refl
      go false = refl

  pub noted_in : (es : List Event) (e : Event) → clock_of e ≤ lim → length (told (e ∷ [])) ≡ 1
      → length (told (upto lim (es ++ e ∷ []))) ≡ length (told (upto lim es)) + 1
  noted_in es e by one =
      let b = ap (λ z. cond z (length (told (e ∷ []))) 0) (le-leb (clock_of e) lim by) in
      omega (arith, noted es e, b, one)

  pub tested_tally : (m : Marks) (e : Expression) (a : ℕ) (s : Core E) → tally (tested v m e a s) ≡ tally s
  tested_tally m e a s = ap (λ z. length (told (upto lim z))) (timed_log v m e a s)

  pub reached_tally : (m : Marks) (i e : Expression) (a : ℕ) (s : Core E) → tally (reached v m i e a s) ≡ tally s
  reached_tally m i e a s = ap (λ z. length (told (upto lim z))) (reached_log v m i e a s)

  pub closed_tally : (w : Opened) (q : Core E) → tally (closed w q) ≡ tally q
  closed_tally w q = omega (arith, noted q.log (Ended w.mark (closed w q).clock), nought (leb (closed w q).clock lim))

  one_longer : (ns : List Note) (x : Note) (c : ℕ) → length ns ≡ c → length (ns ++ x ∷ []) ≡ c + 1
  one_longer ns x c e = omega (arith, e, length-append ns (x ∷ []))

  -- one step
  pub from_skip : (m : Unit {0}) (r : Bare) (memory : List ℤ) (t : ℕ) → From (Skip m r) memory t → From r memory t
  from_skip m r memory t h = (h.0, h.1, λ n. h.2 (suc n))

  pub from_sleep : (m : Unit {0}) (e : Expression) (r : Bare) (memory : List ℤ) (t : ℕ) → From (Sleep m e r) memory t → From r memory t
  from_sleep m e r memory t h = (h.0, h.1, λ n. h.2 (suc n))

  pub from_assign : (m : Unit {0}) (x : ℕ) (e : Expression) (r : Bare) (memory : List ℤ) (t : ℕ) → From (Assign m x e r) memory t
      → From r (slice_set memory x (value_of e memory)) (t + 1)
  from_assign m x e r memory t h = (h.0 ++ Assigned x (value_of e memory) ∷ [], one_longer h.0 (Assigned x (value_of e memory)) t h.1, λ n. h.2 (suc n))

  pub from_put : (m : Unit {0}) (f k : ℕ) (i e : Expression) (r : Bare) (memory : List ℤ) (t : ℕ) → From (Put m f k i e r) memory t
      → From r (slice_set memory (element f k (value_of i memory)) (value_of e memory)) (t + 1)
  from_put m f k i e r memory t h = (
    h.0 ++ Assigned (element f k (value_of i memory)) (value_of e memory) ∷ [],
    one_longer h.0 (Assigned (element f k (value_of i memory)) (value_of e memory)) t h.1,
    λ n. h.2 (suc n),
  )

  pub from_if : (m : Unit {0}) (e : Expression) (a b r : Bare) (memory : List ℤ) (t : ℕ) (w : Bool) → holds (value_of e memory) ≡ w
      → From (If m e a b r) memory t → From (cond w (then_todo a r) (then_todo b r)) memory t
  from_if m e a b r memory t w q h = subst (λ z. From (cond z (then_todo a r) (then_todo b r)) memory t) q (h.0, h.1, λ n. h.2 (suc n))

  pub from_while : (m : Unit {0}) (e : Expression) (c r : Bare) (memory : List ℤ) (t : ℕ) (w : Bool) → holds (value_of e memory) ≡ w
      → From (While m e c r) memory t → From (cond w (then_todo c (While m e c r)) r) memory t
  from_while m e c r memory t w q h = subst (λ z. From (cond z (then_todo c (While m e c r)) r) memory t) q (h.0, h.1, λ n. h.2 (suc n))

  pub from_mitigate : (m l : Unit {0}) (k : ℕ) (e : Expression) (c r : Bare) (memory : List ℤ) (t : ℕ) → From (Mitigate m k l e c r) memory t
      → From (then_todo c r) memory (t + 1)
  from_mitigate m l k e c r memory t h = (h.0 ++ Started k ∷ [], one_longer h.0 (Started k) t h.1, λ n. h.2 (suc n))

  -- an event is told in time, or the cut is past
  pub wrote : (x : ℕ) (n : ℤ) (q : Core E) (todo : Bare) → From todo (written x n q).memory (tally q + 1) → After todo (written x n q)
  wrote x n q todo h =
      ⊎_elim
      (λ (far : lim < q.clock). inr far)
      (λ (by : q.clock ≤ lim). inl (subst (λ z. From todo (written x n q).memory z) (sym (noted_in q.log (Wrote x n q.clock) by refl)) h))
      (cases_lt lim q.clock)

  pub began : (k : ℕ) (q : Core E) (todo : Bare) → From todo q.memory (tally q + 1) → After todo (begun k q)
  began k q todo h =
      ⊎_elim
      (λ (far : lim < q.clock). inr far)
      (λ (by : q.clock ≤ lim). inl (subst (λ z. From todo q.memory z) (sym (noted_in q.log (Began k q.clock) by refl)) h))
      (cases_lt lim q.clock)

  -- no note is taken back
  pub mono : {j : Job} {s s' : Core E} → Runs v lat g lim j s s' → tally s ≤ tally s'
  mono done = omega arith
  mono (late far) = omega arith
  mono (skip k) = mono k
  mono {s = s} (assign {m = m} {x = x} {e = e} {a = a} k) =
      let q = touched v m x (tested v m e a s) in
      omega (arith, tested_tally m e a s, noted q.log (Wrote x (value_of e s.memory) q.clock), mono k)
  mono {s = s} (put {m = m} {f = f} {n = n} {i = i} {e = e} {a = a} k) =
      let x = element f n (value_of i s.memory) in
      let q = touched v m x (reached v m i e a s) in
      omega (arith, reached_tally m i e a s, noted q.log (Wrote x (value_of e s.memory) q.clock), mono k)
  mono {s = s} (sleep {m = m} {e = e} {a = a} k) = omega (arith, tested_tally m e a s, mono k)
  mono {s = s} (if_true {m = m} {e = e} {a = a} w b k) = omega (arith, tested_tally m e a s, mono b, mono k)
  mono {s = s} (if_false {m = m} {e = e} {a = a} w b k) = omega (arith, tested_tally m e a s, mono b, mono k)
  mono {s = s} (while_none {m = m} {e = e} {a = a} w k) = omega (arith, tested_tally m e a s, mono k)
  mono {s = s} (while_some {m = m} {e = e} {a = a} w b k) = omega (arith, tested_tally m e a s, mono b, mono k)
  mono {s = s} (mitigate {m = m} {k = mark} {l = l} {e = e} {c = c} {a = a} {s1 = s1} b k) =
      let s0 = tested v m e a s in
      let s2 = fetched v m (a + expr_size e + 1 + size c) s1 in
      let w = opening (value_of e s.memory) l mark s0 in
      omega (arith, tested_tally m e a s, noted s0.log (Began mark s0.clock), mono b, closed_tally w s2, mono k)
  mono (last {m = m} {e = e} {c = c} {a = a} {s1 = s1} b w) = omega (arith, mono b, tested_tally (raised lat g e m) e (a + size c) s1)
  mono (again {m = m} {e = e} {c = c} {a = a} {s1 = s1} b w k) = omega (arith, mono b, tested_tally (raised lat g e m) e (a + size c) s1, mono k)

  -- the rest, or the cut was past before it
  then_on : {j : Job} {s s' : Core E} (rest : Bare) (todo : Bare) (k : Runs v lat g lim j s s') → (Here todo s → After rest s') → After todo s → After rest s'
  then_on rest todo k f (inl h) = f h
  then_on rest todo k f (inr far) = let up = (grows_run v lat g o lim k).clock in inr (omega arith)

  pub ends_after : (m : Marks) (k l : ℕ) (n : ℤ) (a : ℕ) (s0 s1 : Core E) → s0.clock ≤ s1.clock
      → s1.clock ≤ (closed (opening n l k s0) (fetched v m a s1)).clock
  ends_after m k l n a s0 s1 h =
      let up = (closed_grows lim (opening n l k s0) (fetched v m a s1) (omega arith)).clock in omega arith

  pub goes_on : {j : Job} {s s' : Core E} (d : Runs v lat g lim j s s') (rest : Bare) → Here (todo_of j rest) s → After rest s'
  goes_on done rest h = inl h
  goes_on (late far) rest h = inr far
  goes_on {s = s} (skip {r = r} k) rest h = goes_on k rest (from_skip tt (then_todo (commands_of r) rest) s.memory (tally s) h)
  goes_on {s = s} (assign {m = m} {x = x} {e = e} {r = r} {a = a} k) rest h =
      then_on rest (then_todo (commands_of r) rest) k (goes_on k rest)
      (wrote x (value_of e s.memory) (touched v m x (tested v m e a s)) (then_todo (commands_of r) rest)
      (from_same (then_todo (commands_of r) rest) _ _ _ _ (ap (λ z. slice_set z x (value_of e s.memory)) (tested_memory m e a s))
      (ap (λ z. z + 1) (tested_tally m e a s)) (from_assign tt x e (then_todo (commands_of r) rest) s.memory (tally s) h)))
  goes_on {s = s} (put {m = m} {f = f} {n = n} {i = i} {e = e} {r = r} {a = a} k) rest h =
      then_on rest (then_todo (commands_of r) rest) k (goes_on k rest)
      (wrote (element f n (value_of i s.memory)) (value_of e s.memory) (touched v m (element f n (value_of i s.memory)) (reached v m i e a s))
      (then_todo (commands_of r) rest)
      (from_same (then_todo (commands_of r) rest) _ _ _ _
      (ap (λ z. slice_set z (element f n (value_of i s.memory)) (value_of e s.memory)) (reached_memory m i e a s))
      (ap (λ z. z + 1) (reached_tally m i e a s)) (from_put tt f n i e (then_todo (commands_of r) rest) s.memory (tally s) h)))
  goes_on {s = s} (sleep {m = m} {e = e} {r = r} {a = a} k) rest h =
      goes_on k rest (from_same (then_todo (commands_of r) rest) _ _ _ _ (tested_memory m e a s) (tested_tally m e a s)
      (from_sleep tt e (then_todo (commands_of r) rest) s.memory (tally s) h))
  goes_on {s = s} (if_true {m = m} {e = e} {c = c} {d = d} {r = r} {a = a} {s1 = s1} w b k) rest h =
      let more = then_todo (commands_of r) rest in
      let here = goes_on b more (from_same (then_todo (commands_of c) more) _ _ _ _ (tested_memory m e a s) (tested_tally m e a s)
      (from_if tt e (commands_of c) (commands_of d) more s.memory (tally s) true w h)) in
      then_on rest more k (goes_on k rest) (late_fetch (raised lat g e m) (a + expr_size e + 1 + size c) more s1 here)
    where
      late_fetch : (m' : Marks) (n : ℕ) (todo : Bare) (s1 : Core E) → After todo s1 → After todo (fetched v m' n s1)
      late_fetch m' n todo s1 (inl q) = inl q
      late_fetch m' n todo s1 (inr q) = inr (omega arith)
  goes_on {s = s} (if_false {m = m} {e = e} {c = c} {d = d} {r = r} {a = a} w b k) rest h =
      let more = then_todo (commands_of r) rest in
      then_on rest more k (goes_on k rest)
      (goes_on b more (from_same (then_todo (commands_of d) more) _ _ _ _ (tested_memory m e a s) (tested_tally m e a s)
      (from_if tt e (commands_of c) (commands_of d) more s.memory (tally s) false w h)))
  goes_on {s = s} (while_none {m = m} {e = e} {c = c} {r = r} {a = a} w k) rest h =
      let more = then_todo (commands_of r) rest in
      goes_on k rest (from_same more _ _ _ _ (tested_memory m e a s) (tested_tally m e a s) (from_while tt e (commands_of c) more s.memory (tally s) false w h))
  goes_on {s = s} (while_some {m = m} {e = e} {c = c} {r = r} {a = a} w b k) rest h =
      let more = then_todo (commands_of r) rest in
      then_on rest more k (goes_on k rest)
      (goes_on b more (from_same (then_todo (commands_of c) (While tt e (commands_of c) more)) _ _ _ _ (tested_memory m e a s) (tested_tally m e a s)
      (from_while tt e (commands_of c) more s.memory (tally s) true w h)))
  goes_on {s = s} (mitigate {m = m} {k = mark} {l = l} {e = e} {c = c} {r = r} {a = a} {s1 = s1} b k) rest h =
      let more = then_todo (commands_of r) rest in
      let s0 = tested v m e a s in
      let up = (grows_run v lat g o lim b).clock in
      let end = ends_after m mark l (value_of e s.memory) (a + expr_size e + 1 + size c) s0 s1 up in
      then_on rest more k (goes_on k rest)
      (closing (opening (value_of e s.memory) l mark s0) m (a + expr_size e + 1 + size c) more s1 end
      (then_on more (then_todo (commands_of c) more) b (goes_on b more)
      (began mark s0 (then_todo (commands_of c) more)
      (from_same (then_todo (commands_of c) more) _ _ _ _ (tested_memory m e a s) (ap (λ z. z + 1) (tested_tally m e a s))
      (from_mitigate tt tt mark e (commands_of c) more s.memory (tally s) h)))))
    where
      closing : (w : Opened) (m' : Marks) (n : ℕ) (todo : Bare) (s1 : Core E) → s1.clock ≤ (closed w (fetched v m' n s1)).clock → After todo s1
          → After todo (closed w (fetched v m' n s1))
      closing w m' n todo s1 up (inl q) = inl (from_same todo _ _ _ _ refl (closed_tally w (fetched v m' n s1)) q)
      closing w m' n todo s1 up (inr q) = inr (omega arith)
  goes_on (last {m = m} {e = e} {c = c} {a = a} {s1 = s1} b w) rest h = go (goes_on b (While tt e (commands_of c) rest) h)
    where
      go : After (While tt e (commands_of c) rest) s1 → After rest (tested v (raised lat g e m) e (a + size c) s1)
      go (inl q) = inl (from_same rest _ _ _ _ (tested_memory (raised lat g e m) e (a + size c) s1) (tested_tally (raised lat g e m) e (a + size c) s1)
          (from_while tt e (commands_of c) rest s1.memory (tally s1) false w q))
      go (inr far) = let up = tested_clock v (raised lat g e m) e (a + size c) s1 in inr (omega arith)
  goes_on (again {m = m} {e = e} {c = c} {a = a} {s1 = s1} b w k) rest h =
      let more = then_todo (commands_of c) (While tt e (commands_of c) rest) in
      let up = tested_clock v (raised lat g e m) e (a + size c) s1 in
      then_on rest more k (goes_on k rest) (go up (goes_on b (While tt e (commands_of c) rest) h))
    where
      go : s1.clock ≤ (tested v (raised lat g e m) e (a + size c) s1).clock → After (While tt e (commands_of c) rest) s1
          → After (then_todo (commands_of c) (While tt e (commands_of c) rest)) (tested v (raised lat g e m) e (a + size c) s1)
      go up (inl q) = inl (from_same (then_todo (commands_of c) (While tt e (commands_of c) rest)) _ _ _ _ (tested_memory (raised lat g e m) e (a + size c) s1)
          (tested_tally (raised lat g e m) e (a + size c) s1) (from_while tt e (commands_of c) rest s1.memory (tally s1) true w q))
      go up (inr far) = inr (omega arith)

  abbrev pub TellsJob : ℕ → Job → Type 0
  TellsJob pc (Do p a) = Tells lat g o rel pc p
  TellsJob pc (Loop m e c a) = Tells lat g o rel pc c

  abbrev pub LevelsJob : Job → Type 0
  LevelsJob (Do p a) = LevelsAre ls p
  LevelsJob (Loop m e c a) = LevelsAre ls c

  -- what runs on from where the cut may be past
  took_on : {j : Job} {s s' : Core E} (todo : Bare) (k : Runs v lat g lim j s s') → (Here todo s → TookFirst firsts lim (record_of v lat g o lim k))
      → After todo s → TookFirst firsts lim (record_of v lat g o lim k)
  took_on todo k f (inl h) = f h
  took_on todo k f (inr far) = took_none firsts lim (record_of v lat g o lim k) ((grows_run v lat g o lim k).none far)

  took_entry : (pc l mark : ℕ) (e : Expression) (memory : List ℤ) (since : ℕ) (q : Core E) → Flows lat pc o → rel mark ≡ (lat.flows pc o && not (lat.flows l o))
      → l ≡ ls mark → ((closed (record { estimate = value_of e memory; level = l; mark = mark; since = since }) q).clock ≤ lim → rel mark ≡ true
      → firsts (ls mark) ≤ prediction (value_of e memory) 0) →
      TookFirst firsts lim (entry_of v lat g o lim (record { estimate = value_of e memory; level = l; mark = mark; since = since }) q)
  took_entry pc l mark e memory since q low tells level first = go (lat.flows l o) refl (leb (closed w q).clock lim) refl
    where
      w : Opened
      w = record { estimate = value_of e memory; level = l; mark = mark; since = since }

      count : ℕ
      count = misses_after w.estimate (q.clock - w.since) (q.misses w.level)

      go : (f : Bool) → lat.flows l o ≡ f → (b : Bool) → leb (closed w q).clock lim ≡ b → TookFirst firsts lim (cond f [] (cond b ((l, count) ∷ []) []))
      go true q1 b q2 = tt
      go false q1 false q2 = tt
      go false q1 true q2 =
          let relevant : rel mark ≡ true = tells ∙ ap (λ f. f && not (lat.flows l o)) low ∙ ap (λ f. true && not f) q1 in
          let least : firsts l ≤ prediction (value_of e memory) 0 =
          subst (λ z. firsts z ≤ prediction (value_of e memory) 0) (sym level) (first (leb-true (closed w q).clock lim q2) relevant) in
          let by : since + prediction (value_of e memory) count ≤ lim = leb-true (closed w q).clock lim q2 in
          (omega (arith, by, doubled (value_of e memory) count (firsts l) least), tt)

  pub took : {j : Job} {s s' : Core E} (pc : ℕ) → IsLattice lat → TellsJob pc j → LevelsJob j → Flows lat pc o → (d : Runs v lat g lim j s s') (rest : Bare)
      → Here (todo_of j rest) s → tally s' ≤ total → TookFirst firsts lim (record_of v lat g o lim d)
  took pc ll t l low done rest h fin = tt
  took pc ll t l low (late far) rest h fin = tt
  took {s = s} pc ll t l low (skip {r = r} k) rest h fin = took pc ll t l low k rest (from_skip tt (then_todo (commands_of r) rest) s.memory (tally s) h) fin
  took {s = s} pc ll t l low (assign {m = m} {x = x} {e = e} {r = r} {a = a} k) rest h fin =
      took_on (then_todo (commands_of r) rest) k
      (λ q. took pc ll t l low k rest q fin) (wrote x (value_of e s.memory) (touched v m x (tested v m e a s)) (then_todo (commands_of r) rest)
      (from_same (then_todo (commands_of r) rest) _ _ _ _ (ap (λ z. slice_set z x (value_of e s.memory)) (tested_memory m e a s))
      (ap (λ z. z + 1) (tested_tally m e a s)) (from_assign tt x e (then_todo (commands_of r) rest) s.memory (tally s) h)))
  took {s = s} pc ll t l low (put {m = m} {f = f} {n = n} {i = i} {e = e} {r = r} {a = a} k) rest h fin =
      took_on (then_todo (commands_of r) rest) k
      (λ q. took pc ll t l low k rest q fin)
      (wrote (element f n (value_of i s.memory)) (value_of e s.memory) (touched v m (element f n (value_of i s.memory)) (reached v m i e a s))
      (then_todo (commands_of r) rest)
      (from_same (then_todo (commands_of r) rest) _ _ _ _
      (ap (λ z. slice_set z (element f n (value_of i s.memory)) (value_of e s.memory)) (reached_memory m i e a s))
      (ap (λ z. z + 1) (reached_tally m i e a s)) (from_put tt f n i e (then_todo (commands_of r) rest) s.memory (tally s) h)))
  took {s = s} pc ll t l low (sleep {m = m} {e = e} {r = r} {a = a} k) rest h fin =
      took pc ll t l low k rest (from_same (then_todo (commands_of r) rest) _ _ _ _ (tested_memory m e a s) (tested_tally m e a s)
      (from_sleep tt e (then_todo (commands_of r) rest) s.memory (tally s) h)) fin
  took {s = s} pc ll t l low (if_true {m = m} {e = e} {c = c} {d = d} {r = r} {a = a} {s1 = s1} w b k) rest h fin =
      let more = then_todo (commands_of r) rest in
      let x = label_of lat g e in
      let here = from_same (then_todo (commands_of c) more) _ _ _ _ (tested_memory m e a s) (tested_tally m e a s)
      (from_if tt e (commands_of c) (commands_of d) more s.memory (tally s) true w h) in
      took_append firsts lim _ _
      (took_cond firsts lim (lat.flows x o) _ (λ f. took (lat.join pc x) ll t.0 l.0 (ll.least pc x o low f) b more here (omega (arith, mono k, fin))))
      (took_on more k (λ q. took pc ll t.2 l.2 low k rest q fin) (late_fetch (raised lat g e m) (a + expr_size e + 1 + size c) more s1 (goes_on b more here)))
    where
      late_fetch : (m' : Marks) (n : ℕ) (todo : Bare) (s1 : Core E) → After todo s1 → After todo (fetched v m' n s1)
      late_fetch m' n todo s1 (inl q) = inl q
      late_fetch m' n todo s1 (inr q) = inr (omega arith)
  took {s = s} pc ll t l low (if_false {m = m} {e = e} {c = c} {d = d} {r = r} {a = a} w b k) rest h fin =
      let more = then_todo (commands_of r) rest in
      let x = label_of lat g e in
      let here = from_same (then_todo (commands_of d) more) _ _ _ _ (tested_memory m e a s) (tested_tally m e a s)
      (from_if tt e (commands_of c) (commands_of d) more s.memory (tally s) false w h) in
      took_append firsts lim _ _
      (took_cond firsts lim (lat.flows x o) _ (λ f. took (lat.join pc x) ll t.1 l.1 (ll.least pc x o low f) b more here (omega (arith, mono k, fin))))
      (took_on more k (λ q. took pc ll t.2 l.2 low k rest q fin) (goes_on b more here))
  took {s = s} pc ll t l low (while_none {m = m} {e = e} {c = c} {r = r} {a = a} w k) rest h fin =
      let more = then_todo (commands_of r) rest in
      took_append firsts lim _ _ (took_cond firsts lim (lat.flows (label_of lat g e) o) [] (λ f. tt))
      (took pc ll t.1 l.1 low k rest (from_same more _ _ _ _ (tested_memory m e a s) (tested_tally m e a s)
      (from_while tt e (commands_of c) more s.memory (tally s) false w h)) fin)
  took {s = s} pc ll t l low (while_some {m = m} {e = e} {c = c} {r = r} {a = a} w b k) rest h fin =
      let more = then_todo (commands_of r) rest in
      let x = label_of lat g e in
      let here = from_same (then_todo (commands_of c) (While tt e (commands_of c) more)) _ _ _ _ (tested_memory m e a s) (tested_tally m e a s)
      (from_while tt e (commands_of c) more s.memory (tally s) true w h) in
      took_append firsts lim _ _
      (took_cond firsts lim (lat.flows x o) _ (λ f. took (lat.join pc x) ll t.0 l.0 (ll.least pc x o low f) b more here (omega (arith, mono k, fin))))
      (took_on more k (λ q. took pc ll t.1 l.1 low k rest q fin) (goes_on b more here))
  took {s = s} pc ll t l low (mitigate {m = m} {k = mark} {l = level} {e = e} {c = c} {r = r} {a = a} {s1 = s1} b k) rest h fin =
      let more = then_todo (commands_of r) rest in
      let s0 = tested v m e a s in
      let s2 = fetched v m (a + expr_size e + 1 + size c) s1 in
      let w = opening (value_of e s.memory) level mark s0 in
      let here = began mark s0 (then_todo (commands_of c) more)
      (from_same (then_todo (commands_of c) more) _ _ _ _ (tested_memory m e a s) (ap (λ z. z + 1) (tested_tally m e a s))
      (from_mitigate tt tt mark e (commands_of c) more s.memory (tally s) h)) in
      let up = (grows_run v lat g o lim b).clock in
      let inner : tally s1 ≤ total = omega (arith, closed_tally w s2, mono k, fin) in
      let begin = noted_in s0.log (Began mark s0.clock) in
      let end = ends_after m mark level (value_of e s.memory) (a + expr_size e + 1 + size c) s0 s1 up in
      took_append firsts lim _ _
      (took_append firsts lim _ _ (took_on (then_todo (commands_of c) more) b (λ q. took pc ll t.1 l.1 low b more q inner) here)
      (took_entry pc level mark e s.memory s0.clock s2 low t.0 l.0
      (λ by. h.2 0 (omega (arith, h.1, tested_tally m e a s, begin (omega (arith, by, end, up)) refl, mono b, inner)))))
      (took_on more k (λ q. took pc ll t.2 l.2 low k rest q fin) (closing (opening (value_of e s.memory) level mark s0) m (a + expr_size e + 1 + size c) more s1
      end (then_on more (then_todo (commands_of c) more) b (goes_on b more) here)))
    where
      closing : (w : Opened) (m' : Marks) (n : ℕ) (todo : Bare) (s1 : Core E) → s1.clock ≤ (closed w (fetched v m' n s1)).clock → After todo s1
          → After todo (closed w (fetched v m' n s1))
      closing w m' n todo s1 up (inl q) = inl (from_same todo _ _ _ _ refl (closed_tally w (fetched v m' n s1)) q)
      closing w m' n todo s1 up (inr q) = inr (omega arith)
  took pc ll t l low (last {m = m} {e = e} {c = c} {a = a} {s1 = s1} b w) rest h fin =
      took pc ll t l low b (While tt e (commands_of c) rest) h (omega (arith, tested_tally (raised lat g e m) e (a + size c) s1, fin))
  took pc ll t l low (again {m = m} {e = e} {c = c} {a = a} {s1 = s1} b w k) rest h fin =
      let more = then_todo (commands_of c) (While tt e (commands_of c) rest) in
      let up = tested_clock v (raised lat g e m) e (a + size c) s1 in
      took_append firsts lim _ _ (took pc ll t l low b (While tt e (commands_of c) rest) h
      (omega (arith, tested_tally (raised lat g e m) e (a + size c) s1, mono k, fin)))
      (took_on more k (λ q. took pc ll t l low k rest q fin) (go up (goes_on b (While tt e (commands_of c) rest) h)))
    where
      go : s1.clock ≤ (tested v (raised lat g e m) e (a + size c) s1).clock → After (While tt e (commands_of c) rest) s1
          → After (then_todo (commands_of c) (While tt e (commands_of c) rest)) (tested v (raised lat g e m) e (a + size c) s1)
      go up (inl q) = inl (from_same (then_todo (commands_of c) (While tt e (commands_of c) rest)) _ _ _ _ (tested_memory (raised lat g e m) e (a + size c) s1)
          (tested_tally (raised lat g e m) e (a + size c) s1) (from_while tt e (commands_of c) rest s1.memory (tally s1) true w q))
      go up (inr far) = inr (omega arith)

-- from a program's start, before any note
pub from_start : {E : Type 0} (v : Env E) (lat : Lattice) (g : ℕ → ℕ) (o lim : ℕ) (rel : ℕ → Bool) (ls firsts : ℕ → ℕ) (total : ℕ) (p : Marked) (s : Core E)
    → s.log ≡ [] → Predicts rel ls firsts p s.memory total → Here v lat g o lim rel ls firsts total (then_todo (commands_of p) Done) s
from_start v lat g o lim rel ls firsts total p s none h =
    let start : 0 ≡ length (told (upto lim s.log)) = ap (λ z. length (told (upto lim z))) (sym none) in
    subst (λ z. Here v lat g o lim rel ls firsts total z s) (sym (then_done (commands_of p))) ([], start, h)

one_next : {M L : Type 0} (rel : ℕ → Bool) (ls : ℕ → ℕ) (p : Todo M L) (m : List ℤ) → PredictsNext rel ls (λ l. 1) p m
one_next rel ls Done m = tt
one_next rel ls (Skip w r) m = tt
one_next rel ls (Assign w x e r) m = tt
one_next rel ls (Put w f n i e r) m = tt
one_next rel ls (Sleep w e r) m = tt
one_next rel ls (If w e a b r) m = tt
one_next rel ls (While w e c r) m = tt
one_next rel ls (Mitigate w k l e c r) m = λ q. omega (arith, le-max_right (at_least_zero (value_of e m)) 1)

pub at_least_one : (M L : Type 0) → AtLeastOne M L
at_least_one M L rel ls p m total n lt = one_next rel ls _ _
