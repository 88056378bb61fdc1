-- What is true of each state of the untimed meaning is true wherever a run has come to.
use Rattle.std.proofs.Common.{◌≡◌, ℕ, suc, ◌+◌, ◌<◌, ◌≤◌, List, [], ◌∷◌, ◌++◌, append-nil, refl, sym, ap, ◌∙◌, subst, ◌⊎◌, inl, inr, arith, ⊎_elim}
use Rattle.std.specs.Prelude.{Bool, true, false, cond, leb, ℤ, slice_set}
use Rattle.std.proofs.lemmas.Bool.{le-leb, cases_lt}
use Rattle.mit_syntax.specs.Expression.{Expression}
use Rattle.mit_syntax.specs.Todo.{Marks, Assign, Put, Sleep, If, While, Mitigate, then_todo, commands_of}
use Rattle.mit_syntax.specs.Values.{element, value_of, holds}
use Rattle.label_lattice.specs.Lattice.{Lattice}
use Rattle.source_meaning.specs.Source.{Note, Assigned, Started, Source, source_steps}
use Rattle.env_contract.specs.Env.{Env}
use Rattle.label_code.specs.Machine.{Core, Opened, Event, Wrote, Began, Ended, fetched, touched, written, closed}
use Rattle.label_code.proofs.Upto.{clock_of, upto, upto-append}
use Rattle.code_lower.specs.Follows.{told}
use Rattle.code_lower.proofs.Follow.{told-append}
use Rattle.code_lower.specs.Layout.{expr_size, size, raised}
use Rattle.code_lower.proofs.Timed.{timed_memory, timed_log, reached_log, tested_clock, timed, tested, reached, begun, opening}
use Rattle.leak_bound.proofs.Runs.{Job, Do, Loop, Runs, done, skip, assign, put, sleep, if_true, if_false, while_none, while_some, mitigate, last, again, late}
use Rattle.leak_bound.proofs.Record.{closed_grows, grows_run}
use Rattle.sharp_bound.proofs.Firsts.{Bare}

module _ {E : Type 0} (v : Env E) (lat : Lattice) (g : ℕ → ℕ) (o lim : ℕ) (P : Source (Unit {0}) (Unit {0}) → Type 0) where
  abbrev pub at : Bare → List ℤ → List Note → Source (Unit {0}) (Unit {0})
  at todo memory notes = record { todo = todo; memory = memory; notes = notes }

  -- what is told up to the cut
  abbrev pub heard : Core E → List Note
  heard s = told (upto lim s.log)

  -- P is true of each state from here on
  abbrev pub From : Bare → List ℤ → List Note → Type 0
  From todo memory notes = (n : ℕ) → P (source_steps n (at todo memory notes))

  abbrev pub Here : Bare → Core E → Type 0
  Here todo s = From todo s.memory (heard s)

  -- what is still to do where a job begins
  abbrev pub todo_of : Job → Bare → Bare
  todo_of (Do p a) rest = then_todo (commands_of p) rest
  todo_of (Loop m e c a) rest = then_todo (commands_of c) (While tt e (commands_of c) rest)

  -- after a job: so it is still, or the cut is past
  abbrev pub After : Bare → Core E → Type 0
  After rest s = Here rest s ⊎ (lim < s.clock)

  pub still : (todo : Bare) (s : Core E) → After todo s → s.clock ≤ lim → Here todo s
  still todo s (inl h) by = h
  still todo s (inr far) by = absurd (omega arith)

  tested_memory : (m : Marks) (e : Expression) (a : ℕ) (s : Core E) → (tested v m e a s).memory ≡ s.memory
  tested_memory m e a s = timed_memory v m e a s

  reached_memory : (m : Marks) (i e : Expression) (a : ℕ) (s : Core E) → (reached v m i e a s).memory ≡ s.memory
  reached_memory m i e a s = timed_memory v m e (a + expr_size i) (timed v m i a s) ∙ timed_memory v m i a s

  from_same : (todo : Bare) (m m' : List ℤ) (c c' : List Note) → m' ≡ m → c' ≡ c → From todo m c → From todo m' c'
  from_same todo m m' c c' e f h = subst (λ z. From todo z c') (sym e) (subst (λ z. From todo m z) (sym f) h)

  -- one event more
  noted : (es : List Event) (e : Event) → told (upto lim (es ++ e ∷ [])) ≡ told (upto lim es) ++ cond (leb (clock_of e) lim) (told (e ∷ [])) []
  noted es e =
      ap told (upto-append lim es (e ∷ []))
      ∙ told-append (upto lim es) (upto lim (e ∷ []))
      ∙ ap (λ z. told (upto lim es) ++ z) (go (leb (clock_of e) lim))
    where
      go : (b : Bool) → told (cond b (e ∷ []) []) ≡ cond b (told (e ∷ [])) []
      go true = refl
      go false = refl

  noted_in : (es : List Event) (e : Event) → clock_of e ≤ lim → told (upto lim (es ++ e ∷ [])) ≡ told (upto lim es) ++ told (e ∷ [])
  noted_in es e by = noted es e ∙ ap (λ b. told (upto lim es) ++ cond b (told (e ∷ [])) []) (le-leb (clock_of e) lim by)

  tested_heard : (m : Marks) (e : Expression) (a : ℕ) (s : Core E) → heard (tested v m e a s) ≡ heard s
  tested_heard m e a s = ap (λ z. told (upto lim z)) (timed_log v m e a s)

  reached_heard : (m : Marks) (i e : Expression) (a : ℕ) (s : Core E) → heard (reached v m i e a s) ≡ heard s
  reached_heard m i e a s = ap (λ z. told (upto lim z)) (reached_log v m i e a s)

  nothing : (b : Bool) → cond {A = List Note} b [] [] ≡ []
  nothing true = refl
  nothing false = refl

  closed_heard : (w : Opened) (q : Core E) → heard (closed w q) ≡ heard q
  closed_heard w q =
      noted q.log (Ended w.mark (closed w q).clock) ∙ ap (λ z. heard q ++ z) (nothing (leb (closed w q).clock lim)) ∙ append-nil (heard q)

  from_if : (e : Expression) (a b r : Bare) (memory : List ℤ) (t : List Note) (w : Bool) → holds (value_of e memory) ≡ w
      → From (If tt e a b r) memory t → From (cond w (then_todo a r) (then_todo b r)) memory t
  from_if e a b r memory t w q h = subst (λ z. From (cond z (then_todo a r) (then_todo b r)) memory t) q (λ n. h (suc n))

  from_while : (e : Expression) (c r : Bare) (memory : List ℤ) (t : List Note) (w : Bool) → holds (value_of e memory) ≡ w
      → From (While tt e c r) memory t → From (cond w (then_todo c (While tt e c r)) r) memory t
  from_while e c r memory t w q h = subst (λ z. From (cond z (then_todo c (While tt e c r)) r) memory t) q (λ n. h (suc n))

  -- an event is told in time, or the cut is past
  wrote : (x : ℕ) (n : ℤ) (q : Core E) (todo : Bare) → From todo (written x n q).memory (heard q ++ Assigned x n ∷ []) → After todo (written x n q)
  wrote x n q todo h =
      ⊎_elim
      (λ (far : lim < q.clock). inr far)
      (λ (by : q.clock ≤ lim). inl (subst (λ z. From todo (written x n q).memory z) (sym (noted_in q.log (Wrote x n q.clock) by)) h))
      (cases_lt lim q.clock)

  began : (k : ℕ) (q : Core E) (todo : Bare) → From todo q.memory (heard q ++ Started k ∷ []) → After todo (begun k q)
  began k q todo h =
      ⊎_elim
      (λ (far : lim < q.clock). inr far)
      (λ (by : q.clock ≤ lim). inl (subst (λ z. From todo q.memory z) (sym (noted_in q.log (Began k q.clock) by)) h))
      (cases_lt lim q.clock)

  -- ---- after the first command of a job

  pub after_assign : (m : Marks) (x : ℕ) (e : Expression) (r : Bare) (a : ℕ) (s : Core E) → Here (Assign tt x e r) s
      → After r (written x (value_of e s.memory) (touched v m x (tested v m e a s)))
  after_assign m x e r a s h =
      wrote x (value_of e s.memory) (touched v m x (tested v m e a s)) r
      (from_same r _ _ _ _ (ap (λ z. slice_set z x (value_of e s.memory)) (tested_memory m e a s))
      (ap (λ z. z ++ Assigned x (value_of e s.memory) ∷ []) (tested_heard m e a s)) (λ n. h (suc n)))

  pub after_put : (m : Marks) (f n : ℕ) (i e : Expression) (r : Bare) (a : ℕ) (s : Core E) → Here (Put tt f n i e r) s
      → After r (written (element f n (value_of i s.memory)) (value_of e s.memory) (touched v m (element f n (value_of i s.memory)) (reached v m i e a s)))
  after_put m f n i e r a s h =
      let x = element f n (value_of i s.memory) in
      wrote x (value_of e s.memory) (touched v m x (reached v m i e a s)) r
      (from_same r _ _ _ _ (ap (λ z. slice_set z x (value_of e s.memory)) (reached_memory m i e a s))
      (ap (λ z. z ++ Assigned x (value_of e s.memory) ∷ []) (reached_heard m i e a s)) (λ k. h (suc k)))

  pub after_sleep : (m : Marks) (e : Expression) (r : Bare) (a : ℕ) (s : Core E) → Here (Sleep tt e r) s → Here r (tested v m e a s)
  after_sleep m e r a s h = from_same r _ _ _ _ (tested_memory m e a s) (tested_heard m e a s) (λ n. h (suc n))

  pub after_if : (m : Marks) (e : Expression) (c d r : Bare) (a : ℕ) (s : Core E) (w : Bool) → holds (value_of e s.memory) ≡ w → Here (If tt e c d r) s
      → Here (cond w (then_todo c r) (then_todo d r)) (tested v m e a s)
  after_if m e c d r a s w q h =
      from_same (cond w (then_todo c r) (then_todo d r)) _ _ _ _ (tested_memory m e a s) (tested_heard m e a s) (from_if e c d r s.memory (heard s) w q h)

  pub after_while : (m : Marks) (e : Expression) (c r : Bare) (a : ℕ) (s : Core E) (w : Bool) → holds (value_of e s.memory) ≡ w → Here (While tt e c r) s
      → Here (cond w (then_todo c (While tt e c r)) r) (tested v m e a s)
  after_while m e c r a s w q h =
      from_same (cond w (then_todo c (While tt e c r)) r) _ _ _ _ (tested_memory m e a s) (tested_heard m e a s) (from_while e c r s.memory (heard s) w q h)

  pub after_begin : (m : Marks) (k : ℕ) (e : Expression) (c r : Bare) (a : ℕ) (s : Core E) → Here (Mitigate tt k tt e c r) s
      → After (then_todo c r) (begun k (tested v m e a s))
  after_begin m k e c r a s h =
      began k (tested v m e a s) (then_todo c r)
      (from_same (then_todo c r) _ _ _ _ (tested_memory m e a s) (ap (λ z. z ++ Started k ∷ []) (tested_heard m e a s)) (λ n. h (suc n)))

  pub after_close : (w : Opened) (m : Marks) (n : ℕ) (todo : Bare) (s1 : Core E) → s1.clock ≤ (closed w (fetched v m n s1)).clock → After todo s1
      → After todo (closed w (fetched v m n s1))
  after_close w m n todo s1 up (inl q) = inl (from_same todo _ _ _ _ refl (closed_heard w (fetched v m n s1)) q)
  after_close w m n todo s1 up (inr q) = inr (omega arith)

  pub after_fetch : (m : Marks) (n : ℕ) (todo : Bare) (s1 : Core E) → After todo s1 → After todo (fetched v m n s1)
  after_fetch m n todo s1 (inl q) = inl q
  after_fetch m n todo s1 (inr q) = inr (omega arith)

  -- the test below a body
  pub after_body : (m : Marks) (e : Expression) (c r : Bare) (a : ℕ) (s : Core E) (w : Bool) → holds (value_of e s.memory) ≡ w → After (While tt e c r) s
      → After (cond w (then_todo c (While tt e c r)) r) (tested v m e a s)
  after_body m e c r a s w q (inl h) = inl (after_while m e c r a s w q h)
  after_body m e c r a s w q (inr far) = let up = tested_clock v m e a s in inr (omega arith)

  -- the rest, or the cut was past before it
  then_on : {j : Job} {s s' : Core E} (rest : Bare) (todo : Bare) (k : Runs v lat g lim j s s') → (Here todo s → After rest s') → After todo s → After rest s'
  then_on rest todo k f (inl h) = f h
  then_on rest todo k f (inr far) = let up = (grows_run v lat g o lim k).clock in inr (omega arith)

  pub ends_after : (m : Marks) (k l : ℕ) (n : ℤ) (a : ℕ) (s0 s1 : Core E) → s0.clock ≤ s1.clock
      → s1.clock ≤ (closed (opening n l k s0) (fetched v m a s1)).clock
  ends_after m k l n a s0 s1 h = let up = (closed_grows lim (opening n l k s0) (fetched v m a s1) (omega arith)).clock in omega arith

  pub goes_on : {j : Job} {s s' : Core E} (d : Runs v lat g lim j s s') (rest : Bare) → Here (todo_of j rest) s → After rest s'
  goes_on done rest h = inl h
  goes_on (late far) rest h = inr far
  goes_on (skip k) rest h = goes_on k rest (λ n. h (suc n))
  goes_on {s = s} (assign {m = m} {x = x} {e = e} {r = r} {a = a} k) rest h =
      let more = then_todo (commands_of r) rest in
      then_on rest more k (goes_on k rest) (after_assign m x e more a s h)
  goes_on {s = s} (put {m = m} {f = f} {n = n} {i = i} {e = e} {r = r} {a = a} k) rest h =
      let more = then_todo (commands_of r) rest in
      then_on rest more k (goes_on k rest) (after_put m f n i e more a s h)
  goes_on {s = s} (sleep {m = m} {e = e} {r = r} {a = a} k) rest h = goes_on k rest (after_sleep m e (then_todo (commands_of r) rest) a s h)
  goes_on {s = s} (if_true {m = m} {e = e} {c = c} {d = d} {r = r} {a = a} {s1 = s1} w b k) rest h =
      let more = then_todo (commands_of r) rest in
      then_on rest more k (goes_on k rest) (after_fetch (raised lat g e m) (a + expr_size e + 1 + size c) more s1
      (goes_on b more (after_if m e (commands_of c) (commands_of d) more a s true w h)))
  goes_on {s = s} (if_false {m = m} {e = e} {c = c} {d = d} {r = r} {a = a} w b k) rest h =
      let more = then_todo (commands_of r) rest in
      then_on rest more k (goes_on k rest) (goes_on b more (after_if m e (commands_of c) (commands_of d) more a s false w h))
  goes_on {s = s} (while_none {m = m} {e = e} {c = c} {r = r} {a = a} w k) rest h =
      goes_on k rest (after_while m e (commands_of c) (then_todo (commands_of r) rest) a s false w h)
  goes_on {s = s} (while_some {m = m} {e = e} {c = c} {r = r} {a = a} w b k) rest h =
      let more = then_todo (commands_of r) rest in
      then_on rest more k (goes_on k rest) (goes_on b more (after_while m e (commands_of c) more a s true w h))
  goes_on {s = s} (mitigate {m = m} {k = mark} {l = l} {e = e} {c = c} {r = r} {a = a} {s1 = s1} b k) rest h =
      let more = then_todo (commands_of r) rest in
      let s0 = tested v m e a s in
      let up = (grows_run v lat g o lim b).clock in
      let end = ends_after m mark l (value_of e s.memory) (a + expr_size e + 1 + size c) s0 s1 up in
      then_on rest more k (goes_on k rest)
      (after_close (opening (value_of e s.memory) l mark s0) m (a + expr_size e + 1 + size c) more s1 end
      (then_on more (then_todo (commands_of c) more) b (goes_on b more) (after_begin m mark e (commands_of c) more a s h)))
  goes_on (last {m = m} {e = e} {c = c} {a = a} {s1 = s1} b w) rest h =
      after_body (raised lat g e m) e (commands_of c) rest (a + size c) s1 false w (goes_on b (While tt e (commands_of c) rest) h)
  goes_on (again {m = m} {e = e} {c = c} {a = a} {s1 = s1} b w k) rest h =
      then_on rest (then_todo (commands_of c) (While tt e (commands_of c) rest)) k (goes_on k rest)
      (after_body (raised lat g e m) e (commands_of c) rest (a + size c) s1 true w (goes_on b (While tt e (commands_of c) rest) h))
