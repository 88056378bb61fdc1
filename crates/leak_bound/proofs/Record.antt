-- What the record of a run is like: counts never fall, and a count m took 2 ^ m cycles.
use Rattle.std.proofs.Common.{◌≡◌, ℕ, ◌+◌, ◌-◌, ◌^◌, ◌<◌, ◌≤◌, List, [], ◌∷◌, ◌++◌, refl, sym, ap, ◌∙◌, subst, arith}
use Rattle.std.specs.Prelude.{Bool, true, false, cond, eqb, leb}
use Rattle.std.proofs.lemmas.Bool.{leb-true, eqb-true, eq-eqb}
use Rattle.mit_syntax.specs.Expression.{Expression}
use Rattle.mit_syntax.specs.Expression.{Number, Variable, Binary, Element}
use Rattle.mit_syntax.specs.Todo.{Marks}
use Rattle.mit_syntax.specs.Values.{element, value_of}
use Rattle.doubling_schedule.specs.Doubling.{at_least_zero, prediction, misses_after}
use Rattle.doubling_schedule.proofs.Settling.{one_up, misses_up, misses_enough}
use Rattle.label_lattice.specs.Lattice.{Lattice}
use Rattle.timing_types.specs.Typing.{label_of}
use Rattle.env_contract.specs.Env.{Env}
use Rattle.label_code.specs.Machine.{Core, Opened, Wrote, Began, Ended, fetched, touched, waited, written, closed}
use Rattle.code_lower.specs.Layout.{expr_size, size, raised}
use Rattle.leak_bound.specs.Records.{Entry, FromOn, NeverFalls}
use Rattle.code_lower.proofs.Timed.{timed_clock, tested_clock, reached_clock, timed_log, reached_log, timed, tested, reached, stored, begun, opening}
use Rattle.leak_bound.proofs.Runs.{Job, Runs, done, skip, assign, put, sleep, if_true, if_false, while_none, while_some, mitigate, last, again, late}
use Rattle.label_code.proofs.Upto.{upto, upto-late}
use Rattle.leak_bound.proofs.Low.{record_of}

-- the entries of a level are at most m
abbrev UpTo : ℕ → ℕ → List Entry → Type 0
UpTo l m [] = Unit {0}
UpTo l m (e ∷ r) = (l ≡ e.0 → e.1 ≤ m) × UpTo l m r

-- each count took its cycles, by c
abbrev pub Took : ℕ → List Entry → Type 0
Took c [] = Unit {0}
Took c (e ∷ r) = (2 ^ e.1 ≤ c) × Took c r

from-append : (l m m' : ℕ) (a b : List Entry) → m ≤ m' → FromOn l m a → FromOn l m' b → FromOn l m (a ++ b)
from-append l m m' [] [] h f k = tt
from-append l m m' [] (e ∷ b) h f k = (λ q. let x = k.0 q in omega arith, from-append l m m' [] b h f k.1)
from-append l m m' (e ∷ a) b h f k = (f.0, from-append l m m' a b h f.1 k)

upto-append : (l m m' : ℕ) (a b : List Entry) → m ≤ m' → UpTo l m a → UpTo l m' b → UpTo l m' (a ++ b)
upto-append l m m' [] b h f k = k
upto-append l m m' (e ∷ a) b h f k = (λ q. let x = f.0 q in omega arith, upto-append l m m' a b h f.1 k)

took-append : (c : ℕ) (a b : List Entry) → Took c a → Took c b → Took c (a ++ b)
took-append c [] b f k = k
took-append c (e ∷ a) b f k = (f.0, took-append c a b f.1 k)

falls-append : (k : ℕ → ℕ) (a b : List Entry) → NeverFalls a → NeverFalls b → ((l : ℕ) → UpTo l (k l) a) → ((l : ℕ) → FromOn l (k l) b) → NeverFalls (a ++ b)
falls-append k [] b f h up from = h
falls-append k (e ∷ a) b f h up from =
    (from-append e.0 e.1 (k e.0) a b ((up e.0).0 refl) f.0 (from e.0), falls-append k a b f.1 h (λ l. (up l).1) from)

-- from s to s' with this part of the record
pub record Grows {E : Type 0} (lim : ℕ) (s s' : Core E) (r : List Entry) : Type 0 where
  pub misses : (l : ℕ) → s.misses l ≤ s'.misses l
  pub clock : s.clock ≤ s'.clock
  pub above : (l : ℕ) → FromOn l (s.misses l) r
  pub under : (l : ℕ) → UpTo l (s'.misses l) r
  pub rises : NeverFalls r
  pub took : Took lim r
  pub none : lim < s.clock → r ≡ []
  pub log : lim < s.clock → upto lim s'.log ≡ upto lim s.log

grows_then : {E : Type 0} (lim : ℕ) (s s1 s2 : Core E) (a b : List Entry) → Grows lim s s1 a → Grows lim s1 s2 b → Grows lim s s2 (a ++ b)
grows_then lim s s1 s2 a b x y =
    let xc = x.clock in
    let yc = y.clock in
    record {
      misses = λ l. let p = x.misses l in let q = y.misses l in omega arith;
      clock = omega arith;
      above = λ l. from-append l (s.misses l) (s1.misses l) a b (x.misses l) (x.above l) (y.above l);
      under = λ l. upto-append l (s1.misses l) (s2.misses l) a b (y.misses l) (x.under l) (y.under l);
      rises = falls-append s1.misses a b x.rises y.rises x.under y.above;
      took = took-append lim a b x.took y.took;
      none = λ far. ap (λ z. z ++ b) (x.none far) ∙ y.none (omega arith);
      log = λ far. y.log (omega arith) ∙ x.log far;
    }

-- a step that adds nothing to the record, keeps the misses and does not turn back the clock
grows_quiet : {E : Type 0} (lim : ℕ) (s s1 s2 : Core E) (b : List Entry) → s1.misses ≡ s.misses → s.clock ≤ s1.clock
    → (lim < s.clock → upto lim s1.log ≡ upto lim s.log) → Grows lim s1 s2 b → Grows lim s s2 b
grows_quiet lim s s1 s2 b e h q y =
    let yc = y.clock in
    record {
      misses = λ l. subst (λ f. f l ≤ s2.misses l) e (y.misses l);
      clock = omega arith;
      above = λ l. subst (λ f. FromOn l (f l) b) e (y.above l);
      under = y.under;
      rises = y.rises;
      took = y.took;
      none = λ far. y.none (omega arith);
      log = λ far. y.log (omega arith) ∙ q far;
    }

then_quiet : {E : Type 0} (lim : ℕ) (s s1 s2 : Core E) (a : List Entry) → Grows lim s s1 a → s2.misses ≡ s1.misses → s1.clock ≤ s2.clock
    → upto lim s2.log ≡ upto lim s1.log → Grows lim s s2 a
then_quiet lim s s1 s2 a x e h q =
    let xc = x.clock in
    record {
      misses = λ l. subst (λ f. s.misses l ≤ f l) (sym e) (x.misses l);
      clock = omega arith;
      above = x.above;
      rises = x.rises;
      under = λ l. subst (λ f. UpTo l (f l) a) (sym e) (x.under l);
      took = x.took;
      none = x.none;
      log = λ far. q ∙ x.log far;
    }

grows_same : {E : Type 0} (lim : ℕ) (s : Core E) → Grows lim s s []
grows_same lim s = record {
  misses = λ l. omega arith;
  clock = omega arith;
  above = λ l. tt;
  under = λ l. tt;
  rises = tt;
  took = tt;
  none =
      λ far. refl;
  log = λ far. refl;
}

-- a part that a guard may leave out
grows_cond : {E : Type 0} (lim : ℕ) (b : Bool) (s s' : Core E) (a : List Entry) → Grows lim s s' a → Grows lim s s' (cond b a [])
grows_cond lim true s s' a x = x
grows_cond lim false s s' a x = record {
  misses = x.misses;
  clock = x.clock;
  above = λ l. tt;
  under = λ l. tt;
  rises = tt;
  took =
      tt;
  none = λ far. refl;
  log = x.log;
}

timed_miss : {E : Type 0} (v : Env E) (m : Marks) (e : Expression) (a : ℕ) (s : Core E) → (timed v m e a s).misses ≡ s.misses
timed_miss v m (Number n) a s = refl
timed_miss v m (Variable x) a s = refl
timed_miss v m (Binary op l r) a s = timed_miss v m r (a + expr_size l) _ ∙ timed_miss v m l a s
timed_miss v m (Element f n i) a s = timed_miss v m i a s

reached_miss : {E : Type 0} (v : Env E) (m : Marks) (i e : Expression) (a : ℕ) (s : Core E) → (reached v m i e a s).misses ≡ s.misses
reached_miss v m i e a s = timed_miss v m e (a + expr_size i) (timed v m i a s) ∙ timed_miss v m i a s

pub closed_grows : {E : Type 0} (lim : ℕ) (w : Opened) (q : Core E) → w.since ≤ q.clock
    → Grows lim q (closed w q) (cond (leb (closed w q).clock lim) ((w.level, misses_after w.estimate (q.clock - w.since) (q.misses w.level)) ∷ []) [])
closed_grows lim w q h = go (leb (closed w q).clock lim) refl
  where
    count : ℕ
    count = misses_after w.estimate (q.clock - w.since) (q.misses w.level)

    enough : q.clock - w.since < prediction w.estimate count
    enough = misses_enough w.estimate (q.clock - w.since) (q.misses w.level)

    more : q.misses w.level ≤ count
    more = misses_up w.estimate (q.clock - w.since) (q.misses w.level)

    up : (l : ℕ) (b : Bool) → eqb l w.level ≡ b → q.misses l ≤ cond b count (q.misses l)
    up l true e = subst (λ i. q.misses i ≤ count) (sym (eqb-true l w.level e)) more
    up l false e = omega arith

    top : (l : ℕ) (b : Bool) → b ≡ true → count ≤ cond b count (q.misses l)
    top l true e = omega arith
    top l false e = cc

    go : (b : Bool) → leb (closed w q).clock lim ≡ b → Grows lim q (closed w q) (cond b ((w.level, count) ∷ []) [])
    go true by =
        let in_time = leb-true (closed w q).clock lim by in
        record {
          misses = λ l. up l (eqb l w.level) refl;
          clock = omega (arith, enough);
          above = λ l. ((λ e. subst (λ i. q.misses i ≤ count) (sym e) more), tt);
          under = λ l. ((λ e. top l (eqb l w.level) (eq-eqb l w.level e)), tt);
          rises = (tt, tt);
          took = (omega (arith, in_time, one_up (at_least_zero w.estimate) (2 ^ count)), tt);
          none = λ far. absurd (omega (arith, in_time, enough));
          log = λ far. upto-late lim q.log (Ended w.mark (closed w q).clock) (omega (arith, enough));
        }
    go false by = record {
      misses = λ l. up l (eqb l w.level) refl;
      clock = omega (arith, enough);
      above = λ l. tt;
      under = λ l. tt;
      rises = tt;
      took =
          tt;
      none = λ far. refl;
      log = λ far. upto-late lim q.log (Ended w.mark (closed w q).clock) (omega (arith, enough));
    }

module _ {E : Type 0} (v : Env E) (lat : Lattice) (g : ℕ → ℕ) (o lim : ℕ) where
  tested_upto : (m : Marks) (e : Expression) (a : ℕ) (s : Core E) → upto lim (tested v m e a s).log ≡ upto lim s.log
  tested_upto m e a s = ap (upto lim) (timed_log v m e a s)

  pub grows_run : {j : Job} {s s' : Core E} → (d : Runs v lat g lim j s s') → Grows lim s s' (record_of v lat g o lim d)
  grows_run {s = s} done = grows_same lim s
  grows_run {s = s} (late h) = grows_same lim s
  grows_run {s = s} {s' = s'} (skip {m = m} {a = a} k) = grows_quiet lim s (fetched v m a s) s' _ refl (omega arith) (λ far. refl) (grows_run k)
  grows_run {s = s} {s' = s'} (assign {m = m} {x = x} {e = e} {a = a} k) =
      grows_quiet lim s (written x (value_of e s.memory) (touched v m x (tested v m e a s))) s' _ (timed_miss v m e a s) (omega (arith, timed_clock v m e a s))
      (λ far. upto-late lim (tested v m e a s).log (Wrote x (value_of e s.memory) (touched v m x (tested v m e a s)).clock)
      (omega (arith, timed_clock v m e a s)) ∙ tested_upto m e a s) (grows_run k)
  grows_run {s = s} {s' = s'} (put {m = m} {f = f} {n = n} {i = i} {e = e} {a = a} k) =
      let x = element f n (value_of i s.memory) in
      let s1 = touched v m x (reached v m i e a s) in
      grows_quiet lim s (stored v m f n i e a s) s' _ (reached_miss v m i e a s) (omega (arith, reached_clock v m i e a s))
      (λ far. upto-late lim s1.log (Wrote x (value_of e s.memory) s1.clock) (omega (arith, reached_clock v m i e a s))
      ∙ ap (upto lim) (reached_log v m i e a s)) (grows_run k)
  grows_run {s = s} {s' = s'} (sleep {m = m} {e = e} {a = a} k) =
      grows_quiet lim s (waited (at_least_zero (value_of e s.memory)) (tested v m e a s)) s' _ (timed_miss v m e a s) (omega (arith, timed_clock v m e a s))
      (λ far. tested_upto m e a s) (grows_run k)
  grows_run {s = s} {s' = s'} (if_true {m = m} {e = e} {c = c} {a = a} {s1 = s1} w b k) =
      let s0 = tested v m e a s in
      grows_quiet lim s s0 s' _ (timed_miss v m e a s) (tested_clock v m e a s) (λ far. tested_upto m e a s)
      (grows_then lim s0 s1 s' _ _ (grows_cond lim (lat.flows (label_of lat g e) o) s0 s1 _ (grows_run b))
      (grows_quiet lim s1 (fetched v (raised lat g e m) (a + expr_size e + 1 + size c) s1) s' _ refl (omega arith) (λ far. refl) (grows_run k)))
  grows_run {s = s} {s' = s'} (if_false {m = m} {e = e} {a = a} {s1 = s1} w b k) =
      let s0 = tested v m e a s in
      grows_quiet lim s s0 s' _ (timed_miss v m e a s) (tested_clock v m e a s) (λ far. tested_upto m e a s)
      (grows_then lim s0 s1 s' _ _ (grows_cond lim (lat.flows (label_of lat g e) o) s0 s1 _ (grows_run b)) (grows_run k))
  grows_run {s = s} {s' = s'} (while_none {m = m} {e = e} {a = a} w k) =
      let s0 = tested v m e a s in
      grows_quiet lim s s0 s' _ (timed_miss v m e a s) (tested_clock v m e a s) (λ far. tested_upto m e a s)
      (grows_then lim s0 s0 s' _ _ (grows_cond lim (lat.flows (label_of lat g e) o) s0 s0 [] (grows_same lim s0)) (grows_run k))
  grows_run {s = s} {s' = s'} (while_some {m = m} {e = e} {a = a} {s1 = s1} w b k) =
      let s0 = tested v m e a s in
      grows_quiet lim s s0 s' _ (timed_miss v m e a s) (tested_clock v m e a s) (λ far. tested_upto m e a s)
      (grows_then lim s0 s1 s' _ _ (grows_cond lim (lat.flows (label_of lat g e) o) s0 s1 _ (grows_run b)) (grows_run k))
  grows_run {s = s} {s' = s'} (mitigate {m = m} {k = mark} {l = l} {e = e} {c = c} {a = a} {s1 = s1} b k) =
      let s0 = tested v m e a s in
      let s2 = fetched v m (a + expr_size e + 1 + size c) s1 in
      let w = opening (value_of e s.memory) l mark s0 in
      let body = grows_run b in
      let bc = body.clock in
      grows_quiet lim s s0 s' _ (timed_miss v m e a s) (tested_clock v m e a s) (λ far. tested_upto m e a s)
      (grows_then lim s0 (closed w s2) s' _ _
      (grows_then lim s0 s2 (closed w s2) _ _
      (then_quiet lim s0 s1 s2 _ (grows_quiet lim s0 (begun mark s0) s1 _ refl (omega arith) (λ far. upto-late lim s0.log (Began mark s0.clock) far) body)
      refl (omega arith) refl) (part (lat.flows l o) (closed w s2) s2 _ (closed_grows lim w s2 (omega arith))))
      (grows_run k))
    where
      part : (b : Bool) (s2 s1 : Core E) (a : List Entry) → Grows lim s1 s2 a → Grows lim s1 s2 (cond b [] a)
      part true s2 s1 a x = record {
        misses = x.misses;
        clock = x.clock;
        above = λ l. tt;
        under = λ l. tt;
        rises = tt;
        took =
            tt;
        none = λ far. refl;
        log = x.log;
      }
      part false s2 s1 a x = x
  grows_run {s = s} (last {m = m} {e = e} {c = c} {a = a} {s1 = s1} b w) =
      then_quiet lim s s1 (tested v (raised lat g e m) e (a + size c) s1) _ (grows_run b) (timed_miss v (raised lat g e m) e (a + size c) s1)
      (tested_clock v (raised lat g e m) e (a + size c) s1) (tested_upto (raised lat g e m) e (a + size c) s1)
  grows_run {s = s} {s' = s'} (again {m = m} {e = e} {c = c} {a = a} {s1 = s1} b w k) =
      grows_then lim s s1 s' _ _ (grows_run b)
      (grows_quiet lim s1 (tested v (raised lat g e m) e (a + size c) s1) s' _ (timed_miss v (raised lat g e m) e (a + size c) s1)
      (tested_clock v (raised lat g e m) e (a + size c) s1) (λ far. tested_upto (raised lat g e m) e (a + size c) s1) (grows_run k))
