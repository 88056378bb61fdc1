-- Code at a program counter that is not low changes nothing that is low.
use Rattle.std.proofs.Common.{◌≡◌, ℕ, ◌+◌, ◌-◌, ◌*◌, ◌^◌, [], ◌∷◌, length, refl, sym, ◌∙◌, subst}
use Rattle.std.specs.Prelude.{ℤ, pos, eqb}
use Rattle.std.proofs.lemmas.Bool.{cond-false, false_from_ne_true, ne_eqb}
use Rattle.std.proofs.lemmas.List.{get_or-set_other, length-set}
use Rattle.mit_syntax.specs.Expression.{Expression}
use Rattle.mit_syntax.specs.Expression.{Number, Variable, Binary, Element}
use Rattle.mit_syntax.specs.Todo.{Marks}
use Rattle.mit_syntax.specs.Values.{element, read, value_of}
use Rattle.label_code.specs.Costs.{op_cost}
use Rattle.doubling_schedule.specs.Doubling.{at_least_zero, misses_after}
use Rattle.label_lattice.specs.Lattice.{Lattice, Flows, IsLattice}
use Rattle.timing_types.specs.Typing.{label_of, index_label, Types}
use Rattle.timing_types.specs.Arrays.{ArraysIn}
use Rattle.env_contract.specs.Env.{Env}
use Rattle.env_contract.specs.declared.place.Place.{Place}
use Rattle.label_code.specs.Machine.{Core, Opened, Wrote, Began, Ended, fetched, touched, waited, written, closed}
use Rattle.env_contract.specs.declared.place.Kind.TheVariants.{Code, Data}
use Rattle.code_lower.specs.Layout.{expr_size, size, raised}
use Rattle.env_contract.specs.Laws.{IsLawful}
use Rattle.code_lower.proofs.Timed.{timed, tested, reached, begun, opening}
use Rattle.leak_bound.proofs.Runs.{Job, Do, Loop, Runs, done, skip, assign, put, sleep, if_true, if_false, while_none, while_some, mitigate, last, again, late}
use Rattle.timing_types.proofs.Places.{element_label}
use Rattle.leak_bound.proofs.Shown.{shown, shown-none}
use Rattle.timing_types.proofs.Flow.{from_left, from_right, parts, pc_to_ew, inner_flows, start_flows, flows_to_end}

module _ {E : Type 0} {serves : E → Type 0} (v : Env E) (lat : Lattice) (ll : IsLattice lat) (laws : IsLawful v lat serves) (g : ℕ → ℕ) (o lim : ℕ) where
  abbrev pub Low : ℕ → Type 0
  Low l = Flows lat l o

  abbrev pub High : ℕ → Type 0
  High l = Flows lat l o → ⊥

  pub high_up : (a b : ℕ) → High a → Flows lat a b → High b
  high_up a b h f low = h (ll.chain a b o f low)

  -- nothing low is changed from s to s'
  pub record Unchanged (s s' : Core E) : Type 0 where
    pub memory : (x : ℕ) → Low (g x) → read s'.memory x ≡ read s.memory x
    pub long : length s'.memory ≡ length s.memory
    pub kept : serves s.env → serves s'.env
    pub parts : serves s.env → (q : Place) (l : ℕ) → Low l → v.part q l s'.env ≡ v.part q l s.env
    pub misses : (l : ℕ) → Low l → s'.misses l ≡ s.misses l
    pub seen : shown lat g o lim s'.log ≡ shown lat g o lim s.log

  pub unchanged_same : (s : Core E) → Unchanged s s
  unchanged_same s = record { memory = λ x h. refl; long = refl; kept = λ c. c; parts = λ c q l h. refl; misses = λ l h. refl; seen = refl }

  pub unchanged_then : (s s1 s2 : Core E) → Unchanged s s1 → Unchanged s1 s2 → Unchanged s s2
  unchanged_then s s1 s2 u w =
      record {
        memory = λ x h. w.memory x h ∙ u.memory x h;
        long = w.long ∙ u.long;
        kept = λ c. w.kept (u.kept c);
        parts = λ c q l h. w.parts (u.kept c) q l h ∙ u.parts c q l h;
        misses = λ l h. w.misses l h ∙ u.misses l h;
        seen = w.seen ∙ u.seen;
      }

  pub fetched_high : (m : Marks) (a : ℕ) (s : Core E) → High m.ew → Unchanged s (fetched v m a s)
  fetched_high m a s h =
      record {
        memory = λ x low. refl;
        long = refl;
        misses = λ l low. refl;
        seen = refl;
        kept = laws.keeps Code (4 * a) m.er m.ew s.env;
        parts = λ c q l low. laws.write_label Code (4 * a) m.er m.ew s.env c q l (λ f. h (ll.chain m.ew l o f low));
      }

  pub touched_high : (m : Marks) (x : ℕ) (s : Core E) → High m.ew → Unchanged s (touched v m x s)
  touched_high m x s h =
      record {
        memory = λ x low. refl;
        long = refl;
        misses = λ l low. refl;
        seen = refl;
        kept = laws.keeps Data (2 ^ 20 + 8 * x) m.er m.ew s.env;
        parts = λ c q l low. laws.write_label Data (2 ^ 20 + 8 * x) m.er m.ew s.env c q l (λ f. h (ll.chain m.ew l o f low));
      }

  waited_same : (n : ℕ) (s : Core E) → Unchanged s (waited n s)
  waited_same n s = record { memory = λ x h. refl; long = refl; kept = λ c. c; parts = λ c q l h. refl; misses = λ l h. refl; seen = refl }

  pub timed_high : (m : Marks) (e : Expression) (a : ℕ) (s : Core E) → High m.ew → Unchanged s (timed v m e a s)
  timed_high m (Number n) a s h = fetched_high m a s h
  timed_high m (Variable x) a s h = unchanged_then s (fetched v m a s) _ (fetched_high m a s h) (touched_high m x (fetched v m a s) h)
  timed_high m (Binary op l r) a s h =
      let s1 = timed v m l a s in
      let s2 = timed v m r (a + expr_size l) s1 in
      let s3 = fetched v m (a + expr_size l + expr_size r) s2 in
      unchanged_then s s1 _ (timed_high m l a s h)
      (unchanged_then s1 s2 _ (timed_high m r (a + expr_size l) s1 h)
      (unchanged_then s2 s3 _ (fetched_high m (a + expr_size l + expr_size r) s2 h) (waited_same (op_cost op (value_of l s.memory) (value_of r s.memory)) s3)))
  timed_high m (Element f n i) a s h =
      let s1 = timed v m i a s in
      let s2 = fetched v m (a + expr_size i) s1 in
      unchanged_then s s1 _ (timed_high m i a s h)
      (unchanged_then s1 s2 _ (fetched_high m (a + expr_size i) s1 h) (touched_high m (element f n (value_of i s.memory)) s2 h))

  pub tested_high : (m : Marks) (e : Expression) (a : ℕ) (s : Core E) → High m.ew → Unchanged s (tested v m e a s)
  tested_high m e a s h = unchanged_then s (timed v m e a s) _ (timed_high m e a s h) (fetched_high m (a + expr_size e) (timed v m e a s) h)

  pub written_high : (x : ℕ) (n : ℤ) (s : Core E) → High (g x) → Unchanged s (written x n s)
  written_high x n s h =
      record {
        memory = λ y low. get_or-set_other s.memory x y n (pos 0) (λ e. h (subst (λ z. Low (g z)) e low));
        long = length-set s.memory x n;
        kept = λ c. c;
        parts = λ c q l low. refl;
        misses = λ l low. refl;
        seen = shown-none lat g o lim s.log (Wrote x n s.clock)
            (cond-false (lat.flows (g x) o) (Wrote x n s.clock ∷ []) [] (false_from_ne_true (lat.flows (g x) o) h));
      }

  pub begun_same : (k : ℕ) (s : Core E) → Unchanged s (begun k s)
  begun_same k s =
      record {
        memory = λ x h. refl;
        long = refl;
        kept = λ c. c;
        parts = λ c q l h. refl;
        misses = λ l h. refl;
        seen = shown-none lat g o lim s.log (Began k s.clock) refl;
      }

  pub closed_high : (w : Opened) (s : Core E) → High w.level → Unchanged s (closed w s)
  closed_high w s h =
      record {
        memory = λ x low. refl;
        long = refl;
        kept = λ c. c;
        parts = λ c q l low. refl;
        misses = λ l low. cond-false (eqb l w.level) (misses_after w.estimate (s.clock - w.since) (s.misses w.level)) (s.misses l)
            (ne_eqb l w.level (λ e. h (subst (λ z. Low z) e low)));
        seen = shown-none lat g o lim s.log (Ended w.mark (closed w s).clock) refl;
      }

  -- a list typed at a pc that is not low; a loop whose body is, and whose raised label is not low
  abbrev pub Secret : Job → Type 0
  Secret (Do p a) = (pc : ℕ) × (t : ℕ) × (end : ℕ) × Types lat g pc t p end × Flows lat pc t × ArraysIn g p × High pc
  Secret (Loop m e c a) = (pc : ℕ) × (t : ℕ) × (end : ℕ) × Types lat g pc t c end × Flows lat pc t × ArraysIn g c × High pc × High (raised lat g e m).ew

  ew_up : (pc : ℕ) (m : Marks) (e : Expression) → High pc → Flows lat (lat.join pc (index_label lat g e)) m.ew → High m.ew
  ew_up pc m e h q = high_up pc m.ew h (pc_to_ew lat ll g pc m e q)

  pub high_run : {j : Job} {s s' : Core E} → Secret j → Runs v lat g lim j s s' → Unchanged s s'
  high_run {s = s} sec done = unchanged_same s
  high_run {s = s} sec (late h) = unchanged_same s
  high_run {s = s} sec (skip {m = m} {r = r} {a = a} k) =
      let ew = high_up sec.0 m.ew sec.6 sec.3.0 in
      let t1 = lat.join sec.1 m.er in
      unchanged_then s (fetched v m a s) _ (fetched_high m a s ew)
      (high_run (sec.0, t1, sec.2, sec.3.1, ll.chain sec.0 sec.1 t1 sec.4 (ll.left sec.1 m.er), sec.5, sec.6) k)
  high_run {s = s} sec (assign {m = m} {x = x} {e = e} {r = r} {a = a} k) =
      let ew = ew_up sec.0 m e sec.6 sec.3.1 in
      let to = (parts lat ll g (label_of lat g e) (index_label lat g e) sec.0 sec.1 m.er (g x) sec.3.0).counter in
      let s1 = tested v m e a s in
      let s2 = touched v m x s1 in
      let s3 = written x (value_of e s.memory) s2 in
      unchanged_then s s1 _ (tested_high m e a s ew)
      (unchanged_then s1 s2 _ (touched_high m x s1 ew)
      (unchanged_then s2 s3 _ (written_high x (value_of e s.memory) s2 (high_up sec.0 (g x) sec.6 to))
      (high_run (sec.0, g x, sec.2, sec.3.2, to, sec.5.1, sec.6) k)))
  high_run {s = s} sec (put {m = m} {f = f} {n = n} {i = i} {e = e} {r = r} {a = a} k) =
      let li = lat.join (label_of lat g i) (index_label lat g e) in
      let ew = high_up sec.0 m.ew sec.6 (from_left lat ll g sec.0 li m.ew sec.3.1) in
      let to = (parts lat ll g (label_of lat g e) li sec.0 sec.1 m.er (g f) sec.3.0).counter in
      let x = element f n (value_of i s.memory) in
      let high : High (g x) = subst High (sym (element_label g f n (value_of i s.memory) sec.5.0.0)) (high_up sec.0 (g f) sec.6 to) in
      let s1 = timed v m i a s in
      let s2 = reached v m i e a s in
      let s3 = touched v m x s2 in
      let s4 = written x (value_of e s.memory) s3 in
      unchanged_then s s1 _ (timed_high m i a s ew)
      (unchanged_then s1 s2 _ (tested_high m e (a + expr_size i) s1 ew)
      (unchanged_then s2 s3 _ (touched_high m x s2 ew)
      (unchanged_then s3 s4 _ (written_high x (value_of e s.memory) s3 high)
      (high_run (sec.0, g f, sec.2, sec.3.2, to, sec.5.1, sec.6) k))))
  high_run {s = s} sec (sleep {m = m} {e = e} {r = r} {a = a} k) =
      let ew = ew_up sec.0 m e sec.6 sec.3.0 in
      let t1 = lat.join (lat.join sec.1 (label_of lat g e)) m.er in
      let s1 = tested v m e a s in
      let n = at_least_zero (value_of e s.memory) in
      unchanged_then s s1 _ (tested_high m e a s ew)
      (unchanged_then s1 (waited n s1) _ (waited_same n s1)
      (high_run (sec.0, t1, sec.2, sec.3.1, ll.chain sec.0 sec.1 t1 sec.4 (start_flows lat ll g sec.1 (label_of lat g e) m.er), sec.5.1, sec.6) k))
  high_run {s = s} sec (if_true {m = m} {e = e} {c = c} {d = d} {r = r} {a = a} {s1 = s1} w b k) =
      let pc = sec.0 in
      let l = label_of lat g e in
      let t1 = lat.join (lat.join sec.1 l) m.er in
      let ew = ew_up pc m e sec.6 sec.3.2 in
      let both = lat.join sec.3.0 sec.3.1 in
      let inner = inner_flows lat ll g pc sec.1 l m.er sec.4 in
      let to_end = flows_to_end lat ll g c (lat.join pc l) t1 sec.3.0 inner sec.3.3 in
      let to : Flows lat pc both = ll.chain pc sec.1 both sec.4
      (ll.chain sec.1 t1 both (start_flows lat ll g sec.1 l m.er) (ll.chain t1 sec.3.0 both to_end (ll.left sec.3.0 sec.3.1))) in
      let s0 = tested v m e a s in
      let s2 = fetched v (raised lat g e m) (a + expr_size e + 1 + size c) s1 in
      unchanged_then s s0 _ (tested_high m e a s ew)
      (unchanged_then s0 s1 _ (high_run (lat.join pc l, t1, sec.3.0, sec.3.3, inner, sec.5.1, high_up pc (lat.join pc l) sec.6 (ll.left pc l)) b)
      (unchanged_then s1 s2 _ (fetched_high (raised lat g e m) (a + expr_size e + 1 + size c) s1 (high_up m.ew (lat.join m.ew l) ew (ll.left m.ew l)))
      (high_run (pc, both, sec.2, sec.3.5, to, sec.5.3, sec.6) k)))
  high_run {s = s} sec (if_false {m = m} {e = e} {c = c} {d = d} {r = r} {a = a} {s1 = s1} w b k) =
      let pc = sec.0 in
      let l = label_of lat g e in
      let t1 = lat.join (lat.join sec.1 l) m.er in
      let ew = ew_up pc m e sec.6 sec.3.2 in
      let both = lat.join sec.3.0 sec.3.1 in
      let inner = inner_flows lat ll g pc sec.1 l m.er sec.4 in
      let to_end = flows_to_end lat ll g c (lat.join pc l) t1 sec.3.0 inner sec.3.3 in
      let to : Flows lat pc both = ll.chain pc sec.1 both sec.4
      (ll.chain sec.1 t1 both (start_flows lat ll g sec.1 l m.er) (ll.chain t1 sec.3.0 both to_end (ll.left sec.3.0 sec.3.1))) in
      let s0 = tested v m e a s in
      unchanged_then s s0 _ (tested_high m e a s ew)
      (unchanged_then s0 s1 _ (high_run (lat.join pc l, t1, sec.3.1, sec.3.4, inner, sec.5.2, high_up pc (lat.join pc l) sec.6 (ll.left pc l)) b)
      (high_run (pc, both, sec.2, sec.3.5, to, sec.5.3, sec.6) k))
  high_run {s = s} sec (while_none {m = m} {e = e} {c = c} {r = r} {a = a} w k) =
      let pc = sec.0 in
      let l = label_of lat g e in
      let ew = ew_up pc m e sec.6 sec.3.1 in
      let to = ll.chain pc sec.1 sec.3.0 sec.4 (from_right lat ll g l sec.1 sec.3.0 (from_left lat ll g (lat.join l sec.1) m.er sec.3.0 sec.3.2)) in
      unchanged_then s (tested v m e a s) _ (tested_high m e a s ew) (high_run (pc, sec.3.0, sec.2, sec.3.4, to, sec.5.2, sec.6) k)
  high_run {s = s} sec (while_some {m = m} {e = e} {c = c} {r = r} {a = a} {s1 = s1} w b k) =
      let pc = sec.0 in
      let l = label_of lat g e in
      let ew = ew_up pc m e sec.6 sec.3.1 in
      let lt = from_left lat ll g (lat.join l sec.1) m.er sec.3.0 sec.3.2 in
      let to = ll.chain pc sec.1 sec.3.0 sec.4 (from_right lat ll g l sec.1 sec.3.0 lt) in
      let inner = ll.least pc l sec.3.0 to (from_left lat ll g l sec.1 sec.3.0 lt) in
      unchanged_then s (tested v m e a s) _ (tested_high m e a s ew)
      (unchanged_then (tested v m e a s) s1 _
      (high_run (
        lat.join pc l,
        sec.3.0,
        sec.3.0,
        sec.3.3,
        inner,
        sec.5.1,
        high_up pc (lat.join pc l) sec.6 (ll.left pc l),
        high_up m.ew (lat.join m.ew l) ew (ll.left m.ew l),
      ) b)
      (high_run (pc, sec.3.0, sec.2, sec.3.4, to, sec.5.2, sec.6) k))
  high_run {s = s} sec (mitigate {m = m} {k = mark} {l = level} {e = e} {c = c} {r = r} {a = a} {s1 = s1} b k) =
      let pc = sec.0 in
      let l = label_of lat g e in
      let t1 = lat.join (lat.join sec.1 l) m.er in
      let ew = ew_up pc m e sec.6 sec.3.1 in
      let to = ll.chain pc sec.1 t1 sec.4 (start_flows lat ll g sec.1 l m.er) in
      let level_high = high_up pc level sec.6
      (ll.chain pc t1 level to (ll.chain t1 sec.3.0 level (flows_to_end lat ll g c pc t1 sec.3.0 to sec.3.2) sec.3.3)) in
      let s0 = tested v m e a s in
      let w = opening (value_of e s.memory) level mark s0 in
      let s2 = fetched v m (a + expr_size e + 1 + size c) s1 in
      unchanged_then s s0 _ (tested_high m e a s ew)
      (unchanged_then s0 (begun mark s0) _ (begun_same mark s0)
      (unchanged_then (begun mark s0) s1 _ (high_run (pc, t1, sec.3.0, sec.3.2, to, sec.5.1, sec.6) b)
      (unchanged_then s1 s2 _ (fetched_high m (a + expr_size e + 1 + size c) s1 ew)
      (unchanged_then s2 (closed w s2) _ (closed_high w s2 level_high)
      (high_run (pc, t1, sec.2, sec.3.4, to, sec.5.2, sec.6) k)))))
  high_run {s = s} sec (last {m = m} {e = e} {c = c} {a = a} {s1 = s1} b w) =
      unchanged_then s s1 _ (high_run (sec.0, sec.1, sec.2, sec.3, sec.4, sec.5, sec.6) b) (tested_high (raised lat g e m) e (a + size c) s1 sec.7)
  high_run {s = s} sec (again {m = m} {e = e} {c = c} {a = a} {s1 = s1} b w k) =
      let s2 = tested v (raised lat g e m) e (a + size c) s1 in
      unchanged_then s s1 _ (high_run (sec.0, sec.1, sec.2, sec.3, sec.4, sec.5, sec.6) b)
      (unchanged_then s1 s2 _ (tested_high (raised lat g e m) e (a + size c) s1 sec.7) (high_run sec k))
