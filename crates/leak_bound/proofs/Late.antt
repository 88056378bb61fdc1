-- A run from a label that is not low shows nothing.
use Rattle.std.proofs.Common.{◌≡◌, ℕ, ◌+◌, ◌<◌, ◌≤◌, List, [], ◌∷◌, refl, ap, ◌∙◌, subst}
use Rattle.std.proofs.lemmas.Bool.{cond-false, false_from_ne_true}
use Rattle.mit_syntax.specs.Expression.{Expression}
use Rattle.mit_syntax.specs.Todo.{Marks}
use Rattle.mit_syntax.specs.Values.{element, value_of}
use Rattle.label_lattice.specs.Lattice.{Lattice, Flows, IsLattice}
use Rattle.timing_types.specs.Typing.{label_of, index_label, Types}
use Rattle.timing_types.specs.Arrays.{ArraysIn}
use Rattle.env_contract.specs.Env.{Env}
use Rattle.label_code.specs.Machine.{Core, Event, Wrote, Began, Ended, fetched, touched, closed}
use Rattle.code_lower.specs.Layout.{expr_size, size, raised}
use Rattle.env_contract.specs.Laws.{IsLawful}
use Rattle.leak_bound.specs.Records.{Entry}
use Rattle.code_lower.proofs.Timed.{tested, reached, opening, timed_log, reached_log}
use Rattle.leak_bound.proofs.Runs.{Job, Do, Loop, Runs, done, skip, assign, put, sleep, if_true, if_false, while_none, while_some, mitigate, last, again, late}
use Rattle.timing_types.proofs.Places.{element_label}
use Rattle.label_code.proofs.Upto.{upto}
use Rattle.leak_bound.proofs.Shown.{shown, shown-none}
use Rattle.timing_types.proofs.Flow.{from_left, from_right, parts, inner_flows, start_flows, flows_to_end}
use Rattle.leak_bound.proofs.Low.{record_of}
use Rattle.leak_bound.proofs.Record.{grows_run}

module _ {E : Type 0} {serves : E → Type 0} (v : Env E) (lat : Lattice) (ll : IsLattice lat) (laws : IsLawful v lat serves) (g : ℕ → ℕ) (o lim : ℕ) where
  -- typed from the label i on
  abbrev pub From : Job → ℕ → ℕ → Type 0
  From (Do p a) i end = (pc : ℕ) × Types lat g pc i p end × ArraysIn g p × Flows lat pc i
  From (Loop m e c a) i end = (pc : ℕ) × Types lat g pc i c i × ArraysIn g c × Flows lat pc i × (i ≡ end)

  abbrev see : Core E → List Event
  see s = shown lat g o lim s.log

  tested_see : (m : Marks) (e : Expression) (a : ℕ) (s : Core E) → see (tested v m e a s) ≡ see s
  tested_see m e a s = ap (shown lat g o lim) (timed_log v m e a s)

  up : (a b : ℕ) → (Flows lat a o → ⊥) → Flows lat a b → Flows lat b o → ⊥
  up a b h f low = h (ll.chain a b o f low)

  blind_run : {j : Job} {s s' : Core E} (i end : ℕ) → From j i end → (Flows lat i o → ⊥) → Runs v lat g lim j s s' → see s' ≡ see s
  blind_run i end f h done = refl
  blind_run i end f h (late x) = refl
  blind_run i end f h (skip {m = m} k) =
      let to = ll.left i m.er in
      blind_run (lat.join i m.er) end (f.0, f.1.1, f.2, ll.chain f.0 i _ f.3 to) (up i _ h to) k
  blind_run {s = s} i end f h (assign {m = m} {x = x} {e = e} {a = a} k) =
      let to = (parts lat ll g (label_of lat g e) (index_label lat g e) f.0 i m.er (g x) f.1.0).time in
      let n = value_of e s.memory in
      let s1 = touched v m x (tested v m e a s) in
      blind_run (g x) end (f.0, f.1.2, f.2.1, ll.chain f.0 i (g x) f.3 to) (up i (g x) h to) k
      ∙ shown-none lat g o lim s1.log (Wrote x n s1.clock)
      (cond-false (lat.flows (g x) o) (Wrote x n s1.clock ∷ []) [] (false_from_ne_true (lat.flows (g x) o) (up i (g x) h to)))
      ∙ tested_see m e a s
  blind_run {s = s} i end f h (put {m = m} {f = b} {n = n} {i = j} {e = e} {a = a} k) =
      let to = (parts lat ll g (label_of lat g e) (lat.join (label_of lat g j) (index_label lat g e)) f.0 i m.er (g b) f.1.0).time in
      let x = element b n (value_of j s.memory) in
      let same = element_label g b n (value_of j s.memory) f.2.0.0 in
      let w = value_of e s.memory in
      let s1 = touched v m x (reached v m j e a s) in
      blind_run (g b) end (f.0, f.1.2, f.2.1, ll.chain f.0 i (g b) f.3 to) (up i (g b) h to) k
      ∙ shown-none lat g o lim s1.log (Wrote x w s1.clock)
      (cond-false (lat.flows (g x) o) (Wrote x w s1.clock ∷ []) [] (ap (λ z. lat.flows z o) same
      ∙ false_from_ne_true (lat.flows (g b) o) (up i (g b) h to)))
      ∙ ap (shown lat g o lim) (reached_log v m j e a s)
  blind_run {s = s} i end f h (sleep {m = m} {e = e} {a = a} k) =
      let to = start_flows lat ll g i (label_of lat g e) m.er in
      blind_run (lat.join (lat.join i (label_of lat g e)) m.er) end (f.0, f.1.1, f.2.1, ll.chain f.0 i _ f.3 to) (up i _ h to) k ∙ tested_see m e a s
  blind_run {s = s} i end f h (if_true {m = m} {e = e} {c = c} {a = a} w b k) =
      let l = label_of lat g e in
      let start = lat.join (lat.join i l) m.er in
      let inner = inner_flows lat ll g f.0 i l m.er f.3 in
      let to = start_flows lat ll g i l m.er in
      let both = lat.join f.1.0 f.1.1 in
      let on = ll.chain i start both to (ll.chain start f.1.0 both (flows_to_end lat ll g c (lat.join f.0 l) start f.1.0 inner f.1.3) (ll.left f.1.0 f.1.1)) in
      blind_run both end (f.0, f.1.5, f.2.3, ll.chain f.0 i both f.3 on) (up i both h on) k
      ∙ blind_run start f.1.0 (lat.join f.0 l, f.1.3, f.2.1, inner) (up i start h to) b ∙ tested_see m e a s
  blind_run {s = s} i end f h (if_false {m = m} {e = e} {d = d} {a = a} w b k) =
      let l = label_of lat g e in
      let start = lat.join (lat.join i l) m.er in
      let inner = inner_flows lat ll g f.0 i l m.er f.3 in
      let to = start_flows lat ll g i l m.er in
      let both = lat.join f.1.0 f.1.1 in
      let on = ll.chain i start both to (ll.chain start f.1.1 both (flows_to_end lat ll g d (lat.join f.0 l) start f.1.1 inner f.1.4) (ll.right f.1.0 f.1.1)) in
      blind_run both end (f.0, f.1.5, f.2.3, ll.chain f.0 i both f.3 on) (up i both h on) k
      ∙ blind_run start f.1.1 (lat.join f.0 l, f.1.4, f.2.2, inner) (up i start h to) b ∙ tested_see m e a s
  blind_run {s = s} i end f h (while_none {m = m} {e = e} {a = a} w k) =
      let l = label_of lat g e in
      let to = from_right lat ll g l i f.1.0 (from_left lat ll g (lat.join l i) m.er f.1.0 f.1.2) in
      blind_run f.1.0 end (f.0, f.1.4, f.2.2, ll.chain f.0 i f.1.0 f.3 to) (up i f.1.0 h to) k ∙ tested_see m e a s
  blind_run {s = s} i end f h (while_some {m = m} {e = e} {a = a} w b k) =
      let l = label_of lat g e in
      let li = from_left lat ll g (lat.join l i) m.er f.1.0 f.1.2 in
      let to = from_right lat ll g l i f.1.0 li in
      let pt = ll.chain f.0 i f.1.0 f.3 to in
      blind_run f.1.0 end (f.0, f.1.4, f.2.2, pt) (up i f.1.0 h to) k
      ∙ blind_run f.1.0 f.1.0 (
        lat.join f.0 l,
        f.1.3,
        f.2.1,
        ll.least f.0 l f.1.0 pt (from_left lat ll g l i f.1.0 li),
        refl,
      ) (up i f.1.0 h to) b ∙ tested_see m e a s
  blind_run {s = s} i end f h (mitigate {m = m} {k = mark} {l = l} {e = e} {c = c} {a = a} {s1 = s1} b k) =
      let start = lat.join (lat.join i (label_of lat g e)) m.er in
      let to = start_flows lat ll g i (label_of lat g e) m.er in
      let pt = ll.chain f.0 i start f.3 to in
      let s0 = tested v m e a s in
      let w = opening (value_of e s.memory) l mark s0 in
      let s2 = fetched v m (a + expr_size e + 1 + size c) s1 in
      blind_run start end (f.0, f.1.4, f.2.2, pt) (up i start h to) k
      ∙ shown-none lat g o lim s2.log (Ended mark (closed w s2).clock) refl
      ∙ blind_run start f.1.0 (f.0, f.1.2, f.2.1, pt) (up i start h to) b
      ∙ shown-none lat g o lim s0.log (Began mark s0.clock) refl ∙ tested_see m e a s
  blind_run {s = s} i end f h (last {m = m} {e = e} {c = c} {a = a} {s1 = s1} b w) =
      tested_see (raised lat g e m) e (a + size c) s1 ∙ blind_run i i (f.0, f.1, f.2, f.3) h b
  blind_run {s = s} i end f h (again {m = m} {e = e} {c = c} {a = a} {s1 = s1} b w k) =
      blind_run i end f h k ∙ tested_see (raised lat g e m) e (a + size c) s1 ∙ blind_run i i (f.0, f.1, f.2, f.3) h b

  -- what the rest of a run is like, wherever it begins: it adds nothing past the cut, and shows nothing from a label that is not low
  pub record Tail (i end : ℕ) (m s : Core E) (b : List Entry) : Type 0 where
    pub to : Flows lat i end
    pub clock : m.clock ≤ s.clock
    pub ends : lim < m.clock → b ≡ []
    pub log : lim < m.clock → upto lim s.log ≡ upto lim m.log
    pub blind : (Flows lat i o → ⊥) → see s ≡ see m

  pub flows_on : (j : Job) (i end : ℕ) → From j i end → Flows lat i end
  flows_on (Do p a) i end f = flows_to_end lat ll g p f.0 i end f.3 f.1
  flows_on (Loop m e c a) i end f = subst (λ z. Flows lat i z) f.4 (ll.same i)

  pub tail : {j : Job} {s s' : Core E} (i end : ℕ) → From j i end → (d : Runs v lat g lim j s s') → Tail i end s s' (record_of v lat g o lim d)
  tail {j = j} i end f d =
      let w = grows_run v lat g o lim d in
      record { to = flows_on j i end f; clock = w.clock; ends = w.none; log = w.log; blind = λ h. blind_run i end f h d }
