-- One step from a state that stands at known depths.
use Rattle.std.proofs.Common.{◌≡◌, ◌<◌, ◌≤◌, ◌+◌, ℕ, List, [], ◌∷◌, length, sym, ap, ◌∙◌, subst, arith, cond, true, false, Some, ℤ}
use Rattle.std.specs.Prelude.{slice_get, map, reverse, vec_len}
use Rattle.std.proofs.lemmas.List.{length-reverse, length-map}
use Rattle.std.proofs.lemmas.Option.{slice_get-get_or}
use Rattle.std.proofs.Common.{get_or}
use Rattle.label_code.specs.declared.code.Work.{Work}
use Rattle.label_code.specs.declared.code.Work.TheVariants.{Push, Load, Store, LoadAt, StoreAt, Apply, Brz, Brnz, Jmp, Sleep, Mitb, Mite, Nop, Halt}
use Rattle.label_code.specs.declared.code.Instr.{Instr}
use Rattle.mit_syntax.specs.Todo.{Marks}
use Rattle.mit_syntax.specs.Values.{holds}
use Rattle.env_contract.specs.Env.{Env}
use Rattle.label_code.specs.Machine.{Core, Opened, Machine, Event, act, obey, step, at, first, rest, fetched, marks_of}
use Rattle.cycle_machine.specs.declared.state.State.{State}
use Rattle.cycle_machine.specs.declared.state.Outcome.{Outcome}
use Rattle.cycle_machine.specs.declared.state.Outcome.TheVariants.{Went, Wrote as DidWrite, Began as DidBegin, Ended as DidEnd, Halted as DidHalt, Late}
use Rattle.label_code.specs.Shaped.{Code, Depths, HasDepths, Leads, InRange, takes, leaves, opens, closes}
use Rattle.label_lattice.specs.Order.{Order, most_labels}
use Rattle.cycle_machine.specs.Seen.{seen, with_log, core_of, opened_of}
use Rattle.cycle_machine.specs.Took.{after, Took, Keeps, IsServed, IsThere, Stands, Fits, Stepped}
use Rattle.cycle_machine.proofs.Close.{close_later}

length_rest : (xs : List ℤ) → 1 ≤ length xs → length (rest xs) + 1 ≡ length xs
length_rest [] h = omega arith
length_rest (x ∷ xs) h = omega arith

-- an instruction leads to the depths of the next place
act_there : {E : Type 0} (v : Env E) (m : Marks) (ds : Depths) (size : ℕ) (w : Work) (a : ℕ) (ops : List ℤ) (os : List Opened) (s : Core E) →
    takes w ≤ length ops → closes w ≤ length os → length ops ≡ ds.operands a → length os ≡ ds.nesting a → Leads ds size a w
    → IsThere ds size (act v m w a ops os s)
act_there v m ds size (Push n) a ops os s t c p q l =
    record { within = l.within; operands = omega (arith, l.operands, p); nesting = omega (arith, l.nesting, q) }
act_there v m ds size (Load x) a ops os s t c p q l =
    record { within = l.within; operands = omega (arith, l.operands, p); nesting = omega (arith, l.nesting, q) }
act_there v m ds size (Store x) a ops os s t c p q l =
    let r = length_rest ops t in record { within = l.within; operands = omega (arith, l.operands, p, r); nesting = omega (arith, l.nesting, q) }
act_there v m ds size (LoadAt f n) a ops os s t c p q l =
    let r = length_rest ops t in record { within = l.within; operands = omega (arith, l.operands, p, r); nesting = omega (arith, l.nesting, q) }
act_there v m ds size (StoreAt f n) a ops os s t c p q l =
    let r = length_rest ops (omega (arith, t)) in
    let r' = length_rest (rest ops) (omega (arith, t, r)) in
    record { within = l.within; operands = omega (arith, l.operands, p, r, r'); nesting = omega (arith, l.nesting, q) }
act_there v m ds size (Apply o) a ops os s t c p q l =
    let r = length_rest ops (omega (arith, t)) in
    let r' = length_rest (rest ops) (omega (arith, t, r)) in
    record { within = l.within; operands = omega (arith, l.operands, p, r, r'); nesting = omega (arith, l.nesting, q) }
act_there {E} v m ds size (Brz b) a ops os s t c p q l =
    let r = length_rest ops t in
    elim (holds (first ops)) as (λ z. IsThere ds size (at {E = E} (cond z (a + 1) b) (rest ops) os s)) [
      | true ↦ record { within = l.0.within; operands = omega (arith, l.0.operands, p, r); nesting = omega (arith, l.0.nesting, q) }
      | false ↦ record { within = l.1.within; operands = omega (arith, l.1.operands, p, r); nesting = omega (arith, l.1.nesting, q) }
    ]
act_there {E} v m ds size (Brnz b) a ops os s t c p q l =
    let r = length_rest ops t in
    elim (holds (first ops)) as (λ z. IsThere ds size (at {E = E} (cond z b (a + 1)) (rest ops) os s)) [
      | true ↦ record { within = l.1.within; operands = omega (arith, l.1.operands, p, r); nesting = omega (arith, l.1.nesting, q) }
      | false ↦ record { within = l.0.within; operands = omega (arith, l.0.operands, p, r); nesting = omega (arith, l.0.nesting, q) }
    ]
act_there v m ds size (Jmp b) a ops os s t c p q l =
    record { within = l.within; operands = omega (arith, l.operands, p); nesting = omega (arith, l.nesting, q) }
act_there v m ds size Sleep a ops os s t c p q l =
    let r = length_rest ops t in record { within = l.within; operands = omega (arith, l.operands, p, r); nesting = omega (arith, l.nesting, q) }
act_there v m ds size (Mitb k n) a ops os s t c p q l =
    let r = length_rest ops t in record { within = l.within; operands = omega (arith, l.operands, p, r); nesting = omega (arith, l.nesting, q) }
act_there v m ds size Mite a ops [] s t c p q l = absurd (omega (arith, c))
act_there v m ds size Mite a ops (o ∷ os) s t c p q l =
    record { within = l.within; operands = omega (arith, l.operands, p); nesting = omega (arith, l.nesting, q) }
act_there v m ds size Nop a ops os s t c p q l = record { within = l.within; operands = omega (arith, l.operands, p); nesting = omega (arith, l.nesting, q) }
act_there v m ds size Halt a ops os s t c p q l = record { within = omega (arith, l); operands = p; nesting = q }

-- no instruction ends before its fetch
act_later : {E : Type 0} (v : Env E) (m : Marks) (limit : ℕ) (w : Work) (a : ℕ) (ops : List ℤ) (os : List Opened) (s : Core E) → limit < s.clock
    → limit < (act v m w a ops os s).core.clock
act_later v m t (Push n) a ops os s h = h
act_later v m t (Load x) a ops os s h = omega (arith, h)
act_later v m t (Store x) a ops os s h = omega (arith, h)
act_later v m t (LoadAt f n) a ops os s h = omega (arith, h)
act_later v m t (StoreAt f n) a ops os s h = omega (arith, h)
act_later v m t (Apply o) a ops os s h = omega (arith, h)
act_later v m t (Brz b) a ops os s h = h
act_later v m t (Brnz b) a ops os s h = h
act_later v m t (Jmp b) a ops os s h = h
act_later v m t Sleep a ops os s h = omega (arith, h)
act_later v m t (Mitb k n) a ops os s h = h
act_later v m t Mite a ops os s h = close_later (a + 1) t ops os s h
act_later v m t Nop a ops os s h = h
act_later v m t Halt a ops os s h = h

-- there is room for what an instruction leaves
room : (ds : Depths) (size most deepest a : ℕ) (w : Work) → ((b : ℕ) → b < size → (ds.operands b ≤ most) × (ds.nesting b ≤ deepest)) → Leads ds size a w
    → ds.operands a ≤ most → ds.nesting a ≤ deepest →
    (ds.operands a + leaves w ≤ most + takes w) × (ds.nesting a + opens w ≤ deepest + closes w)
room ds size most deepest a (Push n) h l p q = let x = h (a + 1) l.within in (omega (arith, l.operands, x.0), omega (arith, q))
room ds size most deepest a (Load n) h l p q = let x = h (a + 1) l.within in (omega (arith, l.operands, x.0), omega (arith, q))
room ds size most deepest a (Store n) h l p q = (omega (arith, p), omega (arith, q))
room ds size most deepest a (LoadAt f n) h l p q = (omega (arith, p), omega (arith, q))
room ds size most deepest a (StoreAt f n) h l p q = (omega (arith, p), omega (arith, q))
room ds size most deepest a (Apply o) h l p q = (omega (arith, p), omega (arith, q))
room ds size most deepest a (Brz b) h l p q = (omega (arith, p), omega (arith, q))
room ds size most deepest a (Brnz b) h l p q = (omega (arith, p), omega (arith, q))
room ds size most deepest a (Jmp b) h l p q = (omega (arith, p), omega (arith, q))
room ds size most deepest a Sleep h l p q = (omega (arith, p), omega (arith, q))
room ds size most deepest a (Mitb k n) h l p q = let x = h (a + 1) l.within in (omega (arith, p), omega (arith, l.nesting, x.1))
room ds size most deepest a Mite h l p q = (omega (arith, p), omega (arith, q))
room ds size most deepest a Nop h l p q = (omega (arith, p), omega (arith, q))
room ds size most deepest a Halt h l p q = (omega (arith, p), omega (arith, q))

-- a range with all levels
wider : (n labels : ℕ) (w : Work) → labels ≤ most_labels → InRange n labels w → InRange n most_labels w
wider n labels (Push x) l h = h
wider n labels (Load x) l h = h
wider n labels (Store x) l h = h
wider n labels (LoadAt f m) l h = h
wider n labels (StoreAt f m) l h = h
wider n labels (Apply o) l h = h
wider n labels (Brz b) l h = h
wider n labels (Brnz b) l h = h
wider n labels (Jmp b) l h = h
wider n labels Sleep l h = h
wider n labels (Mitb k m) l h = omega (arith, l, h)
wider n labels Mite l h = h
wider n labels Nop l h = h
wider n labels Halt l h = h

pub fits_from : {E : Type 0} (serves : Order → E → Type 0) (c : Code) (i : Instr) (s : State E) → Stands serves c s → slice_get c.instrs s.place ≡ Some i →
    vec_len s.operands ≡ length s.operands.items → vec_len s.opened ≡ length s.opened.items → vec_len s.memory ≡ length s.memory.items → Fits i s
fits_from serves c i s h e lo lp lm =
    let ds : Depths = h.depths.0 in
    let has : HasDepths c ds = h.depths.1 in
    let there = h.depths.2 in
    let fine = has.each s.place i e in
    let all : (b : ℕ) → b < length c.instrs → (ds.operands b ≤ c.operands) × (ds.nesting b ≤ c.nesting) =
    λ b l. let f = has.each b (get_or c.instrs b i) (slice_get-get_or c.instrs b i l) in (f.few, f.shallow) in
    let r = room ds (length c.instrs) c.operands c.nesting s.place i.work all fine.leads fine.few fine.shallow in
    let a : length s.operands.items ≡ ds.operands s.place = sym (length-reverse s.operands.items) ∙ there.operands in
    let b : length s.opened.items ≡ ds.nesting s.place =
    sym (length-reverse s.opened.items) ∙ (sym (length-map (reverse s.opened.items) opened_of) ∙ there.nesting) in
    record {
      place = omega (arith, there.within, has.small);
      operands = omega (arith, lo, a, fine.enough);
      room = omega (arith, lo, a, r.0, h.operands);
      opened = omega (arith, lp, b, fine.opened);
      nesting = omega (arith, lp, b, r.1, h.opened);
      few = omega (arith, lm, h.memory, has.variables);
      range = subst (λ n. InRange n most_labels i.work) (sym (lm ∙ h.memory)) (wider c.variables c.order.size i.work h.labels fine.range);
    }

-- the labels of an instruction are the environment's
pub served_from : {E : Type 0} (serves : Order → E → Type 0) (c : Code) (i : Instr) (s : State E) → Stands serves c s → slice_get c.instrs s.place ≡ Some i
    → IsServed serves s.env i.er i.ew
served_from serves c i s h e =
    let has : HasDepths c h.depths.0 = h.depths.1 in
    let fine = has.each s.place i e in
    (c.order, (h.served, fine.er, fine.ew))

stands_next : {E : Type 0} (v : Env E) (serves : Order → E → Type 0) (c : Code) (i : Instr) (old new : State E) (es : List Event) → Stands serves c old
    → slice_get c.instrs old.place ≡ Some i →
    Keeps serves old new → after v i old ≡ with_log es (seen new) → Stands serves c new
stands_next v serves c i old new es h e k q =
    let ds : Depths = h.depths.0 in
    let has : HasDepths c ds = h.depths.1 in
    let there = h.depths.2 in
    let fine = has.each old.place i e in
    let t : IsThere ds (length c.instrs) (after v i old) =
    act_there v (marks_of i) ds (length c.instrs) i.work old.place (reverse old.operands.items) (map opened_of (reverse old.opened.items))
    (fetched v (marks_of i) old.place (core_of old)) (omega (arith, there.operands, fine.enough)) (omega (arith, there.nesting, fine.opened))
    there.operands there.nesting fine.leads in
    let t' : IsThere ds (length c.instrs) (with_log es (seen new)) = subst (λ m. IsThere ds (length c.instrs) m) q t in
    record {
      depths = (ds, has, record { within = t'.within; operands = t'.operands; nesting = t'.nesting });
      operands = omega (arith, h.operands, k.operands);
      opened = omega (arith, h.opened, k.opened);
      memory = k.memory ∙ h.memory;
      labels = h.labels;
      served = k.lattices c.order h.served;
    }

step_is : {E : Type 0} (v : Env E) (c : Code) (i : Instr) (old : State E) → slice_get c.instrs old.place ≡ Some i → step v c.instrs (seen old) ≡ after v i old
step_is v c i old e = ap (λ o. obey v o (seen old)) e

later_of : {E : Type 0} (v : Env E) (i : Instr) (old new : State E) (m : Machine E) → after v i old ≡ m → old.clock < m.core.clock
later_of v i old new m e =
    subst (λ m. old.clock < m.core.clock) e
    (act_later v (marks_of i) old.clock i.work old.place (reverse old.operands.items) (map opened_of (reverse old.opened.items))
    (fetched v (marks_of i) old.place (core_of old)) (omega arith))

pub advance_is : {E : Type 0} (v : Env E) (serves : Order → E → Type 0) (c : Code) (i : Instr) (old new : State E) (limit : ℕ) (d : Outcome)
    → Stands serves c old → slice_get c.instrs old.place ≡ Some i →
    Took v old i limit d new → Keeps serves old new → Stepped v serves c old limit d new
advance_is v serves c i old new limit Went h e t k = (step_is v c i old e ∙ t.0, t.1, later_of v i old new _ t.0, stands_next v serves c i old new [] h e k t.0)
advance_is v serves c i old new limit (DidWrite x n) h e t k =
    (step_is v c i old e ∙ t.0, t.1, later_of v i old new _ t.0, stands_next v serves c i old new _ h e k t.0)
advance_is v serves c i old new limit (DidBegin m) h e t k =
    (step_is v c i old e ∙ t.0, t.1, later_of v i old new _ t.0, stands_next v serves c i old new _ h e k t.0)
advance_is v serves c i old new limit (DidEnd m) h e t k =
    (step_is v c i old e ∙ t.0, t.1, later_of v i old new _ t.0, stands_next v serves c i old new _ h e k t.0)
advance_is v serves c i old new limit DidHalt h e t k = (step_is v c i old e ∙ t.0, t.1, later_of v i old new (record (seen new) { halted = true }) t.0)
advance_is v serves c i old new limit Late h e t k = (subst (λ m. limit < m.core.clock) (sym (step_is v c i old e)) t.0, t.1)
