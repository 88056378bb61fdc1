-- What a step without waits does.
use Rattle.std.proofs.Common.{◌≡◌, ◌<◌, ◌≤◌, ℕ, ◌+◌, ◌*◌, List, [], ◌∷◌, ◌++◌, sym, ap, subst, ◌∙◌, refl, arith, length}
use Rattle.std.specs.Prelude.{ℤ, Bool, MatchBool, true, false, Some, slice_get, reverse, map, vec_capacity}
use Rattle.std.proofs.lemmas.List.{length-reverse, length-map, length-append}
use Rattle.label_lattice.specs.declared.label.Label.{Label}
use Rattle.label_lattice.specs.Order.{Order}
use Rattle.label_code.specs.declared.code.Work.TheVariants.{Mite}
use Rattle.label_code.specs.declared.code.Instr.{Instr}
use Rattle.label_code.specs.Machine.{Core, Opened, Machine, Event, Wrote, Began, Ended, step, obey, close_first, fetched, marks_of}
use Rattle.label_code.specs.Shaped.{Code, Depths, HasDepths, closes}
use Rattle.env_contract.specs.Env.{Env}
use Rattle.env_contract.specs.declared.place.Kind.TheVariants as kind
use Rattle.cycle_machine.specs.declared.state.State.{State}
use Rattle.cycle_machine.specs.declared.state.Open.{Open}
use Rattle.cycle_machine.specs.Seen.{seen, with_log, opened_of, core_of}
use Rattle.cycle_machine.specs.Took.{after, Stands, Stepped}
use Rattle.cycle_machine.specs.declared.state.Outcome.{Outcome}
use Rattle.cycle_machine.specs.declared.state.Outcome.TheVariants as did
use Rattle.first_replay.specs.Replay.{entry_of}
use Rattle.entry_run.specs.Worked.{pose, entry_at, Passed, ClosedAtOnce, Worked, pace_of}
use Rattle.entry_run.specs.declared.work.Pace.TheVariants.{Went}
use Rattle.entry_run.proofs.Costs.{after_costs}

step_is : {E : Type 0} (v : Env E) (image : List Instr) (i : Instr) (old : State E) → slice_get image old.place ≡ Some i →
    step v image (seen old) ≡ after v i old
step_is v image i old e = ap (λ o. obey v o (seen old)) e

-- the cycles of a step whose machine is known
pub passed_by : {E : Type 0} (v : Env E) (image : List Instr) (i : Instr) (limit : ℕ) (old new : State E) (m : Machine E) →
    slice_get image old.place ≡ Some i → (after v i old).core.clock ≡ old.clock + (entry_at v image old).cost →
    step v image (seen old) ≡ m → m.core.clock ≡ new.clock → new.clock ≤ limit → old.clock < new.clock → Passed v image limit old new
passed_by v image i limit old new m e c s n w l =
    record {
      clock = sym n ∙ (ap (λ z. z.core.clock) (sym s) ∙ (ap (λ z. z.core.clock) (step_is v image i old e) ∙ c));
      later = l;
      within = w;
    }

pub late_by : {E : Type 0} (v : Env E) (image : List Instr) (i : Instr) (limit : ℕ) (old : State E) →
    slice_get image old.place ≡ Some i → (after v i old).core.clock ≡ old.clock + (entry_at v image old).cost →
    limit < (step v image (seen old)).core.clock → limit < old.clock + (entry_at v image old).cost
late_by v image i limit old e c h = subst (λ z. limit < z) (ap (λ z. z.core.clock) (step_is v image i old e) ∙ c) h

-- the pose of a mitigation's end does not hang on how it ends
end_pose : {E : Type 0} (a : ℕ) (ops : List ℤ) (os : List Opened) (s : Core E) →
    pose (close_first a ops os s) ≡ record { place = a; operands = ops; memory = s.memory; env = s.env; halted = false }
end_pose a ops [] s = refl
end_pose a ops (o ∷ os) s = refl

abbrev end_instr : Label → Label → Instr
end_instr er ew = record { work = Mite; er = er; ew = ew }

end_cost : (c f : ℕ) → c + (1 + f) ≡ c + (1 + f + 0)
end_cost c f = omega arith

pub end_costs : {E : Type 0} (v : Env E) (image : List Instr) (er ew : Label) (s : State E) → slice_get image s.place ≡ Some (end_instr er ew) →
    s.clock + (1 + v.cost_of kind.Code (4 * s.place) er.number ew.number s.env) ≡ s.clock + (entry_at v image s).cost
end_costs v image er ew s e =
    end_cost s.clock (v.cost_of kind.Code (4 * s.place) er.number ew.number s.env)
    ∙ ap (λ o. s.clock + (entry_of v o s.place (reverse s.operands.items) s.env).cost) (sym e)

one_fewer : (xs ys : List Open) (o : Open) → xs ≡ ys ++ o ∷ [] → length (map opened_of (reverse xs)) ≡ length (map opened_of (reverse ys)) + 1
one_fewer xs ys o e =
    ap (λ z. length (map opened_of (reverse z))) e
    ∙ (length-map (reverse (ys ++ o ∷ [])) opened_of
    ∙ (length-reverse (ys ++ o ∷ [])
    ∙ (length-append ys (o ∷ [])
    ∙ ap (λ n. n + 1) (sym (length-reverse ys) ∙ sym (length-map (reverse ys) opened_of)))))

pub ended_is : {E : Type 0} (v : Env E) (serves : Order → E → Type 0) (c : Code) (er ew : Label) (limit : ℕ) (old new : State E) → Stands serves c old →
    slice_get c.instrs old.place ≡ Some (end_instr er ew) → ClosedAtOnce v serves er ew limit old new → Worked v serves c old limit Went new
ended_is v serves c er ew limit old new h e k =
    let ds : Depths = h.depths.0 in
    let has : HasDepths c ds = h.depths.1 in
    let there = h.depths.2 in
    let fine = has.each old.place (end_instr er ew) e in
    let fewer = one_fewer old.opened.items new.opened.items k.opened.0 k.opened.1 in
    let place : pose (step v c.instrs (seen old))
    ≡ record {
      place = old.place + 1;
      operands = reverse old.operands.items;
      memory = old.memory.items;
      env = v.next_of kind.Code (4 * old.place) er.number ew.number old.env;
      halted = false;
    } = ap pose (step_is v c.instrs (end_instr er ew) old e)
    ∙ end_pose (old.place + 1) (reverse old.operands.items) (map opened_of (reverse old.opened.items))
    (fetched v (marks_of (end_instr er ew)) old.place (core_of old)) in (
      place
          ∙ (ap (λ a. record {
            place = a;
            operands = reverse old.operands.items;
            memory = old.memory.items;
            env = v.next_of kind.Code (4 * old.place) er.number ew.number old.env;
            halted = false;
          }) (sym k.place)
          ∙ (ap (λ o. record {
            place = new.place;
            operands = reverse o.items;
            memory = old.memory.items;
            env = v.next_of kind.Code (4 * old.place) er.number ew.number old.env;
            halted = false;
          }) (sym k.operands)
          ∙ (ap (λ m. record {
            place = new.place;
            operands = reverse new.operands.items;
            memory = m.items;
            env = v.next_of kind.Code (4 * old.place) er.number ew.number old.env;
            halted = false;
          }) (sym k.memory)
          ∙ ap (λ n. record {
            place = new.place;
            operands = reverse new.operands.items;
            memory = new.memory.items;
            env = n;
            halted = false;
          }) (sym k.env)))),
      record { clock = k.clock ∙ end_costs v c.instrs er ew old e; later = omega (arith, k.clock); within = k.within },
      record {
        depths = (
          ds,
          has,
          record {
            within = omega (arith, k.place, fine.leads.within);
            operands = ap (λ o. length (reverse o.items)) k.operands
                ∙ (there.operands ∙ (omega (arith, fine.leads.operands) ∙ ap ds.operands (sym k.place)));
            nesting = omega (arith, fewer, there.nesting, fine.leads.nesting, ap ds.nesting k.place);
          },
        );
        operands = subst (λ o. c.operands ≤ vec_capacity o) (sym k.operands) h.operands;
        opened = omega (arith, h.opened, k.room);
        memory = ap (λ m. length m.items) k.memory ∙ h.memory;
        labels = h.labels;
        served = k.lattices c.order h.served;
      },
    )

-- the parts of a step that ended by the limit
abbrev pub WentWith : {E : Type 0} → Env E → (Order → E → Type 0) → Code → State E → ℕ → List Event → State E → Type 0
WentWith v serves c old limit es new =
    (step v c.instrs (seen old) ≡ with_log es (seen new)) × (new.clock ≤ limit) × (old.clock < new.clock) × Stands serves c new

pub went_by : {E : Type 0} (v : Env E) (serves : Order → E → Type 0) (c : Code) (i : Instr) (limit : ℕ) (old new : State E) (es : List Event) →
    slice_get c.instrs old.place ≡ Some i → closes i.work ≡ 0 → WentWith v serves c old limit es new → Worked v serves c old limit Went new
went_by v serves c i limit old new es e h w = (
  ap pose w.0,
  passed_by v c.instrs i limit old new (with_log es (seen new)) e (after_costs v c.instrs i old e h) w.0 refl w.1 w.2,
  w.3,
)

pub halted_by : {E : Type 0} (v : Env E) (c : Code) (i : Instr) (limit : ℕ) (old new : State E) →
    slice_get c.instrs old.place ≡ Some i → closes i.work ≡ 0 →
    (step v c.instrs (seen old) ≡ record (seen new) { halted = true }) × (new.clock ≤ limit) × (old.clock < new.clock) →
    (pose (step v c.instrs (seen old)) ≡ pose (record (seen new) { halted = true })) × Passed v c.instrs limit old new
halted_by v c i limit old new e h w = (
  ap pose w.0,
  passed_by v c.instrs i limit old new (record (seen new) { halted = true }) e (after_costs v c.instrs i old e h) w.0 refl w.1 w.2,
)

whole : (i : Instr) → i.work ≡ Mite → i ≡ end_instr i.er i.ew
whole i e = ap (λ w. record { work = w; er = i.er; ew = i.ew }) e

-- a mitigation's end, by the limit or after it
pub end_went : {E : Type 0} (v : Env E) (serves : Order → E → Type 0) (c : Code) (i : Instr) (limit : ℕ) (old new : State E) (b : Bool) (Q : Type 0) →
    Stands serves c old → slice_get c.instrs old.place ≡ Some i → i.work ≡ Mite → b ≡ true →
    MatchBool b (ClosedAtOnce v serves i.er i.ew limit old new) Q → Worked v serves c old limit Went new
end_went v serves c i limit old new b Q h e m t k =
    ended_is v serves c i.er i.ew limit old new h (e ∙ ap (λ z. Some z) (whole i m))
    (subst (λ z. MatchBool z (ClosedAtOnce v serves i.er i.ew limit old new) Q) t k)

pub end_late : {E : Type 0} (v : Env E) (image : List Instr) (i : Instr) (limit : ℕ) (old : State E) (b : Bool) (P : Type 0) →
    slice_get image old.place ≡ Some i → i.work ≡ Mite → b ≡ false →
    MatchBool b P (limit < old.clock + (1 + v.cost_of kind.Code (4 * old.place) i.er.number i.ew.number old.env)) →
    limit < old.clock + (entry_at v image old).cost
end_late v image i limit old b P e m t k =
    let late : limit < old.clock + (1 + v.cost_of kind.Code (4 * old.place) i.er.number i.ew.number old.env) =
    subst (λ z. MatchBool z P (limit < old.clock + (1 + v.cost_of kind.Code (4 * old.place) i.er.number i.ew.number old.env))) t k in
    subst (λ z. limit < z) (end_costs v image i.er i.ew old (e ∙ ap (λ z. Some z) (whole i m))) late

-- any step that ends no mitigation
pub paced : {E : Type 0} (v : Env E) (serves : Order → E → Type 0) (c : Code) (i : Instr) (limit : ℕ) (old new : State E) (d : Outcome) →
    slice_get c.instrs old.place ≡ Some i → closes i.work ≡ 0 → Stepped v serves c old limit d new → Worked v serves c old limit (pace_of d) new
paced v serves c i limit old new did.Went e h s = went_by v serves c i limit old new [] e h s
paced v serves c i limit old new (did.Wrote x n) e h s = went_by v serves c i limit old new (Wrote x n new.clock ∷ []) e h s
paced v serves c i limit old new (did.Began k) e h s = went_by v serves c i limit old new (Began k new.clock ∷ []) e h s
paced v serves c i limit old new (did.Ended k) e h s = went_by v serves c i limit old new (Ended k new.clock ∷ []) e h s
paced v serves c i limit old new did.Halted e h s = halted_by v c i limit old new e h s
paced v serves c i limit old new did.Late e h s = late_by v c.instrs i limit old e (after_costs v c.instrs i old e h) s.0
