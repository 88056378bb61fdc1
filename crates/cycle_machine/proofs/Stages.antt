-- Quiet steps, and a turn or quiet steps after them.
use Rattle.std.proofs.Common.{◌≡◌, ◌≤◌, ◌+◌, ◌⊎◌, ℕ, List, ◌++◌, Bool, sym, ap, ◌∙◌, inl, inr, arith}
use Rattle.std.proofs.lemmas.List.Elements.{All-append}
use Rattle.label_code.specs.declared.code.Instr.{Instr}
use Rattle.label_code.specs.Shaped.{Code}
use Rattle.label_code.proofs.Leads.{steps-add}
use Rattle.env_contract.specs.Env.{Env}
use Rattle.label_code.specs.Machine.{Machine, steps}
use Rattle.cycle_machine.specs.declared.state.State.{State}
use Rattle.cycle_machine.specs.declared.turn.Turn.{Turn}
use Rattle.cycle_machine.specs.declared.turn.Turn.TheVariants.{Event, Began, Ended, Halted, Limit}
use Rattle.cycle_machine.specs.Seen.{seen}
use Rattle.cycle_machine.specs.Turned.{IsHidden, Quiet, Comes, Turned}
use Rattle.cycle_machine.proofs.Past.{past, steps_past, none_after}

-- no step changes no clock
same_clock : {E : Type 0} (v : Env E) (code : List Instr) (shown : List Bool) (limit : ℕ) (old mid : State E) (q : Quiet v code shown limit old mid)
    → q.count ≡ 0 → old.clock ≡ mid.clock
same_clock v code shown limit old mid q z = ap (λ m. m.core.clock) (ap (λ k. steps v code k (seen old)) (sym z) ∙ q.ends)

pub quiet_then : {E : Type 0} (v : Env E) (code : List Instr) (shown : List Bool) (limit : ℕ) (old mid new : State E)
    → Quiet v code shown limit old mid → Quiet v code shown limit mid new → Quiet v code shown limit old new
quiet_then {E} v code shown limit old mid new q r =
    record {
      count = q.count + r.count;
      hidden = q.hidden ++ r.hidden;
      unseen = All-append (IsHidden shown) q.hidden r.hidden q.unseen r.unseen;
      ends =
          steps-add v code q.count r.count (seen old)
          ∙ (ap (steps v code r.count) (q.ends ∙ sym (none_after q.hidden (seen mid)))
          ∙ (steps_past v code q.hidden r.count (seen mid) ∙ ap (past q.hidden) r.ends));
      within = elim r.within [ inl z ↦ stays_within z q.within | inr by ↦ inr by ];
      later = omega (arith, q.later, r.later);
    }
  where
    stays_within : r.count ≡ 0 → (q.count ≡ 0) ⊎ (mid.clock ≤ limit) → (q.count + r.count ≡ 0) ⊎ (new.clock ≤ limit)
    stays_within z (inl y) = inl (omega (arith, y, z))
    stays_within z (inr by) = inr (omega (arith, by, same_clock v code shown limit mid new r z))

comes_then : {E : Type 0} (v : Env E) (code : List Instr) (shown : List Bool) (limit : ℕ) (old mid new : State E) (m : Machine E)
    → Quiet v code shown limit old mid → Comes v code shown limit mid new m → Comes v code shown limit old new m
comes_then v code shown limit old mid new m q x =
    record { mid = x.mid; quiet = quiet_then v code shown limit old mid x.mid q x.quiet; next = x.next; within = x.within; later = x.later }

-- a turn after quiet steps is a turn from where they began
pub turned_then : {E : Type 0} (v : Env E) (c : Code) (shown : List Bool) (old mid : State E) (limit : ℕ) (turn : Turn) (new : State E)
    → Quiet v c.instrs shown limit old mid → Turned v c shown mid limit turn new → Turned v c shown old limit turn new
turned_then v c shown old mid limit (Event x n t) new q h = (comes_then v c.instrs shown limit old mid new _ q h.0, h.1, h.2)
turned_then v c shown old mid limit (Began k t) new q h = (comes_then v c.instrs shown limit old mid new _ q h.0, h.1)
turned_then v c shown old mid limit (Ended k t) new q h = (comes_then v c.instrs shown limit old mid new _ q h.0, h.1)
turned_then v c shown old mid limit (Halted t) new q h = (comes_then v c.instrs shown limit old mid new _ q h.0, h.1)
turned_then v c shown old mid limit (Limit t) new q h = (h.0, quiet_then v c.instrs shown limit old mid h.0 q h.1, h.2, h.3)
