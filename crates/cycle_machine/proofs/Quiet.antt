-- Quiet steps, one more.
use Rattle.std.proofs.Common.{◌≡◌, ◌≤◌, ◌<◌, ℕ, zero, suc, List, [], ◌++◌, Bool, refl, sym, ap, ◌∙◌, inl, inr, arith}
use Rattle.std.specs.Prelude.{All}
use Rattle.std.proofs.lemmas.List.Elements.{All-append, All-nil}
use Rattle.label_code.specs.declared.code.Instr.{Instr}
use Rattle.env_contract.specs.Env.{Env}
use Rattle.label_code.specs.Machine.{Event, Machine, step, steps}
use Rattle.cycle_machine.specs.declared.state.State.{State}
use Rattle.cycle_machine.specs.Seen.{seen, with_log}
use Rattle.cycle_machine.specs.Turned.{IsHidden, Quiet, Comes}
use Rattle.cycle_machine.proofs.Past.{past, step_past, none_after}

pub steps_last : {E : Type 0} (v : Env E) (code : List Instr) (n : ℕ) (s : Machine E) → steps v code (suc n) s ≡ step v code (steps v code n s)
steps_last v code zero s = refl
steps_last v code (suc n) s = steps_last v code n (step v code s)

-- after quiet steps one step more, which makes this of the state with an empty log
pub one_more : {E : Type 0} (v : Env E) (code : List Instr) (shown : List Bool) (limit : ℕ) (old mid : State E) (m : Machine E)
    → (q : Quiet v code shown limit old mid) → step v code (seen mid) ≡ m →
    steps v code (suc q.count) (seen old) ≡ past q.hidden m
one_more v code shown limit old mid m q e =
    steps_last v code q.count (seen old)
    ∙ (ap (step v code) (q.ends ∙ sym (none_after q.hidden (seen mid)))
    ∙ (step_past v code q.hidden (seen mid) ∙ ap (past q.hidden) e))

-- no step yet
pub quiet_first : {E : Type 0} (v : Env E) (code : List Instr) (shown : List Bool) (limit : ℕ) (s : State E) → Quiet v code shown limit s s
quiet_first v code shown limit s = record { count = 0; hidden = []; unseen = All-nil (IsHidden shown); ends = refl; within = inl refl; later = omega arith }

-- one step more, whose events are not shown
pub quiet_more : {E : Type 0} (v : Env E) (code : List Instr) (shown : List Bool) (limit : ℕ) (old mid new : State E) (es : List Event)
    → Quiet v code shown limit old mid →
    step v code (seen mid) ≡ with_log es (seen new) → All (IsHidden shown) es → new.clock ≤ limit → mid.clock < new.clock → Quiet v code shown limit old new
quiet_more v code shown limit old mid new es q e h l t =
    record {
      count = suc q.count;
      hidden = q.hidden ++ es;
      unseen = All-append (IsHidden shown) q.hidden es q.unseen h;
      ends = one_more v code shown limit old mid (with_log es (seen new)) q e;
      within = inr l;
      later = omega (arith, q.later, t);
    }

pub comes_next : {E : Type 0} (v : Env E) (code : List Instr) (shown : List Bool) (limit : ℕ) (old mid new : State E) (m : Machine E)
    → Quiet v code shown limit old mid → step v code (seen mid) ≡ m → new.clock ≤ limit →
    mid.clock < new.clock → Comes v code shown limit old new m
comes_next v code shown limit old mid new m q e l t = record { mid = mid; quiet = q; next = e; within = l; later = t }
