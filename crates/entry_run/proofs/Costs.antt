-- What the clock is after an instruction that ends no mitigation.
use Rattle.std.proofs.Common.{◌≡◌, ℕ, ◌+◌, ◌*◌, List, sym, ap, ◌∙◌, refl, arith}
use Rattle.std.specs.Prelude.{ℤ, Some, slice_get, reverse, map}
use Rattle.label_code.specs.declared.code.Work.{Work}
use Rattle.label_code.specs.declared.code.Work.TheVariants.{Push, Load, Store, LoadAt, StoreAt, Apply, Brz, Brnz, Jmp, Sleep, Mitb, Mite, Nop, Halt}
use Rattle.label_code.specs.declared.code.Instr.{Instr}
use Rattle.label_code.specs.Machine.{Core, Opened, act, fetched, marks_of}
use Rattle.label_code.specs.Shaped.{closes}
use Rattle.mit_syntax.specs.Todo.{Marks}
use Rattle.env_contract.specs.Env.{Env}
use Rattle.env_contract.specs.declared.place.Kind.TheVariants.{Code}
use Rattle.cycle_machine.specs.declared.state.State.{State}
use Rattle.cycle_machine.specs.Seen.{opened_of, core_of}
use Rattle.cycle_machine.specs.Took.{after}
use Rattle.first_replay.specs.Replay.{entry_of, cost_after}
use Rattle.entry_run.specs.Worked.{entry_at}

none_after : (c f : ℕ) → c + f ≡ c + (f + 0)
none_after c f = omega arith

some_after : (c f d : ℕ) → c + f + d ≡ c + (f + d)
some_after c f d = omega arith

act_costs : {E : Type 0} (v : Env E) (m : Marks) (w : Work) (a : ℕ) (ops : List ℤ) (os : List Opened) (s : Core E) → closes w ≡ 0 →
    (act v m w a ops os (fetched v m a s)).core.clock
    ≡ s.clock + (1 + v.cost_of Code (4 * a) m.er m.ew s.env + cost_after v m w ops (v.next_of Code (4 * a) m.er m.ew s.env))
act_costs v m (Push n) a ops os s h = none_after s.clock _
act_costs v m (Load x) a ops os s h = some_after s.clock _ _
act_costs v m (Store x) a ops os s h = some_after s.clock _ _
act_costs v m (LoadAt f n) a ops os s h = some_after s.clock _ _
act_costs v m (StoreAt f n) a ops os s h = some_after s.clock _ _
act_costs v m (Apply o) a ops os s h = some_after s.clock _ _
act_costs v m (Brz b) a ops os s h = none_after s.clock _
act_costs v m (Brnz b) a ops os s h = none_after s.clock _
act_costs v m (Jmp b) a ops os s h = none_after s.clock _
act_costs v m Sleep a ops os s h = some_after s.clock _ _
act_costs v m (Mitb l k) a ops os s h = none_after s.clock _
act_costs v m Mite a ops os s h = absurd (omega (arith, h))
act_costs v m Nop a ops os s h = none_after s.clock _
act_costs v m Halt a ops os s h = none_after s.clock _

pub after_costs : {E : Type 0} (v : Env E) (image : List Instr) (i : Instr) (s : State E) → slice_get image s.place ≡ Some i → closes i.work ≡ 0 →
    (after v i s).core.clock ≡ s.clock + (entry_at v image s).cost
after_costs v image i s e h =
    act_costs v (marks_of i) i.work s.place (reverse s.operands.items) (map opened_of (reverse s.opened.items)) (core_of s) h
    ∙ ap (λ o. s.clock + (entry_of v o s.place (reverse s.operands.items) s.env).cost) (sym e)

pub closes_none : (w : Work) → (w ≡ Mite → ⊥) → closes w ≡ 0
closes_none (Push n) h = refl
closes_none (Load x) h = refl
closes_none (Store x) h = refl
closes_none (LoadAt f n) h = refl
closes_none (StoreAt f n) h = refl
closes_none (Apply o) h = refl
closes_none (Brz b) h = refl
closes_none (Brnz b) h = refl
closes_none (Jmp b) h = refl
closes_none Sleep h = refl
closes_none (Mitb l k) h = refl
closes_none Mite h = absurd (h refl)
closes_none Nop h = refl
closes_none Halt h = refl
