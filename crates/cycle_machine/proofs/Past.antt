-- A machine with events before its log.
use Rattle.std.proofs.Common.{◌≡◌, ◌+◌, ℕ, zero, suc, List, [], ◌∷◌, ◌++◌, refl, ap, ◌∙◌, append_assoc, cond, Bool, true, false, Option, Some, None, ℤ}
use Rattle.std.specs.Prelude.{slice_get}
use Rattle.std.proofs.lemmas.List.{append-nil}
use Rattle.label_code.specs.declared.code.Work.{Work}
use Rattle.label_code.specs.declared.code.Work.TheVariants.{Push, Load, Store, LoadAt, StoreAt, Apply, Brz, Brnz, Jmp, Sleep, Mitb, Mite, Nop, Halt}
use Rattle.label_code.specs.declared.code.Instr.{Instr}
use Rattle.mit_syntax.specs.Todo.{Marks}
use Rattle.env_contract.specs.Env.{Env}
use Rattle.label_code.specs.Machine.{Event, Core, Opened, Machine, act, obey, step, steps, at, closed, fetched, marks_of}
use Rattle.cycle_machine.specs.Seen.{with_log}

-- a core, and a machine, with these events before its log
abbrev pub core_past : {E : Type 0} → List Event → Core E → Core E
core_past l s = record s { log = l ++ s.log }

abbrev pub past : {E : Type 0} → List Event → Machine E → Machine E
past l m = record m { core = core_past l m.core }

act_past : {E : Type 0} (v : Env E) (m : Marks) (l : List Event) (w : Work) (a : ℕ) (ops : List ℤ) (os : List Opened) (s : Core E) →
    act v m w a ops os (core_past l s) ≡ past l (act v m w a ops os s)
act_past v m l (Push n) a ops os s = refl
act_past v m l (Load x) a ops os s = refl
act_past v m l (Store x) a ops os s =
    ap (λ z. record (act v m (Store x) a ops os s) { core = record (act v m (Store x) a ops os s).core { log = z } }) (append_assoc l s.log _)
act_past v m l (LoadAt f n) a ops os s = refl
act_past v m l (StoreAt f n) a ops os s =
    ap (λ z. record (act v m (StoreAt f n) a ops os s) { core = record (act v m (StoreAt f n) a ops os s).core { log = z } }) (append_assoc l s.log _)
act_past v m l (Apply o) a ops os s = refl
act_past v m l (Brz b) a ops os s = refl
act_past v m l (Brnz b) a ops os s = refl
act_past v m l (Jmp b) a ops os s = refl
act_past v m l Sleep a ops os s = refl
act_past v m l (Mitb k n) a ops os s =
    ap (λ z. record (act v m (Mitb k n) a ops os s) { core = record (act v m (Mitb k n) a ops os s).core { log = z } }) (append_assoc l s.log _)
act_past v m l Mite a ops [] s = refl
act_past v m l Mite a ops (o ∷ os) s = ap (λ z. at (a + 1) ops os (record (closed o s) { log = z })) (append_assoc l s.log _)
act_past v m l Nop a ops os s = refl
act_past v m l Halt a ops os s = refl

pub step_past : {E : Type 0} (v : Env E) (code : List Instr) (l : List Event) (x : Machine E) → step v code (past l x) ≡ past l (step v code x)
step_past {E} v code l x = go x.halted (slice_get code x.place)
  where
    obeyed : (o : Option Instr) → obey v o (past l x) ≡ past l (obey v o x)
    obeyed None = refl
    obeyed (Some i) = act_past v (marks_of i) l i.work x.place x.operands x.opened (fetched v (marks_of i) x.place x.core)

    go : (b : Bool) (o : Option Instr) → cond b (past l x) (obey v o (past l x)) ≡ past l (cond b x (obey v o x))
    go true o = refl
    go false o = obeyed o

pub steps_past : {E : Type 0} (v : Env E) (code : List Instr) (l : List Event) (n : ℕ) (x : Machine E) → steps v code n (past l x) ≡ past l (steps v code n x)
steps_past v code l zero x = refl
steps_past v code l (suc n) x = ap (steps v code n) (step_past v code l x) ∙ steps_past v code l n (step v code x)

-- a log that was empty is these events then
pub none_after : {E : Type 0} (l : List Event) (x : Machine E) → with_log (l ++ []) x ≡ with_log l x
none_after l x = ap (λ z. with_log z x) (append-nil l)
