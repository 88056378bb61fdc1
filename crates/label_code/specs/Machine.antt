-- The machine that counts cycles, over any environment.
use Rattle.std.specs.Prelude.{ℕ, zero, suc, ◌+◌, ◌*◌, ◌-◌, ◌^◌, leb, eqb, List, [], ◌∷◌, ◌++◌, Bool, true, false, cond, not, ◌&&◌, ℤ, pos, Option, Some, None}
use Rattle.std.specs.Prelude.{slice_get, slice_set}
use Rattle.label_lattice.specs.declared.label.Label.{Label}
use Rattle.label_code.specs.declared.code.Work.{Work}
use Rattle.label_code.specs.declared.code.Work.TheVariants.{Push, Load, Store, LoadAt, StoreAt, Apply, Brz, Brnz, Jmp, Sleep, Mitb, Mite, Nop, Halt}
use Rattle.label_code.specs.declared.code.Instr.{Instr}
use Rattle.mit_syntax.specs.Todo.{Marks}
use Rattle.mit_syntax.specs.Values.{apply, read, element, holds}
use Rattle.label_code.specs.Costs.{op_cost}
use Rattle.doubling_schedule.specs.Doubling.{at_least_zero, prediction, misses_after}
use Rattle.env_contract.specs.declared.place.Kind.TheVariants.{Code, Data}
use Rattle.env_contract.specs.Env.{Env}

-- the label with a number
abbrev pub label : ℕ → Label
label n = record { number = n }

abbrev pub instr : Work → Marks → Instr
instr w m = record { work = w; er = label m.er; ew = label m.ew }

abbrev pub marks_of : Instr → Marks
marks_of i = record { er = i.er.number; ew = i.ew.number }

pub data Event : Type 0 where
  Wrote : ℕ → ℤ → ℕ → Event
  Began : ℕ → ℕ → Event
  Ended : ℕ → ℕ → Event

-- an open mitigation: estimate, level, mark, and the clock when it began
pub record Opened : Type 0 where
  pub estimate : ℤ
  pub level : ℕ
  pub mark : ℕ
  pub since : ℕ

-- what a command can change
pub record Core (E : Type 0) : Type 0 where
  pub memory : List ℤ
  pub env : E
  pub clock : ℕ
  pub misses : ℕ → ℕ
  pub log : List Event

pub record Machine (E : Type 0) : Type 0 where
  pub place : ℕ
  pub operands : List ℤ
  pub opened : List Opened
  pub core : Core E
  pub halted : Bool

-- the parts of a step
abbrev pub fetched : {E : Type 0} → Env E → Marks → ℕ → Core E → Core E
fetched v m a s =
    record s {
      env = v.next_of Code (4 * a) m.er m.ew s.env;
      clock = s.clock + (1 + v.cost_of Code (4 * a) m.er m.ew s.env);
    }

abbrev pub touched : {E : Type 0} → Env E → Marks → ℕ → Core E → Core E
touched v m x s =
    record s {
      env = v.next_of Data (2 ^ 20 + 8 * x) m.er m.ew s.env;
      clock = s.clock + v.cost_of Data (2 ^ 20 + 8 * x) m.er m.ew s.env;
    }

abbrev pub waited : {E : Type 0} → ℕ → Core E → Core E
waited n s = record s { clock = s.clock + n }

abbrev pub logged : {E : Type 0} → Event → Core E → Core E
logged e s = record s { log = s.log ++ e ∷ [] }

abbrev pub written : {E : Type 0} → ℕ → ℤ → Core E → Core E
written x n s = record s { memory = slice_set s.memory x n; log = s.log ++ Wrote x n s.clock ∷ [] }

abbrev pub closed : {E : Type 0} → Opened → Core E → Core E
closed o s =
    let count = misses_after o.estimate (s.clock - o.since) (s.misses o.level) in
    let end = o.since + prediction o.estimate count in
    record s {
      clock = end;
      misses = λ l. cond (eqb l o.level) count (s.misses l);
      log = s.log ++ Ended o.mark end ∷ [];
    }

abbrev pub first : List ℤ → ℤ
first [] = pos 0
first (x ∷ xs) = x

abbrev pub rest : List ℤ → List ℤ
rest [] = []
rest (x ∷ xs) = xs

abbrev pub at : {E : Type 0} → ℕ → List ℤ → List Opened → Core E → Machine E
at a ops os s = record { place = a; operands = ops; opened = os; core = s; halted = false }

abbrev pub close_first : {E : Type 0} → ℕ → List ℤ → List Opened → Core E → Machine E
close_first a ops [] s = at a ops [] s
close_first a ops (o ∷ os) s = at a ops os (closed o s)

-- what an instruction does after its fetch
abbrev pub act : {E : Type 0} → Env E → Marks → Work → ℕ → List ℤ → List Opened → Core E → Machine E
act v m (Push n) a ops os s = at (a + 1) (n ∷ ops) os s
act v m (Load x) a ops os s = at (a + 1) (read s.memory x ∷ ops) os (touched v m x s)
act v m (Store x) a ops os s = at (a + 1) (rest ops) os (written x (first ops) (touched v m x s))
act v m (LoadAt f n) a ops os s =
    let x = element f n (first ops) in at (a + 1) (read s.memory x ∷ rest ops) os (touched v m x s)
act v m (StoreAt f n) a ops os s =
    let x = element f n (first (rest ops)) in at (a + 1) (rest (rest ops)) os (written x (first ops) (touched v m x s))
act v m (Apply o) a ops os s =
    at (a + 1) (apply o (first (rest ops)) (first ops) ∷ rest (rest ops)) os (waited (op_cost o (first (rest ops)) (first ops)) s)
act v m (Brz b) a ops os s = at (cond (holds (first ops)) (a + 1) b) (rest ops) os s
act v m (Brnz b) a ops os s = at (cond (holds (first ops)) b (a + 1)) (rest ops) os s
act v m (Jmp b) a ops os s = at b ops os s
act v m Sleep a ops os s = at (a + 1) (rest ops) os (waited (at_least_zero (first ops)) s)
act v m (Mitb l k) a ops os s =
    at (a + 1) (rest ops) (record { estimate = first ops; level = l.number; mark = k; since = s.clock } ∷ os) (logged (Began k s.clock) s)
act v m Mite a ops os s = close_first (a + 1) ops os s
act v m Nop a ops os s = at (a + 1) ops os s
act v m Halt a ops os s = record { place = a; operands = ops; opened = os; core = s; halted = true }

abbrev pub obey : {E : Type 0} → Env E → Option Instr → Machine E → Machine E
obey v None s = record s { core = waited 1 s.core }
obey v (Some i) s = act v (marks_of i) i.work s.place s.operands s.opened (fetched v (marks_of i) s.place s.core)

-- one step; a halted machine stays
abbrev pub step : {E : Type 0} → Env E → List Instr → Machine E → Machine E
step v image s = cond s.halted s (obey v (slice_get image s.place) s)

abbrev pub steps : {E : Type 0} → Env E → List Instr → ℕ → Machine E → Machine E
steps v image zero s = s
steps v image (suc n) s = steps v image n (step v image s)

-- as many steps as end by T, of at most so many
abbrev pub run_for : {E : Type 0} → Env E → List Instr → ℕ → ℕ → Machine E → Machine E
run_for v image t zero s = s
run_for v image t (suc n) s =
    cond (leb (step v image s).core.clock t && not s.halted) (run_for v image t n (step v image s)) s

-- a run to T: each step takes a cycle or more, so T steps are enough
abbrev pub run_to : {E : Type 0} → Env E → List Instr → ℕ → Machine E → Machine E
run_to v image t s = run_for v image t t s

abbrev pub start : {E : Type 0} → List ℤ → E → Machine E
start memory env = at 0 [] [] (record { memory = memory; env = env; clock = 0; misses = λ l. 0; log = [] })
