-- What a run tells: its assignments, and when each mitigation begins and ends, with what its rules take into account.
use Rattle.std.specs.Prelude.{◌≡◌, ℕ, zero, suc, ◌+◌, ◌-◌, List, [], ◌∷◌, ◌++◌, map, cond, ℤ, Option, Some, None, slice_get}
use Rattle.mit_syntax.specs.Values.{element}
use Rattle.env_contract.specs.Env.{Env}
use Rattle.doubling_schedule.specs.Doubling.{prediction, misses_after}
use Rattle.label_code.specs.declared.code.Work.{Work}
use Rattle.label_code.specs.declared.code.Work.TheVariants.{Push, Load, Store, LoadAt, StoreAt, Apply, Brz, Brnz, Jmp, Sleep, Mitb, Mite, Nop, Halt}
use Rattle.label_code.specs.declared.code.Instr.{Instr}
use Rattle.label_code.specs.Machine.{Event, Wrote, Began, Ended, Opened, Core, Machine, step, steps, first, rest, fetched, marks_of}
use Rattle.label_code.specs.Run.{Start, run_from}
use Rattle.label_code.specs.Machine.{start}
use Rattle.run_timeline.specs.declared.moment.Moment.{Moment}
use Rattle.run_timeline.specs.declared.moment.Moment.TheVariants.{Assigned, Begins, Ends}

-- the end of the mitigation that was opened last, at the clock at which its body and the fetch of its end are done
abbrev pub ending : {E : Type 0} → List Opened → Core E → List Moment
ending [] s = []
ending (o ∷ os) s =
    let worked = s.clock - o.since in
    let before = s.misses o.level in
    let after = misses_after o.estimate worked before in
    Ends o.mark worked (prediction o.estimate after) before after (o.since + prediction o.estimate after) ∷ []

-- what an instruction tells: of the operands, the open mitigations and the core after its fetch, and of the clock
-- after it
abbrev pub telling : {E : Type 0} → Work → List ℤ → List Opened → Core E → ℕ → List Moment
telling (Push n) ops os s c = []
telling (Load x) ops os s c = []
telling (Store x) ops os s c = Assigned x (first ops) c ∷ []
telling (LoadAt f n) ops os s c = []
telling (StoreAt f n) ops os s c = Assigned (element f n (first (rest ops))) (first ops) c ∷ []
telling (Apply o) ops os s c = []
telling (Brz b) ops os s c = []
telling (Brnz b) ops os s c = []
telling (Jmp b) ops os s c = []
telling Sleep ops os s c = []
telling (Mitb l k) ops os s c = Begins k (first ops) (prediction (first ops) (s.misses l.number)) (s.misses l.number) c ∷ []
telling Mite ops os s c = ending os s
telling Nop ops os s c = []
telling Halt ops os s c = []

abbrev pub told_at : {E : Type 0} → Env E → Option Instr → Machine E → ℕ → List Moment
told_at v None m c = []
told_at v (Some i) m c = telling i.work m.operands m.opened (fetched v (marks_of i) m.place m.core) c

-- what the next step tells; a halted machine tells nothing
abbrev pub told : {E : Type 0} → Env E → List Instr → Machine E → List Moment
told v code m = cond m.halted [] (told_at v (slice_get code m.place) m (step v code m).core.clock)

-- what so many steps tell
abbrev pub moments : {E : Type 0} → Env E → List Instr → ℕ → Machine E → List Moment
moments v code zero m = []
moments v code (suc k) m = told v code m ++ moments v code k (step v code m)

-- what the steps tell that lead from a start to the end of the run to T
pub record IsTimeline {E : Type 0} (v : Env E) (code : List Instr) (t : ℕ) (s : Start E) (ms : List Moment) : Type 0 where
  pub count : ℕ
  pub ends : steps v code count (start s.memory s.env) ≡ run_from v code t s
  pub tells : ms ≡ moments v code count (start s.memory s.env)

-- the event in the log
abbrev pub event_of : Moment → Event
event_of (Assigned x n c) = Wrote x n c
event_of (Begins k n d m c) = Began k c
event_of (Ends k w d m n c) = Ended k c

abbrev pub TellsTheLog : {E : Type 0} → Env E → Type 0
TellsTheLog {E} v = (code : List Instr) (t : ℕ) (s : Start E) (ms : List Moment) → IsTimeline v code t s ms → (run_from v code t s).core.log ≡ map event_of ms

abbrev pub HasOneTimeline : {E : Type 0} → Env E → Type 0
HasOneTimeline {E} v = (code : List Instr) (t : ℕ) (s : Start E) (ms ns : List Moment) → IsTimeline v code t s ms → IsTimeline v code t s ns → ms ≡ ns
