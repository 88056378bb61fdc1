-- Code of which one mitigate has another number for its estimate.
use Rattle.std.specs.Prelude.{◌≡◌, ◌≢◌, ◌+◌, ◌<◌, ℕ, List, map, ℤ, pos, true, Some, slice_get}
use Rattle.label_lattice.specs.declared.label.Label.{Label}
use Rattle.env_contract.specs.Env.{Env}
use Rattle.label_code.specs.declared.code.Work.{Work}
use Rattle.label_code.specs.declared.code.Work.TheVariants.{Push, Mitb}
use Rattle.label_code.specs.declared.code.Instr.{Instr}
use Rattle.label_code.specs.Machine.{Machine, steps, start}
use Rattle.first_replay.specs.Replay.{Entry}
use Rattle.run_entries.specs.Entries.{pushed_by, with_number}
use Rattle.run_entries.specs.Told.{replayed}
use Rattle.entry_run.specs.Runs.{Tells}

-- the number that an instruction pushes, or 0
abbrev pub number_of : Work → ℤ
number_of (Push n) = n
number_of _ = pos 0

-- the numbers that code pushes, by their places
abbrev pub numbers_in : List Instr → List ℤ
numbers_in is = map (λ i. number_of i.work) is

-- one instruction pushes a number, and the next one begins the mitigate with this mark
abbrev pub Estimates : Work → Work → ℕ → Type 0
Estimates one next mark = (number : ℤ) × (level : Label) × (one ≡ Push number) × (next ≡ Mitb level mark)

-- a number is pushed there, and the mitigate with this mark stands after it
pub record PushesFor (is : List Instr) (mark place : ℕ) : Type 0 where
  pub number : ℤ
  pub level : Label
  pub one : Instr
  pub next : Instr
  pub there : slice_get is place ≡ Some one
  pub after : slice_get is (place + 1) ≡ Some next
  pub pushes : one.work ≡ Push number
  pub opens : next.work ≡ Mitb level mark

-- it is the first place of which that holds
pub record IsPlaceOf (is : List Instr) (mark place : ℕ) : Type 0 where
  pub here : PushesFor is mark place
  pub first : (a : ℕ) → a < place → PushesFor is mark a → ⊥

-- one code is the other with this number in place of the one that is pushed there
pub record IsTuned (is other : List Instr) (place : ℕ) (n : ℤ) : Type 0 where
  pub one : Instr
  pub there : slice_get is place ≡ Some one
  pub pushes : slice_get other place ≡ Some (record { work = Push n; er = one.er; ew = one.ew })
  pub others : (a : ℕ) → a ≢ place → slice_get other a ≡ slice_get is a

-- after so many steps it has halted, with a memory, and its clock and its log are those of the replayed entries
pub record HaltsAs {E : Type 0} (v : Env E) (is other : List Instr) (numbers : ℕ → ℤ) (es : List Entry) (x : Machine E) : Type 0 where
  pub count : ℕ
  pub halted : (steps v other count x).halted ≡ true
  pub memory : (steps v other count x).core.memory ≡ (steps v is count x).core.memory
  pub clock : (steps v other count x).core.clock ≡ (replayed numbers es).clock
  pub log : (steps v other count x).core.log ≡ (replayed numbers es).log

-- The entries of a run to its halt tell the run of the code in which one mitigate's estimate is another number.
abbrev pub TunedRuns : {E : Type 0} → Env E → Type 0
TunedRuns {E} v =
    (is other : List Instr) (mark place : ℕ) (n : ℤ) (limit : ℕ) (memory : List ℤ) (env : E) (es : List Entry) →
    PushesFor is mark place → IsTuned is other place n → Tells v is limit (start memory env) es →
    HaltsAs v is other (with_number (pushed_by (numbers_in is)) place n) es (start memory env)
