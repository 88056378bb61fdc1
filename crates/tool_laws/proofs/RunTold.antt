-- The run of the program's image, whatever labels it has.
use Rattle.std.proofs.Common.{◌≡◌, ◌≤◌, ◌∙◌, refl, ap, ℕ, pos, List, [], ◌∷◌, length, None, arith}
use Rattle.std.specs.Fmt.{digits}
use Rattle.timing_types.specs.Labelling.{Labelling}
use Rattle.timing_types.specs.Labelled.{LabelledProgram}
use Rattle.label_code.specs.declared.code.Instr.{Instr}
use Rattle.label_code.specs.Machine.{Wrote, Machine, steps, start}
use Rattle.label_code.specs.Run.{Start, run_from}
use Rattle.code_lower.specs.Lowered.{lowered}
use Rattle.start_file.specs.Starts.{StartValue}
use Rattle.cycle_machine.specs.declared.end.RunEnd.TheVariants.{Halted}
use Rattle.event_print.specs.Text.{text_of}
use Rattle.cycle_machine.specs.Rest.{Told}
use Rattle.cycle_machine.specs.Rest.{told_by}
use Rattle.cycle_machine.proofs.Runs.{run_later, halted_stays}
use Rattle.tool_words.specs.declared.words.EnvName.TheVariants.{Flat}
use Rattle.env_contract.specs.Env.{Env}
use Rattle.env_contract.specs.declared.place.Touch.{Touch}
use Rattle.part_tlb.specs.Machine.{hardware_by_history}
use Rattle.part_tlb.specs.Named.{flat_machine}
use Rattle.tool_stages.specs.declared.envs.Environment.TheVariants.{Named}
use Rattle.tool_stages.specs.Envs.{told_in}
use Rattle.tool_stages.specs.Stages.{zero_start}
use Rattle.tool_laws.specs.FirstRun.{first_answer}
use Rattle.tool_laws.proofs.RunProgram.{program}

abbrev pub with_labels : Labelling → LabelledProgram
with_labels l = record { program = program; labels = l }

abbrev image : Labelling → List Instr
image l = (lowered (with_labels l)).instrs

pub three : (l : Labelling) → length (image l) ≡ 3
three l = refl

abbrev pub zeros : StartValue
zeros = zero_start program

abbrev flat : Env (List Touch)
flat = hardware_by_history flat_machine program.order

abbrev from_zeros : Start (List Touch)
from_zeros = record { memory = zeros.memory; env = [] }

abbrev zero_machine : Machine (List Touch)
zero_machine = start from_zeros.memory from_zeros.env

-- three steps: push 7, store it, halt
comes : (l : Labelling) (t : ℕ) → 3 ≤ t → run_from flat (image l) t from_zeros ≡ steps flat (image l) 3 zero_machine
comes l t h =
    run_later flat (image l) t 3 zero_machine (omega (arith, h))
    ∙ halted_stays flat (image l) t t (steps flat (image l) 3 zero_machine) refl

abbrev pub first_told : Told
first_told = record { events = Wrote 0 (pos 7) 2 ∷ []; end = Halted 3 }

pub tells : (l : Labelling) (t : ℕ) → 3 ≤ t → told_in (Named Flat) program.order (lowered (with_labels l)) zeros t ≡ first_told
tells l t h = ap told_by (comes l t h)

pub shows : (l : Labelling) → text_of (with_labels l) None first_told ≡ first_answer
unfolding digits
shows l = refl
