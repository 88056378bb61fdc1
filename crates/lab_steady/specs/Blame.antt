-- Which variable is to blame for a fault: the last one that is read for the value that may differ, and is not seen.
use Rattle.std.specs.Prelude.{ℕ, zero, suc, ◌+◌, leb, List, Bool, cond, Option, Some, None, slice_get}
use Rattle.label_code.specs.declared.code.Work.{Work}
use Rattle.label_code.specs.declared.code.Work.TheVariants.{Push, Load, Store, LoadAt, StoreAt, Apply, Brz, Brnz, Jmp, Sleep, Mitb, Mite, Nop, Halt}
use Rattle.label_code.specs.declared.code.Instr.{Instr}
use Rattle.label_code.specs.Shaped.{takes}
use Rattle.steady_code.specs.declared.fault.Reason.{Reason}
use Rattle.steady_code.specs.declared.fault.Reason.TheVariants.{Felt, Guard, Index, Assigned, Left, Right, Wait, Estimate, Target, Seen}
use Rattle.timing_types.specs.Labelled.{LabelledProgram, order_of, labels_of}
use Rattle.code_lower.specs.Lowered.{lowered}
use Rattle.steady_code.specs.declared.fault.Fault.{Fault}
use Rattle.steady_code.specs.Timed.{low_of}
use Rattle.lab_steady.specs.Owner.{or_else}

-- what an instruction reads that is not seen: a variable, or an array, by its first element
abbrev pub hidden : (ℕ → Bool) → Work → Option ℕ
hidden low (Push n) = None
hidden low (Load x) = cond (low x) None (Some x)
hidden low (Store x) = None
hidden low (LoadAt f n) = cond (low f) None (Some f)
hidden low (StoreAt f n) = None
hidden low (Apply o) = None
hidden low (Brz b) = None
hidden low (Brnz b) = None
hidden low (Jmp b) = None
hidden low Sleep = None
hidden low (Mitb l k) = None
hidden low Mite = None
hidden low Nop = None
hidden low Halt = None

abbrev pub hidden_by : (ℕ → Bool) → Option Instr → Option ℕ
hidden_by low None = None
hidden_by low (Some i) = hidden low i.work

-- the last such of the instructions from a place on and before another one
abbrev pub hidden_in : (ℕ → Bool) → List Instr → ℕ → ℕ → Option ℕ
hidden_in low image from zero = None
hidden_in low image from (suc a) = cond (leb from a) (or_else (hidden_by low (slice_get image a)) (hidden_in low image from a)) None

-- where the code begins that makes the last k operands that are there before a place
abbrev pub taken : Option Instr → ℕ
taken None = 0
taken (Some i) = takes i.work

abbrev pub begin_of : List Instr → ℕ → ℕ → ℕ
begin_of image zero a = a
begin_of image (suc k) zero = zero
begin_of image (suc k) (suc a) = begin_of image (k + taken (slice_get image a)) a

-- An index stands just before its instruction, or before the value that is assigned.
abbrev pub index_end : List Instr → ℕ → Work → ℕ
index_end image a (Push n) = a
index_end image a (Load x) = a
index_end image a (Store x) = a
index_end image a (LoadAt f n) = a
index_end image a (StoreAt f n) = begin_of image 1 a
index_end image a (Apply o) = a
index_end image a (Brz b) = a
index_end image a (Brnz b) = a
index_end image a (Jmp b) = a
index_end image a Sleep = a
index_end image a (Mitb l k) = a
index_end image a Mite = a
index_end image a Nop = a
index_end image a Halt = a

-- The variable to blame for a fault of the instruction at a place. The code of a left operand ends where that of the right one
-- begins.
abbrev pub blamed : (ℕ → Bool) → List Instr → ℕ → Work → Reason → Option ℕ
blamed low image a w Felt = None
blamed low image a w Guard = hidden_in low image 0 a
blamed low image a w Index = hidden_in low image 0 (index_end image a w)
blamed low image a w Assigned = hidden_in low image 0 a
blamed low image a w Left = hidden_in low image 0 (begin_of image 1 a)
blamed low image a w Right = hidden_in low image 0 a
blamed low image a w Wait = hidden_in low image 0 a
blamed low image a w Estimate = hidden_in low image 0 a
blamed low image a w Target = None
blamed low image a w Seen = None

abbrev pub blamed_by : (ℕ → Bool) → List Instr → ℕ → Reason → Option Instr → Option ℕ
blamed_by low image a r None = None
blamed_by low image a r (Some i) = blamed low image a i.work r

-- for a fault of the image of a program, for an observer
abbrev pub blamed_of : LabelledProgram → ℕ → Fault → Option ℕ
blamed_of q o f =
    let image = (lowered q).instrs in
    blamed_by (low_of (order_of q) (labels_of q) o) image f.place f.reason (slice_get image f.place)
