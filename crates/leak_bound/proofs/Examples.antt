-- Small programs worked out by the definitions alone, in an environment without penalties and with two labels.
use Rattle.std.proofs.Common.{◌≡◌, List, [], ◌∷◌, ◌++◌, refl, map}
use Rattle.std.specs.Prelude.{ℕ, pos, negsuc, leb, max, true, false}
use Rattle.mit_syntax.specs.declared.ast.Op.TheVariants.{Add, Lt}
use Rattle.mit_syntax.specs.Expression.{Number, Variable, Binary, Element}
use Rattle.mit_syntax.specs.Todo.{Marks, Marked, Done, Skip, Assign, Put, While, Mitigate}
use Rattle.label_lattice.specs.Lattice.{Lattice}
use Rattle.source_meaning.specs.Source.{trace_of, HasEnded}
use Rattle.env_contract.specs.Env.{Env}
use Rattle.label_code.specs.declared.code.Instr.{Instr}
use Rattle.label_code.specs.declared.code.Work.TheVariants.{Halt}
use Rattle.label_code.specs.Machine.{Wrote, Began, Ended, instr}
use Rattle.label_code.specs.Run.{Start, run_from}
use Rattle.code_lower.specs.Code.{code_of}
use Rattle.leak_bound.specs.Digits.{digits}
use Rattle.leak_bound.specs.Relevant.{is_relevant, Begins}
use Rattle.leak_bound.specs.Sound.{seen_from, most_ended}
use Rattle.leak_bound.specs.Records.{distinct_count}
use Rattle.leak_bound.proofs.Still.{still}
use Rattle.leak_bound.proofs.Same.{same_events}

-- label 0 flows to label 1; variable x has label x
abbrev two : Lattice
two = record { flows = λ a b. leb a b; join = λ a b. max a b; bottom = 0 }

abbrev own : ℕ → ℕ
own x = x

abbrev flat : Env ℕ
flat = still (λ q l e. [])

abbrev mark : ℕ → ℕ → Marks
mark a b = record { er = a; ew = b }

abbrev image : Marked → List Instr
image p = code_of two own p 0 ++ instr Halt (mark 0 0) ∷ []

abbrev from : ℕ → Start ℕ
from h = record { memory = pos 0 ∷ pos h ∷ []; env = 0 }

-- each level is H
abbrev all_high : ℕ → ℕ
all_high k = 1

-- mitigate (1, H) { while 0 < h do { h := h + -1 } }; l := 1
abbrev waits : Marked
waits =
    Mitigate (mark 0 0) 0 1 (Number (pos 1))
    (While (mark 0 0) (Binary Lt (Number (pos 0)) (Variable 1)) (Assign (mark 1 1) 1 (Binary Add (Variable 1) (Number (negsuc 0))) Done) Done)
    (Assign (mark 0 0) 0 (Number (pos 1)) Done)

waits_log : (run_from flat (image waits) 40 (from 3)).core.log
    ≡ Began 0 2 ∷ Wrote 1 (pos 2) 10 ∷ Wrote 1 (pos 1) 18 ∷ Wrote 1 (pos 0) 26 ∷ Ended 0 34 ∷ Wrote 0 (pos 1) 36 ∷ []
waits_log = refl

-- its one mitigate is relevant for label 0, not for label 1, and begins once
waits_relevant : is_relevant two own all_high 0 waits 0 ≡ true
waits_relevant = refl

waits_plain : is_relevant two own all_high 1 waits 0 ≡ false
waits_plain = refl

waits_begins : Begins two own all_high 0 waits (pos 0 ∷ pos 3 ∷ []) 1
waits_begins = (9, refl, refl)

-- cut at 20 one run shows its assignment and the other none yet
cut_first : seen_from flat two own (image waits) 0 20 (from 0) ≡ Wrote 0 (pos 1) 12 ∷ []
cut_first = refl

cut_second : seen_from flat two own (image waits) 0 20 (from 3) ≡ []
cut_second = refl

cut_ended : most_ended flat (image waits) (is_relevant two own all_high 0 waits) 20 (from 0 ∷ from 3 ∷ []) ≡ 1
cut_ended = refl

cut_distinct : distinct_count same_events (map (seen_from flat two own (image waits) 0 20) (from 0 ∷ from 3 ∷ [])) ≡ 2
cut_distinct = refl

cut_digits : digits 20 ≡ 5
cut_digits = refl

-- while h do { skip }
abbrev spins : Marked
spins = While (mark 0 0) (Variable 1) (Skip (mark 1 1) Done) Done

spins_halted : (run_from flat (image spins) 50 (from 0)).halted ≡ true
spins_halted = refl

spins_on : (run_from flat (image spins) 50 (from 1)).halted ≡ false
spins_on = refl

spins_distinct : distinct_count same_events (map (seen_from flat two own (image spins) 0 50) (from 0 ∷ from 1 ∷ [])) ≡ 1
spins_distinct = refl

-- var a[4] : L; a[5] := 7; a[0 + -1] := 8
abbrev wraps : Marked
wraps = Put (mark 0 0) 0 4 (Number (pos 5)) (Number (pos 7)) (Put (mark 0 0) 0 4 (Binary Add (Number (pos 0)) (Number (negsuc 0))) (Number (pos 8)) Done)

abbrev zeros : Start ℕ
zeros = record { memory = pos 0 ∷ pos 0 ∷ pos 0 ∷ pos 0 ∷ []; env = 0 }

wraps_log : (run_from flat (image wraps) 40 zeros).core.log ≡ Wrote 1 (pos 7) 3 ∷ Wrote 3 (pos 8) 8 ∷ []
wraps_log = refl

wraps_end : (run_from flat (image wraps) 40 zeros).core.clock ≡ 9
wraps_end = refl

-- var a[3] : L; var i : L; a[4] := 5; i := a[0 + -2]; a[i] := 1
abbrev meant : Marked
meant =
    Put (mark 0 0) 0 3 (Number (pos 4)) (Number (pos 5))
    (Assign (mark 0 0) 3 (Element 0 3 (Binary Add (Number (pos 0)) (Number (negsuc 1))))
    (Put (mark 0 0) 0 3 (Variable 3) (Number (pos 1)) Done))

meant_trace : trace_of meant zeros.memory 9 ≡ (1, pos 5) ∷ (3, pos 5) ∷ (2, pos 1) ∷ []
meant_trace = refl

meant_ended : HasEnded meant zeros.memory 3
meant_ended = refl
