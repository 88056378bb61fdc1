-- The first predictions of the relevant mitigates that a program begins.
use Rattle.std.specs.Prelude.{◌≡◌, ℕ, ◌<◌, ◌≤◌, List, length, Bool, true, ℤ}
use Rattle.mit_syntax.specs.Todo.{Todo, Done, Skip, Assign, Put, Sleep, If, While, Mitigate, commands_of}
use Rattle.mit_syntax.specs.Values.{value_of}
use Rattle.doubling_schedule.specs.Doubling.{prediction}
use Rattle.label_lattice.specs.Lattice.{Lattice}
use Rattle.source_meaning.specs.Source.{source_start, source_steps, notes_of}
use Rattle.env_contract.specs.Env.{Env}
use Rattle.label_code.specs.Run.{Start, run_from}
use Rattle.label_code.specs.declared.code.Instr.{Instr}
use Rattle.code_lower.specs.Follows.{told}
use Rattle.leak_bound.specs.Relevant.{is_relevant}

-- a mitigate that is the next command, if it is relevant, has a first prediction of at least that for its level,
-- which ls tells by its mark
abbrev pub PredictsNext : {M L : Type 0} → (ℕ → Bool) → (ℕ → ℕ) → (ℕ → ℕ) → Todo M L → List ℤ → Type 0
PredictsNext rel ls firsts Done m = Unit {0}
PredictsNext rel ls firsts (Skip w r) m = Unit {0}
PredictsNext rel ls firsts (Assign w x e r) m = Unit {0}
PredictsNext rel ls firsts (Put w f n i e r) m = Unit {0}
PredictsNext rel ls firsts (Sleep w e r) m = Unit {0}
PredictsNext rel ls firsts (If w e a b r) m = Unit {0}
PredictsNext rel ls firsts (While w e c r) m = Unit {0}
PredictsNext rel ls firsts (Mitigate w k l e c r) m = rel k ≡ true → firsts (ls k) ≤ prediction (value_of e m) 0

-- so it is, from a memory, of each relevant mitigate that the program begins while it has told fewer notes than so many
abbrev pub Predicts : {M L : Type 0} → (ℕ → Bool) → (ℕ → ℕ) → (ℕ → ℕ) → Todo M L → List ℤ → ℕ → Type 0
Predicts rel ls firsts p m total =
    (n : ℕ) → length (notes_of (commands_of p) m n) < total →
    PredictsNext rel ls firsts (source_steps n (source_start (commands_of p) m)).todo (source_steps n (source_start (commands_of p) m)).memory

-- how many notes the run to T has told: of assignments, and of mitigates that it began
abbrev pub notes_to : {E : Type 0} → Env E → List Instr → ℕ → Start E → ℕ
notes_to v image t s = length (told (run_from v image t s).core.log)

-- so it is of each relevant mitigate that the run to T begins
abbrev pub PredictsBy : {E M L : Type 0} → Env E → Lattice → (ℕ → ℕ) → (ℕ → ℕ) → List Instr → Todo M L → ℕ → ℕ → (ℕ → ℕ) → Start E → Type 0
PredictsBy v lat g ls image p o t firsts s = Predicts (is_relevant lat g ls o p) ls firsts p s.memory (notes_to v image t s)

-- each first prediction is at least 1
abbrev pub AtLeastOne : Type 0 → Type 0 → Type 0
AtLeastOne M L = (rel : ℕ → Bool) (ls : ℕ → ℕ) (p : Todo M L) (m : List ℤ) (total : ℕ) → Predicts rel ls (λ l. 1) p m total
