-- The first predictions of the relevant mitigates that a program begins, each at its place among those of its level.
use Rattle.std.specs.Prelude.{ℕ, ◌<◌, List, length, Bool, eqb, ◌&&◌, ℤ}
use Rattle.std.specs.List.{count_by}
use Rattle.mit_syntax.specs.Todo.{Todo, commands_of}
use Rattle.label_lattice.specs.Lattice.{Lattice}
use Rattle.source_meaning.specs.Source.{Note, source_start, source_steps, notes_of, started_in}
use Rattle.env_contract.specs.Env.{Env}
use Rattle.label_code.specs.Run.{Start}
use Rattle.label_code.specs.declared.code.Instr.{Instr}
use Rattle.leak_bound.specs.Relevant.{is_relevant}
use Rattle.sharp_bound.specs.Firsts.{PredictsNext, notes_to}

-- how many of the mitigates that have begun, by what was noted, are relevant and of level l, which ls tells by their marks
abbrev pub begun_of : (ℕ → Bool) → (ℕ → ℕ) → List Note → ℕ → ℕ
begun_of rel ls notes l = count_by (λ k. rel k && eqb (ls k) l) (started_in notes)

-- From a memory, each relevant mitigate that the program begins while it has told fewer notes than so many has a first
-- prediction of at least `firsts l i`, where l is its level, and i relevant mitigates of that level have begun before it.
abbrev pub PredictsOwn : {M L : Type 0} → (ℕ → Bool) → (ℕ → ℕ) → (ℕ → ℕ → ℕ) → Todo M L → List ℤ → ℕ → Type 0
PredictsOwn rel ls firsts p m total =
    (n : ℕ) → length (notes_of (commands_of p) m n) < total →
    PredictsNext rel ls (λ l. firsts l (begun_of rel ls (notes_of (commands_of p) m n) l))
    (source_steps n (source_start (commands_of p) m)).todo (source_steps n (source_start (commands_of p) m)).memory

-- so it is of each relevant mitigate that the run to T begins
abbrev pub PredictsOwnBy : {E M L : Type 0} → Env E → Lattice → (ℕ → ℕ) → (ℕ → ℕ) → List Instr → Todo M L → ℕ → ℕ → (ℕ → ℕ → ℕ) → Start E → Type 0
PredictsOwnBy v lat g ls image p o t firsts s = PredictsOwn (is_relevant lat g ls o p) ls firsts p s.memory (notes_to v image t s)
