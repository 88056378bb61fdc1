-- Code that is added to code.
use Rattle.std.specs.Prelude.{◌≡◌, ℕ, List, ◌++◌, length}
use Rattle.label_lattice.specs.Order.{Order, lattice_of}
use Rattle.mit_syntax.specs.Todo.{Marked}
use Rattle.mit_syntax.specs.Plan.{Plan}
use Rattle.timing_types.specs.Placed.{bare}
use Rattle.timing_types.specs.Labelling.{Labelling, variable_of, tree_of}
use Rattle.label_code.specs.declared.code.Instr.{Instr}
use Rattle.code_lower.specs.Code.{code_of}

-- commands numbered from i, with their labels
abbrev pub marked_of : Order → Labelling → Plan → ℕ → Marked
marked_of o l p i = bare (tree_of o l p i)

-- the new code is the old code and then that of these commands
abbrev pub Adds : Order → Labelling → List Instr → List Instr → Plan → ℕ → Type 0
Adds o l old new p i = new ≡ old ++ code_of (lattice_of o) (variable_of o l) (marked_of o l p i) (length old)
