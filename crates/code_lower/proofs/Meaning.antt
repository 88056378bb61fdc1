-- A labelled program means what the program does that it labels, and so its image does what that one does.
use Rattle.std.proofs.Common.{List, ◌++◌, sym, ap, ◌∙◌}
use Rattle.env_contract.specs.Env.{Env}
use Rattle.mit_syntax.specs.Todo.{Todo}
use Rattle.mit_syntax.specs.Program.{plan_of}
use Rattle.source_meaning.specs.Same.{MeansSame}
use Rattle.source_meaning.proofs.Same.{same_commands}
use Rattle.timing_types.specs.Labelled.{LabelledProgram, bare_of}
use Rattle.timing_types.proofs.Commands.{keep_commands}
use Rattle.label_code.specs.declared.code.Instr.{Instr}
use Rattle.code_lower.specs.Follows.{KeepsOrder}

pub keep_meaning : (p : LabelledProgram) → MeansSame (bare_of p) (plan_of p.program)
keep_meaning p = same_commands (bare_of p) (plan_of p.program) (keep_commands p)

-- what does what a program does does what each program does that means the same
pub order_same : {E M L M' L' : Type 0} (v : Env E) (image : List Instr) (p : Todo M L) (q : Todo M' L') → MeansSame p q
    → KeepsOrder v image p → KeepsOrder v image q
order_same v image p q e k =
    record {
      follows = λ s t. let f = k.follows s t in (f.0, f.1 ∙ e.tells s.memory f.0, λ h. (e.ends s.memory f.0).0 (f.2 h));
      comes = λ s n. let c = k.comes s n in (c.0, c.1, ap (λ z. z ++ c.1) (sym (e.tells s.memory n)) ∙ c.2, λ h. c.3 ((e.ends s.memory n).1 h));
    }
