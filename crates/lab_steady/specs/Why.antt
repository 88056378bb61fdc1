-- What a no tells of the variable to blame.
use Rattle.std.specs.Prelude.{◌≡◌, ℕ, List, [], Option, MatchOption}
use Rattle.mit_syntax.specs.declared.token.Token.{Token}
use Rattle.timing_types.specs.Labelled.{LabelledProgram}
use Rattle.steady_code.specs.declared.fault.Fault.{Fault}
use Rattle.steady_code.specs.declared.costing.Costing.{Costing}
use Rattle.flow_path.specs.declared.step.Spot.TheVariants.{Variable}
use Rattle.flow_path.specs.Steps.{written}
use Rattle.flow_print.specs.Lines.{variable_text}
use Rattle.lab_why.specs.Origins.{TellsOrigins}
use Rattle.lab_steady.specs.Blame.{blamed_of}
use Rattle.lab_steady.specs.Text.{declared_line, no_text}

-- That its label is declared, or, where the program leaves it out, the lines of `why --of`. These tokens are those of the
-- program's text.
abbrev pub TellsVariable : List ℕ → List Token → LabelledProgram → ℕ → List ℕ → Type 0
TellsVariable text tokens q x t =
    MatchOption (written q.program (Variable x)) (TellsOrigins text tokens q (variable_text q.program x) (Variable x) t) (λ a. t ≡ declared_line q x)

-- nothing where none is to blame
abbrev pub TellsBlamed : List ℕ → List Token → LabelledProgram → Option ℕ → List ℕ → Type 0
TellsBlamed text tokens q v t = MatchOption v (t ≡ []) (λ x. TellsVariable text tokens q x t)

-- the text of a no, by the fault that is told
abbrev pub TellsNo : Costing → List ℕ → List Token → LabelledProgram → ℕ → ℕ → Fault → List ℕ → Type 0
TellsNo costing text tokens q o h f t =
    (lines : List ℕ) × TellsBlamed text tokens q (blamed_of q o f) lines × (t ≡ no_text costing q o h tokens lines f)
