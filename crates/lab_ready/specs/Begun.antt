-- What the program of a file comes to: its image with the label that is observed, or what is told in place of it.
use Rattle.std.specs.Prelude.{◌≡◌, ℕ, List, Option, Some}
use Rattle.mit_syntax.specs.Program.{Syntax}
use Rattle.label_lattice.specs.declared.label.Label.{Label}
use Rattle.tool_texts.specs.declared.status.Status.{Status}
use Rattle.tool_stages.specs.Begins.{NoMore}
use Rattle.tool_stages.specs.Stages.{Reads, Observes, Types, HasImage}
use Rattle.lab_why.specs.Reasons.{HasReason}
use Rattle.timing_types.specs.Labelled.{LabelledProgram}
use Rattle.lab_ready.specs.declared.begun.Begun.{Begun}
use Rattle.lab_ready.specs.declared.begun.Begun.TheVariants as begun
use Rattle.lab_ready.specs.declared.typing.Typing.{Typing}
use Rattle.lab_ready.specs.declared.typing.Typing.TheVariants as typing
use Rattle.lab_ready.specs.Answer.{Begins, LongStops}

-- nothing comes after the image
abbrev pub BeginStops : Type 0 → Option (Option (List ℕ)) → List ℕ → Status → List ℕ → Type 0
BeginStops Rose content observer = Begins Rose content observer (λ p q o. NoMore)

-- a program with its least labels, or why no labels type it
abbrev pub IsTyping : Option (Option (List ℕ)) → Syntax → Typing → Type 0
IsTyping content p (typing.Accepted q) = Types p q.labelled
IsTyping content p (typing.Refused lines) = HasReason content p lines.items

-- the image of an accepted program, or that it is too long
abbrev pub IsImageOf : LabelledProgram → Label → Begun → Type 0
IsImageOf q l (begun.Goes c o) = (c.typed.labelled ≡ q) × (o ≡ l) × HasImage q c.image
IsImageOf q l (begun.Ends told) = LongStops q told.status told.text.items

abbrev pub IsBegun : Option (Option (List ℕ)) → List ℕ → Begun → Type 0
IsBegun content observer (begun.Goes c l) =
    (p : Syntax) × Reads content p × Observes p.order (Some observer) (Some l) × Types p c.typed.labelled × HasImage c.typed.labelled c.image
IsBegun content observer (begun.Ends told) = BeginStops ⊥ content observer told.status told.text.items
