-- Where a label of the least labelling comes from, as it is told.
use Rattle.std.specs.Prelude.{◌≡◌, ℕ, List, [], ◌++◌, All, map, Option, Some, None, codes}
use Rattle.label_lattice.specs.Order.{name_of}
use Rattle.mit_syntax.specs.declared.token.Token.{Token}
use Rattle.mit_syntax.specs.Plan.{mitigates}
use Rattle.mit_syntax.specs.Program.{Syntax, plan_of}
use Rattle.timing_types.specs.Labelling.{Labelling}
use Rattle.timing_types.specs.Labelled.{LabelledProgram, order_of}
use Rattle.label_infer.specs.Least.{IsLeast}
use Rattle.flow_path.specs.declared.step.Spot.{Spot}
use Rattle.flow_path.specs.declared.origins.Origin.{Origin}
use Rattle.flow_path.specs.Steps.{written}
use Rattle.flow_path.specs.Origins.{IsOmitted, label_there, IsOrigin, joined, AreNeeded, AreTold}
use Rattle.flow_print.specs.Lines.{origins_text}
use Rattle.tool_texts.specs.declared.status.Status.{Status}
use Rattle.tool_texts.specs.declared.status.Status.TheVariants as status
use Rattle.tool_texts.specs.Texts.{number_line}
use Rattle.tool_stages.specs.Stages.{Then, Reads, ProgramStops}
use Rattle.tool_stages.specs.Content.{Content}
use Rattle.lab_texts.specs.Names.{after_blanks}
use Rattle.lab_why.specs.Names.{named}

-- The label, and then for each of some written labels the lines of the chain that is told from it: none is cheaper, and of those
-- that are as cheap it is the earliest. The label is the join of these, none of which can be left out. One that the program writes
-- comes from itself.
pub record TellsOrigins (text : List ℕ) (tokens : List Token) (q : LabelledProgram) (w : List ℕ) (spot : Spot) (t : List ℕ) : Type 0 where
  pub origins : List Origin
  pub come : All (IsOrigin q.program spot) origins
  pub join : IsOmitted q.program spot → joined (order_of q) origins ≡ label_there q spot
  pub needed : AreNeeded (order_of q) origins
  pub none : (IsOmitted q.program spot → ⊥) → origins ≡ []
  pub told : written q.program spot ≡ None → AreTold q.program spot origins
  pub lines : t ≡ w ++ (codes " is " ++ (name_of q.program.order (label_there q spot) ++ (codes "\n" ++ origins_text text tokens q.program origins)))

-- it is told by the least labelling of the program that a file holds
pub record HasOrigins (content : Option (Option (List ℕ))) (p : Syntax) (w : List ℕ) (spot : Spot) (t : List ℕ) : Type 0 where
  pub source : Reads content p
  pub labels : Labelling
  pub least : IsLeast p labels
  pub tells : TellsOrigins source.bytes source.tokens (record { program = p; labels = labels }) w spot t

-- the lines on a word that names nothing: the variables and arrays that there are, and how many mitigates
abbrev pub no_name_text : Syntax → List ℕ
no_name_text p =
    codes "of: unknown name\nnames" ++ (after_blanks (map (λ d. d.0) p.declarations) ++ (codes "\n"
    ++ number_line (codes "mitigates ") (mitigates (plan_of p))))

-- such a word is refused
abbrev pub NameStops : Syntax → List ℕ → Status → List ℕ → Type 0
NameStops p w status.Usage t = (named p w ≡ None) × (t ≡ no_name_text p)
NameStops p w _ t = ⊥

-- the answer to `why --of`, in the order of its refusals
abbrev pub IsOriginAnswer : (List ℕ → Type 0) → Content → List ℕ → List ℕ → Status → List ℕ → Type 0
IsOriginAnswer Rises content file w =
    Then (ProgramStops (Rises file) (content file)) (Reads (content file)) (λ p.
    Then (NameStops p w) (λ spot. named p w ≡ Some spot) (λ spot s t.
    (s ≡ status.Done) × HasOrigins (content file) p w spot t))
