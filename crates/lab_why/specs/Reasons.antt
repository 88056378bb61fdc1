-- Why a program is refused, as it is told.
use Rattle.std.specs.Prelude.{◌≡◌, ℕ, List, [], ◌++◌, Option}
use Rattle.mit_syntax.specs.declared.token.Token.{Token}
use Rattle.mit_syntax.specs.Program.{Syntax}
use Rattle.timing_types.specs.declared.rule.TypeFault.{TypeFault}
use Rattle.timing_types.specs.Labelled.{LabelledProgram}
use Rattle.timing_types.specs.declared.rule.TypeFault.TheVariants.{Refused as BrokenAt, Memory}
use Rattle.flow_path.specs.declared.step.Step.{Step}
use Rattle.flow_path.specs.Chains.{IsReason, AreNoCheaper}
use Rattle.flow_path.specs.Told.{IsEarliest}
use Rattle.flow_print.specs.Lines.{chain_text}
use Rattle.tool_texts.specs.Texts.{refused_line}
use Rattle.tool_stages.specs.Stages.{Reads, HasNoType}

-- the condition that is broken, and a chain that ends there
abbrev pub fault_of : {p : Syntax} {t : List ℕ} → HasNoType p t → TypeFault
fault_of h = BrokenAt h.rule h.at h.have h.allowed

-- the line of a condition that is broken, and then the lines of a chain
abbrev pub refusal_text : List ℕ → List Token → Syntax → TypeFault → List Step → List ℕ
refusal_text text tokens p (BrokenAt rule at have allowed) chain =
    refused_line p.order rule at have allowed ++ chain_text text tokens p chain
refusal_text text tokens p Memory chain = []

-- the program with its least labelling
abbrev pub refused_of : {p : Syntax} {t : List ℕ} → HasNoType p t → LabelledProgram
refused_of {p} h = record { program = p; labels = h.labels }

-- No labelling types the program that a file holds. Told is the condition that the least labelling breaks first, and a
-- chain that ends at this very condition and shows why it can't hold: none is cheaper, and of those that are as cheap it is the
-- earliest.
pub record HasReason (content : Option (Option (List ℕ))) (p : Syntax) (t : List ℕ) : Type 0 where
  pub source : Reads content p
  pub line : List ℕ
  pub refused : HasNoType p line
  pub chain : List Step
  pub reason : IsReason (refused_of refused) (fault_of refused) chain
  pub cheapest : AreNoCheaper (refused_of refused) (fault_of refused) chain
  pub earliest : IsEarliest (refused_of refused) (fault_of refused) chain
  pub text : t ≡ refusal_text source.bytes source.tokens p (fault_of refused) chain
