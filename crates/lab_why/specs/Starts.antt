-- What is told of a program and of a start file for it.
use Rattle.std.specs.Prelude.{◌≡◌, ℕ, List, ◌++◌, length, Option, codes}
use Rattle.mit_syntax.specs.Plan.{count, mitigates}
use Rattle.mit_syntax.specs.Program.{Syntax, plan_of}
use Rattle.start_file.specs.Starts.{StartValue}
use Rattle.start_faults.specs.Told.{TellsStarts}
use Rattle.tool_texts.specs.declared.status.Status.{Status}
use Rattle.tool_texts.specs.declared.status.Status.TheVariants as status
use Rattle.tool_texts.specs.Texts.{accepted_line, number_line}
use Rattle.tool_stages.specs.Content.{Content}
use Rattle.tool_stages.specs.Stages.{Then, Reads, Types, StartsAre, HasStartFault, StartStops}
use Rattle.lab_why.specs.Answers.{ReasonStops}
use Rattle.lab_why.specs.Faulty.{WhyStops}

-- the file is refused as starts of the program: the tool's own line, and behind it lines on the fault
pub record HasStartsTold (content : Option (Option (List ℕ))) (p : Syntax) (t : List ℕ) : Type 0 where
  pub line : List ℕ
  pub stops : HasStartFault content p line
  pub more : List ℕ
  pub tells : TellsStarts p stops.bytes stops.fault more
  pub text : t ≡ line ++ more

-- what stops the reading of starts, as `why` tells it
abbrev pub StartsStop : Type 0 → Option (Option (List ℕ)) → Syntax → Status → List ℕ → Type 0
StartsStop Rose content p status.Starts t = HasStartsTold content p t
StartsStop Rose content p s t = StartStops Rose content p s t

-- the program is accepted, and its starts are taken: how many there are
abbrev pub HasTaken : Syntax → List StartValue → Status → List ℕ → Type 0
HasTaken p ss s t = (s ≡ status.Done)
    × (t ≡ accepted_line (count (plan_of p)) (mitigates (plan_of p)) ++ number_line (codes "starts ") (length ss))

-- the answer for a start file of a program that is accepted
abbrev pub IsTaken : Type 0 → Option (Option (List ℕ)) → Syntax → Status → List ℕ → Type 0
IsTaken Rose content p = Then (StartsStop Rose content p) (StartsAre content p) (λ ss. HasTaken p ss)

-- the same where the file was read
abbrev pub IsTakenRead : Option (Option (List ℕ)) → Syntax → Status → List ℕ → Type 0
IsTakenRead content p = IsTaken ⊥ content p

-- the answer to `why` with a start file, in the order of its refusals
abbrev pub IsStartsAnswer : (List ℕ → Type 0) → Content → List ℕ → List ℕ → Status → List ℕ → Type 0
IsStartsAnswer Rises content file starts =
    Then (WhyStops (Rises file) (content file)) (Reads (content file)) (λ p.
    Then (ReasonStops (content file) p) (Types p) (λ q.
    IsTaken (Rises starts) (content starts) p))
