-- How a question can end: what must be so that nothing but want of memory ends it otherwise.
use Rattle.std.specs.Prelude.{◌≡◌, ℕ, List, [], ◌∷◌, ◌++◌, Option, Some, None}
use Rattle.std.specs.Bool.{⊤}
use Rattle.flow_path.specs.declared.step.Spot.{Spot}
use Rattle.mit_syntax.specs.Program.{Syntax}
use Rattle.start_file.specs.Starts.{StartValue}
use Rattle.tool_texts.specs.declared.status.Status.{Status}
use Rattle.tool_texts.specs.declared.status.Status.TheVariants as status
use Rattle.tool_stages.specs.declared.envs.Environment.{Environment}
use Rattle.tool_stages.specs.Stages.{Reads, StartsAre, HasStartFault}
use Rattle.tool_stages.specs.Content.{Content, AreKnown}
use Rattle.tool_stages.specs.Goes.{IsTypable}
use Rattle.lab_bound.specs.Complete.{CanBound}
use Rattle.lab_leak.specs.Complete.{CanLeak}
use Rattle.lab_ready.specs.Complete.{CanReady}
use Rattle.lab_runs.specs.Shown.{CanShow}
use Rattle.lab_steady.specs.Answer.{parts_or}
use Rattle.lab_steady.specs.Complete.{SteadyGoes}
use Rattle.lab_tune.specs.Complete.{CanTune}
use Rattle.lab_why.specs.Names.{named}
use Rattle.lab_words.specs.QuestionAsked.{Asked, why, why_starts, why_audit, seen, timeline, bound, steady, leak, tune, check, help, version}
use Rattle.lab_tool.specs.Machines.{machine_in, machine_files, GoesOn}

-- the files that a question names beside that of a machine
abbrev pub own_files : Asked → List (List ℕ)
own_files (why file of) = file ∷ []
own_files (why_starts file starts) = file ∷ starts ∷ []
own_files (why_audit file starts observer machine budget) = file ∷ starts ∷ []
own_files (seen file starts observer machine budget refused) = file ∷ starts ∷ []
own_files (timeline file starts observer machine budget refused) = file ∷ starts ∷ []
own_files (bound file starts observer machine budget) = file ∷ starts ∷ []
own_files (steady file observer parts constant whole) = file ∷ []
own_files (leak file starts observer machine budget refused) = file ∷ starts ∷ []
own_files (tune file starts observer machine budget mark bits) = file ∷ starts ∷ []
own_files (check file) = file ∷ []
own_files (help command) = []
own_files version = []

-- the files that a question names: first that of a machine
abbrev pub files_of : Asked → List (List ℕ)
files_of a = machine_files (machine_in a) ++ own_files a

-- `why` and `check` are done where some labelling types the program, and tell its reason where none does
abbrev pub WhyGoes : Option (Option (List ℕ)) → Status → Type 0
WhyGoes content status.Done = (p : Syntax) × Reads content p × IsTypable p
WhyGoes content status.Refused = (p : Syntax) × Reads content p × (IsTypable p → ⊥)
WhyGoes content _ = ⊥

-- With starts it is done where some labelling types the program and the file gives starts, tells what is wrong with them where the file is
-- refused, and tells its reason where none types it.
abbrev pub WhyStartsGoes : Option (Option (List ℕ)) → Option (Option (List ℕ)) → Status → Type 0
WhyStartsGoes content held status.Done = (p : Syntax) × Reads content p × IsTypable p × (ss : List StartValue) × StartsAre held p ss
WhyStartsGoes content held status.Starts = (p : Syntax) × Reads content p × IsTypable p × (line : List ℕ) × HasStartFault held p line
WhyStartsGoes content held status.Refused = (p : Syntax) × Reads content p × (IsTypable p → ⊥)
WhyStartsGoes content held _ = ⊥

-- what is told of runs is done where nothing stops before them
abbrev pub IsDoneIf : Type 0 → Status → Type 0
IsDoneIf Can status.Done = Can
IsDoneIf Can _ = ⊥

-- `why --of` is done where the word names something in the program
abbrev pub Names : Option (Option (List ℕ)) → List ℕ → Type 0
Names content w = (p : Syntax) × Reads content p × (spot : Spot) × (named p w ≡ Some spot)

-- what must be so beside the files, in an environment
abbrev pub GoesIn : Environment → Content → Asked → Status → Type 0
GoesIn e content (why file None) s = WhyGoes (content file) s
GoesIn e content (why file (Some name)) s = IsDoneIf (Names (content file) name) s
GoesIn e content (why_starts file starts) s = WhyStartsGoes (content file) (content starts) s
GoesIn e content (why_audit file starts observer machine budget) s = IsDoneIf (CanReady content file starts observer e budget) s
GoesIn e content (seen file starts observer machine budget refused) s = IsDoneIf (CanShow refused content file starts (Some observer)) s
GoesIn e content (bound file starts observer machine budget) s = IsDoneIf (CanBound content file starts observer e budget) s
GoesIn e content (leak file starts observer machine budget refused) s = IsDoneIf (CanLeak refused content file starts observer e budget) s
GoesIn e content (tune file starts observer machine budget mark bits) s = IsDoneIf (CanTune content file starts observer e budget mark bits) s
GoesIn e content (timeline file starts observer machine budget refused) s = IsDoneIf (CanShow refused content file starts observer) s
GoesIn e content (check file) s = WhyGoes (content file) s
GoesIn e content (help command) s = IsDoneIf ⊤ s
GoesIn e content version s = IsDoneIf ⊤ s
GoesIn e content (steady file observer parts constant whole) s = SteadyGoes constant (content file) observer (parts_or parts observer) whole s

-- what must be so beside the files
abbrev pub Goes : Content → Asked → Status → Type 0
Goes content a s = GoesOn content (machine_in a) (λ e. GoesIn e content a s)

-- the files that a question names are told to hold bytes, and with these it goes on to this end
pub record CanEnd (content : Content) (a : Asked) (s : Status) : Type 0 where
  pub known : AreKnown content (files_of a)
  pub goes : Goes content a s
