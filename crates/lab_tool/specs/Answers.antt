-- The answer of the lab to words: its status and its text, from what the files are told to hold.
use Rattle.std.specs.Prelude.{◌≡◌, ◌++◌, ℕ, List, [], Some, None}
use Rattle.tool_texts.specs.declared.status.Status.{Status}
use Rattle.tool_texts.specs.declared.status.Status.TheVariants as status
use Rattle.tool_stages.specs.Content.{Content}
use Rattle.tool_stages.specs.declared.envs.Environment.{Environment}
use Rattle.lab_texts.specs.Usage.{lab_usage_text}
use Rattle.lab_words.specs.Help.{help_text, version_text}
use Rattle.lab_words.specs.Refusal.{IsLine}
use Rattle.lab_words.specs.QuestionAsked.{Asked, why, why_starts, why_audit, seen, timeline, bound, steady, leak, tune, check, help, version}
use Rattle.lab_bound.specs.Answer.{IsBoundAnswer}
use Rattle.lab_check.specs.Answers.{IsCheckAnswer}
use Rattle.lab_leak.specs.Answer.{IsLeakAnswer}
use Rattle.lab_ready.specs.Answer.{IsReadyAnswer}
use Rattle.lab_seen.specs.Seen.{IsSeen, SeenBefore}
use Rattle.lab_steady.specs.Answer.{IsSteadyAnswer}
use Rattle.lab_timeline.specs.Timed.{TellsTimelines, TimelinesBefore}
use Rattle.lab_tune.specs.Answer.{IsTuneAnswer}
use Rattle.lab_why.specs.Answers.{IsWhyAnswer}
use Rattle.lab_why.specs.Origins.{IsOriginAnswer}
use Rattle.lab_why.specs.Starts.{IsStartsAnswer}
use Rattle.lab_tool.specs.Machines.{machine_in, OnMachine, BeforeOn}

-- words that ask for nothing: a line on the first that can't be taken, and the usage text
abbrev pub IsUsage : List (List ℕ) → Status → List ℕ → Type 0
IsUsage words s t = (s ≡ status.Usage) × (line : List ℕ) × IsLine words line × (t ≡ line ++ lab_usage_text)

-- a call without files
abbrev pub IsDoneWith : List ℕ → Status → List ℕ → Type 0
IsDoneWith text s t = (s ≡ status.Done) × (t ≡ text)

-- The answer to a question in an environment, in the order of its refusals; whatever machine it asks about, its runs are made in
-- this one. `Rises` tells the names whose counts of faults rose.
abbrev pub IsAnswerIn : Environment → (List ℕ → Type 0) → Content → Asked → Status → List ℕ → Type 0
IsAnswerIn e Rises content (why file None) = IsWhyAnswer Rises content file
IsAnswerIn e Rises content (why file (Some name)) = IsOriginAnswer Rises content file name
IsAnswerIn e Rises content (why_starts file starts) = IsStartsAnswer Rises content file starts
IsAnswerIn e Rises content (why_audit file starts observer machine budget) = IsReadyAnswer Rises content file starts observer e budget
IsAnswerIn e Rises content (seen file starts observer machine budget refused) = IsSeen Rises content file starts observer e budget refused
IsAnswerIn e Rises content (timeline file starts observer machine budget refused) = TellsTimelines Rises content file starts observer e budget refused
IsAnswerIn e Rises content (bound file starts observer machine budget) = IsBoundAnswer Rises content file starts observer e budget
IsAnswerIn e Rises content (steady file observer parts constant whole) = IsSteadyAnswer constant Rises content file observer parts whole
IsAnswerIn e Rises content (leak file starts observer machine budget refused) = IsLeakAnswer Rises content file starts observer e budget refused
IsAnswerIn e Rises content (tune file starts observer machine budget mark bits) = IsTuneAnswer Rises content file starts observer e budget mark bits
IsAnswerIn e Rises content (check file) = IsCheckAnswer Rises content file
IsAnswerIn e Rises content (help command) = IsDoneWith (help_text command)
IsAnswerIn e Rises content version = IsDoneWith version_text

-- the answer to a question: that in the environment of the machine that it asks about
abbrev pub IsAnswer : (List ℕ → Type 0) → Content → Asked → Status → List ℕ → Type 0
IsAnswer Rises content a = OnMachine Rises content (machine_in a) (λ e. IsAnswerIn e Rises content a)

-- what may stand before the line for memory, in an environment: nothing, or what is told of some of the runs
abbrev pub BeforeIn : Environment → Content → Asked → List ℕ → Type 0
BeforeIn e content (seen file starts observer machine budget refused) b = SeenBefore content file starts observer e budget refused b
BeforeIn e content (timeline file starts observer machine budget refused) b = TimelinesBefore content file starts observer e budget refused b
BeforeIn e content a b = b ≡ []

abbrev pub Before : Content → Asked → List ℕ → Type 0
Before content a = BeforeOn content (machine_in a) (λ e. BeforeIn e content a)
