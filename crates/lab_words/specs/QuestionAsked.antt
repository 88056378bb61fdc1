-- What the words of the lab's command line ask for.
use Rattle.std.specs.Prelude.{ℕ, List, [], ◌∷◌, Bool, true, false, not, ◌&&◌, Option, Some, None, codes, bytes_eq, is_some}
use Rattle.std.specs.Prelude.{option_and_then, option_map, if◌then◌else◌}
use Rattle.std.specs.Bool.{⊤}
use Rattle.clap.specs.Words.{Row, Text, fault_of, first_of, matches_of}
use Rattle.clap.specs.Lexer.{strip_byte}
use Rattle.clap.specs.Walk.{is_empty}
use Rattle.tool_words.specs.declared.words.EnvName.{EnvName}
use Rattle.run_limits.specs.Cycles.{IsCycles}
use Rattle.tool_words.specs.WordsValues.{budget_given, env_named, number_in}
use Rattle.lab_words.specs.declared.verbs.Verb.{Verb}
use Rattle.lab_words.specs.declared.verbs.Verb.TheVariants.{Why, Seen, Timeline, Bound, Steady, Leak, Tune, Check, Help, Version}
use Rattle.lab_words.specs.QuestionForms.{form_app}

-- the machine that runs are made on: that of an environment by its name, or the one that a file with this name describes
pub data MachineAsked : Type 0 where
  named : EnvName → MachineAsked
  described : Text → MachineAsked

-- A question with the bytes of its texts, in the order of `Question`: file, starts, observer, machine and budget;
-- of `seen`, `timeline` and `leak` also whether refused programs run, of `tune` the mark of a mitigate and the greatest number of bits, if
-- there is one;
-- of `steady` file, observer, parts, names of operators, and whether the whole run is asked about;
-- of `help` the command, if there is one.
pub data Asked : Type 0 where
  why : Text → Option Text → Asked
  why_starts : Text → Text → Asked
  why_audit : Text → Text → Text → MachineAsked → ℕ → Asked
  seen : Text → Text → Text → MachineAsked → ℕ → Bool → Asked
  timeline : Text → Text → Option Text → MachineAsked → ℕ → Bool → Asked
  bound : Text → Text → Text → MachineAsked → ℕ → Asked
  steady : Text → Text → Option Text → Option Text → Bool → Asked
  leak : Text → Text → Text → MachineAsked → ℕ → Bool → Asked
  tune : Text → Text → Text → MachineAsked → ℕ → ℕ → Option ℕ → Asked
  check : Text → Asked
  help : Option Verb → Asked
  version : Asked

abbrev pub verb_named : Text → Option Verb
verb_named word =
    if bytes_eq word (codes "why") then Some Why else
    (if bytes_eq word (codes "seen") then Some Seen else
    (if bytes_eq word (codes "timeline") then Some Timeline else
    (if bytes_eq word (codes "bound") then Some Bound else
    (if bytes_eq word (codes "steady") then Some Steady else
    (if bytes_eq word (codes "leak") then Some Leak else
    (if bytes_eq word (codes "tune") then Some Tune else
    (if bytes_eq word (codes "check") then Some Check else
    (if bytes_eq word (codes "help") then Some Help else
    (if bytes_eq word (codes "version") then Some Version else None)))))))))

-- ---- the values that `clap` gives to the names of a form

-- no value has this name
abbrev pub lacks : Text → List Row → Bool
lacks name rows = not (is_some (first_of name rows))

-- `--machine` stands in place of `--env`: both name no machine, and none of both names that of an environment
abbrev pub machine_named : Option Text → Option Text → Option MachineAsked
machine_named None env = option_map named (env_named env)
machine_named (Some file) None = Some (described file)
machine_named (Some file) (Some env) = None

abbrev pub machine_given : List Row → Option MachineAsked
machine_given rows = machine_named (first_of (codes "machine") rows) (first_of (codes "env") rows)

-- of what is observed of runs: file, starts, observer, machine and budget
abbrev pub runs_asked : (Text → Text → Text → MachineAsked → ℕ → Asked)
    → Option Text → Option Text → Option Text → Option MachineAsked → Option ℕ → Option Asked
runs_asked ask (Some file) (Some starts) (Some observer) (Some machine) (Some budget) = Some (ask file starts observer machine budget)
runs_asked _ _ _ _ _ _ = None

abbrev pub runs_given : (Text → Text → Text → MachineAsked → ℕ → Asked) → List Row → Option Asked
runs_given ask rows = runs_asked ask (first_of (codes "FILE") rows) (first_of (codes "STARTS") rows)
    (first_of (codes "observer") rows) (machine_given rows) (budget_given rows)

-- no value tells of a machine, nor of a budget
abbrev pub lacks_setting : List Row → Bool
lacks_setting rows = lacks (codes "env") rows && (lacks (codes "machine") rows && lacks (codes "budget") rows)

-- of a program alone: `--of` may stand there, and nothing of an audit
abbrev pub why_asked : Option Text → Option Text → Bool → Option Asked
why_asked (Some file) of true = Some (why file of)
why_asked _ _ _ = None

-- of starts alone
abbrev pub why_starts_asked : Option Text → Text → Bool → Option Asked
why_starts_asked (Some file) starts true = Some (why_starts file starts)
why_starts_asked _ _ _ = None

-- by STARTS, `--of` and `--observer`: a machine and a budget are told where there is an observer
abbrev pub why_given : List Row → Option Text → Option Text → Option Text → Option Asked
why_given rows None of None = why_asked (first_of (codes "FILE") rows) of (lacks_setting rows)
why_given rows (Some starts) None None = why_starts_asked (first_of (codes "FILE") rows) starts (lacks_setting rows)
why_given rows (Some starts) None (Some observer) = runs_given why_audit rows
why_given rows _ _ _ = None

abbrev pub timeline_asked : Option Text → Option Text → Option MachineAsked → Option ℕ → Option Text → Bool → Option Asked
timeline_asked (Some file) (Some starts) (Some machine) (Some budget) observer refused =
    Some (timeline file starts observer machine budget refused)
timeline_asked _ _ _ _ _ _ = None

-- a flag is there where its value is `true`, and not where it is `false`
abbrev pub is_true : Option Text → Bool
is_true None = false
is_true (Some word) = bytes_eq word (codes "true")

abbrev pub flag_given : Text → List Row → Bool
flag_given name rows = is_true (first_of name rows)

abbrev pub steady_asked : Option Text → Option Text → Option Text → Option Text → Bool → Option Asked
steady_asked (Some file) (Some observer) parts constant whole = Some (steady file observer parts constant whole)
steady_asked _ _ _ _ _ = None

-- the mitigate with a mark, by `#` and its number; the first one where none is written
abbrev pub mark_named : Option Text → Option ℕ
mark_named None = Some 0
mark_named (Some word) = option_and_then (number_in 0 4294967295) (strip_byte 35 word)

abbrev pub mark_given : List Row → Option ℕ
mark_given rows = mark_named (first_of (codes "mark") rows)

-- how many bits first predictions may tell, from 0 to 64; where none is written any number
abbrev pub bits_named : Option Text → Option (Option ℕ)
bits_named None = Some None
bits_named (Some word) = option_map (λ n. Some n) (number_in 0 64 word)

abbrev pub bits_given : List Row → Option (Option ℕ)
bits_given rows = bits_named (first_of (codes "bits") rows)

-- of the best first predictions: file, starts, observer, machine, budget, mark and bits
abbrev pub tune_asked : Option Text → Option Text → Option Text → Option MachineAsked → Option ℕ → Option ℕ → Option (Option ℕ) → Option Asked
tune_asked (Some file) (Some starts) (Some observer) (Some machine) (Some budget) (Some mark) (Some bits) =
    Some (tune file starts observer machine budget mark bits)
tune_asked _ _ _ _ _ _ _ = None

-- `--json` must be there
abbrev pub check_asked : Option Text → Bool → Option Asked
check_asked (Some file) true = Some (check file)
check_asked (Some file) false = None
check_asked None json = None

-- what follows `help` is a command word, or nothing
abbrev pub help_asked : Option Text → Option Asked
help_asked None = Some (help None)
help_asked (Some word) = option_map (λ verb. help (Some verb)) (verb_named word)

abbrev pub given : Verb → List Row → Option Asked
given Why rows = why_given rows (first_of (codes "STARTS") rows) (first_of (codes "of") rows) (first_of (codes "observer") rows)
given Seen rows = runs_given (λ file starts observer machine budget.
    seen file starts observer machine budget (flag_given (codes "refused") rows)) rows
given Timeline rows = timeline_asked (first_of (codes "FILE") rows) (first_of (codes "STARTS") rows) (machine_given rows)
    (budget_given rows) (first_of (codes "observer") rows) (flag_given (codes "refused") rows)
given Bound rows = runs_given bound rows
given Steady rows = steady_asked (first_of (codes "FILE") rows) (first_of (codes "observer") rows) (first_of (codes "parts") rows)
    (first_of (codes "constant") rows) (flag_given (codes "whole") rows)
given Leak rows = runs_given (λ file starts observer machine budget.
    leak file starts observer machine budget (flag_given (codes "refused") rows)) rows
given Tune rows = tune_asked (first_of (codes "FILE") rows) (first_of (codes "STARTS") rows) (first_of (codes "observer") rows) (machine_given rows)
    (budget_given rows) (mark_given rows) (bits_given rows)
given Check rows = check_asked (first_of (codes "FILE") rows) (flag_given (codes "json") rows)
given Help rows = help_asked (first_of (codes "COMMAND") rows)
given Version rows = Some version

-- ---- all words

-- what the words after a command word ask for, where `clap` takes them by the form of the command
abbrev pub asked_after : Verb → List Text → Option Asked
asked_after verb words =
    if is_empty (fault_of (form_app verb) words) then given verb (matches_of (form_app verb) words) else None

-- what words ask for, or that they are refused
abbrev pub question_of : List Text → Option Asked
question_of [] = None
question_of (word ∷ words) = option_and_then (λ verb. asked_after verb words) (verb_named word)

-- ---- what callers rest on

-- the budget of a question is in range
abbrev pub IsInRange : Asked → Type 0
IsInRange (why file of) = ⊤
IsInRange (why_starts file starts) = ⊤
IsInRange (why_audit file starts observer machine budget) = IsCycles budget
IsInRange (seen file starts observer machine budget refused) = IsCycles budget
IsInRange (timeline file starts observer machine budget refused) = IsCycles budget
IsInRange (bound file starts observer machine budget) = IsCycles budget
IsInRange (steady file observer parts constant whole) = ⊤
IsInRange (leak file starts observer machine budget refused) = IsCycles budget
IsInRange (tune file starts observer machine budget mark bits) = IsCycles budget
IsInRange (check file) = ⊤
IsInRange (help command) = ⊤
IsInRange version = ⊤
