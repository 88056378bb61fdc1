-- What the words of a command line ask for.
use Rattle.std.specs.Prelude.{ℕ, ◌^◌, ◌≤◌, List, [], ◌∷◌, Option, Some, None, codes, bytes_eq, option_and_then, option_map, if◌then◌else◌}
use Rattle.std.specs.Bool.{⊤}
use Rattle.run_limits.specs.Cycles.{IsCycles}
use Rattle.clap.specs.Words.{App, Row, Text, fault_of, first_of, matches_of, new_app, new_rule, with_rule}
use Rattle.clap.specs.Walk.{is_empty}
use Rattle.tool_words.specs.declared.verbs.Verb.{Verb}
use Rattle.tool_words.specs.declared.verbs.Verb.TheVariants.{Check, Infer, Compile, Run, Meaning, Audit, Gen, Cut, Blackbox, Certify, Recheck}
use Rattle.tool_words.specs.declared.words.Command.{Command}
use Rattle.tool_words.specs.declared.words.Command.TheVariants as command
use Rattle.tool_words.specs.declared.words.EnvName.{EnvName}
use Rattle.tool_words.specs.WordsForms.{bare, observed_app, option_rule, required_option_rule, required_word_rule}
use Rattle.tool_words.specs.WordsValues.{budget_given, number_given, observed_given}
use Rattle.tool_words.specs.WordsRun.{run_app, run_given}

-- A command with the bytes of its texts, in the order of `Command`: file, starts, observer, environment and budget
-- of an audit and of a cut; file, starts, environment, budget and observer of a run.
pub data Asked : Type 0 where
  check : Text → Asked
  infer : Text → Asked
  compile : Text → Asked
  run : Text → Option Text → EnvName → ℕ → Option Text → Asked
  meaning : Text → Option Text → ℕ → Asked
  audit : Text → Text → Text → EnvName → ℕ → Asked
  gen : ℕ → ℕ → Asked
  cut : Text → Text → Text → EnvName → ℕ → Asked
  blackbox : Text → ℕ → ℕ → Asked
  certify : Text → Asked
  recheck : Text → Text → Asked

-- ---- command words

abbrev pub verb_named : Text → Option Verb
verb_named word =
    if bytes_eq word (codes "check") then Some Check else
    (if bytes_eq word (codes "infer") then Some Infer else
    (if bytes_eq word (codes "compile") then Some Compile else
    (if bytes_eq word (codes "run") then Some Run else
    (if bytes_eq word (codes "meaning") then Some Meaning else
    (if bytes_eq word (codes "audit") then Some Audit else
    (if bytes_eq word (codes "gen") then Some Gen else
    (if bytes_eq word (codes "cut") then Some Cut else
    (if bytes_eq word (codes "blackbox") then Some Blackbox else
    (if bytes_eq word (codes "certify") then Some Certify else
    (if bytes_eq word (codes "recheck") then Some Recheck else None))))))))))

-- ---- the form of each command

-- FILE
abbrev pub file_app : Text → App
file_app name = with_rule (bare (new_app name)) (required_word_rule (codes "FILE"))

-- FILE [STARTS] --steps N
abbrev pub meaning_app : App
meaning_app = with_rule (with_rule (with_rule (bare (new_app (codes "meaning")))
    (required_word_rule (codes "FILE"))) (new_rule (codes "STARTS"))) (required_option_rule (codes "steps"))

-- SIZE NUMBER
abbrev pub gen_app : App
gen_app = with_rule (with_rule (bare (new_app (codes "gen")))
    (required_word_rule (codes "SIZE"))) (required_word_rule (codes "NUMBER"))

-- READY --first Q [--budget T]
abbrev pub blackbox_app : App
blackbox_app = with_rule (with_rule (with_rule (bare (new_app (codes "blackbox")))
    (required_word_rule (codes "READY"))) (required_option_rule (codes "first"))) (option_rule (codes "budget"))

-- FILE CERTIFICATE
abbrev pub recheck_app : App
recheck_app = with_rule (with_rule (bare (new_app (codes "recheck")))
    (required_word_rule (codes "FILE"))) (required_word_rule (codes "CERTIFICATE"))

-- the words that follow each command word
abbrev pub form_app : Verb → App
form_app Check = file_app (codes "check")
form_app Infer = file_app (codes "infer")
form_app Compile = file_app (codes "compile")
form_app Run = run_app
form_app Meaning = meaning_app
form_app Audit = observed_app (codes "audit")
form_app Gen = gen_app
form_app Cut = observed_app (codes "cut")
form_app Blackbox = blackbox_app
form_app Certify = file_app (codes "certify")
form_app Recheck = recheck_app

-- ---- what the values that `clap` gives to the names of a form ask for

abbrev pub file_asked : (Text → Asked) → Option Text → Option Asked
file_asked command (Some file) = Some (command file)
file_asked command None = None

abbrev pub meaning_asked : Option Text → Option Text → Option ℕ → Option Asked
meaning_asked (Some file) starts (Some steps) = Some (meaning file starts steps)
meaning_asked _ _ _ = None

abbrev pub gen_asked : Option ℕ → Option ℕ → Option Asked
gen_asked (Some size) (Some number) = Some (gen size number)
gen_asked _ _ = None

abbrev pub blackbox_asked : Option Text → Option ℕ → Option ℕ → Option Asked
blackbox_asked (Some ready) (Some first) (Some budget) = Some (blackbox ready first budget)
blackbox_asked _ _ _ = None

abbrev pub recheck_asked : Option Text → Option Text → Option Asked
recheck_asked (Some file) (Some certificate) = Some (recheck file certificate)
recheck_asked _ _ = None

abbrev pub file_given : (Text → Asked) → List Row → Option Asked
file_given command rows = file_asked command (first_of (codes "FILE") rows)

abbrev pub given : Verb → List Row → Option Asked
given Check rows = file_given check rows
given Infer rows = file_given infer rows
given Compile rows = file_given compile rows
given Run rows = run_given run rows
given Meaning rows = meaning_asked (first_of (codes "FILE") rows) (first_of (codes "STARTS") rows)
    (number_given (codes "steps") 0 (2 ^ 40) rows)
given Audit rows = observed_given audit rows
given Gen rows = gen_asked (number_given (codes "SIZE") 1 10000 rows) (number_given (codes "NUMBER") 0 2147483647 rows)
given Cut rows = observed_given cut rows
given Blackbox rows = blackbox_asked (first_of (codes "READY") rows) (number_given (codes "first") 1 (2 ^ 40) rows)
    (budget_given rows)
given Certify rows = file_given certify rows
given Recheck rows = recheck_asked (first_of (codes "FILE") rows) (first_of (codes "CERTIFICATE") rows)

-- ---- all words

-- what the words after a command word ask for, where `clap` takes them by the form of the command
abbrev pub asked_after : Verb → List Text → Option Asked
asked_after verb words =
    if is_empty (fault_of (form_app verb) words) then given verb (matches_of (form_app verb) words) else None

-- what words ask for, or that they are refused
abbrev pub command_of : List Text → Option Asked
command_of [] = None
command_of (word ∷ words) = option_and_then (λ verb. asked_after verb words) (verb_named word)

-- ---- what callers rest on

-- a command that was read, with the bytes of its texts
abbrev pub asked_of : Command → Asked
asked_of (command.Check file) = check file.now
asked_of (command.Infer file) = infer file.now
asked_of (command.Compile file) = compile file.now
asked_of (command.Run file starts env budget observer) =
    run file.now (option_map (λ s. s.now) starts) env budget (option_map (λ l. l.now) observer)
asked_of (command.Meaning file starts steps) = meaning file.now (option_map (λ s. s.now) starts) steps
asked_of (command.Audit file starts observer env budget) = audit file.now starts.now observer.now env budget
asked_of (command.Gen size number) = gen size number
asked_of (command.Cut file starts observer env budget) = cut file.now starts.now observer.now env budget
asked_of (command.Blackbox ready first budget) = blackbox ready.now first budget
asked_of (command.Certify file) = certify file.now
asked_of (command.Recheck file certificate) = recheck file.now certificate.now

-- the numbers of a command are in range
abbrev pub IsInRange : Asked → Type 0
IsInRange (run file starts env budget observer) = IsCycles budget
IsInRange (meaning file starts steps) = steps ≤ 2 ^ 40
IsInRange (audit file starts observer env budget) = IsCycles budget
IsInRange (gen size number) = (1 ≤ size) × (size ≤ 10000) × (number ≤ 2147483647)
IsInRange (cut file starts observer env budget) = IsCycles budget
IsInRange (blackbox ready first budget) = IsCycles first × IsCycles budget
IsInRange _ = ⊤
