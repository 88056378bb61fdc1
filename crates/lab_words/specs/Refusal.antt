-- What is told of words that ask for nothing: the first word that can't be taken, and what may stand there.
use Rattle.std.specs.Prelude.{◌≡◌, ◌==◌, ◌<◌, ◌+◌, ◌++◌, ◌&&◌, ◌||◌, ℕ, Bool, true, false, not, List, [], ◌∷◌, length, take, drop, map}
use Rattle.std.specs.Prelude.{Option, Some, None, codes, is_some, if◌then◌else◌}
use Rattle.std.specs.Bool.{nat_le}
use Rattle.std.specs.Char.{is_ascii_graphic}
use Rattle.std.specs.List.{list_all, starts_with}
use Rattle.clap.specs.Simple.{on_top}
use Rattle.clap.specs.Walk.{is_empty}
use Rattle.clap.specs.Words.{App, Row, Rule, Text, fault_of, first_of, matches_of}
use Rattle.tool_words.specs.WordsValues.{budget_given}
use Rattle.lab_words.specs.declared.verbs.Verb.{Verb}
use Rattle.lab_words.specs.declared.verbs.Verb.TheVariants.{Why, Seen, Timeline, Bound, Steady, Leak, Tune, Check, Help, Version}
use Rattle.lab_words.specs.QuestionAsked.{bits_given, help_asked, lacks, lacks_setting, machine_given, mark_given, verb_named}
use Rattle.lab_words.specs.QuestionForms.{form_app}

-- ---- the first word that can't be taken

-- a form of which no word must be there
abbrev pub optional : Rule → Rule
optional r = record r { required = false }

abbrev pub loosened : App → App
loosened = on_top (λ s. record s { rules = map optional s.rules })

-- no name stands beside starts, or beside what tells of an audit
abbrev pub is_of_alone : List Row → Bool
is_of_alone rows = lacks (codes "of") rows || (lacks (codes "STARTS") rows && (lacks (codes "observer") rows && lacks_setting rows))

-- the values that words give are of their form
abbrev pub has_values : List Row → Bool
has_values rows =
    is_some (machine_given rows) && (is_some (budget_given rows) && (is_some (mark_given rows) && (is_some (bits_given rows)
    && (is_some (help_asked (first_of (codes "COMMAND") rows)) && is_of_alone rows))))

-- the words after a command word can be taken, if some more follow
abbrev pub is_taken : Verb → List Text → Bool
is_taken verb words =
    is_empty (fault_of (loosened (form_app verb)) words) && has_values (matches_of (loosened (form_app verb)) words)

-- The word with this number can stand where it stands: the words up to it can be taken, or those up to the next one, which
-- may be its value.
abbrev pub stands : Verb → List Text → ℕ → Bool
stands verb words n = is_taken verb (take (n + 1) words) || is_taken verb (take (n + 2) words)

abbrev pub StandUpTo : Verb → List Text → ℕ → Type 0
StandUpTo verb words n = (m : ℕ) → m < n → stands verb words m ≡ true

-- the number of the first word that can't stand where it stands, or that there is none
abbrev pub IsFirst : Verb → List Text → Option ℕ → Type 0
IsFirst verb words (Some n) = (n < length words) × StandUpTo verb words n × (stands verb words n ≡ false)
IsFirst verb words None = StandUpTo verb words (length words)

-- ---- what is told

-- a word is told where it has at most 64 bytes, all of them graphic ASCII
abbrev pub is_plain : Text → Bool
is_plain word = nat_le (length word) 64 && list_all is_ascii_graphic word

abbrev pub shown : Text → Text
shown word = if is_plain word then word else codes "a word that can't be shown"

-- `-` begins the word
abbrev pub is_dashed : Text → Bool
is_dashed word = starts_with ◌==◌ word (codes "-")

-- `-` begins the word, and no `=` is in it
abbrev pub is_bare_option : Text → Bool
is_bare_option word = is_dashed word && list_all (λ b. not (b == 61)) word

-- what is told after the first word that can't stand: the word that may be its value
abbrev pub next_shown : Text → List Text → Option Text
next_shown word [] = None
next_shown word (next ∷ rest) = if is_bare_option word && not (is_dashed next) then Some (shown next) else None

-- where no command is asked for
unfoldable pub no_command_line : Text
no_command_line = codes "lab: a command is missing; there are why, seen, timeline, bound, steady, leak, tune, check, help and version\n"

unfoldable pub commands_there : Text
commands_there = codes " is no command; there are why, seen, timeline, bound, steady, leak, tune, check, help and version\n"

-- of a word that is no command
abbrev pub unknown_line : Text → Text
unknown_line command = codes "lab: " ++ (shown command ++ commands_there)

-- the form of each command, with what its values may be
abbrev pub form_told : Verb → Text
form_told Why = codes "why FILE [STARTS] [--of NAME], or why FILE STARTS --observer LABEL [--env flat|part|part2] [--machine M] [--budget 1..1099511627776]\n"
form_told Seen = codes "seen FILE STARTS --observer LABEL [--env flat|part|part2] [--machine M] [--budget 1..1099511627776] [--refused]\n"
form_told Timeline = codes "timeline FILE STARTS [--env flat|part|part2] [--machine M] [--budget 1..1099511627776] [--observer LABEL] [--refused]\n"
form_told Bound = codes "bound FILE STARTS --observer LABEL [--env flat|part|part2] [--machine M] [--budget 1..1099511627776]\n"
form_told Steady = codes "steady FILE --observer LABEL [--parts LABEL] [--constant NAMES] [--whole]\n"
form_told Leak = codes "leak FILE STARTS --observer LABEL [--env flat|part|part2] [--machine M] [--budget 1..1099511627776] [--refused]\n"
form_told Tune = codes "tune FILE STARTS --observer LABEL [--env flat|part|part2] [--machine M] [--budget 1..1099511627776] [--of #K] [--bits 0..64]\n"
form_told Check = codes "check FILE --json\n"
form_told Help = codes "help [why|seen|timeline|bound|steady|leak|tune|check|help|version]\n"
form_told Version = codes "version\n"

abbrev pub line_begin : Text → Text
line_begin command = codes "lab " ++ (command ++ codes ": ")

abbrev pub gap : Option Text → Text
gap None = []
gap (Some word) = codes " "

abbrev pub told : Option Text → Text
told None = []
told (Some word) = word

-- of a word that can't stand, with the words after it
abbrev pub wrong_line : Verb → Text → Text → List Text → Text
wrong_line verb command word rest =
    line_begin command ++ (shown word ++ (gap (next_shown word rest) ++ (told (next_shown word rest)
    ++ (codes " can't stand here; the form is " ++ form_told verb))))

-- the word that must be there and is not, where one is not
abbrev pub missing : Verb → List Row → Text
missing Steady rows = if lacks (codes "FILE") rows then codes "FILE" else codes "--observer"
missing Check rows = if lacks (codes "FILE") rows then codes "FILE" else codes "--json"
missing Timeline rows = if lacks (codes "FILE") rows then codes "FILE" else codes "STARTS"
missing _ rows =
    if lacks (codes "FILE") rows then codes "FILE" else (if lacks (codes "STARTS") rows then codes "STARTS" else codes "--observer")

abbrev pub missing_line : Verb → Text → List Row → Text
missing_line verb command rows =
    line_begin command ++ (missing verb rows ++ (codes " is missing; the form is " ++ form_told verb))

abbrev pub wrong_line_at : Verb → Text → List Text → Text
wrong_line_at verb command [] = []
wrong_line_at verb command (word ∷ rest) = wrong_line verb command word rest

abbrev pub line_at : Verb → Text → List Text → Option ℕ → Text
line_at verb command words (Some n) = wrong_line_at verb command (drop n words)
line_at verb command words None = missing_line verb command (matches_of (loosened (form_app verb)) words)

-- The line on words after a command word that ask for nothing.
abbrev pub IsLineAfter : Option Verb → Text → List Text → Text → Type 0
IsLineAfter None command words line = line ≡ unknown_line command
IsLineAfter (Some verb) command words line =
    (first : Option ℕ) × IsFirst verb words first × (line ≡ line_at verb command words first)

-- The line on words that ask for nothing.
abbrev pub IsLine : List Text → Text → Type 0
IsLine [] line = line ≡ no_command_line
IsLine (command ∷ words) line = IsLineAfter (verb_named command) command words line
