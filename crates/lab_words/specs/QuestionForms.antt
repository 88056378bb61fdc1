-- The written form of each command of the lab, as `clap` sees it: simple, without help or version.
use Rattle.std.specs.Prelude.{Some, codes}
use Rattle.clap.specs.Words.{App, Rule, Text, new_app, new_rule, with_rule}
use Rattle.clap.specs.declared.builder.action.ArgAction.TheVariants.{SetTrue}
use Rattle.tool_words.specs.WordsForms.{bare, observed_app, option_rule, required_option_rule, required_word_rule}
use Rattle.lab_words.specs.declared.verbs.Verb.{Verb}
use Rattle.lab_words.specs.declared.verbs.Verb.TheVariants.{Why, Seen, Timeline, Bound, Steady, Leak, Tune, Check, Help, Version}

-- FILE [STARTS] [--of NAME] [--observer L] [--env E] [--machine M] [--budget T]
abbrev pub why_app : App
why_app = with_rule (with_rule (with_rule (with_rule (with_rule (with_rule (with_rule (bare (new_app (codes "why")))
    (required_word_rule (codes "FILE"))) (new_rule (codes "STARTS"))) (option_rule (codes "of"))) (option_rule (codes "observer")))
    (option_rule (codes "env"))) (option_rule (codes "machine"))) (option_rule (codes "budget"))

-- `--name`
abbrev pub flag_rule : Text → Rule
flag_rule name = record (new_rule name) { long = Some name; action = Some SetTrue }

-- FILE STARTS [--env E] [--machine M] [--budget T] [--observer L] [--refused]
abbrev pub timeline_app : App
timeline_app = with_rule (with_rule (with_rule (with_rule (with_rule (with_rule (with_rule (bare (new_app (codes "timeline")))
    (required_word_rule (codes "FILE"))) (required_word_rule (codes "STARTS")))
    (option_rule (codes "env"))) (option_rule (codes "machine"))) (option_rule (codes "budget"))) (option_rule (codes "observer")))
    (flag_rule (codes "refused"))

-- what is observed of runs on a machine: FILE STARTS --observer L [--env E] [--budget T] [--machine M]
abbrev pub runs_app : Text → App
runs_app name = with_rule (observed_app name) (option_rule (codes "machine"))

-- the same and [--refused]
abbrev pub shown_app : Text → App
shown_app name = with_rule (runs_app name) (flag_rule (codes "refused"))

-- FILE --observer L [--parts P] [--constant NAMES] [--whole]
abbrev pub steady_app : App
steady_app = with_rule (with_rule (with_rule (with_rule (with_rule (bare (new_app (codes "steady"))) (required_word_rule (codes "FILE")))
    (required_option_rule (codes "observer"))) (option_rule (codes "parts"))) (option_rule (codes "constant"))) (flag_rule (codes "whole"))

-- `--of`, by the name `mark`
abbrev pub mark_rule : Rule
mark_rule = record (new_rule (codes "mark")) { long = Some (codes "of") }

-- what is observed of runs, [--of #K] and [--bits B]
abbrev pub tune_app : App
tune_app = with_rule (with_rule (runs_app (codes "tune")) mark_rule) (option_rule (codes "bits"))

-- FILE --json
abbrev pub check_app : App
check_app = with_rule (with_rule (bare (new_app (codes "check"))) (required_word_rule (codes "FILE"))) (flag_rule (codes "json"))

-- [COMMAND]
abbrev pub help_app : App
help_app = with_rule (bare (new_app (codes "help"))) (new_rule (codes "COMMAND"))

-- the words that follow each command word
abbrev pub form_app : Verb → App
form_app Why = why_app
form_app Seen = shown_app (codes "seen")
form_app Timeline = timeline_app
form_app Bound = runs_app (codes "bound")
form_app Steady = steady_app
form_app Leak = shown_app (codes "leak")
form_app Tune = tune_app
form_app Check = check_app
form_app Help = help_app
form_app Version = bare (new_app (codes "version"))
