-- The pieces of the written forms of commands, as `clap` sees them: simple, without help or version.
use Rattle.std.specs.Prelude.{true, Some, codes}
use Rattle.clap.specs.Words.{App, Rule, Text, new_app, new_rule, with_rule}
use Rattle.clap.specs.Simple.{on_top}

-- a positional word that must be there
abbrev pub required_word_rule : Text → Rule
required_word_rule name = record (new_rule name) { required = true }

-- `--name value`
abbrev pub option_rule : Text → Rule
option_rule name = record (new_rule name) { long = Some name }

-- `--name value`, which must be there
abbrev pub required_option_rule : Text → Rule
required_option_rule name = record (new_rule name) { long = Some name; required = true }

-- the command has no name among the words, no help and no version
abbrev pub bare : App → App
bare = on_top (λ s. record s { no_binary_name = true; disable_help_flag = true; disable_version_flag = true })

-- what is observed of runs: FILE STARTS --observer L [--env E] [--budget T]
abbrev pub observed_app : Text → App
observed_app name = with_rule (with_rule (with_rule (with_rule (with_rule (bare (new_app name))
    (required_word_rule (codes "FILE"))) (required_word_rule (codes "STARTS")))
    (required_option_rule (codes "observer"))) (option_rule (codes "env"))) (option_rule (codes "budget"))
