-- The words of a run: their form, and what they ask for.
use Rattle.std.specs.Prelude.{ℕ, List, Option, Some, None, codes}
use Rattle.clap.specs.Words.{App, Row, Text, first_of, new_app, new_rule, with_rule}
use Rattle.tool_words.specs.declared.words.EnvName.{EnvName}
use Rattle.tool_words.specs.WordsForms.{bare, option_rule, required_word_rule}
use Rattle.tool_words.specs.WordsValues.{budget_given, env_given}

-- FILE [STARTS] [--env E] [--budget T] [--observer L]
abbrev pub run_app : App
run_app = with_rule (with_rule (with_rule (with_rule (with_rule (bare (new_app (codes "run")))
    (required_word_rule (codes "FILE"))) (new_rule (codes "STARTS")))
    (option_rule (codes "env"))) (option_rule (codes "budget"))) (option_rule (codes "observer"))

-- of a run: file, starts, environment, budget and observer
abbrev pub run_asked : {A : Type 0} → (Text → Option Text → EnvName → ℕ → Option Text → A)
    → Option Text → Option Text → Option EnvName → Option ℕ → Option Text → Option A
run_asked command (Some file) starts (Some env) (Some budget) observer = Some (command file starts env budget observer)
run_asked _ _ _ _ _ _ = None

abbrev pub run_given : {A : Type 0} → (Text → Option Text → EnvName → ℕ → Option Text → A) → List Row → Option A
run_given command rows = run_asked command (first_of (codes "FILE") rows) (first_of (codes "STARTS") rows) (env_given rows) (budget_given rows)
    (first_of (codes "observer") rows)
