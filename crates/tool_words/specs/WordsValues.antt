-- What single words and values mean: numbers and the names of environments.
use Rattle.std.specs.Prelude.{ℕ, ◌^◌, ◌&&◌, Bool, List, Option, Some, None, codes, length, bytes_eq, option_and_then, if◌then◌else◌}
use Rattle.std.specs.Bool.{nat_le}
use Rattle.std.specs.Char.{is_ascii_digit}
use Rattle.std.specs.List.{list_all}
use Rattle.std.specs.Str.Parse.{digits_value}
use Rattle.clap.specs.Words.{Row, Text, first_of}
use Rattle.tool_words.specs.declared.words.EnvName.{EnvName}
use Rattle.tool_words.specs.declared.words.EnvName.TheVariants.{Flat, Part, Part2}

-- ---- single words

-- one to twenty decimal digits
abbrev pub is_number : Text → Bool
is_number word = nat_le 1 (length word) && (nat_le (length word) 20 && list_all is_ascii_digit word)

-- the value of a number that is at least `least` and at most `most`
abbrev pub number_in : ℕ → ℕ → Text → Option ℕ
number_in least most word =
    if is_number word && (nat_le least (digits_value 10 word) && nat_le (digits_value 10 word) most)
    then Some (digits_value 10 word) else None

-- cycles from 1 to 2^40; none written means a million
abbrev pub budget_named : Option Text → Option ℕ
budget_named None = Some 1000000
budget_named (Some word) = number_in 1 (2 ^ 40) word

-- none written means `part`
abbrev pub env_named : Option Text → Option EnvName
env_named None = Some Part
env_named (Some word) =
    if bytes_eq word (codes "flat") then Some Flat else
    (if bytes_eq word (codes "part") then Some Part else
    (if bytes_eq word (codes "part2") then Some Part2 else None))

-- ---- the values that `clap` gives to the names of a form

abbrev pub number_given : Text → ℕ → ℕ → List Row → Option ℕ
number_given name least most rows = option_and_then (number_in least most) (first_of name rows)

abbrev pub budget_given : List Row → Option ℕ
budget_given rows = budget_named (first_of (codes "budget") rows)

abbrev pub env_given : List Row → Option EnvName
env_given rows = env_named (first_of (codes "env") rows)

-- of what is observed of runs: file, starts, observer, environment and budget
abbrev pub observed_asked : {A : Type 0} → (Text → Text → Text → EnvName → ℕ → A)
    → Option Text → Option Text → Option Text → Option EnvName → Option ℕ → Option A
observed_asked command (Some file) (Some starts) (Some observer) (Some env) (Some budget) =
    Some (command file starts observer env budget)
observed_asked _ _ _ _ _ _ = None

abbrev pub observed_given : {A : Type 0} → (Text → Text → Text → EnvName → ℕ → A) → List Row → Option A
observed_given command rows = observed_asked command (first_of (codes "FILE") rows) (first_of (codes "STARTS") rows)
    (first_of (codes "observer") rows) (env_given rows) (budget_given rows)
