-- From the word of `--constant` to the costs of operators that are asked about.
use Rattle.std.specs.Prelude.{◌≡◌, ℕ, List, [], ◌∷◌, ◌++◌, true, false, Option, Some, None, codes, bytes_eq, eqb, option_and_then, option_map, if◌then◌else◌}
use Rattle.std.specs.List.{slice_split}
use Rattle.steady_code.specs.declared.costing.Constant.{Constant}
use Rattle.steady_code.specs.declared.costing.Costing.{Costing}
use Rattle.steady_code.specs.declared.costing.Costing.TheVariants.{Table, Only}
use Rattle.tool_texts.specs.declared.status.Status.{Status}
use Rattle.tool_texts.specs.declared.status.Status.TheVariants as status
use Rattle.lab_texts.specs.Names.{after_blanks}

-- no operator is named
abbrev pub none_named : Constant
none_named = record { add = false; subtract = false; multiply = false; divide = false; remainder = false; compare = false }

-- an operator's name more; `compare` is all comparisons
abbrev pub with_name : List ℕ → Constant → Option Constant
with_name word c =
    if bytes_eq word (codes "add") then Some (record c { add = true }) else
    (if bytes_eq word (codes "subtract") then Some (record c { subtract = true }) else
    (if bytes_eq word (codes "multiply") then Some (record c { multiply = true }) else
    (if bytes_eq word (codes "divide") then Some (record c { divide = true }) else
    (if bytes_eq word (codes "remainder") then Some (record c { remainder = true }) else
    (if bytes_eq word (codes "compare") then Some (record c { compare = true }) else None)))))

abbrev pub with_names : List (List ℕ) → Constant → Option Constant
with_names [] c = Some c
with_names (word ∷ words) c = option_and_then (λ d. with_names words d) (with_name word c)

-- the names of a word, with commas between them; `none` is no name
abbrev pub constant_of : List ℕ → Option Constant
constant_of word = if bytes_eq word (codes "none") then Some none_named else with_names (slice_split (λ b. eqb b 44) word) none_named

-- without `--constant` the costs are those of the table
abbrev pub costing_of : Option (List ℕ) → Option Costing
costing_of None = Some Table
costing_of (Some word) = option_map (λ c. Only c) (constant_of word)

-- the names of the operators
abbrev pub operators : List (List ℕ)
operators = codes "add" ∷ codes "subtract" ∷ codes "multiply" ∷ codes "divide" ∷ codes "remainder" ∷ codes "compare" ∷ []

-- the lines on a word that names something else
unfoldable pub no_operator : List ℕ
no_operator = codes "constant: unknown name\nnames" ++ (after_blanks operators ++ codes "\n")

-- such a word is refused
abbrev pub CostingStops : Option (List ℕ) → Status → List ℕ → Type 0
CostingStops word status.Usage t = (costing_of word ≡ None) × (t ≡ no_operator)
CostingStops word _ t = ⊥
