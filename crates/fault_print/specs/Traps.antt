-- Mistakes that are often made by those who know another language, each with a sentence.
use Rattle.std.specs.Prelude.{ℕ, ◌&&◌, ◌||◌, ◌==◌, Bool, true, false, if◌then◌else◌, List, [], ◌∷◌, Option, Some, None, codes}
use Rattle.std.specs.Str.{bytes_eq}
use Rattle.mit_syntax.specs.declared.token.Keyword.{Keyword}
use Rattle.mit_syntax.specs.declared.token.Keyword.TheVariants as key
use Rattle.mit_syntax.specs.declared.token.Sign.{Sign}
use Rattle.mit_syntax.specs.declared.token.Sign.TheVariants as sign
use Rattle.next_tokens.specs.declared.sort.Sort.{Sort}
use Rattle.next_tokens.specs.Sorts.{has_key, has_sign, has_rank, is_a_name, is_a_number, is_the_end}
use Rattle.fault_print.specs.declared.traps.Trap.{Trap}
use Rattle.fault_print.specs.declared.traps.Trap.TheVariants as trap

abbrev pub trap_line : Trap → List ℕ
trap_line trap.Assign = codes "an assignment is written NAME := VALUE\n"
trap_line trap.Equality = codes "equality is written ==\n"
trap_line trap.For = codes "there is no for: write while .. do { .. }\n"
trap_line trap.Declaration = codes "a variable is declared before the commands, as var NAME;\n"
trap_line trap.Call = codes "there are no functions\n"
trap_line trap.LastSemicolon = codes "a ; stands between two commands, and none behind the last one\n"
trap_line trap.BeforeElse = codes "no ; stands before else\n"
trap_line trap.Negative = codes "a number has no sign: write 0 - 1 for -1\n"
trap_line trap.OneVar = codes "each variable has a var of its own\n"
trap_line trap.NoValue = codes "a declaration gives no value: a command or a start file does\n"
trap_line trap.Then = codes "behind the guard of an if stands then\n"
trap_line trap.Do = codes "behind the guard of a while stands do\n"
trap_line trap.ElseIf = codes "behind else stands a block: else { if .. then { .. } }\n"
trap_line trap.LateVar = codes "all declarations stand before the first command\n"
trap_line trap.Between = codes "between two commands stands a ;\n"
trap_line trap.Comment = codes "a comment begins with //\n"
trap_line trap.And = codes "there is no and: write an if in an if, or multiply two comparisons\n"
trap_line trap.Or = codes "there is no or: write an if in an else, or add two comparisons\n"
trap_line trap.Not = codes "there is no not: compare with 0\n"
trap_line trap.Whole = codes "values are whole numbers\n"
trap_line trap.Body = codes "a body stands in braces: { .. }\n"
trap_line trap.Chain = codes "a comparison has two sides: multiply two, as (a < b) * (b < c)\n"
trap_line trap.Choice = codes "a choice is a command and has no value: if .. then { .. } else { .. }\n"
trap_line trap.Array = codes "an array is declared as var NAME[LENGTH] : LABEL;\n"
trap_line trap.Nothing = codes "what does nothing is skip\n"
trap_line trap.OneLeft = codes "an assignment has one variable on its left side\n"

abbrev pub trap_lines : Option Trap → List ℕ
trap_lines None = []
trap_lines (Some t) = trap_line t

-- one of these is this keyword, this sign or the numbers
abbrev pub with_key : Keyword → List Sort → Bool
with_key k [] = false
with_key k (x ∷ xs) = has_key k x || with_key k xs

abbrev pub with_sign : Sign → List Sort → Bool
with_sign g [] = false
with_sign g (x ∷ xs) = has_sign g x || with_sign g xs

abbrev pub with_number : List Sort → Bool
with_number [] = false
with_number (x ∷ xs) = is_a_number x || with_number xs

-- a command begins with it
abbrev pub begins_command : Sort → Bool
begins_command x =
    is_a_name x || (has_key key.Skip x || (has_key key.If x || (has_key key.While x || (has_key key.Mitigate x || has_key key.Sleep x))))

abbrev pub is_elif : List ℕ → Bool
is_elif w = bytes_eq w (codes "elif") || bytes_eq w (codes "elsif")

-- signs that assign in other languages, as `=`, `+=` and `<-`
abbrev pub assigns : Sort → Sort → Bool
assigns x next = has_sign sign.Equal x || (has_sign sign.Plus x || (has_sign sign.Minus x || (has_sign sign.Less x && has_sign sign.Minus next)))

-- a command ends before it
abbrev pub ends_command : Sort → Bool
ends_command x = has_sign sign.Semicolon x || (has_sign sign.RightBrace x || is_the_end x)

abbrev pub is_pass : List ℕ → Sort → Bool
is_pass w x = bytes_eq w (codes "pass") && ends_command x

-- behind the name with which a command begins, which is the word w
abbrev pub name_trap : List ℕ → Sort → Sort → Option Trap
name_trap w x next =
    if bytes_eq w (codes "for") then Some trap.For
    else if is_pass w x then Some trap.Nothing
    else if is_a_name x then Some trap.Declaration
    else if has_sign sign.LeftRound x then Some trap.Call
    else if has_sign sign.Comma x then Some trap.OneLeft
    else if assigns x next then Some trap.Assign
    else None

-- in a declaration, behind its name
abbrev pub declared_trap : Sort → Option Trap
declared_trap x =
    if has_sign sign.Comma x then Some trap.OneVar
    else if has_sign sign.Assign x then Some trap.NoValue
    else if has_sign sign.Semicolon x then Some trap.Array
    else None

-- behind a `;`
abbrev pub semicolon_trap : Sort → Option Trap
semicolon_trap x = if has_sign sign.RightBrace x || is_the_end x then Some trap.LastSemicolon else if has_key key.Else x then Some trap.BeforeElse else None

-- behind a guard
abbrev pub begins_body : Sort → Bool
begins_body x = begins_command x || (has_sign sign.LeftBrace x || has_sign sign.Colon x)

abbrev pub or_else : Option Trap → Option Trap → Option Trap
or_else None b = b
or_else (Some a) b = Some a

abbrev pub behind_semicolon : Sort → Sort → Option Trap
behind_semicolon before x = if has_sign sign.Semicolon before then semicolon_trap x else None

abbrev pub is_else_if : Sort → Sort → List ℕ → List Sort → Bool
is_else_if before x w could = (with_key key.Else could && is_elif w) || (has_key key.Else before && has_key key.If x)

abbrev pub is_denied : List ℕ → Sort → Bool
is_denied v x = bytes_eq v (codes "not") && (is_a_name x || has_sign sign.LeftRound x)

-- words of other languages in an expression; v is the word before
abbrev pub word_trap : List ℕ → Sort → List ℕ → Option Trap
word_trap v x w =
    if bytes_eq w (codes "and") then Some trap.And
    else if bytes_eq w (codes "or") then Some trap.Or
    else if is_denied v x then Some trap.Not
    else None

-- in an expression, or in the place of a label
abbrev pub value_trap : Sort → Sort → List Sort → Option Trap
value_trap before x could =
    if has_sign sign.LeftRound x && is_a_name before then Some trap.Call
    else if with_number could && has_key key.If x then Some trap.Choice
    else if has_sign sign.LeftSquare x && has_sign sign.Colon before then Some trap.Array
    else if has_rank 1 x && with_sign sign.Plus could then Some trap.Chain
    else if with_number could && has_sign sign.Minus x then Some trap.Negative
    else None

-- elsewhere
abbrev pub other_trap : Sort → Sort → List ℕ → List Sort → Option Trap
other_trap before x w could =
    if is_else_if before x w could then Some trap.ElseIf
    else if with_key key.Then could && begins_body x then Some trap.Then
    else if with_key key.Do could && begins_body x then Some trap.Do
    else if with_sign sign.LeftBrace could && begins_command x then Some trap.Body
    else if has_key key.Var x then Some trap.LateVar
    else if with_sign sign.Semicolon could && begins_command x then Some trap.Between
    else if has_sign sign.Slash x then Some trap.Comment
    else None

-- only a `;` could stand there: behind the label of a declaration
abbrev pub only_semicolon : List Sort → Bool
only_semicolon [] = false
only_semicolon (x ∷ []) = has_sign sign.Semicolon x
only_semicolon (x ∷ y ∷ r) = false

-- in a declaration, behind its name
abbrev pub is_declared : List Sort → Bool
is_declared could = with_sign sign.Colon could || only_semicolon could

-- The mistake that a token shows which can't stand at its place: `before` and `next` are the sorts of the tokens around it, or that
-- of the end where there are none, v and w are the words of the one before and of itself, and `could` is what could stand there.
abbrev pub token_trap : Sort → List ℕ → Sort → List ℕ → Sort → List Sort → Option Trap
token_trap before v x w next could =
    if with_sign sign.Assign could && is_a_name before then name_trap v x next
    else if is_declared could then declared_trap x
    else or_else (behind_semicolon before x) (or_else (word_trap v x w) (or_else (value_trap before x could) (other_trap before x w could)))

-- what could stand there is not known, where the text before the byte can't stand itself
abbrev pub is_unknown : List Sort → Bool
is_unknown [] = true
is_unknown (x ∷ xs) = false

abbrev pub equals_trap : List Sort → Option Trap
equals_trap could =
    if with_sign sign.Assign could || is_unknown could then Some trap.Assign
    else if with_sign sign.Equal could then Some trap.Equality
    else if is_declared could then Some trap.NoValue
    else None

-- the mistake that a byte shows with which no word begins
abbrev pub byte_trap : ℕ → List Sort → Option Trap
byte_trap b could =
    if b == 61 then equals_trap could
    else if b == 33 then Some trap.Not
    else if b == 38 then Some trap.And
    else if b == 124 then Some trap.Or
    else if b == 35 then Some trap.Comment
    else if b == 63 then Some trap.Choice
    else if (b == 34) || ((b == 39) || (b == 46)) then Some trap.Whole
    else None
