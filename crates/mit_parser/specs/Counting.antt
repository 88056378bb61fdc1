-- The limits, counted along the words: at most 100 brackets are open at once, and an expression has at most 256
-- operators. The brackets are `(`, `{` and `[`, but for the `[` of marks.
use Rattle.std.specs.Prelude.{◌≡◌, ◌+◌, ◌-◌, Bool, true, false, cond, ◌||◌, nat_lt, is_some, List, [], ◌∷◌}
use Rattle.mit_syntax.specs.declared.token.Sign.TheVariants.{LeftRound, RightRound, LeftBrace, RightBrace, LeftSquare, RightSquare, At}
use Rattle.mit_syntax.specs.Operators.{op_of}
use Rattle.mit_syntax.specs.Chunks.{key, sign, number, name}
use Rattle.mit_parser.specs.declared.counts.Counts.{Counts}
use Rattle.mit_parser.specs.Words.{Symbol, word, the_end, Told}

abbrev pub nothing_yet : Counts
nothing_yet = record { depth = 0; operators = 0; at = false; marks = false }

-- a number or a name of an expression
abbrev pub past_atom : Counts → Counts
past_atom c = record { depth = c.depth; operators = c.operators; at = false; marks = c.marks }

abbrev pub past_operator : Counts → Counts
past_operator c = record { depth = c.depth; operators = c.operators + 1; at = false; marks = c.marks }

abbrev pub past_left : Counts → Counts
past_left c = record { depth = c.depth + 1; operators = c.operators; at = false; marks = c.marks }

abbrev pub past_right : Counts → Counts
past_right c = record { depth = c.depth - 1; operators = c.operators; at = false; marks = c.marks }

-- a word that is of no expression
abbrev pub past_other : Counts → Counts
past_other c = record { depth = c.depth; operators = 0; at = false; marks = c.marks }

-- the brackets that are open and the operators of the expression so far, after this word
abbrev pub count : Counts → Symbol → Counts
count c (word (number n)) = past_atom c
count c (word (name w)) = past_atom c
count c (word (key k)) = past_other c
count c (word (sign LeftRound)) = past_left c
count c (word (sign RightRound)) = past_right c
count c (word (sign LeftBrace)) = past_other (past_left c)
count c (word (sign RightBrace)) = past_other (past_right c)
count c (word (sign At)) = record { depth = c.depth; operators = 0; at = true; marks = c.marks }
count c (word (sign LeftSquare)) = cond {A = Counts} c.at (record { depth = c.depth; operators = 0; at = false; marks = true }) (past_left c)
count c (word (sign RightSquare)) = cond {A = Counts} c.marks (record { depth = c.depth; operators = 0; at = false; marks = false }) (past_right c)
count c (word (sign s)) = cond {A = Counts} (is_some (op_of s)) (past_operator c) (past_other c)
count c the_end = past_other c

abbrev pub is_over : Counts → Bool
is_over c = nat_lt 100 c.depth || nat_lt 256 c.operators

abbrev pub counts_after : Counts → List Told → Counts
counts_after c [] = c
counts_after c (b ∷ r) = counts_after (count c b.symbol) r

-- no word passes a limit
abbrev pub Fits : Counts → List Told → Type 0
Fits c [] = Unit {0}
Fits c (b ∷ r) = (is_over (count c b.symbol) ≡ false) × Fits (count c b.symbol) r
