-- What is still to be read, as it is kept: what is read first stands last.
use Rattle.std.specs.Prelude.{◌≡◌, ◌≤◌, ℕ, Bool, true, cond, Option, Some, None, is_some, List, [], ◌∷◌, ◌++◌, length, take, drop}
use Rattle.mit_syntax.specs.declared.token.Keyword.TheVariants.{Labels, Order, Var, Skip, If, Then, Else, While, Do, Mitigate, Sleep}
use Rattle.mit_syntax.specs.declared.token.Sign.TheVariants.{Assign, Colon, Semicolon, Comma, LeftRound, RightRound, LeftBrace, RightBrace, LeftSquare}
use Rattle.mit_syntax.specs.declared.token.Sign.TheVariants.{RightSquare, At, Less}
use Rattle.mit_syntax.specs.Chunks.{key, sign}
use Rattle.mit_parser.specs.Words.{Symbol, word, the_end, Told}
use Rattle.mit_parser.specs.Machine as machine
use Rattle.mit_parser.specs.Machine.{want, step, choice}
use Rattle.next_tokens.specs.declared.part.Part.{Part}
use Rattle.next_tokens.specs.declared.part.Part.TheVariants as part
use Rattle.next_tokens.specs.declared.part.Move.{Move}
use Rattle.next_tokens.specs.declared.part.Move.TheVariants.{Stuck, Over, Goes}
use Rattle.next_tokens.specs.declared.sort.Sort.{Sort}
use Rattle.next_tokens.specs.declared.sort.Sort.TheVariants as sort
use Rattle.next_tokens.specs.Following.{IsOneOf, AreSomeOf}
use Rattle.next_tokens.specs.Sorts.{sort_of, has_key, has_sign, has_rank, is_a_name, is_a_number, is_the_end}

abbrev pub part_of : Part → machine.Part
part_of (part.WantKey k) = want (word (key k))
part_of (part.WantSign s) = want (word (sign s))
part_of part.WantEnd = want the_end
part_of part.Atom = machine.an_atom
part_of part.Index = machine.an_index
part_of part.Term = machine.a_term
part_of part.Factors = machine.factors
part_of part.Sum = machine.a_sum
part_of part.Addends = machine.addends
part_of part.Expression = machine.an_expr
part_of part.Comparison = machine.comparison
part_of part.Name = machine.a_name
part_of part.Number = machine.a_number
part_of part.Marks = machine.marks
part_of part.Second = machine.second
part_of part.Command = machine.a_command
part_of part.Block = machine.a_block
part_of part.Commands = machine.commands
part_of part.More = machine.more
part_of part.Otherwise = machine.otherwise
part_of part.Names = machine.names
part_of part.MoreNames = machine.more_names
part_of part.Pair = machine.a_pair
part_of part.Pairs = machine.pairs
part_of part.MorePairs = machine.more_pairs
part_of part.Ordering = machine.ordering
part_of part.Header = machine.header
part_of part.Shape = machine.a_shape
part_of part.Declarations = machine.declarations

-- these parts, the last of which is read first, before others
abbrev pub onto : List Part → List machine.Part → List machine.Part
onto [] s = s
onto (p ∷ ps) s = onto ps (part_of p ∷ s)

abbrev pub left_of : List Part → List machine.Part
left_of ps = onto ps []

-- What a part does at a token: the token can't stand there; nothing of the part is there, and what comes behind it meets the
-- token; or the token begins it, and these parts are to be read in place of it, the last one first.
pub data Meeting : Type 0 where
  stuck : Meeting
  over : Meeting
  goes : List Part → Meeting

abbrev pub meeting_of : Move → Meeting
meeting_of Stuck = stuck
meeting_of Over = over
meeting_of (Goes after) = goes after.now

-- what must be there
abbrev pub wanted : Bool → Meeting
wanted there = cond there (goes []) stuck

-- a part that begins with something, or is left out
abbrev pub left_out : Bool → List Part → Meeting
left_out begins after = cond begins (goes after) over

abbrev pub meet_atom : List Part → Sort → Meeting
meet_atom behind (sort.Number) = goes behind
meet_atom behind (sort.Name) = goes (behind ++ part.Index ∷ [])
meet_atom behind (sort.Sign LeftRound) = goes (behind ++ part.WantSign RightRound ∷ part.Expression ∷ [])
meet_atom behind (sort.Sign _) = stuck
meet_atom behind (sort.Key k) = stuck
meet_atom behind (sort.End) = stuck

abbrev pub meet_command : List Part → Sort → Meeting
meet_command behind (sort.Name) = goes (behind ++ part.Marks ∷ part.Expression ∷ part.WantSign Assign ∷ part.Index ∷ [])
meet_command behind (sort.Key Skip) = goes (behind ++ part.Marks ∷ [])
meet_command behind (sort.Key Sleep) = goes (behind ++ part.Marks ∷ part.Expression ∷ [])
meet_command behind (sort.Key If) = goes (behind ++ part.Otherwise ∷ part.Block ∷ part.WantKey Then ∷ part.Marks ∷ part.Expression ∷ [])
meet_command behind (sort.Key While) = goes (behind ++ part.Block ∷ part.WantKey Do ∷ part.Marks ∷ part.Expression ∷ [])
meet_command behind (sort.Key Mitigate) =
    goes (behind ++ part.Block ∷ part.Marks ∷ part.WantSign RightRound ∷ part.Second ∷ part.Expression ∷ part.WantSign LeftRound ∷ [])
meet_command behind (sort.Key _) = stuck
meet_command behind (sort.Number) = stuck
meet_command behind (sort.Sign g) = stuck
meet_command behind (sort.End) = stuck

abbrev pub meet_shape : Sort → Meeting
meet_shape x = cond (has_sign LeftSquare x) (goes (part.Name ∷ part.WantSign Colon ∷ part.WantSign RightSquare ∷ part.Number ∷ []))
    (left_out (has_sign Colon x) (part.Name ∷ []))

abbrev pub meet : Part → Sort → Meeting
meet (part.WantKey k) x = wanted (has_key k x)
meet (part.WantSign g) x = wanted (has_sign g x)
meet part.WantEnd x = wanted (is_the_end x)
meet part.Atom x = meet_atom [] x
meet part.Index x = left_out (has_sign LeftSquare x) (part.WantSign RightSquare ∷ part.Expression ∷ [])
meet part.Term x = meet_atom (part.Factors ∷ []) x
meet part.Factors x = left_out (has_rank 3 x) (part.Factors ∷ part.Atom ∷ [])
meet part.Sum x = meet_atom (part.Addends ∷ part.Factors ∷ []) x
meet part.Addends x = left_out (has_rank 2 x) (part.Addends ∷ part.Term ∷ [])
meet part.Expression x = meet_atom (part.Comparison ∷ part.Addends ∷ part.Factors ∷ []) x
meet part.Comparison x = left_out (has_rank 1 x) (part.Sum ∷ [])
meet part.Name x = wanted (is_a_name x)
meet part.Number x = wanted (is_a_number x)
meet part.Marks x = left_out (has_sign At x) (part.WantSign RightSquare ∷ part.Second ∷ part.Name ∷ part.WantSign LeftSquare ∷ [])
meet part.Second x = left_out (has_sign Comma x) (part.Name ∷ [])
meet part.Command x = meet_command [] x
meet part.Block x = cond (has_sign LeftBrace x) (goes (part.WantSign RightBrace ∷ part.Commands ∷ [])) stuck
meet part.Commands x = meet_command (part.More ∷ []) x
meet part.More x = left_out (has_sign Semicolon x) (part.More ∷ part.Command ∷ [])
meet part.Otherwise x = left_out (has_key Else x) (part.Block ∷ [])
meet part.Names x = cond (is_a_name x) (goes (part.MoreNames ∷ [])) stuck
meet part.MoreNames x = left_out (has_sign Comma x) (part.MoreNames ∷ part.Name ∷ [])
meet part.Pair x = cond (is_a_name x) (goes (part.Name ∷ part.WantSign Less ∷ [])) stuck
meet part.Pairs x = cond (is_a_name x) (goes (part.MorePairs ∷ part.Name ∷ part.WantSign Less ∷ [])) stuck
meet part.MorePairs x = left_out (has_sign Comma x) (part.MorePairs ∷ part.Pair ∷ [])
meet part.Ordering x = left_out (has_key Order x) (part.WantSign Semicolon ∷ part.Pairs ∷ [])
meet part.Header x = left_out (has_key Labels x) (part.Ordering ∷ part.WantSign Semicolon ∷ part.Names ∷ [])
meet part.Shape x = meet_shape x
meet part.Declarations x = left_out (has_key Var x) (part.Declarations ∷ part.WantSign Semicolon ∷ part.Shape ∷ part.Name ∷ [])

-- what is still to be read after some words
abbrev pub after : List machine.Part → List Told → Option (List machine.Part)
after s [] = Some s
after s (b ∷ r) = choice (step s b.symbol) None (λ t. after t r)

abbrev pub at_start : List machine.Part
at_start = machine.header ∷ machine.declarations ∷ machine.commands ∷ want the_end ∷ []

-- the parts that are read before a program's first token
abbrev pub at_first : List Part
at_first = part.WantEnd ∷ part.Commands ∷ part.Declarations ∷ part.Header ∷ []

-- the words up to this one are taken, and the next one, if there is one, is not
pub record IsRead (words : List Told) (taken : ℕ) (left : List machine.Part) : Type 0 where
  pub within : taken ≤ length words
  pub reads : after at_start (take taken words) ≡ Some left
  pub stops : (b : Told) (rest : List Told) → drop taken words ≡ b ∷ rest → step left b.symbol ≡ None

-- of these sorts, those of which a word can be taken
pub record AreTaken (left : List machine.Part) (those sorts : List Sort) : Type 0 where
  pub only : (w : Symbol) → IsOneOf sorts (sort_of w) → is_some (step left w) ≡ true
  pub all : (w : Symbol) → IsOneOf those (sort_of w) → is_some (step left w) ≡ true → IsOneOf sorts (sort_of w)
  pub order : AreSomeOf sorts those
