-- What the functions of the parser ensure.
use Rattle.std.specs.Prelude.{◌≡◌, ℕ, ℤ, ◌+◌, ◌≤◌, List, [], ◌∷◌, ◌++◌, length, Bool, true, false, Option, Some}
use Rattle.text_base.specs.declared.pos.Pos.{Pos}
use Rattle.label_lattice.specs.declared.label.Label.{Label}
use Rattle.mit_syntax.specs.declared.ast.Command.{Command}
use Rattle.mit_syntax.specs.Expression.{Expression}
use Rattle.mit_syntax.specs.Chunks.{number}
use Rattle.mit_syntax.specs.Plan.{Plan, list_plan}
use Rattle.mit_parser.specs.declared.fault.ParseFault.{ParseFault}
use Rattle.mit_parser.specs.declared.fault.ParseFault.TheVariants.{Unexpected, TooDeep, TooMany, Unknown, Twice, Lattice, Memory, Size, Misuse}
use Rattle.mit_parser.specs.declared.names.Names.{Names}
use Rattle.mit_parser.specs.Words.{Symbol, word, Told, is, head_symbol, name_at, end_at}
use Rattle.mit_parser.specs.Counting.{count, is_over}
use Rattle.mit_parser.specs.State.{State, with_marks}
use Rattle.mit_parser.specs.Scope.{Scope, scope, labels_in}
use Rattle.mit_parser.specs.Machine.{Part, want, an_atom, an_index, a_term, factors, a_sum, addends, an_expr, a_name, a_number, marks, second, a_command}
use Rattle.mit_parser.specs.Machine.{a_block, otherwise, commands, more, verdict, Verdict, Bad, Deep}
use Rattle.mit_parser.specs.Tree.{ExpressionTree, Commands, More, front_expression, front_index, front_and_name, front_marks, front_command, front_block}
use Rattle.mit_parser.specs.Tree.{front_else, front_commands, front_more}
use Rattle.mit_parser.specs.Meaning.{expression_value, index_value, and_name_value, marks_value}
use Rattle.mit_parser.specs.Meaning.{plan_command, plan_block, plan_else, plan_commands, plan_more, next_command, next_block, next_else, next_commands}
use Rattle.mit_parser.specs.Meaning.{next_more}
use Rattle.mit_parser.specs.Faults.{note_expression, note_index, note_and_name, note_marks}
use Rattle.mit_parser.specs.Faults.{note_command, note_block, note_else, note_commands, note_more}

-- one word is left, the end
abbrev pub OnlyEnd : List Told → Type 0
OnlyEnd l = (e : Pos) × (l ≡ end_at e ∷ [])

-- what names stand for
abbrev pub scope_of : Names → Scope
scope_of n = scope (labels_in n.lattice) n.variables

-- the fault stands at the first word of new
pub record Stands (made : List Told → Verdict) (pos : Pos) (part : Part) (old new : State) : Type 0 where
  pub first : Told
  pub rest : List Told
  pub there : new.words ≡ first ∷ rest
  pub place : first.pos ≡ pos
  pub is : (s : List Part) → verdict (part ∷ s) old.counts old.words ≡ made new.words

abbrev pub Refused : Part → State → State → ParseFault → Type 0
Refused part old new (Unexpected p) = Stands Bad p part old new
Refused part old new (TooDeep p) = Stands Deep p part old new
Refused part old new (TooMany n) = ⊥
Refused part old new (Unknown p) = ⊥
Refused part old new (Twice p) = ⊥
Refused part old new (Lattice l) = ⊥
Refused part old new Memory = Unit {0}
Refused part old new (Size p) = ⊥
Refused part old new (Misuse p) = ⊥

-- the first word was taken
pub record Passed (old new : State) : Type 0 where
  pub first : Told
  pub was : old.words ≡ first ∷ new.words
  pub within : is_over new.counts ≡ false
  pub low : new.counts.depth ≤ 100
  pub shorter : length new.words + 1 ≡ length old.words
  pub counts : new.counts ≡ count old.counts first.symbol
  pub fault : new.fault ≡ old.fault
  pub marks : new.marks ≡ old.marks

-- the first word was taken, and numbered as a mitigate
pub record TookMark (k : ℕ) (old new : State) : Type 0 where
  pub number : k ≡ old.marks
  pub next : new.marks ≡ old.marks + 1
  pub passed : Passed old (with_marks new k)

-- the first word passes a limit
pub record IsOver (pos : Pos) (old new : State) : Type 0 where
  pub first : Told
  pub rest : List Told
  pub was : old.words ≡ first ∷ rest
  pub place : first.pos ≡ pos
  pub passes : is_over (count old.counts first.symbol) ≡ true
  pub stays : new ≡ old

abbrev pub Over : State → State → ParseFault → Type 0
Over old new (Unexpected p) = ⊥
Over old new (TooDeep p) = IsOver p old new
Over old new (TooMany n) = ⊥
Over old new (Unknown p) = ⊥
Over old new (Twice p) = ⊥
Over old new (Lattice l) = ⊥
Over old new Memory = ⊥
Over old new (Size p) = ⊥
Over old new (Misuse p) = ⊥

pub record HasFirst (pos : Pos) (now : State) : Type 0 where
  pub first : Told
  pub rest : List Told
  pub was : now.words ≡ first ∷ rest
  pub place : first.pos ≡ pos

abbrev pub Found : ParseFault → State → Type 0
Found (Unexpected p) now = HasFirst p now
Found (TooDeep p) now = ⊥
Found (TooMany n) now = ⊥
Found (Unknown p) now = ⊥
Found (Twice p) now = ⊥
Found (Lattice l) now = ⊥
Found Memory now = ⊥
Found (Size p) now = ⊥
Found (Misuse p) now = ⊥

-- a word at a position
abbrev pub symbol_at : Symbol → Pos → Told
symbol_at g p = record { symbol = g; pos = p }

-- the symbol was taken
pub record Took (g : Symbol) (old new : State) : Type 0 where
  pub place : Pos
  pub was : old.words ≡ symbol_at g place ∷ new.words
  pub counts : new.counts ≡ count old.counts g
  pub goes : (s : List Part) → verdict (want g ∷ s) old.counts old.words ≡ verdict s new.counts new.words
  pub shorter : length new.words + 1 ≡ length old.words
  pub low : new.counts.depth ≤ 100
  pub fault : new.fault ≡ old.fault
  pub marks : new.marks ≡ old.marks

-- the symbol was taken if it was there
abbrev pub Accepted : Symbol → State → State → Bool → Type 0
Accepted g old new true = Took g old new
Accepted g old new false = (new ≡ old) × (is g (head_symbol old.words) ≡ false)

abbrev pub NotAccepted : Symbol → State → State → ParseFault → Type 0
NotAccepted g old new f = (is g (head_symbol old.words) ≡ true) × Over old new f

-- a name at a position was taken
pub record TookName (w : List ℕ) (p : Pos) (old new : State) : Type 0 where
  pub was : old.words ≡ name_at w p ∷ new.words
  pub goes : (s : List Part) → verdict (a_name ∷ s) old.counts old.words ≡ verdict s new.counts new.words
  pub shorter : length new.words + 1 ≡ length old.words
  pub rises : old.counts.depth ≤ new.counts.depth
  pub flag : new.counts.marks ≡ old.counts.marks
  pub fault : new.fault ≡ old.fault
  pub marks : new.marks ≡ old.marks

-- a number at a position was taken
pub record TookNumber (n : ℤ) (p : Pos) (old new : State) : Type 0 where
  pub was : old.words ≡ symbol_at (word (number n)) p ∷ new.words
  pub goes : (s : List Part) → verdict (a_number ∷ s) old.counts old.words ≡ verdict s new.counts new.words
  pub shorter : length new.words + 1 ≡ length old.words
  pub fault : new.fault ≡ old.fault
  pub marks : new.marks ≡ old.marks

-- a part was read: a tree is spelled up to what is left, and means what was made
pub record Read {T : Type 0} (part : Part) (front_of : T → List Told → List Told) (note_of : T → Option ParseFault → Option ParseFault) (next_of : T → ℕ → ℕ)
    (Means : T → Type 0) (old new : State) : Type 0 where
  pub tree : T
  pub spelled : old.words ≡ front_of tree new.words
  pub means : Means tree
  pub notes : new.fault ≡ note_of tree old.fault
  pub next : new.marks ≡ next_of tree old.marks
  pub goes : (s : List Part) → verdict (part ∷ s) old.counts old.words ≡ verdict s new.counts new.words
  pub shorter : length new.words ≤ length old.words
  pub rises : old.counts.depth ≤ new.counts.depth

-- no mitigate is in it
abbrev pub same_next : {T : Type 0} → T → ℕ → ℕ
same_next t k = k

-- a part was read: an expression where at least this rank is needed
abbrev pub IsExpression : ℕ → Part → Scope → State → State → Expression → Type 0
IsExpression n part sc old new e = Read {T = ExpressionTree n} part front_expression (note_expression sc) same_next (λ t. expression_value sc t ≡ e) old new

abbrev pub IsAtom : Scope → State → State → Expression → Type 0
IsAtom = IsExpression 4 an_atom

abbrev pub IsIndex : Scope → State → State → Expression → Type 0
IsIndex sc old new e = Read an_index front_index (note_index sc) same_next (λ t. index_value sc t ≡ Some e) old new

abbrev pub IsTerm : Scope → State → State → Expression → Type 0
IsTerm = IsExpression 3 a_term

abbrev pub IsSum : Scope → State → State → Expression → Type 0
IsSum = IsExpression 2 a_sum

abbrev pub IsWhole : Scope → State → State → Expression → Type 0
IsWhole = IsExpression 1 an_expr

-- an expression as far as it was read, after which operators of its rank may follow
pub record SoFar (n : ℕ) (part follows : Part) (sc : Scope) (old now : State) (left : Expression) : Type 0 where
  pub tree : ExpressionTree n
  pub spelled : old.words ≡ front_expression tree now.words
  pub means : expression_value sc tree ≡ left
  pub notes : now.fault ≡ note_expression sc tree old.fault
  pub next : now.marks ≡ old.marks
  pub goes : (s : List Part) → verdict (part ∷ s) old.counts old.words ≡ verdict (follows ∷ s) now.counts now.words
  pub shorter : length now.words ≤ length old.words
  pub rises : old.counts.depth ≤ now.counts.depth

abbrev pub TermSoFar : Scope → State → State → Expression → Type 0
TermSoFar = SoFar 3 a_term factors

abbrev pub SumSoFar : Scope → State → State → Expression → Type 0
SumSoFar = SoFar 2 a_sum addends

abbrev pub IsSecond : List (List ℕ) → State → State → Option Label → Type 0
IsSecond labels old new x = Read second front_and_name (note_and_name labels) same_next (λ t. and_name_value labels t ≡ x) old new
    × (new.counts.marks ≡ old.counts.marks)

abbrev pub IsMarks : List (List ℕ) → State → State → Option (Label × Label) → Type 0
IsMarks labels old new x = Read marks front_marks (note_marks labels) same_next (λ t. marks_value labels t ≡ x) old new

abbrev pub IsCommand : Scope → State → State → (Plan → Plan) → Type 0
IsCommand sc old new f = Read a_command front_command (note_command sc) next_command (λ t. (rest : Plan) → f rest ≡ plan_command sc old.marks t rest) old new

abbrev pub IsBlock : Scope → State → State → Plan → Type 0
IsBlock sc old new l = Read a_block front_block (note_block sc) next_block (λ t. l ≡ plan_block sc old.marks t) old new

abbrev pub IsElse : Scope → Pos → State → State → Plan → Type 0
IsElse sc p old new l = Read otherwise front_else (note_else sc) next_else (λ t. l ≡ plan_else sc p old.marks t) old new

abbrev pub IsCommands : Scope → State → State → Plan → Type 0
IsCommands sc old new l = Read commands front_commands (note_commands sc) next_commands (λ t. l ≡ plan_commands sc old.marks t) old new

-- commands as far as they were read: whatever follows completes them
pub record CommandsSoFar (sc : Scope) (old now : State) (list : List Command) : Type 0 where
  pub builds : (m : More) (j : List Told) → now.words ≡ front_more m j
      → (t : Commands) × (old.words ≡ front_commands t j)
      × ((xs : List Command) → list_plan xs ≡ plan_more sc now.marks m → list_plan (list ++ xs) ≡ plan_commands sc old.marks t)
      × (note_more sc m now.fault ≡ note_commands sc t old.fault)
      × (next_more m now.marks ≡ next_commands t old.marks)
  pub goes : (s : List Part) → verdict (commands ∷ s) old.counts old.words ≡ verdict (more ∷ s) now.counts now.words
  pub shorter : length now.words ≤ length old.words
  pub rises : old.counts.depth ≤ now.counts.depth
