-- The canonical text of a program. Each part of it is the function that puts the part's chunks before those
-- that follow it.
use Rattle.std.specs.Prelude.{◌≡◌, ℕ, pos, ◌+◌, ltb, Bool, true, false, List, [], ◌∷◌, ◌++◌, Option, Some, None}
use Rattle.std.proofs.Common.{zero, suc}
use Rattle.label_lattice.specs.declared.label.Label.{Label}
use Rattle.label_lattice.specs.Order.{Order, name_of}
use Rattle.mit_syntax.specs.declared.token.Keyword.{Keyword}
use Rattle.mit_syntax.specs.declared.token.Keyword.TheVariants.{Labels, Order as OrderKey, Var, Skip as SkipKey, If as IfKey, Then, Else, While as WhileKey}
use Rattle.mit_syntax.specs.declared.token.Keyword.TheVariants.{Do, Mitigate as MitigateKey, Sleep as SleepKey}
use Rattle.mit_syntax.specs.declared.token.Sign.{Sign}
use Rattle.mit_syntax.specs.declared.token.Sign.TheVariants.{Assign as AssignSign, Colon, Semicolon, Comma, LeftRound, RightRound, LeftBrace, RightBrace}
use Rattle.mit_syntax.specs.declared.token.Sign.TheVariants.{LeftSquare, RightSquare, At, Less}
use Rattle.mit_syntax.specs.Chunks.{Word, Chunk, space, line, word, key, sign, number, name, text}
use Rattle.mit_syntax.specs.Expression.{Expression, Number, Variable, Binary, Element}
use Rattle.mit_syntax.specs.Operators.{op_sign, rank, left_need, right_need}
use Rattle.mit_syntax.specs.Todo.{Done, Skip, Assign, Put, Sleep, If, While, Mitigate}
use Rattle.mit_syntax.specs.Plan.{Plan}
use Rattle.mit_syntax.specs.Declarations.{Declaration, cell_at}
use Rattle.mit_syntax.specs.Program.{Syntax, plan_of}

abbrev pub Part : Type 0
Part = List Chunk → List Chunk

-- the bytes b are the bytes a and this part
pub record Puts (a b : List ℕ) (f : Part) : Type 0 where
  pub is : (q : List Chunk) → b ++ text q ≡ a ++ text (f q)

abbrev pub a_key : Keyword → Part
a_key k q = word (key k) ∷ q

abbrev pub a_sign : Sign → Part
a_sign s q = word (sign s) ∷ q

abbrev pub a_number : ℕ → Part
a_number n q = word (number (pos n)) ∷ q

abbrev pub a_name : List ℕ → Part
a_name w q = word (name w) ∷ q

abbrev pub a_space : Part
a_space q = space ∷ q

abbrev pub a_line : Part
a_line q = line ∷ q

abbrev pub a_word : Word → Part
a_word w q = word w ∷ q

-- a sign between two spaces, and a keyword
abbrev pub spaced : Sign → Part
spaced s q = space ∷ a_sign s (space ∷ q)

abbrev pub spaced_key : Keyword → Part
spaced_key k q = space ∷ a_key k (space ∷ q)

abbrev pub a_comma : Part
a_comma q = a_sign Comma (space ∷ q)

abbrev pub in_round : Bool → Part → Part
in_round true f q = a_sign LeftRound (f (a_sign RightRound q))
in_round false f q = f q

abbrev pub in_square : Part → Part
in_square f q = a_sign LeftSquare (f (a_sign RightSquare q))

-- an expression where at least this rank is needed: in parentheses exactly where its own is less
abbrev pub expression_part : List Declaration → ℕ → Expression → Part
expression_part ds need (Number n) q = word (number n) ∷ q
expression_part ds need (Variable x) q = a_name (cell_at ds x).name q
expression_part ds need (Binary o l r) q =
    in_round (ltb (rank o) need) (λ p. expression_part ds (left_need o) l (spaced (op_sign o) (expression_part ds (right_need o) r p))) q
expression_part ds need (Element f n i) q = a_name (cell_at ds f).name (in_square (expression_part ds 1 i) q)

abbrev pub marks_part : Order → Option (Label × Label) → Part
marks_part o None q = q
marks_part o (Some m) q = space ∷ a_sign At (in_square (λ p. a_name (name_of o m.0.number) (a_comma (a_name (name_of o m.1.number) p))) q)

abbrev pub level_part : Order → Option Label → Part
level_part o None q = q
level_part o (Some l) q = a_comma (a_name (name_of o l.number) q)

-- two spaces for each open brace
abbrev pub indent : ℕ → Part
indent zero q = q
indent (suc d) q = space ∷ space ∷ indent d q

abbrev pub new_line : ℕ → Part
new_line d q = line ∷ indent d q

-- commands in braces, where d braces are open around them
abbrev pub in_braces : ℕ → Part → Part
in_braces d f q = a_sign LeftBrace (new_line (d + 1) (f (new_line d (a_sign RightBrace q))))

-- the commands that follow another one, if there are any
abbrev pub after : ℕ → Plan → Part → Part
after d Done f q = q
after d p f q = a_sign Semicolon (new_line d (f q))

-- commands where d braces are open, from the first one's first byte on
abbrev pub commands_part : Order → List Declaration → ℕ → Plan → Part
commands_part o ds d Done q = q
commands_part o ds d (Skip m r) q = a_key SkipKey (marks_part o m.labels (after d r (commands_part o ds d r) q))
commands_part o ds d (Assign m x e r) q =
    a_name (cell_at ds x).name (spaced AssignSign (expression_part ds 1 e (marks_part o m.labels (after d r (commands_part o ds d r) q))))
commands_part o ds d (Put m f n i e r) q =
    a_name (cell_at ds f).name (in_square (expression_part ds 1 i)
    (spaced AssignSign (expression_part ds 1 e (marks_part o m.labels (after d r (commands_part o ds d r) q)))))
commands_part o ds d (Sleep m e r) q = a_key SleepKey (space ∷ expression_part ds 1 e (marks_part o m.labels (after d r (commands_part o ds d r) q)))
commands_part o ds d (If m e a b r) q =
    a_key IfKey (space ∷ expression_part ds 1 e (marks_part o m.labels
    (spaced_key Then (in_braces d (commands_part o ds (d + 1) a) (spaced_key Else (in_braces d (commands_part o ds (d + 1) b)
    (after d r (commands_part o ds d r) q)))))))
commands_part o ds d (While m e c r) q =
    a_key WhileKey (space ∷ expression_part ds 1 e (marks_part o m.labels
    (spaced_key Do (in_braces d (commands_part o ds (d + 1) c) (after d r (commands_part o ds d r) q)))))
commands_part o ds d (Mitigate m k l e c r) q =
    a_key MitigateKey (space ∷ a_sign LeftRound (expression_part ds 1 e
    (level_part o l (a_sign RightRound (marks_part o m.labels (space ∷ in_braces d (commands_part o ds (d + 1) c)
    (after d r (commands_part o ds d r) q)))))))

-- the end of a line of the header or of a declaration
abbrev pub end_line : Part
end_line q = a_sign Semicolon (line ∷ q)

-- parts with commas between them
abbrev mutual
  pub listed : {X : Type 0} → (X → Part) → List X → Part
  listed part [] q = q
  listed part (x ∷ xs) q = part x (more_listed part xs q)

  pub more_listed : {X : Type 0} → (X → Part) → List X → Part
  more_listed part [] q = q
  more_listed part (x ∷ xs) q = a_comma (part x (more_listed part xs q))

-- what stands before the part after i others
abbrev pub comma_before : ℕ → Part
comma_before zero q = q
comma_before (suc i) q = a_comma q

abbrev pub pair_part : Order → Label × Label → Part
pair_part o p q = a_name (name_of o p.0.number) (spaced Less (a_name (name_of o p.1.number) q))

abbrev pub labels_part : Order → Part
labels_part o q = a_key Labels (space ∷ listed a_name o.names (end_line q))

-- the line of pairs, if there are any
abbrev pub order_part : Order → List (Label × Label) → Part
order_part o [] q = q
order_part o (p ∷ ps) q = a_key OrderKey (space ∷ listed (pair_part o) (p ∷ ps) (end_line q))

abbrev pub length_part : Option ℕ → Part
length_part None q = q
length_part (Some n) q = in_square (a_number n) q

abbrev pub label_part : Order → Option Label → Part
label_part o None q = q
label_part o (Some l) q = spaced Colon (a_name (name_of o l.number) q)

abbrev pub declaration_part : Order → Declaration → Part
declaration_part o d q = a_key Var (space ∷ a_name d.0 (length_part d.1.length (label_part o d.1.label (end_line q))))

abbrev pub declarations_part : Order → List Declaration → Part
declarations_part o [] q = q
declarations_part o (d ∷ ds) q = declaration_part o d (declarations_part o ds q)

-- what stands before the command after i others
abbrev pub separator : ℕ → ℕ → Part
separator d zero q = q
separator d (suc i) q = a_sign Semicolon (new_line d q)

-- all chunks of a program, from its parts
abbrev pub chunks_of : Order → List (Label × Label) → List Declaration → Plan → List Chunk
chunks_of o ps ds p = labels_part o (order_part o ps (declarations_part o ds (commands_part o ds 0 p (line ∷ []))))

abbrev pub program_chunks : Syntax → List Chunk
program_chunks s = chunks_of s.order s.pairs s.declarations (plan_of s)

-- the canonical text
abbrev pub canonical : Syntax → List ℕ
canonical s = text (program_chunks s)
