-- The grammar: which program words spell. Positions are left out, and so are trees. Each relation takes the words from a place
-- on, and those that stand behind the part that it is about.
use Rattle.std.specs.Prelude.{◌≡◌, ℕ, ℤ, pos, ◌+◌, ◌<◌, ◌≤◌, List, [], ◌∷◌, map, Option, None, Some}
use Rattle.label_lattice.specs.declared.label.Label.{Label}
use Rattle.label_lattice.specs.Order.{AllDiffer}
use Rattle.label_lattice.specs.Chains.{IsBuilt}
use Rattle.mit_syntax.specs.declared.token.Keyword.{Keyword}
use Rattle.mit_syntax.specs.declared.token.Keyword.TheVariants as key
use Rattle.mit_syntax.specs.declared.token.Sign.{Sign}
use Rattle.mit_syntax.specs.declared.token.Sign.TheVariants as sign
use Rattle.mit_syntax.specs.declared.ast.Op.{Op}
use Rattle.mit_syntax.specs.Operators.{op_sign, rank, left_need, right_need}
use Rattle.mit_syntax.specs.Chunks as chunk
use Rattle.mit_syntax.specs.Expression.{Expression, Number, Variable, Binary, Element}
use Rattle.mit_syntax.specs.Todo.{Todo, Done, Skip, Assign, Put, Sleep, If, While, Mitigate}
use Rattle.mit_syntax.specs.Declarations.{Declaration, find_scalar, find_array, AreFew}
use Rattle.mit_syntax.specs.Program.{Syntax, plan_of}
use Rattle.mit_parser.specs.Words.{Symbol, word, the_end, Told}
use Rattle.mit_parser.specs.Scope.{Scope, scope, as_label, find_label}
use Rattle.parse_laws.specs.ReadBack.{unplaced}

-- words without their positions
abbrev pub symbols : List Told → List Symbol
symbols words = map (λ b. b.symbol) words

abbrev pub the_key : Keyword → Symbol
the_key k = word (chunk.key k)

abbrev pub the_sign : Sign → Symbol
the_sign s = word (chunk.sign s)

abbrev pub the_name : List ℕ → Symbol
the_name w = word (chunk.name w)

abbrev pub the_number : ℤ → Symbol
the_number n = word (chunk.number n)

-- An expression with so many operators, in which each operator outside brackets has at least a rank. There is room for so many
-- brackets that are open at once.
pub data IsExpression (ds : List Declaration) : ℕ → ℕ → List Symbol → List Symbol → Expression → ℕ → Type 0 where
  a_number : {room least : ℕ} {rest : List Symbol} {n : ℤ} → IsExpression ds room least (the_number n ∷ rest) rest (Number n) 0
  a_scalar : {room least x : ℕ} {w : List ℕ} {rest : List Symbol} → find_scalar ds w ≡ Some x
      → IsExpression ds room least (the_name w ∷ rest) rest (Variable x) 0
  an_element : {room inner least size : ℕ} {w : List ℕ} {a : ℕ × ℕ} {ws rest : List Symbol} {i : Expression} → find_array ds w ≡ Some a
      → inner < room → IsExpression ds inner 1 ws (the_sign sign.RightSquare ∷ rest) i size
      → IsExpression ds room least (the_name w ∷ the_sign sign.LeftSquare ∷ ws) rest (Element a.0 a.1 i) size
  in_brackets : {room inner least size : ℕ} {ws rest : List Symbol} {e : Expression}
      → inner < room → IsExpression ds inner 1 ws (the_sign sign.RightRound ∷ rest) e size
      → IsExpression ds room least (the_sign sign.LeftRound ∷ ws) rest e size
  an_operation : {room least m n : ℕ} {ws vs rest : List Symbol} {e f : Expression} {o : Op} → least ≤ rank o
      → IsExpression ds room (left_need o) ws (the_sign (op_sign o) ∷ vs) e m → IsExpression ds room (right_need o) vs rest f n
      → IsExpression ds room least ws rest (Binary o e f) (m + 1 + n)

-- a whole expression: it has at most 256 operators
pub record IsWhole (ds : List Declaration) (room : ℕ) (words rest : List Symbol) (e : Expression) : Type 0 where
  pub operators : ℕ
  pub expression : IsExpression ds room 1 words rest e operators
  pub few : operators ≤ 256

-- [ "," label ]
pub data IsSecond (labels : List (List ℕ)) : List Symbol → List Symbol → Option Label → Type 0 where
  no_second : {rest : List Symbol} → IsSecond labels rest rest None
  a_second : {w : List ℕ} {x : ℕ} {rest : List Symbol} → find_label labels w ≡ Some x
      → IsSecond labels (the_sign sign.Comma ∷ the_name w ∷ rest) rest (Some (as_label x))

-- [ "@" "[" label [ "," label ] "]" ]: one label is read label and write label
pub data AreMarks (labels : List (List ℕ)) : List Symbol → List Symbol → Option (Label × Label) → Type 0 where
  no_marks : {rest : List Symbol} → AreMarks labels rest rest None
  one_mark : {w : List ℕ} {x : ℕ} {rest : List Symbol} → find_label labels w ≡ Some x
      → AreMarks labels (the_sign sign.At ∷ the_sign sign.LeftSquare ∷ the_name w ∷ the_sign sign.RightSquare ∷ rest) rest
      (Some (as_label x, as_label x))
  two_marks : {w v : List ℕ} {x y : ℕ} {rest : List Symbol} → find_label labels w ≡ Some x → find_label labels v ≡ Some y
      → AreMarks labels
      (the_sign sign.At ∷ the_sign sign.LeftSquare ∷ the_name w ∷ the_sign sign.Comma ∷ the_name v ∷ the_sign sign.RightSquare ∷ rest) rest
      (Some (as_label x, as_label y))

-- commands with the labels that they write, or none
abbrev pub Unplaced : Type 0
Unplaced = Todo (Option (Label × Label)) (Option Label)

mutual
  -- A command, and with those that follow it the list. The first mitigate in it has this number, and the next one behind it that.
  pub data IsCommand (sc : Scope) : ℕ → List Symbol → List Symbol → ℕ → ℕ → Unplaced → Unplaced → Type 0 where
    a_skip : {room k : ℕ} {ws rest : List Symbol} {m : Option (Label × Label)} {q : Unplaced}
        → AreMarks sc.labels ws rest m → IsCommand sc room (the_key key.Skip ∷ ws) rest k k q (Skip m q)
    an_assignment : {room k x : ℕ} {w : List ℕ} {ws vs rest : List Symbol} {e : Expression} {m : Option (Label × Label)} {q : Unplaced}
        → find_scalar sc.declarations w ≡ Some x → IsWhole sc.declarations room ws vs e → AreMarks sc.labels vs rest m
        → IsCommand sc room (the_name w ∷ the_sign sign.Assign ∷ ws) rest k k q (Assign m x e q)
    to_an_element : {room inner k : ℕ} {a : ℕ × ℕ} {w : List ℕ} {ws vs us rest : List Symbol} {i e : Expression} {m : Option (Label × Label)}
        {q : Unplaced} → find_array sc.declarations w ≡ Some a → inner < room
        → IsWhole sc.declarations inner ws (the_sign sign.RightSquare ∷ the_sign sign.Assign ∷ vs) i
        → IsWhole sc.declarations room vs us e → AreMarks sc.labels us rest m
        → IsCommand sc room (the_name w ∷ the_sign sign.LeftSquare ∷ ws) rest k k q (Put m a.0 a.1 i e q)
    a_sleep : {room k : ℕ} {ws vs rest : List Symbol} {e : Expression} {m : Option (Label × Label)} {q : Unplaced}
        → IsWhole sc.declarations room ws vs e → AreMarks sc.labels vs rest m
        → IsCommand sc room (the_key key.Sleep ∷ ws) rest k k q (Sleep m e q)
    a_branch : {room k j n : ℕ} {ws vs us ts rest : List Symbol} {e : Expression} {m : Option (Label × Label)} {a b q : Unplaced}
        → IsWhole sc.declarations room ws vs e → AreMarks sc.labels vs (the_key key.Then ∷ us) m
        → IsBlock sc room us ts k j a → IsElse sc room ts rest j n b
        → IsCommand sc room (the_key key.If ∷ ws) rest k n q (If m e a b q)
    a_loop : {room k n : ℕ} {ws vs us rest : List Symbol} {e : Expression} {m : Option (Label × Label)} {c q : Unplaced}
        → IsWhole sc.declarations room ws vs e → AreMarks sc.labels vs (the_key key.Do ∷ us) m → IsBlock sc room us rest k n c
        → IsCommand sc room (the_key key.While ∷ ws) rest k n q (While m e c q)
    a_mitigate : {room inner k n : ℕ} {ws vs us ts rest : List Symbol} {e : Expression} {l : Option Label} {m : Option (Label × Label)}
        {c q : Unplaced} → inner < room → IsWhole sc.declarations inner ws vs e → IsSecond sc.labels vs (the_sign sign.RightRound ∷ us) l
        → AreMarks sc.labels us ts m → IsBlock sc room ts rest (k + 1) n c
        → IsCommand sc room (the_key key.Mitigate ∷ the_sign sign.LeftRound ∷ ws) rest k n q (Mitigate m k l e c q)

  pub data IsBlock (sc : Scope) : ℕ → List Symbol → List Symbol → ℕ → ℕ → Unplaced → Type 0 where
    a_block : {room inner k n : ℕ} {ws rest : List Symbol} {c : Unplaced} → inner < room
        → AreCommands sc inner ws (the_sign sign.RightBrace ∷ rest) k n c → IsBlock sc room (the_sign sign.LeftBrace ∷ ws) rest k n c

  -- an else-part that is not written is a `skip`
  pub data IsElse (sc : Scope) : ℕ → List Symbol → List Symbol → ℕ → ℕ → Unplaced → Type 0 where
    no_else : {room k : ℕ} {rest : List Symbol} → IsElse sc room rest rest k k (Skip None Done)
    an_else : {room k n : ℕ} {ws rest : List Symbol} {c : Unplaced} → IsBlock sc room ws rest k n c
        → IsElse sc room (the_key key.Else ∷ ws) rest k n c

  pub data AreCommands (sc : Scope) : ℕ → List Symbol → List Symbol → ℕ → ℕ → Unplaced → Type 0 where
    last_command : {room k n : ℕ} {ws rest : List Symbol} {p : Unplaced} → IsCommand sc room ws rest k n Done p
        → AreCommands sc room ws rest k n p
    more_commands : {room k j n : ℕ} {ws vs rest : List Symbol} {p q : Unplaced}
        → IsCommand sc room ws (the_sign sign.Semicolon ∷ vs) k j q p → AreCommands sc room vs rest j n q → AreCommands sc room ws rest k n p

-- "var" name [ ":" label ] ";" or "var" name "[" number "]" ":" label ";"
pub data IsDeclaration (labels : List (List ℕ)) : List Symbol → List Symbol → Declaration → Type 0 where
  a_bare_scalar : {w : List ℕ} {rest : List Symbol}
      → IsDeclaration labels (the_key key.Var ∷ the_name w ∷ the_sign sign.Semicolon ∷ rest) rest (w, record { label = None; length = None })
  a_labelled_scalar : {w v : List ℕ} {x : ℕ} {rest : List Symbol} → find_label labels v ≡ Some x
      → IsDeclaration labels (the_key key.Var ∷ the_name w ∷ the_sign sign.Colon ∷ the_name v ∷ the_sign sign.Semicolon ∷ rest) rest
      (w, record { label = Some (as_label x); length = None })
  an_array : {w v : List ℕ} {n x : ℕ} {rest : List Symbol} → 0 < n → find_label labels v ≡ Some x
      → IsDeclaration labels
      (the_key key.Var ∷ the_name w ∷ the_sign sign.LeftSquare ∷ the_number (pos n) ∷ the_sign sign.RightSquare ∷ the_sign sign.Colon
      ∷ the_name v ∷ the_sign sign.Semicolon ∷ rest) rest (w, record { label = Some (as_label x); length = Some n })

pub data AreDeclarations (labels : List (List ℕ)) : List Symbol → List Symbol → List Declaration → Type 0 where
  no_more : {rest : List Symbol} → AreDeclarations labels rest rest []
  one_more : {ws vs rest : List Symbol} {d : Declaration} {ds : List Declaration}
      → IsDeclaration labels ws vs d → AreDeclarations labels vs rest ds → AreDeclarations labels ws rest (d ∷ ds)

-- names, with a comma between two
pub data AreNames : List Symbol → List Symbol → List (List ℕ) → Type 0 where
  last_name : {w : List ℕ} {rest : List Symbol} → AreNames (the_name w ∷ rest) rest (w ∷ [])
  more_names : {w : List ℕ} {ws rest : List Symbol} {names : List (List ℕ)}
      → AreNames ws rest names → AreNames (the_name w ∷ the_sign sign.Comma ∷ ws) rest (w ∷ names)

-- pairs of labels, `a < b`, with a comma between two
pub data ArePairs (labels : List (List ℕ)) : List Symbol → List Symbol → List (Label × Label) → Type 0 where
  last_pair : {a b : List ℕ} {x y : ℕ} {rest : List Symbol} → find_label labels a ≡ Some x → find_label labels b ≡ Some y
      → ArePairs labels (the_name a ∷ the_sign sign.Less ∷ the_name b ∷ rest) rest ((as_label x, as_label y) ∷ [])
  more_pairs : {a b : List ℕ} {x y : ℕ} {ws rest : List Symbol} {ps : List (Label × Label)}
      → find_label labels a ≡ Some x → find_label labels b ≡ Some y → ArePairs labels ws rest ps
      → ArePairs labels (the_name a ∷ the_sign sign.Less ∷ the_name b ∷ the_sign sign.Comma ∷ ws) rest ((as_label x, as_label y) ∷ ps)

-- [ "order" pairs ";" ]
pub data IsOrdering (labels : List (List ℕ)) : List Symbol → List Symbol → List (Label × Label) → Type 0 where
  no_order : {rest : List Symbol} → IsOrdering labels rest rest []
  an_order : {ws rest : List Symbol} {ps : List (Label × Label)}
      → ArePairs labels ws (the_sign sign.Semicolon ∷ rest) ps → IsOrdering labels (the_key key.Order ∷ ws) rest ps

-- [ "labels" names ";" [ "order" pairs ";" ] ], which gives the names of the labels and the pairs; without it they are L and H, with L < H
pub data IsHeader : List Symbol → List Symbol → List (List ℕ) → List (Label × Label) → Type 0 where
  no_header : {rest : List Symbol} → IsHeader rest rest ((76 ∷ []) ∷ (72 ∷ []) ∷ []) ((as_label 0, as_label 1) ∷ [])
  a_header : {ws vs rest : List Symbol} {names : List (List ℕ)} {ps : List (Label × Label)}
      → AreNames ws (the_sign sign.Semicolon ∷ vs) names → IsOrdering names vs rest ps → IsHeader (the_key key.Labels ∷ ws) rest names ps

-- The words are a header, declarations and commands, and then the end: at most 100 brackets are open at once. No name is
-- given twice, and the pairs make a lattice.
pub record IsSpelt (words : List Symbol) (p : Syntax) : Type 0 where
  pub labels : List (List ℕ)
  pub declared : List Symbol
  pub doing : List Symbol
  pub mitigates : ℕ
  pub header : IsHeader words declared labels p.pairs
  pub declarations : AreDeclarations labels declared doing p.declarations
  pub commands : AreCommands (scope labels p.declarations) 100 doing (the_end ∷ []) 0 mitigates (unplaced (plan_of p))
  pub differ : AllDiffer labels
  pub once : AllDiffer (map (λ d. d.0) p.declarations)
  pub few : AreFew p.declarations
  pub order : IsBuilt labels p.pairs p.order
