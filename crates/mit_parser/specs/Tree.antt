-- Whole trees, with each written pair of parentheses and the position of each word, and the words that they spell.
use Rattle.std.specs.Prelude.{ℕ, ℤ, ◌≤◌, List, ◌∷◌}
use Rattle.text_base.specs.declared.pos.Pos.{Pos}
use Rattle.mit_syntax.specs.declared.token.Keyword.TheVariants.{Labels, Order, Var, Skip, If, Then, Else, While, Do, Mitigate, Sleep}
use Rattle.mit_syntax.specs.declared.token.Sign.TheVariants.{Assign, Colon, Semicolon, Comma, LeftRound, RightRound, LeftBrace, RightBrace, LeftSquare}
use Rattle.mit_syntax.specs.declared.token.Sign.TheVariants.{RightSquare, At, Less}
use Rattle.mit_syntax.specs.declared.ast.Op.{Op}
use Rattle.mit_syntax.specs.Operators.{op_sign, rank, left_need, right_need}
use Rattle.mit_syntax.specs.Chunks.{number}
use Rattle.mit_parser.specs.Words.{Told, word, sign_at, key_at, name_at}

mutual
  -- number | name [ "[" expr "]" ] | "(" expr ")" | expr operator expr, where at least this rank is needed. An operator has
  -- at least that rank, and its parts have the ranks that it needs.
  pub data ExpressionTree : ℕ → Type 0 where
    number_of : {n : ℕ} → ℤ → Pos → ExpressionTree n
    name_of : {n : ℕ} → List ℕ → Pos → Index → ExpressionTree n
    parens_of : {n : ℕ} → Pos → ExpressionTree 1 → Pos → ExpressionTree n
    binary_of : {n : ℕ} (o : Op) → n ≤ rank o → ExpressionTree (left_need o) → Pos → ExpressionTree (right_need o) → ExpressionTree n

  pub data Index : Type 0 where
    no_index : Index
    index_of : Pos → ExpressionTree 1 → Pos → Index

-- the words of a tree, before those that follow it
abbrev mutual
  pub front_expression : {n : ℕ} → ExpressionTree n → List Told → List Told
  front_expression (number_of k p) r = record { symbol = word (number k); pos = p } ∷ r
  front_expression (name_of w p i) r = name_at w p ∷ front_index i r
  front_expression (parens_of p e q) r = sign_at LeftRound p ∷ front_expression e (sign_at RightRound q ∷ r)
  front_expression (binary_of o h l p t) r = front_expression l (sign_at (op_sign o) p ∷ front_expression t r)

  pub front_index : Index → List Told → List Told
  front_index no_index r = r
  front_index (index_of p e q) r = sign_at LeftSquare p ∷ front_expression e (sign_at RightSquare q ∷ r)

-- [ "," name ]
pub data AndName : Type 0 where
  no_name : AndName
  and_name : Pos → List ℕ → Pos → AndName

-- [ "@" "[" name [ "," name ] "]" ]
pub data Marks : Type 0 where
  no_marks : Marks
  marks_of : Pos → Pos → List ℕ → Pos → AndName → Pos → Marks

mutual
  pub data CommandTree : Type 0 where
    skip_of : Pos → Marks → CommandTree
    assign_of : List ℕ → Pos → Index → Pos → ExpressionTree 1 → Marks → CommandTree
    sleep_of : Pos → ExpressionTree 1 → Marks → CommandTree
    if_of : Pos → ExpressionTree 1 → Marks → Pos → Block → ElsePart → CommandTree
    while_of : Pos → ExpressionTree 1 → Marks → Pos → Block → CommandTree
    mitigate_of : Pos → Pos → ExpressionTree 1 → AndName → Pos → Marks → Block → CommandTree

  pub data Block : Type 0 where
    block_of : Pos → Commands → Pos → Block

  pub data ElsePart : Type 0 where
    no_else : ElsePart
    else_of : Pos → Block → ElsePart

  pub data Commands : Type 0 where
    commands_of : CommandTree → More → Commands

  pub data More : Type 0 where
    no_more : More
    and_more : Pos → CommandTree → More → More

abbrev pub front_and_name : AndName → List Told → List Told
front_and_name no_name r = r
front_and_name (and_name p w q) r = sign_at Comma p ∷ name_at w q ∷ r

abbrev pub front_marks : Marks → List Told → List Told
front_marks no_marks r = r
front_marks (marks_of p q w u s v) r = sign_at At p ∷ sign_at LeftSquare q ∷ name_at w u ∷ front_and_name s (sign_at RightSquare v ∷ r)

abbrev mutual
  pub front_command : CommandTree → List Told → List Told
  front_command (skip_of p m) r = key_at Skip p ∷ front_marks m r
  front_command (assign_of w p i q e m) r = name_at w p ∷ front_index i (sign_at Assign q ∷ front_expression e (front_marks m r))
  front_command (sleep_of p e m) r = key_at Sleep p ∷ front_expression e (front_marks m r)
  front_command (if_of p e m q b o) r = key_at If p ∷ front_expression e (front_marks m (key_at Then q ∷ front_block b (front_else o r)))
  front_command (while_of p e m q b) r = key_at While p ∷ front_expression e (front_marks m (key_at Do q ∷ front_block b r))
  front_command (mitigate_of p q e l u m b) r =
      key_at Mitigate p ∷ sign_at LeftRound q ∷ front_expression e (front_and_name l (sign_at RightRound u ∷ front_marks m (front_block b r)))

  pub front_block : Block → List Told → List Told
  front_block (block_of p c q) r = sign_at LeftBrace p ∷ front_commands c (sign_at RightBrace q ∷ r)

  pub front_else : ElsePart → List Told → List Told
  front_else no_else r = r
  front_else (else_of p b) r = key_at Else p ∷ front_block b r

  pub front_commands : Commands → List Told → List Told
  front_commands (commands_of c m) r = front_command c (front_more m r)

  pub front_more : More → List Told → List Told
  front_more no_more r = r
  front_more (and_more p c m) r = sign_at Semicolon p ∷ front_command c (front_more m r)

-- { "," name }
pub data MoreNames : Type 0 where
  no_more_names : MoreNames
  and_more_names : Pos → List ℕ → Pos → MoreNames → MoreNames

-- name "<" name
pub data PairTree : Type 0 where
  pair_of : List ℕ → Pos → Pos → List ℕ → Pos → PairTree

pub data MorePairs : Type 0 where
  no_more_pairs : MorePairs
  and_pair : Pos → PairTree → MorePairs → MorePairs

-- [ "order" pair { "," pair } ";" ]
pub data Ordering : Type 0 where
  no_ordering : Ordering
  ordering_of : Pos → PairTree → MorePairs → Pos → Ordering

-- [ "labels" name { "," name } ";" .. ]
pub data Header : Type 0 where
  no_header : Header
  header_of : Pos → List ℕ → Pos → MoreNames → Pos → Ordering → Header

-- [ ":" name ]
pub data LabelTree : Type 0 where
  no_label : LabelTree
  label_of : Pos → List ℕ → Pos → LabelTree

-- [ ":" name ] | "[" number "]" ":" name
pub data Shape : Type 0 where
  scalar_of : LabelTree → Shape
  array_of : Pos → ℤ → Pos → Pos → Pos → List ℕ → Pos → Shape

-- "var" name .. ";"
pub data DeclarationTree : Type 0 where
  declaration_of : Pos → List ℕ → Pos → Shape → Pos → DeclarationTree

pub data Declarations : Type 0 where
  no_declarations : Declarations
  and_declaration : DeclarationTree → Declarations → Declarations

pub record ProgramTree : Type 0 where
  pub header : Header
  pub declarations : Declarations
  pub commands : Commands

abbrev pub front_more_names : MoreNames → List Told → List Told
front_more_names no_more_names r = r
front_more_names (and_more_names p w q m) r = sign_at Comma p ∷ name_at w q ∷ front_more_names m r

-- name { "," name }
abbrev pub front_names : (List ℕ × Pos) × MoreNames → List Told → List Told
front_names t r = name_at t.0.0 t.0.1 ∷ front_more_names t.1 r

abbrev pub front_pair : PairTree → List Told → List Told
front_pair (pair_of a p q b u) r = name_at a p ∷ sign_at Less q ∷ name_at b u ∷ r

abbrev pub front_more_pairs : MorePairs → List Told → List Told
front_more_pairs no_more_pairs r = r
front_more_pairs (and_pair p x m) r = sign_at Comma p ∷ front_pair x (front_more_pairs m r)

-- pair { "," pair }
abbrev pub front_pairs : PairTree × MorePairs → List Told → List Told
front_pairs t r = front_pair t.0 (front_more_pairs t.1 r)

abbrev pub front_ordering : Ordering → List Told → List Told
front_ordering no_ordering r = r
front_ordering (ordering_of p x m q) r = key_at Order p ∷ front_pair x (front_more_pairs m (sign_at Semicolon q ∷ r))

abbrev pub front_header : Header → List Told → List Told
front_header no_header r = r
front_header (header_of p w q m u o) r = key_at Labels p ∷ name_at w q ∷ front_more_names m (sign_at Semicolon u ∷ front_ordering o r)

abbrev pub front_label : LabelTree → List Told → List Told
front_label no_label r = r
front_label (label_of p w q) r = sign_at Colon p ∷ name_at w q ∷ r

abbrev pub front_shape : Shape → List Told → List Told
front_shape (scalar_of l) r = front_label l r
front_shape (array_of p n q u v w x) r =
    sign_at LeftSquare p ∷ record { symbol = word (number n); pos = q } ∷ sign_at RightSquare u ∷ sign_at Colon v ∷ name_at w x ∷ r

abbrev pub front_declaration : DeclarationTree → List Told → List Told
front_declaration (declaration_of p w q s u) r = key_at Var p ∷ name_at w q ∷ front_shape s (sign_at Semicolon u ∷ r)

abbrev pub front_declarations : Declarations → List Told → List Told
front_declarations no_declarations r = r
front_declarations (and_declaration d m) r = front_declaration d (front_declarations m r)

abbrev pub front_program : ProgramTree → List Told → List Told
front_program t r = front_header t.header (front_declarations t.declarations (front_commands t.commands r))
