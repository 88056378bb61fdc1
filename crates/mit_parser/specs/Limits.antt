-- The limits, counted on a tree with all its written parentheses.
use Rattle.std.specs.Prelude.{ℕ, ◌+◌, ◌≤◌, max}
use Rattle.mit_parser.specs.Tree.{ExpressionTree, number_of, name_of, parens_of, binary_of, Index, no_index, index_of, CommandTree, skip_of, assign_of}
use Rattle.mit_parser.specs.Tree.{sleep_of, if_of, while_of}
use Rattle.mit_parser.specs.Tree.{mitigate_of, Block, block_of, ElsePart, no_else, else_of, Commands, commands_of, More, no_more, and_more}

-- brackets that are open at once
abbrev mutual
  pub expression_depth : {n : ℕ} → ExpressionTree n → ℕ
  expression_depth (number_of k p) = 0
  expression_depth (name_of w p i) = index_depth i
  expression_depth (parens_of p e q) = 1 + expression_depth e
  expression_depth (binary_of o h l p t) = max (expression_depth l) (expression_depth t)

  pub index_depth : Index → ℕ
  index_depth no_index = 0
  index_depth (index_of p e q) = 1 + expression_depth e

-- operators
abbrev mutual
  pub expression_size : {n : ℕ} → ExpressionTree n → ℕ
  expression_size (number_of k p) = 0
  expression_size (name_of w p i) = index_size i
  expression_size (parens_of p e q) = expression_size e
  expression_size (binary_of o h l p t) = expression_size l + 1 + expression_size t

  pub index_size : Index → ℕ
  index_size no_index = 0
  index_size (index_of p e q) = expression_size e

-- a whole expression, where d brackets are open around it
abbrev pub IsWithin : ℕ → ExpressionTree 1 → Type 0
IsWithin d e = (d + expression_depth e ≤ 100) × (expression_size e ≤ 256)

-- the index of an assigned element is a whole expression of its own
abbrev pub IsIndexWithin : ℕ → Index → Type 0
IsIndexWithin d no_index = Unit {0}
IsIndexWithin d (index_of p e q) = IsWithin (d + 1) e

abbrev mutual
  pub CommandWithin : ℕ → CommandTree → Type 0
  CommandWithin d (skip_of p m) = Unit {0}
  CommandWithin d (assign_of w p i q e m) = IsIndexWithin d i × IsWithin d e
  CommandWithin d (sleep_of p e m) = IsWithin d e
  CommandWithin d (if_of p e m q b o) = IsWithin d e × BlockWithin d b × ElseWithin d o
  CommandWithin d (while_of p e m q b) = IsWithin d e × BlockWithin d b
  CommandWithin d (mitigate_of p q e l u m b) = IsWithin (d + 1) e × BlockWithin d b

  pub BlockWithin : ℕ → Block → Type 0
  BlockWithin d (block_of p c q) = (d + 1 ≤ 100) × CommandsWithin (d + 1) c

  pub ElseWithin : ℕ → ElsePart → Type 0
  ElseWithin d no_else = Unit {0}
  ElseWithin d (else_of p b) = BlockWithin d b

  pub CommandsWithin : ℕ → Commands → Type 0
  CommandsWithin d (commands_of c m) = CommandWithin d c × MoreWithin d m

  pub MoreWithin : ℕ → More → Type 0
  MoreWithin d no_more = Unit {0}
  MoreWithin d (and_more p c m) = CommandWithin d c × MoreWithin d m
