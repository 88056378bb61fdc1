-- The commands that a tree means: names are looked up, and mitigates numbered in the order of the text. What is
-- wrong with names is told apart (Faults); a name that stands for nothing counts here as the number 0.
use Rattle.std.specs.Prelude.{ℕ, ◌+◌, List, Option, None, Some}
use Rattle.text_base.specs.declared.pos.Pos.{Pos}
use Rattle.label_lattice.specs.declared.label.Label.{Label}
use Rattle.mit_syntax.specs.Expression.{Expression, Number, Variable, Binary, Element}
use Rattle.mit_syntax.specs.Todo.{Done, Skip, Assign, Put, Sleep, If, While, Mitigate}
use Rattle.mit_syntax.specs.Plan.{Plan, Written}
use Rattle.mit_syntax.specs.Declarations.{find_scalar, find_array}
use Rattle.mit_parser.specs.Scope.{Scope, find_label, as_label, or_else}
use Rattle.mit_parser.specs.Tree.{ExpressionTree, number_of, name_of, parens_of, binary_of, Index, no_index, index_of, AndName, no_name, and_name, Marks}
use Rattle.mit_parser.specs.Tree.{no_marks, marks_of}
use Rattle.mit_parser.specs.Tree.{CommandTree, skip_of, assign_of, sleep_of, if_of, while_of, mitigate_of, Block, block_of, ElsePart, no_else, else_of}
use Rattle.mit_parser.specs.Tree.{Commands, commands_of, More, no_more, and_more}

-- a scalar, or an element
abbrev pub named_value : Scope → List ℕ → Option Expression → Expression
named_value sc w None = Variable (or_else 0 (find_scalar sc.declarations w))
named_value sc w (Some i) = Element (or_else (0, 0) (find_array sc.declarations w)).0 (or_else (0, 0) (find_array sc.declarations w)).1 i

-- parentheses mean what is in them
abbrev mutual
  pub expression_value : {n : ℕ} → Scope → ExpressionTree n → Expression
  expression_value sc (number_of k p) = Number k
  expression_value sc (name_of w p i) = named_value sc w (index_value sc i)
  expression_value sc (parens_of p e q) = expression_value sc e
  expression_value sc (binary_of o h l p t) = Binary o (expression_value sc l) (expression_value sc t)

  pub index_value : Scope → Index → Option Expression
  index_value sc no_index = None
  index_value sc (index_of p e q) = Some (expression_value sc e)

abbrev pub label : List (List ℕ) → List ℕ → Label
label labels w = as_label (or_else 0 (find_label labels w))

abbrev pub and_name_value : List (List ℕ) → AndName → Option Label
and_name_value labels no_name = None
and_name_value labels (and_name p w q) = Some (label labels w)

-- one mark means both
abbrev pub both : Label → Option Label → Label × Label
both x None = (x, x)
both x (Some y) = (x, y)

abbrev pub marks_value : List (List ℕ) → Marks → Option (Label × Label)
marks_value labels no_marks = None
marks_value labels (marks_of p q w u s v) = Some (both (label labels w) (and_name_value labels s))

abbrev pub written : Scope → Pos → Marks → Written
written sc p m = record { pos = p; labels = marks_value sc.labels m }

abbrev pub assigned : Scope → Written → List ℕ → Option Expression → Expression → Plan → Plan
assigned sc m w None e rest = Assign m (or_else 0 (find_scalar sc.declarations w)) e rest
assigned sc m w (Some i) e rest = Put m (or_else (0, 0) (find_array sc.declarations w)).0 (or_else (0, 0) (find_array sc.declarations w)).1 i e rest

-- the number of the next mitigate, where k is that of the next one before
abbrev mutual
  pub next_command : CommandTree → ℕ → ℕ
  next_command (skip_of p m) k = k
  next_command (assign_of w p i q e m) k = k
  next_command (sleep_of p e m) k = k
  next_command (if_of p e m q b o) k = next_else o (next_block b k)
  next_command (while_of p e m q b) k = next_block b k
  next_command (mitigate_of p q e l u m b) k = next_block b (k + 1)

  pub next_block : Block → ℕ → ℕ
  next_block (block_of p c q) k = next_commands c k

  pub next_else : ElsePart → ℕ → ℕ
  next_else no_else k = k
  next_else (else_of p b) k = next_block b k

  pub next_commands : Commands → ℕ → ℕ
  next_commands (commands_of c m) k = next_more m (next_command c k)

  pub next_more : More → ℕ → ℕ
  next_more no_more k = k
  next_more (and_more p c m) k = next_more m (next_command c k)

-- a command before the rest of its list, the mitigates numbered from k on
abbrev mutual
  pub plan_command : Scope → ℕ → CommandTree → Plan → Plan
  plan_command sc k (skip_of p m) rest = Skip (written sc p m) rest
  plan_command sc k (assign_of w p i q e m) rest = assigned sc (written sc p m) w (index_value sc i) (expression_value sc e) rest
  plan_command sc k (sleep_of p e m) rest = Sleep (written sc p m) (expression_value sc e) rest
  plan_command sc k (if_of p e m q b o) rest = If (written sc p m) (expression_value sc e) (plan_block sc k b) (plan_else sc p (next_block b k) o) rest
  plan_command sc k (while_of p e m q b) rest = While (written sc p m) (expression_value sc e) (plan_block sc k b) rest
  plan_command sc k (mitigate_of p q e l u m b) rest = Mitigate (written sc p m) k (and_name_value sc.labels l) (expression_value sc e)
      (plan_block sc (k + 1) b) rest

  pub plan_block : Scope → ℕ → Block → Plan
  plan_block sc k (block_of p c q) = plan_commands sc k c

  -- what is not written is a `skip` at the position of its `if`
  pub plan_else : Scope → Pos → ℕ → ElsePart → Plan
  plan_else sc p k no_else = Skip (record { pos = p; labels = None }) Done
  plan_else sc p k (else_of q b) = plan_block sc k b

  pub plan_commands : Scope → ℕ → Commands → Plan
  plan_commands sc k (commands_of c m) = plan_command sc k c (plan_more sc (next_command c k) m)

  pub plan_more : Scope → ℕ → More → Plan
  plan_more sc k no_more = Done
  plan_more sc k (and_more p c m) = plan_command sc k c (plan_more sc (next_command c k) m)
