-- When the names of a tree are right: no label is named twice, and each label that is used is one; nothing is declared twice, and the
-- declarations keep the limits; and each name that is used is declared, without an index as a scalar and with one as an array.
use Rattle.std.specs.Prelude.{◌≡◌, ℕ, ◌<◌, List, [], ◌∷◌, map, Some}
use Rattle.label_lattice.specs.declared.label.Label.{Label}
use Rattle.label_lattice.specs.Order.{AllDiffer}
use Rattle.mit_syntax.specs.Declarations.{Declaration, AreFew, find_scalar, find_array}
use Rattle.mit_parser.specs.Scope.{Scope, scope, find_label}
use Rattle.mit_parser.specs.Faults.{as_labels, ordering_numbers, size_number, shape_label, shape_length, decl_of}
use Rattle.mit_parser.specs.Tree.{ExpressionTree, number_of, name_of, parens_of, binary_of, Index, no_index, index_of, AndName, no_name, and_name, Marks}
use Rattle.mit_parser.specs.Tree.{no_marks, marks_of}
use Rattle.mit_parser.specs.Tree.{CommandTree, skip_of, assign_of, sleep_of, if_of, while_of, mitigate_of, Block, block_of, ElsePart, no_else, else_of}
use Rattle.mit_parser.specs.Tree.{Commands, commands_of, More, no_more, and_more, MoreNames, no_more_names, and_more_names, PairTree, pair_of, MorePairs}
use Rattle.mit_parser.specs.Tree.{no_more_pairs, and_pair, Ordering, no_ordering, ordering_of, Header, no_header, header_of, no_label, label_of, Shape}
use Rattle.mit_parser.specs.Tree.{scalar_of, array_of, declaration_of, Declarations, no_declarations, and_declaration, ProgramTree}

abbrev pub more_labels : MoreNames → List (List ℕ)
more_labels no_more_names = []
more_labels (and_more_names p w q m) = w ∷ more_labels m

-- the labels, in the order of the text; without a header they are L and H
abbrev pub label_names : Header → List (List ℕ)
label_names no_header = (76 ∷ []) ∷ (72 ∷ []) ∷ []
label_names (header_of p w q m u o) = w ∷ more_labels m

-- the pairs of labels, in the order of the text; without a header L flows to H
abbrev pub label_pairs : Header → List (Label × Label)
label_pairs no_header = as_labels ((0, 1) ∷ [])
label_pairs (header_of p w q m u o) = as_labels (ordering_numbers (w ∷ more_labels m) o)

-- what is declared, in the order of the text
abbrev pub declarations_in : List (List ℕ) → Declarations → List Declaration
declarations_in labels no_declarations = []
declarations_in labels (and_declaration (declaration_of p w q s u) m) = (w, decl_of labels (shape_label s) (shape_length s)) ∷ declarations_in labels m

abbrev pub declared_names : List Declaration → List (List ℕ)
declared_names ds = map (λ d. d.0) ds

-- the name is a label's
abbrev pub IsLabelName : List (List ℕ) → List ℕ → Type 0
IsLabelName labels w = (k : ℕ) × (find_label labels w ≡ Some k)

-- a name without an index is a scalar's, and one with an index an array's
abbrev pub IsUsed : List Declaration → List ℕ → Index → Type 0
IsUsed ds w no_index = (x : ℕ) × (find_scalar ds w ≡ Some x)
IsUsed ds w (index_of p e q) = (a : ℕ × ℕ) × (find_array ds w ≡ Some a)

-- each name of an expression is used as what it is declared as
abbrev mutual
  pub ExpressionNamed : {n : ℕ} → List Declaration → ExpressionTree n → Type 0
  ExpressionNamed ds (number_of k p) = Unit {0}
  ExpressionNamed ds (name_of w p i) = IsUsed ds w i × IndexNamed ds i
  ExpressionNamed ds (parens_of p e q) = ExpressionNamed ds e
  ExpressionNamed ds (binary_of o h l p t) = ExpressionNamed ds l × ExpressionNamed ds t

  pub IndexNamed : List Declaration → Index → Type 0
  IndexNamed ds no_index = Unit {0}
  IndexNamed ds (index_of p e q) = ExpressionNamed ds e

abbrev pub SecondNamed : List (List ℕ) → AndName → Type 0
SecondNamed labels no_name = Unit {0}
SecondNamed labels (and_name p w q) = IsLabelName labels w

abbrev pub MarksNamed : List (List ℕ) → Marks → Type 0
MarksNamed labels no_marks = Unit {0}
MarksNamed labels (marks_of p q w r s v) = IsLabelName labels w × SecondNamed labels s

-- and each of a command
abbrev mutual
  pub CommandNamed : Scope → CommandTree → Type 0
  CommandNamed sc (skip_of p m) = MarksNamed sc.labels m
  CommandNamed sc (assign_of w p i q e m) =
      IsUsed sc.declarations w i × IndexNamed sc.declarations i × ExpressionNamed sc.declarations e × MarksNamed sc.labels m
  CommandNamed sc (sleep_of p e m) = ExpressionNamed sc.declarations e × MarksNamed sc.labels m
  CommandNamed sc (if_of p e m q b o) = ExpressionNamed sc.declarations e × MarksNamed sc.labels m × BlockNamed sc b × ElseNamed sc o
  CommandNamed sc (while_of p e m q b) = ExpressionNamed sc.declarations e × MarksNamed sc.labels m × BlockNamed sc b
  CommandNamed sc (mitigate_of p q e l r m b) = ExpressionNamed sc.declarations e × SecondNamed sc.labels l × MarksNamed sc.labels m × BlockNamed sc b

  pub BlockNamed : Scope → Block → Type 0
  BlockNamed sc (block_of p c q) = CommandsNamed sc c

  pub ElseNamed : Scope → ElsePart → Type 0
  ElseNamed sc no_else = Unit {0}
  ElseNamed sc (else_of p b) = BlockNamed sc b

  pub CommandsNamed : Scope → Commands → Type 0
  CommandsNamed sc (commands_of c m) = CommandNamed sc c × MoreNamed sc m

  pub MoreNamed : Scope → More → Type 0
  MoreNamed sc no_more = Unit {0}
  MoreNamed sc (and_more p c m) = CommandNamed sc c × MoreNamed sc m

-- each label of the written pairs is one
abbrev pub PairNamed : List (List ℕ) → PairTree → Type 0
PairNamed labels (pair_of a p q b r) = IsLabelName labels a × IsLabelName labels b

abbrev pub PairsNamed : List (List ℕ) → MorePairs → Type 0
PairsNamed labels no_more_pairs = Unit {0}
PairsNamed labels (and_pair p x m) = PairNamed labels x × PairsNamed labels m

abbrev pub OrderingNamed : List (List ℕ) → Ordering → Type 0
OrderingNamed labels no_ordering = Unit {0}
OrderingNamed labels (ordering_of p x m q) = PairNamed labels x × PairsNamed labels m

abbrev pub HeaderNamed : Header → Type 0
HeaderNamed no_header = Unit {0}
HeaderNamed (header_of p w q m u o) = OrderingNamed (w ∷ more_labels m) o

-- the label that a declaration writes is one, and the length of an array is at least 1
abbrev pub ShapeNamed : List (List ℕ) → Shape → Type 0
ShapeNamed labels (scalar_of no_label) = Unit {0}
ShapeNamed labels (scalar_of (label_of p w q)) = IsLabelName labels w
ShapeNamed labels (array_of p n q u v w x) = (0 < size_number n) × IsLabelName labels w

abbrev pub ShapesNamed : List (List ℕ) → Declarations → Type 0
ShapesNamed labels no_declarations = Unit {0}
ShapesNamed labels (and_declaration (declaration_of p w q s u) m) = ShapeNamed labels s × ShapesNamed labels m

pub record IsNamed (t : ProgramTree) : Type 0 where
  pub labels : AllDiffer (label_names t.header)
  pub pairs : HeaderNamed t.header
  pub shapes : ShapesNamed (label_names t.header) t.declarations
  pub once : AllDiffer (declared_names (declarations_in (label_names t.header) t.declarations))
  pub few : AreFew (declarations_in (label_names t.header) t.declarations)
  pub uses : CommandsNamed (scope (label_names t.header) (declarations_in (label_names t.header) t.declarations)) t.commands
