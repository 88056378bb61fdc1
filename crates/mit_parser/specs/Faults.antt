-- The first fault of a tree's names, in the order of the text.
use Rattle.std.specs.Prelude.{◌≡◌, ℕ, ℤ, pos, negsuc, ◌+◌, ◌==◌, ◌||◌, ltb, ◌<◌, All, Bool, cond, List, [], ◌∷◌, ◌++◌, length, Option, None, Some, is_some, ◌⊎◌}
use Rattle.text_base.specs.declared.pos.Pos.{Pos}
use Rattle.label_lattice.specs.declared.label.Label.{Label}
use Rattle.label_lattice.specs.Chains.{Chain, IsFault, IsSound}
use Rattle.mit_syntax.specs.declared.declarations.Decl.{Decl}
use Rattle.mit_syntax.specs.Declarations.{Declaration, declared, elements_in}
use Rattle.mit_parser.specs.declared.fault.ParseFault.{ParseFault}
use Rattle.mit_parser.specs.declared.fault.ParseFault.TheVariants.{TooMany, Twice, Lattice, Size}
use Rattle.mit_parser.specs.Scope.{Scope, scope, find_label, as_label, or_else, kept, label_fault, scalar_fault, array_fault}
use Rattle.mit_parser.specs.Meaning.{label}
use Rattle.mit_parser.specs.Tree.{ExpressionTree, number_of, name_of, parens_of, binary_of, Index, no_index, index_of, AndName, no_name, and_name, Marks}
use Rattle.mit_parser.specs.Tree.{no_marks, marks_of}
use Rattle.mit_parser.specs.Tree.{CommandTree, skip_of, assign_of, sleep_of, if_of, while_of, mitigate_of, Block, block_of, ElsePart, no_else, else_of}
use Rattle.mit_parser.specs.Tree.{Commands, commands_of, More, no_more, and_more, MoreNames, no_more_names, and_more_names, PairTree, pair_of, MorePairs}
use Rattle.mit_parser.specs.Tree.{no_more_pairs, and_pair, Ordering, no_ordering, ordering_of, Header, no_header, header_of, no_label, label_of, Shape}
use Rattle.mit_parser.specs.Tree.{scalar_of, array_of, DeclarationTree, declaration_of, Declarations, no_declarations, and_declaration, ProgramTree}

-- a name is used with an index or without one
abbrev pub use_fault : Scope → List ℕ → Pos → Index → Option ParseFault
use_fault sc w p no_index = scalar_fault sc.declarations w p
use_fault sc w p (index_of q e r) = array_fault sc.declarations w p

-- the first fault, where u is one that came before
abbrev mutual
  pub note_expression : {n : ℕ} → Scope → ExpressionTree n → Option ParseFault → Option ParseFault
  note_expression sc (number_of k p) u = u
  note_expression sc (name_of w p i) u = note_index sc i (kept u (use_fault sc w p i))
  note_expression sc (parens_of p e q) u = note_expression sc e u
  note_expression sc (binary_of o h l p t) u = note_expression sc t (note_expression sc l u)

  pub note_index : Scope → Index → Option ParseFault → Option ParseFault
  note_index sc no_index u = u
  note_index sc (index_of p e q) u = note_expression sc e u

abbrev pub note_and_name : List (List ℕ) → AndName → Option ParseFault → Option ParseFault
note_and_name labels no_name u = u
note_and_name labels (and_name p w q) u = kept u (label_fault labels w q)

abbrev pub note_marks : List (List ℕ) → Marks → Option ParseFault → Option ParseFault
note_marks labels no_marks u = u
note_marks labels (marks_of p q w r s v) u = note_and_name labels s (kept u (label_fault labels w r))

abbrev mutual
  pub note_command : Scope → CommandTree → Option ParseFault → Option ParseFault
  note_command sc (skip_of p m) u = note_marks sc.labels m u
  note_command sc (assign_of w p i q e m) u = note_marks sc.labels m (note_expression sc e (note_index sc i (kept u (use_fault sc w p i))))
  note_command sc (sleep_of p e m) u = note_marks sc.labels m (note_expression sc e u)
  note_command sc (if_of p e m q b o) u = note_else sc o (note_block sc b (note_marks sc.labels m (note_expression sc e u)))
  note_command sc (while_of p e m q b) u = note_block sc b (note_marks sc.labels m (note_expression sc e u))
  note_command sc (mitigate_of p q e l r m b) u = note_block sc b (note_marks sc.labels m (note_and_name sc.labels l (note_expression sc e u)))

  pub note_block : Scope → Block → Option ParseFault → Option ParseFault
  note_block sc (block_of p c q) u = note_commands sc c u

  pub note_else : Scope → ElsePart → Option ParseFault → Option ParseFault
  note_else sc no_else u = u
  note_else sc (else_of p b) u = note_block sc b u

  pub note_commands : Scope → Commands → Option ParseFault → Option ParseFault
  note_commands sc (commands_of c m) u = note_more sc m (note_command sc c u)

  pub note_more : Scope → More → Option ParseFault → Option ParseFault
  note_more sc no_more u = u
  note_more sc (and_more p c m) u = note_more sc m (note_command sc c u)

-- the labels so far, and the first fault
pub record Labelled : Type 0 where
  pub names : List (List ℕ)
  pub fault : Option ParseFault

abbrev pub labelled : List (List ℕ) → Option ParseFault → Labelled
labelled names fault = record { names = names; fault = fault }

abbrev pub add_label : List ℕ → Pos → Labelled → Labelled
add_label w p s = cond (is_some (find_label s.names w)) (labelled s.names (kept s.fault (Some (Twice p)))) (labelled (s.names ++ w ∷ []) s.fault)

abbrev pub add_labels : MoreNames → Labelled → Labelled
add_labels no_more_names s = s
add_labels (and_more_names p w q m) s = add_labels m (add_label w q s)

-- without a header the labels are L and H, of which L flows to H
abbrev pub header_labels : Header → Labelled
header_labels no_header = labelled ((76 ∷ []) ∷ (72 ∷ []) ∷ []) None
header_labels (header_of p w q m u o) = add_labels m (labelled (w ∷ []) None)

-- the numbers of the labels of a pair
abbrev pub pair_numbers : List (List ℕ) → PairTree → ℕ × ℕ
pair_numbers labels (pair_of a p q b r) = (or_else 0 (find_label labels a), or_else 0 (find_label labels b))

abbrev pub more_numbers : List (List ℕ) → MorePairs → List (ℕ × ℕ)
more_numbers labels no_more_pairs = []
more_numbers labels (and_pair p x m) = pair_numbers labels x ∷ more_numbers labels m

abbrev pub ordering_numbers : List (List ℕ) → Ordering → List (ℕ × ℕ)
ordering_numbers labels no_ordering = []
ordering_numbers labels (ordering_of p x m q) = pair_numbers labels x ∷ more_numbers labels m

abbrev pub header_numbers : Header → List (ℕ × ℕ)
header_numbers no_header = (0, 1) ∷ []
header_numbers (header_of p w q m u o) = ordering_numbers (add_labels m (labelled (w ∷ []) None)).names o

abbrev pub as_labels : List (ℕ × ℕ) → List (Label × Label)
as_labels [] = []
as_labels (p ∷ ps) = (as_label p.0, as_label p.1) ∷ as_labels ps

-- both numbers of each pair are below n
abbrev pub AreNumbersBelow : ℕ → List (ℕ × ℕ) → Type 0
AreNumbersBelow n ps = All (λ p. (p.0 < n) × (p.1 < n)) ps

abbrev pub header_pairs : Header → List (Label × Label)
header_pairs h = as_labels (header_numbers h)

abbrev pub note_pair : List (List ℕ) → PairTree → Option ParseFault → Option ParseFault
note_pair labels (pair_of a p q b r) u = kept (kept u (label_fault labels a p)) (label_fault labels b r)

abbrev pub note_more_pairs : List (List ℕ) → MorePairs → Option ParseFault → Option ParseFault
note_more_pairs labels no_more_pairs u = u
note_more_pairs labels (and_pair p x m) u = note_more_pairs labels m (note_pair labels x u)

abbrev pub note_ordering : List (List ℕ) → Ordering → Option ParseFault → Option ParseFault
note_ordering labels no_ordering u = u
note_ordering labels (ordering_of p x m q) u = note_more_pairs labels m (note_pair labels x u)

-- a label that is written twice among the labels, or else an unknown one in the pairs
abbrev pub header_fault : Header → Option ParseFault
header_fault no_header = None
header_fault (header_of p w q m u o) = note_ordering (add_labels m (labelled (w ∷ []) None)).names o (add_labels m (labelled (w ∷ []) None)).fault

-- the labels make no lattice
abbrev pub IsLatticeFault : List (List ℕ) → List (Label × Label) → ParseFault → Type 0
IsLatticeFault labels pairs (Lattice l) = IsFault (length labels) (Chain pairs) l
IsLatticeFault labels pairs f = ⊥

-- the label and the length that a declaration writes, each with its position
abbrev pub shape_label : Shape → Option (List ℕ × Pos)
shape_label (scalar_of no_label) = None
shape_label (scalar_of (label_of p w q)) = Some (w, q)
shape_label (array_of p n q u v w x) = Some (w, x)

abbrev pub shape_length : Shape → Option (ℤ × Pos)
shape_length (scalar_of l) = None
shape_length (array_of p n q u v w x) = Some (n, q)

abbrev pub size_number : ℤ → ℕ
size_number (pos n) = n
size_number (negsuc n) = 0

-- the length is 0, or with it the lengths so far pass the limit
abbrev pub is_bad_size : ℤ → ℕ → Bool
is_bad_size n elements = (size_number n == 0) || ltb 2048 (elements + size_number n)

abbrev pub length_fault : List Declaration → Option (ℤ × Pos) → Option ParseFault
length_fault ds None = None
length_fault ds (Some n) = cond (is_bad_size n.0 (elements_in ds)) (Some (Size n.1)) None

abbrev pub written_label_fault : List (List ℕ) → Option (List ℕ × Pos) → Option ParseFault
written_label_fault labels None = None
written_label_fault labels (Some l) = label_fault labels l.0 l.1

abbrev pub twice_fault : List Declaration → List ℕ → Pos → Option ParseFault
twice_fault ds w p = cond (is_some (declared ds w)) (Some (Twice p)) None

-- what is wrong with a declaration after others: its name, then its length, then its label
abbrev pub declaration_fault : List (List ℕ) → List Declaration → List ℕ → Pos → Option (List ℕ × Pos) → Option (ℤ × Pos) → Option ParseFault
declaration_fault labels ds w p l n = kept (twice_fault ds w p) (kept (length_fault ds n) (written_label_fault labels l))

abbrev pub written_label : List (List ℕ) → Option (List ℕ × Pos) → Option Label
written_label labels None = None
written_label labels (Some l) = Some (label labels l.0)

abbrev pub written_length : Option (ℤ × Pos) → Option ℕ
written_length None = None
written_length (Some n) = Some (size_number n.0)

abbrev pub decl_of : List (List ℕ) → Option (List ℕ × Pos) → Option (ℤ × Pos) → Decl
decl_of labels l n = record { label = written_label labels l; length = written_length n }

-- the declarations so far, and the first fault
pub record Declared : Type 0 where
  pub list : List Declaration
  pub fault : Option ParseFault

abbrev pub declaring : List Declaration → Option ParseFault → Declared
declaring list fault = record { list = list; fault = fault }

abbrev pub added : List Declaration → Declaration → Option ParseFault → Declared
added ds d None = declaring (ds ++ d ∷ []) None
added ds d (Some f) = declaring ds (Some f)

abbrev pub add_declaration : List (List ℕ) → List ℕ → Pos → Option (List ℕ × Pos) → Option (ℤ × Pos) → Declared → Declared
add_declaration labels w p l n s = added s.list (w, decl_of labels l n) (kept s.fault (declaration_fault labels s.list w p l n))

abbrev pub declare : List (List ℕ) → DeclarationTree → Declared → Declared
declare labels (declaration_of p w q s u) r = add_declaration labels w q (shape_label s) (shape_length s) r

abbrev pub declare_all : List (List ℕ) → Declarations → Declared → Declared
declare_all labels no_declarations s = s
declare_all labels (and_declaration d m) s = declare_all labels m (declare labels d s)

abbrev pub declared_by : List (List ℕ) → Declarations → Declared
declared_by labels m = declare_all labels m (declaring [] None)

abbrev pub many_fault : List Declaration → Option ParseFault
many_fault ds = cond (ltb 1024 (length ds)) (Some (TooMany (length ds))) None

-- the first fault of the declarations and the commands
abbrev pub body_fault : ProgramTree → Option ParseFault
body_fault t =
    let labels = (header_labels t.header).names in
    let s = declared_by labels t.declarations in
    note_commands (scope labels s.list) t.commands (kept s.fault (many_fault s.list))

-- the first fault of the names: in the header, of its lattice, or after it
abbrev pub IsNameFault : ProgramTree → ParseFault → Type 0
IsNameFault t f =
    let labels = (header_labels t.header).names in
    (header_fault t.header ≡ Some f)
    ⊎ ((header_fault t.header ≡ None) × IsLatticeFault labels (header_pairs t.header) f)
    ⊎ ((header_fault t.header ≡ None) × IsSound (length labels) (Chain (header_pairs t.header)) × (body_fault t ≡ Some f))
