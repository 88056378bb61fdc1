-- A tree within the limits whose names are right spells words by the grammar: each part of it is a part of the grammar.
use Rattle.std.proofs.Common.{◌≡◌, ◌≤◌, ◌<◌, ◌+◌, refl, ap₂, sym, subst, ℕ, zero, suc, pos, negsuc, List, [], ◌∷◌, Some, None, arith}
use Rattle.std.specs.Prelude.{map}
use Rattle.text_base.specs.declared.pos.Pos.{Pos}
use Rattle.label_lattice.specs.declared.label.Label.{Label}
use Rattle.label_lattice.specs.Chains.{IsBuilt}
use Rattle.label_lattice.specs.Order.{AllDiffer}
use Rattle.mit_syntax.specs.declared.token.Keyword.TheVariants.{Then, Do}
use Rattle.mit_syntax.specs.declared.token.Sign.TheVariants.{Assign as SAssign, Semicolon, Comma, RightRound, RightBrace, RightSquare}
use Rattle.mit_syntax.specs.Operators.{op_sign}
use Rattle.mit_syntax.specs.Expression.{Variable, Element}
use Rattle.mit_syntax.specs.Todo.{Assign, Put}
use Rattle.mit_syntax.specs.Plan.{Plan}
use Rattle.mit_syntax.specs.Declarations.{Declaration, AreFew}
use Rattle.mit_syntax.specs.Program.{Syntax, plan_of}
use Rattle.mit_parser.specs.Words.{Symbol, the_end, Told, sign_at, key_at, end_at}
use Rattle.mit_parser.specs.Scope.{Scope, scope, as_label, find_label, or_else}
use Rattle.mit_parser.specs.Tree.{ExpressionTree, number_of, name_of, parens_of, binary_of, no_index, index_of, AndName, no_name, and_name, Marks}
use Rattle.mit_parser.specs.Tree.{no_marks, marks_of}
use Rattle.mit_parser.specs.Tree.{CommandTree, skip_of, assign_of, sleep_of, if_of, while_of, mitigate_of, Block, block_of, ElsePart, no_else, else_of}
use Rattle.mit_parser.specs.Tree.{Commands, commands_of, More, no_more, and_more, MoreNames, no_more_names, and_more_names, PairTree, pair_of, MorePairs}
use Rattle.mit_parser.specs.Tree.{no_more_pairs, and_pair, Ordering, no_ordering, ordering_of, Header, no_header, header_of, no_label, label_of, scalar_of}
use Rattle.mit_parser.specs.Tree.{array_of, Shape, declaration_of, Declarations, no_declarations, and_declaration, ProgramTree}
use Rattle.mit_parser.specs.Tree.{front_expression, front_and_name, front_marks, front_command, front_block, front_else, front_more, front_more_names}
use Rattle.mit_parser.specs.Tree.{front_more_pairs, front_pair, front_ordering, front_header, front_declaration, front_declarations}
use Rattle.mit_parser.specs.Tree.{front_commands, front_program}
use Rattle.mit_parser.specs.Limits.{expression_depth, expression_size, IsWithin, CommandWithin, BlockWithin, ElseWithin, CommandsWithin, MoreWithin}
use Rattle.mit_parser.specs.Meaning.{expression_value, and_name_value, marks_value, plan_command, plan_block, plan_else, plan_commands, plan_more}
use Rattle.mit_parser.specs.Meaning.{next_command, next_block, next_else, next_commands, next_more}
use Rattle.mit_parser.specs.Faults.{decl_of, shape_label, shape_length, ordering_numbers, more_numbers, pair_numbers, as_labels}
use Rattle.mit_parser.specs.Named.{ExpressionNamed, SecondNamed, MarksNamed, CommandNamed, BlockNamed, ElseNamed, MoreNamed, OrderingNamed}
use Rattle.mit_parser.specs.Named.{PairNamed, PairsNamed, ShapeNamed, ShapesNamed, HeaderNamed, CommandsNamed, IsNamed, more_labels, label_names}
use Rattle.mit_parser.specs.Named.{label_pairs, declarations_in}
use Rattle.mit_parser.specs.Spells.{IsProgram, Resolves}
use Rattle.parse_laws.specs.ReadBack.{unplaced, Same}
use Rattle.parse_laws.specs.Grammar.{symbols, the_sign, the_name, Unplaced, IsExpression, a_number, a_scalar, an_element, in_brackets}
use Rattle.parse_laws.specs.Grammar.{an_operation, IsWhole, IsSecond, no_second, a_second, AreMarks, one_mark, two_marks, IsCommand, a_skip}
use Rattle.parse_laws.specs.Grammar.{an_assignment, to_an_element, a_sleep, a_branch, a_loop, a_mitigate, IsBlock, a_block, IsElse, an_else, AreCommands}
use Rattle.parse_laws.specs.Grammar.{last_command, more_commands, IsDeclaration, a_bare_scalar, a_labelled_scalar, an_array, AreDeclarations, one_more}
use Rattle.parse_laws.specs.Grammar.{AreNames, last_name, more_names, ArePairs, last_pair, more_pairs, IsOrdering, no_order, an_order, IsHeader, a_header}
use Rattle.parse_laws.specs.Grammar.{IsSpelt, no_more as no_more_declarations, no_marks as no_marks_here, no_else as no_else_here, no_header as no_header_here}

expression : (sc : Scope) {n : ℕ} (t : ExpressionTree n) (room : ℕ) (r : List Told) → expression_depth t ≤ room → ExpressionNamed sc.declarations t
    → IsExpression sc.declarations room n (symbols (front_expression t r)) (symbols r) (expression_value sc t) (expression_size t)
expression sc (number_of k p) room r d h = a_number
expression sc {n = n} (name_of w p no_index) room r d h =
    subst (λ z. IsExpression sc.declarations room n (the_name w ∷ symbols r) (symbols r) (Variable (or_else 0 z)) 0) (sym h.0.1) (a_scalar h.0.1)
expression sc {n = n} (name_of w p (index_of a e q)) room r d h =
    let inner = expression sc e (expression_depth e) (sign_at RightSquare q ∷ r) (omega arith) h.1 in
    subst
    (λ z. IsExpression sc.declarations room n (symbols (front_expression (name_of {n = n} w p (index_of a e q)) r)) (symbols r)
    (Element (or_else {A = ℕ × ℕ} (0, 0) z).0 (or_else {A = ℕ × ℕ} (0, 0) z).1 (expression_value sc e)) (expression_size e))
    (sym h.0.1) (an_element h.0.1 (omega (arith, d)) inner)
expression sc (parens_of p e q) room r d h =
    in_brackets (omega (arith, d)) (expression sc e (expression_depth e) (sign_at RightRound q ∷ r) (omega arith) h)
expression sc (binary_of o g l p t) room r d h =
    an_operation g (expression sc l room (sign_at (op_sign o) p ∷ front_expression t r) (omega (arith, d)) h.0)
    (expression sc t room r (omega (arith, d)) h.1)

whole : (sc : Scope) (t : ExpressionTree 1) (room d : ℕ) (r : List Told) → d + room ≡ 100 → IsWithin d t → ExpressionNamed sc.declarations t
    → IsWhole sc.declarations room (symbols (front_expression t r)) (symbols r) (expression_value sc t)
whole sc t room d r s h n =
    let depth = h.0 in
    record { operators = expression_size t; expression = expression sc t room r (omega (arith, s, depth)) n; few = h.1 }

-- inside brackets that are opened there
within : (sc : Scope) (t : ExpressionTree 1) (d : ℕ) (r : List Told) → IsWithin d t → ExpressionNamed sc.declarations t
    → IsWhole sc.declarations (expression_depth t) (symbols (front_expression t r)) (symbols r) (expression_value sc t)
within sc t d r h n = record { operators = expression_size t; expression = expression sc t (expression_depth t) r (omega arith) n; few = h.1 }

opens : (t : ExpressionTree 1) (room d : ℕ) → d + room ≡ 100 → IsWithin (d + 1) t → expression_depth t < room
opens t room d s h = let depth = h.0 in omega (arith, s, depth)

second : (labels : List (List ℕ)) (l : AndName) (r : List Told) → SecondNamed labels l
    → IsSecond labels (symbols (front_and_name l r)) (symbols r) (and_name_value labels l)
second labels no_name r h = no_second
second labels (and_name p w q) r h =
    subst (λ z. IsSecond labels (the_sign Comma ∷ the_name w ∷ symbols r) (symbols r) (Some (as_label (or_else 0 z)))) (sym h.1) (a_second h.1)

marks : (labels : List (List ℕ)) (m : Marks) (r : List Told) → MarksNamed labels m
    → AreMarks labels (symbols (front_marks m r)) (symbols r) (marks_value labels m)
marks labels no_marks r h = no_marks_here
marks labels (marks_of p q w u no_name v) r h =
    subst
    (λ z. AreMarks labels (symbols (front_marks (marks_of p q w u no_name v) r)) (symbols r) (Some (as_label (or_else 0 z), as_label (or_else 0 z))))
    (sym h.0.1) (one_mark h.0.1)
marks labels (marks_of p q w u (and_name x y z) v) r h =
    let words = symbols (front_marks (marks_of p q w u (and_name x y z) v) r) in
    subst (λ c. AreMarks labels words (symbols r) (Some (as_label (or_else 0 c), as_label (or_else 0 (find_label labels y))))) (sym h.0.1)
    (subst (λ c. AreMarks labels words (symbols r) (Some (as_label h.0.0, as_label (or_else 0 c)))) (sym h.1.1) (two_marks h.0.1 h.1.1))

mutual
  command : (sc : Scope) (c : CommandTree) (room d k : ℕ) (r : List Told) (rest : Plan) → d + room ≡ 100 → CommandWithin d c → CommandNamed sc c
      → IsCommand sc room (symbols (front_command c r)) (symbols r) k (next_command c k) (unplaced rest) (unplaced (plan_command sc k c rest))
  command sc (skip_of p m) room d k r rest s h n = a_skip (marks sc.labels m r n)
  command sc (assign_of w p no_index q e m) room d k r rest s h n =
      let ws = symbols (front_command (assign_of w p no_index q e m) r) in
      subst
      (λ z. IsCommand sc room ws (symbols r) k k (unplaced rest)
      (Assign (marks_value sc.labels m) (or_else 0 z) (expression_value sc e) (unplaced rest)))
      (sym n.0.1)
      (an_assignment n.0.1 (whole sc e room d (front_marks m r) s h.1 n.2) (marks sc.labels m r n.3))
  command sc (assign_of w p (index_of a i b) q e m) room d k r rest s h n =
      let ws = symbols (front_command (assign_of w p (index_of a i b) q e m) r) in
      subst
      (λ z. IsCommand sc room ws (symbols r) k k (unplaced rest)
      (Put (marks_value sc.labels m) (or_else {A = ℕ × ℕ} (0, 0) z).0 (or_else {A = ℕ × ℕ} (0, 0) z).1 (expression_value sc i)
      (expression_value sc e) (unplaced rest)))
      (sym n.0.1)
      (to_an_element n.0.1 (opens i room d s h.0)
      (within sc i (d + 1) (sign_at RightSquare b ∷ sign_at SAssign q ∷ front_expression e (front_marks m r)) h.0 n.1)
      (whole sc e room d (front_marks m r) s h.1 n.2) (marks sc.labels m r n.3))
  command sc (sleep_of p e m) room d k r rest s h n = a_sleep (whole sc e room d (front_marks m r) s h n.0) (marks sc.labels m r n.1)
  command sc (if_of p e m q b o) room d k r rest s h n =
      a_branch (whole sc e room d (front_marks m (key_at Then q ∷ front_block b (front_else o r))) s h.0 n.0)
      (marks sc.labels m (key_at Then q ∷ front_block b (front_else o r)) n.1)
      (block sc b room d k (front_else o r) s h.1 n.2) (else_part sc p o room d (next_block b k) r s h.2 n.3)
  command sc (while_of p e m q b) room d k r rest s h n =
      a_loop (whole sc e room d (front_marks m (key_at Do q ∷ front_block b r)) s h.0 n.0)
      (marks sc.labels m (key_at Do q ∷ front_block b r) n.1) (block sc b room d k r s h.1 n.2)
  command sc (mitigate_of p q e l u m b) room d k r rest s h n =
      a_mitigate (opens e room d s h.0)
      (within sc e (d + 1) (front_and_name l (sign_at RightRound u ∷ front_marks m (front_block b r))) h.0 n.0)
      (second sc.labels l (sign_at RightRound u ∷ front_marks m (front_block b r)) n.1) (marks sc.labels m (front_block b r) n.2)
      (block sc b room d (k + 1) r s h.1 n.3)

  block : (sc : Scope) (b : Block) (room d k : ℕ) (r : List Told) → d + room ≡ 100 → BlockWithin d b → BlockNamed sc b
      → IsBlock sc room (symbols (front_block b r)) (symbols r) k (next_block b k) (unplaced (plan_block sc k b))
  block sc (block_of p c q) zero d k r s h n = let less = h.0 in absurd (omega (arith, s, less))
  block sc (block_of p c q) (suc room) d k r s h n =
      a_block (omega arith) (commands sc c room (d + 1) k (sign_at RightBrace q ∷ r) (omega (arith, s)) h.1 n)

  else_part : (sc : Scope) (p : _) (o : ElsePart) (room d k : ℕ) (r : List Told) → d + room ≡ 100 → ElseWithin d o → ElseNamed sc o
      → IsElse sc room (symbols (front_else o r)) (symbols r) k (next_else o k) (unplaced (plan_else sc p k o))
  else_part sc p no_else room d k r s h n = no_else_here
  else_part sc p (else_of q b) room d k r s h n = an_else (block sc b room d k r s h n)

  more : (sc : Scope) (m : More) (room d j : ℕ) (r : List Told) → d + room ≡ 100 → MoreWithin d m → MoreNamed sc m
      → (k : ℕ) (ws : List Symbol) (p : Unplaced) → IsCommand sc room ws (symbols (front_more m r)) k j (unplaced (plan_more sc j m)) p
      → AreCommands sc room ws (symbols r) k (next_more m j) p
  more sc no_more room d j r s h n k ws p c = last_command c
  more sc (and_more a x m) room d j r s h n k ws p c =
      let i = next_command x j in
      more_commands c
      (more sc m room d i r s h.1 n.1 j (symbols (front_command x (front_more m r))) (unplaced (plan_command sc j x (plan_more sc i m)))
      (command sc x room d j (front_more m r) (plan_more sc i m) s h.0 n.0))

  commands : (sc : Scope) (c : Commands) (room d k : ℕ) (r : List Told) → d + room ≡ 100 → CommandsWithin d c → CommandsNamed sc c
      → AreCommands sc room (symbols (front_commands c r)) (symbols r) k (next_commands c k) (unplaced (plan_commands sc k c))
  commands sc (commands_of c m) room d k r s h n =
      let j = next_command c k in
      more sc m room d j r s h.1 n.1 k (symbols (front_command c (front_more m r))) (unplaced (plan_command sc k c (plan_more sc j m)))
      (command sc c room d k (front_more m r) (plan_more sc j m) s h.0 n.0)

declaration : (labels : List (List ℕ)) (w : List ℕ) (p q u : Pos) (t : Shape) (r : List Told) → ShapeNamed labels t
    → IsDeclaration labels (symbols (front_declaration (declaration_of p w q t u) r)) (symbols r) (w, decl_of labels (shape_label t) (shape_length t))
declaration labels w p q u (scalar_of no_label) r h = a_bare_scalar
declaration labels w p q u (scalar_of (label_of x v y)) r h =
    subst
    (λ z. IsDeclaration labels (symbols (front_declaration (declaration_of p w q (scalar_of (label_of x v y)) u) r)) (symbols r)
    (w, record { label = Some (as_label (or_else 0 z)); length = None }))
    (sym h.1) (a_labelled_scalar h.1)
declaration labels w p q u (array_of a (pos n) b c d v x) r h =
    subst
    (λ z. IsDeclaration labels (symbols (front_declaration (declaration_of p w q (array_of a (pos n) b c d v x) u) r)) (symbols r)
    (w, record { label = Some (as_label (or_else 0 z)); length = Some n }))
    (sym h.1.1) (an_array h.0 h.1.1)
declaration labels w p q u (array_of a (negsuc n) b c d v x) r h = let less = h.0 in absurd (omega (arith, less))

declarations : (labels : List (List ℕ)) (t : Declarations) (r : List Told) → ShapesNamed labels t
    → AreDeclarations labels (symbols (front_declarations t r)) (symbols r) (declarations_in labels t)
declarations labels no_declarations r h = no_more_declarations
declarations labels (and_declaration (declaration_of p w q s u) m) r h =
    one_more (declaration labels w p q u s (front_declarations m r) h.0) (declarations labels m r h.1)

names : (w : List ℕ) (p : Pos) (m : MoreNames) (r : List Told)
    → AreNames (the_name w ∷ symbols (front_more_names m r)) (symbols r) (w ∷ more_labels m)
names w p no_more_names r = last_name
names w p (and_more_names a v b m) r = more_names (names v b m r)

pair : (labels : List (List ℕ)) (a b : List ℕ) (x y : ℕ) → find_label labels a ≡ Some x → find_label labels b ≡ Some y
    → ◌≡◌ {A = Label × Label} (as_label x, as_label y) (as_label (or_else 0 (find_label labels a)), as_label (or_else 0 (find_label labels b)))
pair labels a b x y e f = ap₂ {C = Label × Label} (λ m n. (as_label (or_else 0 m), as_label (or_else 0 n))) (sym e) (sym f)

pairs : (labels : List (List ℕ)) (x : PairTree) (m : MorePairs) (r : List Told) → PairNamed labels x → PairsNamed labels m
    → ArePairs labels (symbols (front_pair x (front_more_pairs m r))) (symbols r) (as_labels (pair_numbers labels x ∷ more_numbers labels m))
pairs labels (pair_of a p q b u) no_more_pairs r h k =
    subst (λ z. ArePairs labels (symbols (front_pair (pair_of a p q b u) r)) (symbols r) (z ∷ [])) (pair labels a b h.0.0 h.1.0 h.0.1 h.1.1)
    (last_pair h.0.1 h.1.1)
pairs labels (pair_of a p q b u) (and_pair v y m) r h k =
    subst
    (λ z. ArePairs labels (symbols (front_pair (pair_of a p q b u) (front_more_pairs (and_pair v y m) r))) (symbols r)
    (z ∷ as_labels (pair_numbers labels y ∷ more_numbers labels m)))
    (pair labels a b h.0.0 h.1.0 h.0.1 h.1.1) (more_pairs h.0.1 h.1.1 (pairs labels y m r k.0 k.1))

ordering : (labels : List (List ℕ)) (o : Ordering) (r : List Told) → OrderingNamed labels o
    → IsOrdering labels (symbols (front_ordering o r)) (symbols r) (as_labels (ordering_numbers labels o))
ordering labels no_ordering r h = no_order
ordering labels (ordering_of p x m q) r h = an_order (pairs labels x m (sign_at Semicolon q ∷ r) h.0 h.1)

header : (h : Header) (r : List Told) → HeaderNamed h → IsHeader (symbols (front_header h r)) (symbols r) (label_names h) (label_pairs h)
header no_header r n = no_header_here
header (header_of p w q m u o) r n =
    a_header (names w q m (sign_at Semicolon u ∷ front_ordering o r)) (ordering (w ∷ more_labels m) o r n)

all_commands : (c : Commands) (e : Pos) (p : Syntax) (labels : List (List ℕ)) (ds : List Declaration) → p.declarations ≡ ds
    → plan_of p ≡ plan_commands (scope labels p.declarations) 0 c → CommandsWithin 0 c → CommandsNamed (scope labels ds) c
    → AreCommands (scope labels p.declarations) 100 (symbols (front_commands c (end_at e ∷ []))) (the_end ∷ []) 0 (next_commands c 0) (unplaced (plan_of p))
all_commands c e p labels ds same are w n =
    subst
    (λ z. AreCommands (scope labels p.declarations) 100 (symbols (front_commands c (end_at e ∷ []))) (the_end ∷ []) 0 (next_commands c 0) (unplaced z))
    (sym are)
    (commands (scope labels p.declarations) c 100 0 0 (end_at e ∷ []) refl w (subst (λ z. CommandsNamed (scope labels z) c) (sym same) n))

-- the whole program, whose tree has these declarations and commands
spelt_by : (t : ProgramTree) (e : Pos) (p : Syntax) → IsNamed t → CommandsWithin 0 t.commands → Resolves t p
    → IsSpelt (symbols (front_program t (end_at e ∷ []))) p
spelt_by t e p n w s =
    let labels = label_names t.header in
    let doing = front_commands t.commands (end_at e ∷ []) in
    let declaring = front_declarations t.declarations doing in
    record {
      labels = labels;
      declared = symbols declaring;
      doing = symbols doing;
      mitigates = next_commands t.commands 0;
      header = subst (λ ps. IsHeader (symbols (front_header t.header declaring)) (symbols declaring) labels ps) (sym s.pairs)
          (header t.header declaring n.pairs);
      declarations = subst (λ ds. AreDeclarations labels (symbols declaring) (symbols doing) ds) (sym s.declarations)
          (declarations labels t.declarations doing n.shapes);
      commands = all_commands t.commands e p labels (declarations_in labels t.declarations) s.declarations s.plan w n.uses;
      differ = n.labels;
      once = subst (λ ds. AllDiffer (map (λ d. d.0) ds)) (sym s.declarations) n.once;
      few = subst AreFew (sym s.declarations) n.few;
      order = subst (λ ps. IsBuilt labels ps p.order) (sym s.pairs) s.order;
    }

-- words that are a program are spelt by the grammar
spelt_so : (words : List Told) (p : Syntax) → IsProgram words p → IsSpelt (symbols words) p
spelt_so words p h = subst (λ ws. IsSpelt (symbols ws) p) (sym h.spells.1) (spelt_by h.tree h.spells.0 p h.resolves.named h.within h.resolves)

-- and so they are of a program with other positions
pub spelt : (words : List Told) (p q : Syntax) → IsProgram words q → Same q p → IsSpelt (symbols words) p
spelt words p q h same =
    let s = spelt_so words q h in
    let declared = subst (λ ds. AreCommands (scope s.labels ds) 100 s.doing (the_end ∷ []) 0 s.mitigates (unplaced (plan_of q))) same.declarations s.commands in
    record {
      labels = s.labels;
      declared = s.declared;
      doing = s.doing;
      mitigates = s.mitigates;
      header = subst (λ ps. IsHeader (symbols words) s.declared s.labels ps) same.pairs s.header;
      declarations = subst (λ ds. AreDeclarations s.labels s.declared s.doing ds) same.declarations s.declarations;
      commands = subst (λ c. AreCommands (scope s.labels p.declarations) 100 s.doing (the_end ∷ []) 0 s.mitigates c) same.commands declared;
      differ = s.differ;
      once = subst (λ ds. AllDiffer (map (λ d. d.0) ds)) same.declarations s.once;
      few = subst AreFew same.declarations s.few;
      order = subst (λ o. IsBuilt s.labels p.pairs o) same.order (subst (λ ps. IsBuilt s.labels ps q.order) same.pairs s.order);
    }
