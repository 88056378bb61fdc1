-- Words that are spelt by the grammar have a tree: each part of the grammar is a part of a tree, within the limits and with right names.
use Rattle.std.proofs.Common.{◌≡◌, ◌≤◌, ◌+◌, ◌∙◌, refl, ap, ap₂, sym, subst, ℕ, pos, List, [], ◌∷◌, length, Option, Some, None, arith}
use Rattle.std.specs.Prelude.{map}
use Rattle.text_base.specs.declared.pos.Pos.{Pos}
use Rattle.label_lattice.specs.declared.label.Label.{Label}
use Rattle.label_lattice.specs.Order.{AllDiffer}
use Rattle.label_lattice.specs.Chains.{IsBuilt}
use Rattle.mit_syntax.specs.declared.token.Keyword.TheVariants as key
use Rattle.mit_syntax.specs.declared.token.Sign.TheVariants as sign
use Rattle.mit_syntax.specs.Operators.{op_sign}
use Rattle.mit_syntax.specs.Expression.{Expression, Variable, Element, Binary}
use Rattle.mit_syntax.specs.Todo.{Skip, Assign, Put, Sleep, If, While, Mitigate, Done}
use Rattle.mit_syntax.specs.Plan.{Plan}
use Rattle.mit_syntax.specs.Declarations.{Declaration, AreFew}
use Rattle.mit_syntax.specs.Program.{Syntax, plan_of}
use Rattle.mit_parser.specs.Words.{Symbol, the_end, Told, sign_at, key_at, name_at, end_at}
use Rattle.mit_parser.specs.Scope.{Scope, scope, as_label, or_else}
use Rattle.mit_parser.specs.Tree.{ExpressionTree, number_of, name_of, parens_of, binary_of, no_index, index_of, AndName, no_name, and_name, Marks}
use Rattle.mit_parser.specs.Tree.{no_marks, marks_of}
use Rattle.mit_parser.specs.Tree.{CommandTree, skip_of, assign_of, sleep_of, if_of, while_of, mitigate_of, Block, block_of, ElsePart, no_else, else_of}
use Rattle.mit_parser.specs.Tree.{commands_of, More, no_more, and_more, MoreNames, no_more_names, and_more_names, PairTree, pair_of, MorePairs}
use Rattle.mit_parser.specs.Tree.{no_more_pairs, and_pair, Ordering, no_ordering, ordering_of, Header, no_header, header_of, no_label, label_of, scalar_of}
use Rattle.mit_parser.specs.Tree.{array_of, Shape, declaration_of, Declarations, no_declarations, and_declaration, ProgramTree}
use Rattle.mit_parser.specs.Tree.{front_expression, front_and_name, front_marks, front_command, front_block, front_else, front_more, front_more_names}
use Rattle.mit_parser.specs.Tree.{front_more_pairs, front_pair, front_ordering, front_header, front_declaration, front_declarations}
use Rattle.mit_parser.specs.Limits.{expression_depth, expression_size, IsWithin, CommandWithin, BlockWithin, ElseWithin, MoreWithin}
use Rattle.mit_parser.specs.Meaning.{expression_value, and_name_value, marks_value, plan_command, plan_block, plan_else, plan_commands, plan_more}
use Rattle.mit_parser.specs.Meaning.{next_command, next_block, next_else, next_more}
use Rattle.mit_parser.specs.Faults.{decl_of, shape_label, shape_length, ordering_numbers, more_numbers, pair_numbers, as_labels}
use Rattle.mit_parser.specs.Named.{ExpressionNamed, SecondNamed, MarksNamed, CommandNamed, BlockNamed, ElseNamed, MoreNamed, OrderingNamed}
use Rattle.mit_parser.specs.Named.{PairNamed, PairsNamed, ShapeNamed, ShapesNamed, HeaderNamed, CommandsNamed, IsNamed, more_labels, label_names, label_pairs}
use Rattle.mit_parser.specs.Named.{declarations_in}
use Rattle.mit_parser.specs.Spells.{IsProgram}
use Rattle.parse_laws.specs.ReadBack.{unplaced, Same}
use Rattle.parse_laws.specs.Grammar.{symbols, the_number, Unplaced, IsExpression, a_number, a_scalar, an_element, in_brackets}
use Rattle.parse_laws.specs.Grammar.{an_operation, IsWhole, IsSecond, no_second, a_second, AreMarks, one_mark, two_marks, IsCommand, a_skip}
use Rattle.parse_laws.specs.Grammar.{an_assignment, to_an_element, a_sleep, a_branch, a_loop, a_mitigate, IsBlock, a_block, IsElse, an_else, AreCommands}
use Rattle.parse_laws.specs.Grammar.{last_command, more_commands, IsDeclaration, a_bare_scalar, a_labelled_scalar, an_array, AreDeclarations, one_more}
use Rattle.parse_laws.specs.Grammar.{AreNames, last_name, more_names, ArePairs, last_pair, more_pairs, IsOrdering, no_order, an_order, IsHeader, a_header}
use Rattle.parse_laws.specs.Grammar.{IsSpelt, no_more as no_more_declarations, no_marks as no_marks_here, no_else as no_else_here, no_header as no_header_here}

abbrev number_at : ℕ → Pos → Told
number_at n p = record { symbol = the_number (pos n); pos = p }

-- the first of these words is this one, and these are the others
record First (words : List Told) (x : Symbol) (xs : List Symbol) : Type 0 where
  at : Pos
  others : List Told
  are : words ≡ record { symbol = x; pos = at } ∷ others
  left : symbols others ≡ xs

abbrev head : Symbol → List Symbol → Symbol
head x [] = x
head x (y ∷ ys) = y

abbrev tail : List Symbol → List Symbol
tail [] = []
tail (y ∷ ys) = ys

first : (words : List Told) (x : Symbol) (xs : List Symbol) → symbols words ≡ x ∷ xs → First words x xs
first [] x xs e = let none = ap length e in absurd (omega (arith, none))
first (b ∷ w) x xs e =
    record { at = b.pos; others = w; are = ap (λ s. record { symbol = s; pos = b.pos } ∷ w) (ap (head x) e); left = ap tail e }

record ExpressionOf (sc : Scope) (room least : ℕ) (words : List Told) (rest : List Symbol) (e : Expression) (n : ℕ) : Type 0 where
  tree : ExpressionTree least
  behind : List Told
  are : words ≡ front_expression tree behind
  left : symbols behind ≡ rest
  deep : expression_depth tree ≤ room
  size : expression_size tree ≡ n
  named : ExpressionNamed sc.declarations tree
  means : expression_value sc tree ≡ e

expression : (sc : Scope) (room least : ℕ) (ws rest : List Symbol) (e : Expression) (n : ℕ) → IsExpression sc.declarations room least ws rest e n
    → (words : List Told) → symbols words ≡ ws → ExpressionOf sc room least words rest e n
expression sc room least ws rest e n (a_number {n = k}) words q =
    let f = first words _ _ q in
    record { tree = number_of k f.at; behind = f.others; are = f.are; left = f.left; deep = omega arith; size = refl; named = tt; means = refl }
expression sc room least ws rest e n (a_scalar {x = x} {w = w} is) words q =
    let f = first words _ _ q in
    record {
      tree = name_of w f.at no_index;
      behind = f.others;
      are = f.are;
      left = f.left;
      deep = omega arith;
      size = refl;
      named = ((x, is), tt);
      means = ap (λ z. Variable (or_else 0 z)) is;
    }
expression sc room least ws rest e n (an_element {inner = inner} {w = w} {a = a} {i = i} is less x) words q =
    let f = first words _ _ q in
    let g = first f.others _ _ f.left in
    let b = expression sc inner 1 _ _ i n x g.others g.left in
    let c = first b.behind _ _ b.left in
    let deep = b.deep in
    record {
      tree = name_of w f.at (index_of g.at b.tree c.at);
      behind = c.others;
      are = f.are ∙ ap (λ l. name_at w f.at ∷ l) (g.are ∙ ap (λ l. sign_at sign.LeftSquare g.at ∷ l) (b.are ∙ ap (front_expression b.tree) c.are));
      left = c.left;
      deep = omega (arith, deep, less);
      size = b.size;
      named = ((a, is), b.named);
      means = ap₂ (λ z v. Element (or_else {A = ℕ × ℕ} (0, 0) z).0 (or_else {A = ℕ × ℕ} (0, 0) z).1 v) is b.means;
    }
expression sc room least ws rest e n (in_brackets {inner = inner} less x) words q =
    let f = first words _ _ q in
    let b = expression sc inner 1 _ _ e n x f.others f.left in
    let c = first b.behind _ _ b.left in
    let deep = b.deep in
    record {
      tree = parens_of f.at b.tree c.at;
      behind = c.others;
      are = f.are ∙ ap (λ l. sign_at sign.LeftRound f.at ∷ l) (b.are ∙ ap (front_expression b.tree) c.are);
      left = c.left;
      deep = omega (arith, deep, less);
      size = b.size;
      named = b.named;
      means = b.means;
    }
expression sc room least ws rest e n (an_operation {m = m} {n = k} {e = l} {f = r} {o = o} g x y) words q =
    let a = expression sc room _ _ _ l m x words q in
    let f = first a.behind _ _ a.left in
    let b = expression sc room _ _ _ r k y f.others f.left in
    let left_deep = a.deep in
    let right_deep = b.deep in
    record {
      tree = binary_of o g a.tree f.at b.tree;
      behind = b.behind;
      are = a.are ∙ ap (front_expression a.tree) (f.are ∙ ap (λ l. sign_at (op_sign o) f.at ∷ l) b.are);
      left = b.left;
      deep = omega (arith, left_deep, right_deep);
      size = ap₂ (λ u v. u + 1 + v) a.size b.size;
      named = (a.named, b.named);
      means = ap₂ (λ u v. Binary o u v) a.means b.means;
    }

record WholeOf (sc : Scope) (room : ℕ) (words : List Told) (rest : List Symbol) (e : Expression) : Type 0 where
  tree : ExpressionTree 1
  behind : List Told
  are : words ≡ front_expression tree behind
  left : symbols behind ≡ rest
  within : (d : ℕ) → d + room ≤ 100 → IsWithin d tree
  named : ExpressionNamed sc.declarations tree
  means : expression_value sc tree ≡ e

whole : (sc : Scope) (room : ℕ) (ws rest : List Symbol) (e : Expression) → IsWhole sc.declarations room ws rest e
    → (words : List Told) → symbols words ≡ ws → WholeOf sc room words rest e
whole sc room ws rest e h words q =
    let a = expression sc room 1 ws rest e h.operators h.expression words q in
    let deep = a.deep in
    record {
      tree = a.tree;
      behind = a.behind;
      are = a.are;
      left = a.left;
      within = λ d s. (omega (arith, deep, s), subst (λ n. n ≤ 256) (sym a.size) h.few);
      named = a.named;
      means = a.means;
    }

record SecondOf (labels : List (List ℕ)) (words : List Told) (rest : List Symbol) (l : Option Label) : Type 0 where
  tree : AndName
  behind : List Told
  are : words ≡ front_and_name tree behind
  left : symbols behind ≡ rest
  named : SecondNamed labels tree
  means : and_name_value labels tree ≡ l

second : (labels : List (List ℕ)) (ws rest : List Symbol) (l : Option Label) → IsSecond labels ws rest l → (words : List Told) → symbols words ≡ ws
    → SecondOf labels words rest l
second labels ws rest l no_second words q = record { tree = no_name; behind = words; are = refl; left = q; named = tt; means = refl }
second labels ws rest l (a_second {w = w} {x = x} is) words q =
    let f = first words _ _ q in
    let g = first f.others _ _ f.left in
    record {
      tree = and_name f.at w g.at;
      behind = g.others;
      are = f.are ∙ ap (λ l. sign_at sign.Comma f.at ∷ l) g.are;
      left = g.left;
      named = (x, is);
      means = ap (λ z. Some (as_label (or_else 0 z))) is;
    }

record MarksFound (labels : List (List ℕ)) (words : List Told) (rest : List Symbol) (m : Option (Label × Label)) : Type 0 where
  tree : Marks
  behind : List Told
  are : words ≡ front_marks tree behind
  left : symbols behind ≡ rest
  named : MarksNamed labels tree
  means : marks_value labels tree ≡ m

marks : (labels : List (List ℕ)) (ws rest : List Symbol) (m : Option (Label × Label)) → AreMarks labels ws rest m → (words : List Told)
    → symbols words ≡ ws → MarksFound labels words rest m
marks labels ws rest m no_marks_here words q = record { tree = no_marks; behind = words; are = refl; left = q; named = tt; means = refl }
marks labels ws rest m (one_mark {w = w} {x = x} is) words q =
    let f = first words _ _ q in
    let g = first f.others _ _ f.left in
    let h = first g.others _ _ g.left in
    let i = first h.others _ _ h.left in
    record {
      tree = marks_of f.at g.at w h.at no_name i.at;
      behind = i.others;
      are = f.are ∙ ap (λ l. sign_at sign.At f.at ∷ l)
          (g.are ∙ ap (λ l. sign_at sign.LeftSquare g.at ∷ l) (h.are ∙ ap (λ l. name_at w h.at ∷ l) i.are));
      left = i.left;
      named = ((x, is), tt);
      means = ap (λ z. Some (as_label (or_else 0 z), as_label (or_else 0 z))) is;
    }
marks labels ws rest m (two_marks {w = w} {v = v} {x = x} {y = y} is are) words q =
    let f = first words _ _ q in
    let g = first f.others _ _ f.left in
    let h = first g.others _ _ g.left in
    let i = first h.others _ _ h.left in
    let j = first i.others _ _ i.left in
    let k = first j.others _ _ j.left in
    record {
      tree = marks_of f.at g.at w h.at (and_name i.at v j.at) k.at;
      behind = k.others;
      are = f.are ∙ ap (λ l. sign_at sign.At f.at ∷ l)
          (g.are ∙ ap (λ l. sign_at sign.LeftSquare g.at ∷ l)
          (h.are ∙ ap (λ l. name_at w h.at ∷ l) (i.are ∙ ap (λ l. sign_at sign.Comma i.at ∷ l) (j.are ∙ ap (λ l. name_at v j.at ∷ l) k.are))));
      left = k.left;
      named = ((x, is), (y, are));
      means = ap₂ (λ z c. Some (as_label (or_else 0 z), as_label (or_else 0 c))) is are;
    }

record CommandOf (sc : Scope) (room k n : ℕ) (words : List Told) (rest : List Symbol) (q p : Unplaced) : Type 0 where
  tree : CommandTree
  behind : List Told
  are : words ≡ front_command tree behind
  left : symbols behind ≡ rest
  within : (d : ℕ) → d + room ≤ 100 → CommandWithin d tree
  named : CommandNamed sc tree
  next : next_command tree k ≡ n
  means : (after : Plan) → unplaced after ≡ q → unplaced (plan_command sc k tree after) ≡ p

record BlockOf (sc : Scope) (room k n : ℕ) (words : List Told) (rest : List Symbol) (p : Unplaced) : Type 0 where
  tree : Block
  behind : List Told
  are : words ≡ front_block tree behind
  left : symbols behind ≡ rest
  within : (d : ℕ) → d + room ≤ 100 → BlockWithin d tree
  named : BlockNamed sc tree
  next : next_block tree k ≡ n
  means : unplaced (plan_block sc k tree) ≡ p

record ElseOf (sc : Scope) (room k n : ℕ) (words : List Told) (rest : List Symbol) (p : Unplaced) : Type 0 where
  tree : ElsePart
  behind : List Told
  are : words ≡ front_else tree behind
  left : symbols behind ≡ rest
  within : (d : ℕ) → d + room ≤ 100 → ElseWithin d tree
  named : ElseNamed sc tree
  next : next_else tree k ≡ n
  means : (at : Pos) → unplaced (plan_else sc at k tree) ≡ p

record ListOf (sc : Scope) (room k n : ℕ) (words : List Told) (rest : List Symbol) (p : Unplaced) : Type 0 where
  tree : CommandTree
  more : More
  behind : List Told
  are : words ≡ front_command tree (front_more more behind)
  left : symbols behind ≡ rest
  within : (d : ℕ) → d + room ≤ 100 → CommandWithin d tree × MoreWithin d more
  named : CommandNamed sc tree × MoreNamed sc more
  next : next_more more (next_command tree k) ≡ n
  means : unplaced (plan_command sc k tree (plan_more sc (next_command tree k) more)) ≡ p

-- commands whose parts are the same
assigned : {m m' : Option (Label × Label)} {x x' : ℕ} {e e' : Expression} {q q' : Unplaced} → m ≡ m' → x ≡ x' → e ≡ e' → q ≡ q'
    → Assign m x e q ≡ Assign m' x' e' q'
assigned a b c d = cc (a, b, c, d)

put : {m m' : Option (Label × Label)} {f f' n n' : ℕ} {i i' e e' : Expression} {q q' : Unplaced} → m ≡ m' → f ≡ f' → n ≡ n' → i ≡ i' → e ≡ e'
    → q ≡ q' → Put m f n i e q ≡ Put m' f' n' i' e' q'
put a b c d e f = cc (a, b, c, d, e, f)

slept : {m m' : Option (Label × Label)} {e e' : Expression} {q q' : Unplaced} → m ≡ m' → e ≡ e' → q ≡ q' → Sleep m e q ≡ Sleep m' e' q'
slept a b c = cc (a, b, c)

branched : {m m' : Option (Label × Label)} {e e' : Expression} {c c' d d' q q' : Unplaced} → m ≡ m' → e ≡ e' → c ≡ c' → d ≡ d' → q ≡ q'
    → If m e c d q ≡ If m' e' c' d' q'
branched a b c d e = cc (a, b, c, d, e)

looped : {m m' : Option (Label × Label)} {e e' : Expression} {c c' q q' : Unplaced} → m ≡ m' → e ≡ e' → c ≡ c' → q ≡ q'
    → While m e c q ≡ While m' e' c' q'
looped a b c d = cc (a, b, c, d)

mitigated : {m m' : Option (Label × Label)} {k : ℕ} {l l' : Option Label} {e e' : Expression} {c c' q q' : Unplaced} → m ≡ m' → l ≡ l' → e ≡ e'
    → c ≡ c' → q ≡ q' → Mitigate m k l e c q ≡ Mitigate m' k l' e' c' q'
mitigated a b c d e = cc (a, b, c, d, e)

mutual
  command : (sc : Scope) (room k n : ℕ) (ws rest : List Symbol) (q p : Unplaced) → IsCommand sc room ws rest k n q p → (words : List Told)
      → symbols words ≡ ws → CommandOf sc room k n words rest q p
  command sc room k n ws rest q p (a_skip {m = m} x) words e =
      let f = first words _ _ e in
      let a = marks sc.labels _ rest m x f.others f.left in
      record {
        tree = skip_of f.at a.tree;
        behind = a.behind;
        are = f.are ∙ ap (λ l. key_at key.Skip f.at ∷ l) a.are;
        left = a.left;
        within = λ d s. tt;
        named = a.named;
        next = refl;
        means = λ after same. ap₂ Skip a.means same;
      }
  command sc room k n ws rest q p (an_assignment {x = v} {w = w} {e = value} {m = m} is x y) words e =
      let f = first words _ _ e in
      let g = first f.others _ _ f.left in
      let a = whole sc room _ _ value x g.others g.left in
      let b = marks sc.labels _ rest m y a.behind a.left in
      record {
        tree = assign_of w f.at no_index g.at a.tree b.tree;
        behind = b.behind;
        are = f.are ∙ ap (λ l. name_at w f.at ∷ l) (g.are ∙ ap (λ l. sign_at sign.Assign g.at ∷ l) (a.are ∙ ap (front_expression a.tree) b.are));
        left = b.left;
        within = λ d s. (tt, a.within d s);
        named = ((v, is), tt, a.named, b.named);
        next = refl;
        means = λ after same. assigned b.means (ap (or_else 0) is) a.means same;
      }
  command sc room k n ws rest q p (to_an_element {inner = inner} {a = v} {w = w} {i = index} {e = value} {m = m} is less x y z) words e =
      let f = first words _ _ e in
      let g = first f.others _ _ f.left in
      let i = whole sc inner _ _ index x g.others g.left in
      let h = first i.behind _ _ i.left in
      let j = first h.others _ _ h.left in
      let a = whole sc room _ _ value y j.others j.left in
      let b = marks sc.labels _ rest m z a.behind a.left in
      record {
        tree = assign_of w f.at (index_of g.at i.tree h.at) j.at a.tree b.tree;
        behind = b.behind;
        are = f.are ∙ ap (λ l. name_at w f.at ∷ l) (g.are ∙ ap (λ l. sign_at sign.LeftSquare g.at ∷ l) (i.are ∙ ap (front_expression i.tree)
            (h.are ∙ ap (λ l. sign_at sign.RightSquare h.at ∷ l)
            (j.are ∙ ap (λ l. sign_at sign.Assign j.at ∷ l) (a.are ∙ ap (front_expression a.tree) b.are)))));
        left = b.left;
        within = λ d s. (i.within (d + 1) (omega (arith, s, less)), a.within d s);
        named = ((v, is), i.named, a.named, b.named);
        next = refl;
        means = λ after same. put b.means (ap (λ z. (or_else {A = ℕ × ℕ} (0, 0) z).0) is) (ap (λ z. (or_else {A = ℕ × ℕ} (0, 0) z).1) is) i.means a.means same;
      }
  command sc room k n ws rest q p (a_sleep {e = value} {m = m} x y) words e =
      let f = first words _ _ e in
      let a = whole sc room _ _ value x f.others f.left in
      let b = marks sc.labels _ rest m y a.behind a.left in
      record {
        tree = sleep_of f.at a.tree b.tree;
        behind = b.behind;
        are = f.are ∙ ap (λ l. key_at key.Sleep f.at ∷ l) (a.are ∙ ap (front_expression a.tree) b.are);
        left = b.left;
        within = a.within;
        named = (a.named, b.named);
        next = refl;
        means = λ after same. slept b.means a.means same;
      }
  command sc room k n ws rest q p (a_branch {j = j} {e = value} {m = m} {a = yes'} {b = no'} x y z u) words e =
      let f = first words _ _ e in
      let a = whole sc room _ _ value x f.others f.left in
      let b = marks sc.labels _ _ m y a.behind a.left in
      let g = first b.behind _ _ b.left in
      let c = block sc room k j _ _ yes' z g.others g.left in
      let d = else_part sc room j n _ rest no' u c.behind c.left in
      record {
        tree = if_of f.at a.tree b.tree g.at c.tree d.tree;
        behind = d.behind;
        are = f.are ∙ ap (λ l. key_at key.If f.at ∷ l) (a.are ∙ ap (front_expression a.tree) (b.are ∙ ap (front_marks b.tree)
            (g.are ∙ ap (λ l. key_at key.Then g.at ∷ l) (c.are ∙ ap (front_block c.tree) d.are))));
        left = d.left;
        within = λ at s. (a.within at s, c.within at s, d.within at s);
        named = (a.named, b.named, c.named, d.named);
        next = ap (next_else d.tree) c.next ∙ d.next;
        means = λ after same. branched b.means a.means c.means (ap (λ i. unplaced (plan_else sc f.at i d.tree)) c.next ∙ d.means f.at) same;
      }
  command sc room k n ws rest q p (a_loop {e = value} {m = m} {c = body} x y z) words e =
      let f = first words _ _ e in
      let a = whole sc room _ _ value x f.others f.left in
      let b = marks sc.labels _ _ m y a.behind a.left in
      let g = first b.behind _ _ b.left in
      let c = block sc room k n _ rest body z g.others g.left in
      record {
        tree = while_of f.at a.tree b.tree g.at c.tree;
        behind = c.behind;
        are = f.are ∙ ap (λ l. key_at key.While f.at ∷ l) (a.are ∙ ap (front_expression a.tree) (b.are ∙ ap (front_marks b.tree)
            (g.are ∙ ap (λ l. key_at key.Do g.at ∷ l) c.are)));
        left = c.left;
        within = λ at s. (a.within at s, c.within at s);
        named = (a.named, b.named, c.named);
        next = c.next;
        means = λ after same. looped b.means a.means c.means same;
      }
  command sc room k n ws rest q p (a_mitigate {inner = inner} {e = value} {l = level} {m = m} {c = body} less x y z u) words e =
      let f = first words _ _ e in
      let g = first f.others _ _ f.left in
      let a = whole sc inner _ _ value x g.others g.left in
      let l = second sc.labels _ _ level y a.behind a.left in
      let h = first l.behind _ _ l.left in
      let b = marks sc.labels _ _ m z h.others h.left in
      let c = block sc room (k + 1) n _ rest body u b.behind b.left in
      record {
        tree = mitigate_of f.at g.at a.tree l.tree h.at b.tree c.tree;
        behind = c.behind;
        are = f.are ∙ ap (λ l. key_at key.Mitigate f.at ∷ l) (g.are ∙ ap (λ l. sign_at sign.LeftRound g.at ∷ l)
            (a.are ∙ ap (front_expression a.tree) (l.are ∙ ap (front_and_name l.tree)
            (h.are ∙ ap (λ l. sign_at sign.RightRound h.at ∷ l) (b.are ∙ ap (front_marks b.tree) c.are)))));
        left = c.left;
        within = λ d s. (a.within (d + 1) (omega (arith, s, less)), c.within d s);
        named = (a.named, l.named, b.named, c.named);
        next = c.next;
        means = λ after same. mitigated b.means l.means a.means c.means same;
      }

  block : (sc : Scope) (room k n : ℕ) (ws rest : List Symbol) (p : Unplaced) → IsBlock sc room ws rest k n p → (words : List Told)
      → symbols words ≡ ws → BlockOf sc room k n words rest p
  block sc room k n ws rest p (a_block {inner = inner} less x) words e =
      let f = first words _ _ e in
      let a = list sc inner k n _ _ p x f.others f.left in
      let g = first a.behind _ _ a.left in
      record {
        tree = block_of f.at (commands_of a.tree a.more) g.at;
        behind = g.others;
        are = f.are ∙ ap (λ l. sign_at sign.LeftBrace f.at ∷ l) (a.are ∙ ap (λ l. front_command a.tree (front_more a.more l)) g.are);
        left = g.left;
        within = λ d s. (omega (arith, s, less), a.within (d + 1) (omega (arith, s, less)));
        named = a.named;
        next = a.next;
        means = a.means;
      }

  else_part : (sc : Scope) (room k n : ℕ) (ws rest : List Symbol) (p : Unplaced) → IsElse sc room ws rest k n p → (words : List Told)
      → symbols words ≡ ws → ElseOf sc room k n words rest p
  else_part sc room k n ws rest p no_else_here words e =
      record { tree = no_else; behind = words; are = refl; left = e; within = λ d s. tt; named = tt; next = refl; means = λ at. refl }
  else_part sc room k n ws rest p (an_else x) words e =
      let f = first words _ _ e in
      let a = block sc room k n _ rest p x f.others f.left in
      record {
        tree = else_of f.at a.tree;
        behind = a.behind;
        are = f.are ∙ ap (λ l. key_at key.Else f.at ∷ l) a.are;
        left = a.left;
        within = a.within;
        named = a.named;
        next = a.next;
        means = λ at. a.means;
      }

  list : (sc : Scope) (room k n : ℕ) (ws rest : List Symbol) (p : Unplaced) → AreCommands sc room ws rest k n p → (words : List Told)
      → symbols words ≡ ws → ListOf sc room k n words rest p
  list sc room k n ws rest p (last_command x) words e =
      let a = command sc room k n ws rest Done p x words e in
      record {
        tree = a.tree;
        more = no_more;
        behind = a.behind;
        are = a.are;
        left = a.left;
        within = λ d s. (a.within d s, tt);
        named = (a.named, tt);
        next = a.next;
        means = a.means Done refl;
      }
  list sc room k n ws rest p (more_commands {j = j} {q = q} x y) words e =
      let a = command sc room k j ws _ q p x words e in
      let f = first a.behind _ _ a.left in
      let b = list sc room j n _ rest q y f.others f.left in
      record {
        tree = a.tree;
        more = and_more f.at b.tree b.more;
        behind = b.behind;
        are = a.are ∙ ap (front_command a.tree) (f.are ∙ ap (λ l. sign_at sign.Semicolon f.at ∷ l) b.are);
        left = b.left;
        within = λ d s. (a.within d s, b.within d s);
        named = (a.named, b.named);
        next = ap (λ i. next_more b.more (next_command b.tree i)) a.next ∙ b.next;
        means = a.means (plan_more sc (next_command a.tree k) (and_more f.at b.tree b.more))
            (ap (λ i. unplaced (plan_command sc i b.tree (plan_more sc (next_command b.tree i) b.more))) a.next ∙ b.means);
      }

record DeclarationOf (labels : List (List ℕ)) (words : List Told) (rest : List Symbol) (d : Declaration) : Type 0 where
  first_at : Pos
  name_place : Pos
  shape : Shape
  last_at : Pos
  behind : List Told
  are : words ≡ front_declaration (declaration_of first_at d.0 name_place shape last_at) behind
  left : symbols behind ≡ rest
  named : ShapeNamed labels shape
  means : decl_of labels (shape_label shape) (shape_length shape) ≡ d.1

declaration : (labels : List (List ℕ)) (ws rest : List Symbol) (d : Declaration) → IsDeclaration labels ws rest d → (words : List Told)
    → symbols words ≡ ws → DeclarationOf labels words rest d
declaration labels ws rest d (a_bare_scalar {w = w}) words e =
    let f = first words _ _ e in
    let g = first f.others _ _ f.left in
    let h = first g.others _ _ g.left in
    record {
      first_at = f.at;
      name_place = g.at;
      shape = scalar_of no_label;
      last_at = h.at;
      behind = h.others;
      are = f.are ∙ ap (λ l. key_at key.Var f.at ∷ l) (g.are ∙ ap (λ l. name_at w g.at ∷ l) h.are);
      left = h.left;
      named = tt;
      means = refl;
    }
declaration labels ws rest d (a_labelled_scalar {w = w} {v = v} {x = x} is) words e =
    let f = first words _ _ e in
    let g = first f.others _ _ f.left in
    let h = first g.others _ _ g.left in
    let i = first h.others _ _ h.left in
    let j = first i.others _ _ i.left in
    record {
      first_at = f.at;
      name_place = g.at;
      shape = scalar_of (label_of h.at v i.at);
      last_at = j.at;
      behind = j.others;
      are = f.are ∙ ap (λ l. key_at key.Var f.at ∷ l) (g.are ∙ ap (λ l. name_at w g.at ∷ l)
          (h.are ∙ ap (λ l. sign_at sign.Colon h.at ∷ l) (i.are ∙ ap (λ l. name_at v i.at ∷ l) j.are)));
      left = j.left;
      named = (x, is);
      means = ap (λ z. record { label = Some (as_label (or_else 0 z)); length = None }) is;
    }
declaration labels ws rest d (an_array {w = w} {v = v} {n = n} {x = x} some is) words e =
    let f = first words _ _ e in
    let g = first f.others _ _ f.left in
    let h = first g.others _ _ g.left in
    let i = first h.others _ _ h.left in
    let j = first i.others _ _ i.left in
    let k = first j.others _ _ j.left in
    let l = first k.others _ _ k.left in
    let o = first l.others _ _ l.left in
    record {
      first_at = f.at;
      name_place = g.at;
      shape = array_of h.at (pos n) i.at j.at k.at v l.at;
      last_at = o.at;
      behind = o.others;
      are = f.are ∙ ap (λ l. key_at key.Var f.at ∷ l) (g.are ∙ ap (λ l. name_at w g.at ∷ l)
          (h.are ∙ ap (λ l. sign_at sign.LeftSquare h.at ∷ l) (i.are ∙ ap (λ l. number_at n i.at ∷ l)
          (j.are ∙ ap (λ l. sign_at sign.RightSquare j.at ∷ l) (k.are ∙ ap (λ l. sign_at sign.Colon k.at ∷ l)
          (l.are ∙ ap (λ m. name_at v l.at ∷ m) o.are))))));
      left = o.left;
      named = (some, (x, is));
      means = ap (λ z. record { label = Some (as_label (or_else 0 z)); length = Some n }) is;
    }

record DeclarationsOf (labels : List (List ℕ)) (words : List Told) (rest : List Symbol) (ds : List Declaration) : Type 0 where
  tree : Declarations
  behind : List Told
  are : words ≡ front_declarations tree behind
  left : symbols behind ≡ rest
  named : ShapesNamed labels tree
  means : declarations_in labels tree ≡ ds

declarations : (labels : List (List ℕ)) (ws rest : List Symbol) (ds : List Declaration) → AreDeclarations labels ws rest ds → (words : List Told)
    → symbols words ≡ ws → DeclarationsOf labels words rest ds
declarations labels ws rest ds no_more_declarations words e =
    record { tree = no_declarations; behind = words; are = refl; left = e; named = tt; means = refl }
declarations labels ws rest ds (one_more {vs = vs} {d = d} {ds = others} x y) words e =
    let a = declaration labels ws vs d x words e in
    let b = declarations labels vs rest others y a.behind a.left in
    record {
      tree = and_declaration (declaration_of a.first_at d.0 a.name_place a.shape a.last_at) b.tree;
      behind = b.behind;
      are = a.are ∙ ap (front_declaration (declaration_of a.first_at d.0 a.name_place a.shape a.last_at)) b.are;
      left = b.left;
      named = (a.named, b.named);
      means = ap₂ (λ u v. (d.0, u) ∷ v) a.means b.means;
    }

record NamesOf (words : List Told) (rest : List Symbol) (names : List (List ℕ)) : Type 0 where
  name : List ℕ
  at : Pos
  more : MoreNames
  behind : List Told
  are : words ≡ name_at name at ∷ front_more_names more behind
  left : symbols behind ≡ rest
  means : name ∷ more_labels more ≡ names

names_in : (ws rest : List Symbol) (names : List (List ℕ)) → AreNames ws rest names → (words : List Told) → symbols words ≡ ws → NamesOf words rest names
names_in ws rest names (last_name {w = w}) words e =
    let f = first words _ _ e in
    record { name = w; at = f.at; more = no_more_names; behind = f.others; are = f.are; left = f.left; means = refl }
names_in ws rest names (more_names {w = w} {names = others} x) words e =
    let f = first words _ _ e in
    let g = first f.others _ _ f.left in
    let a = names_in _ rest others x g.others g.left in
    record {
      name = w;
      at = f.at;
      more = and_more_names g.at a.name a.at a.more;
      behind = a.behind;
      are = f.are ∙ ap (λ l. name_at w f.at ∷ l) (g.are ∙ ap (λ l. sign_at sign.Comma g.at ∷ l) a.are);
      left = a.left;
      means = ap (λ l. w ∷ l) a.means;
    }

record PairsOf (labels : List (List ℕ)) (words : List Told) (rest : List Symbol) (ps : List (Label × Label)) : Type 0 where
  pair : PairTree
  more : MorePairs
  behind : List Told
  are : words ≡ front_pair pair (front_more_pairs more behind)
  left : symbols behind ≡ rest
  named : PairNamed labels pair × PairsNamed labels more
  means : as_labels (pair_numbers labels pair ∷ more_numbers labels more) ≡ ps

pairs_in : (labels : List (List ℕ)) (ws rest : List Symbol) (ps : List (Label × Label)) → ArePairs labels ws rest ps → (words : List Told)
    → symbols words ≡ ws → PairsOf labels words rest ps
pairs_in labels ws rest ps (last_pair {a = a} {b = b} {x = x} {y = y} is are) words e =
    let f = first words _ _ e in
    let g = first f.others _ _ f.left in
    let h = first g.others _ _ g.left in
    record {
      pair = pair_of a f.at g.at b h.at;
      more = no_more_pairs;
      behind = h.others;
      are = f.are ∙ ap (λ l. name_at a f.at ∷ l) (g.are ∙ ap (λ l. sign_at sign.Less g.at ∷ l) h.are);
      left = h.left;
      named = (((x, is), (y, are)), tt);
      means = ap₂ (λ m n. (as_label (or_else 0 m), as_label (or_else 0 n)) ∷ []) is are;
    }
pairs_in labels ws rest ps (more_pairs {a = a} {b = b} {x = x} {y = y} {ps = others} is are z) words e =
    let f = first words _ _ e in
    let g = first f.others _ _ f.left in
    let h = first g.others _ _ g.left in
    let i = first h.others _ _ h.left in
    let c = pairs_in labels _ rest others z i.others i.left in
    record {
      pair = pair_of a f.at g.at b h.at;
      more = and_pair i.at c.pair c.more;
      behind = c.behind;
      are = f.are ∙ ap (λ l. name_at a f.at ∷ l) (g.are ∙ ap (λ l. sign_at sign.Less g.at ∷ l)
          (h.are ∙ ap (λ l. name_at b h.at ∷ l) (i.are ∙ ap (λ l. sign_at sign.Comma i.at ∷ l) c.are)));
      left = c.left;
      named = (((x, is), (y, are)), c.named);
      means = ap₂ (λ m l. m ∷ l) (ap₂ (λ m n. (as_label (or_else 0 m), as_label (or_else 0 n))) is are) c.means;
    }

record OrderingOf (labels : List (List ℕ)) (words : List Told) (rest : List Symbol) (ps : List (Label × Label)) : Type 0 where
  tree : Ordering
  behind : List Told
  are : words ≡ front_ordering tree behind
  left : symbols behind ≡ rest
  named : OrderingNamed labels tree
  means : as_labels (ordering_numbers labels tree) ≡ ps

ordering : (labels : List (List ℕ)) (ws rest : List Symbol) (ps : List (Label × Label)) → IsOrdering labels ws rest ps → (words : List Told)
    → symbols words ≡ ws → OrderingOf labels words rest ps
ordering labels ws rest ps no_order words e = record { tree = no_ordering; behind = words; are = refl; left = e; named = tt; means = refl }
ordering labels ws rest ps (an_order x) words e =
    let f = first words _ _ e in
    let a = pairs_in labels _ _ ps x f.others f.left in
    let g = first a.behind _ _ a.left in
    record {
      tree = ordering_of f.at a.pair a.more g.at;
      behind = g.others;
      are = f.are ∙ ap (λ l. key_at key.Order f.at ∷ l) (a.are ∙ ap (λ l. front_pair a.pair (front_more_pairs a.more l)) g.are);
      left = g.left;
      named = a.named;
      means = a.means;
    }

record HeaderOf (words : List Told) (rest : List Symbol) (labels : List (List ℕ)) (ps : List (Label × Label)) : Type 0 where
  tree : Header
  behind : List Told
  are : words ≡ front_header tree behind
  left : symbols behind ≡ rest
  named : HeaderNamed tree
  names : label_names tree ≡ labels
  pairs : label_pairs tree ≡ ps

header : (ws rest : List Symbol) (labels : List (List ℕ)) (ps : List (Label × Label)) → IsHeader ws rest labels ps → (words : List Told)
    → symbols words ≡ ws → HeaderOf words rest labels ps
header ws rest labels ps no_header_here words e =
    record { tree = no_header; behind = words; are = refl; left = e; named = tt; names = refl; pairs = refl }
header ws rest labels ps (a_header {vs = vs} {names = names} x y) words e =
    let f = first words _ _ e in
    let a = names_in _ _ names x f.others f.left in
    let g = first a.behind _ _ a.left in
    let o = ordering (a.name ∷ more_labels a.more) vs rest ps (subst (λ l. IsOrdering l vs rest ps) (sym a.means) y) g.others g.left in
    record {
      tree = header_of f.at a.name a.at a.more g.at o.tree;
      behind = o.behind;
      are = f.are ∙ ap (λ l. key_at key.Labels f.at ∷ l) (a.are ∙ ap (λ l. name_at a.name a.at ∷ front_more_names a.more l)
          (g.are ∙ ap (λ l. sign_at sign.Semicolon g.at ∷ l) o.are));
      left = o.left;
      named = o.named;
      names = a.means;
      pairs = o.means;
    }

none_left : (words : List Told) → symbols words ≡ [] → words ≡ []
none_left [] e = refl
none_left (b ∷ w) e = let some = ap length e in absurd (omega (arith, some))

-- words that are spelt by the grammar are a program, but for the positions of its commands
pub read : (words : List Told) (p : Syntax) → IsSpelt (symbols words) p → (q : Syntax) × IsProgram words q × Same q p
read words p h =
    let a = header (symbols words) h.declared h.labels p.pairs h.header words refl in
    let b = declarations h.labels h.declared h.doing p.declarations h.declarations a.behind a.left in
    let sc = scope h.labels p.declarations in
    let c = list sc 100 0 h.mitigates h.doing (the_end ∷ []) (unplaced (plan_of p)) h.commands b.behind b.left in
    let f = first c.behind the_end [] c.left in
    let doing = commands_of c.tree c.more in
    let tree : ProgramTree = record { header = a.tree; declarations = b.tree; commands = doing } in
    let named : label_names a.tree ≡ h.labels = a.names in
    let declared : declarations_in (label_names a.tree) b.tree ≡ p.declarations = ap (λ l. declarations_in l b.tree) named ∙ b.means in
    let plan = plan_commands sc 0 doing in
    let q : Syntax = record { order = p.order; pairs = p.pairs; declarations = p.declarations; plan = plan } in
    let ends : c.behind ≡ end_at f.at ∷ [] = f.are ∙ ap (λ l. end_at f.at ∷ l) (none_left f.others f.left) in
    let right : IsNamed tree = record {
      labels = subst AllDiffer (sym named) h.differ;
      pairs = a.named;
      shapes = subst (λ l. ShapesNamed l b.tree) (sym named) b.named;
      once = subst (λ ds. AllDiffer (map (λ d. d.0) ds)) (sym declared) h.once;
      few = subst AreFew (sym declared) h.few;
      uses = subst (λ ds. CommandsNamed (scope (label_names a.tree) ds) doing) (sym declared)
          (subst (λ l. CommandsNamed (scope l p.declarations) doing) (sym named) c.named);
    } in
    let is : IsProgram words q = record {
      tree = tree;
      spells = (
        f.at,
        a.are ∙ ap (front_header a.tree) (b.are ∙ ap (front_declarations b.tree)
            (c.are ∙ ap (λ l. front_command c.tree (front_more c.more l)) ends)),
      );
      within = c.within 0 (omega arith);
      resolves = record {
        named = right;
        order = subst (λ ps. IsBuilt (label_names a.tree) ps p.order) (sym a.pairs) (subst (λ l. IsBuilt l p.pairs p.order) (sym named) h.order);
        pairs = sym a.pairs;
        declarations = sym declared;
        plan = ap (λ l. plan_commands (scope l p.declarations) 0 doing) (sym named);
      };
    } in
    (q, is, record { order = refl; pairs = refl; declarations = refl; commands = c.means })
