-- The same for commands: each whole expression is counted anew.
use Rattle.std.proofs.Common.{◌≡◌, ◌≤◌, ◌+◌, ◌-◌, subst, ℕ, List, [], ◌∷◌, arith}
use Rattle.text_base.specs.declared.pos.Pos.{Pos}
use Rattle.mit_syntax.specs.declared.token.Keyword.TheVariants.{Then, Do}
use Rattle.mit_syntax.specs.declared.token.Sign.TheVariants.{RightRound, RightBrace, RightSquare, Assign, Semicolon}
use Rattle.mit_parser.specs.Words.{Told, sign_at, key_at, end_at}
use Rattle.mit_parser.specs.Tree.{front_expression, Index, no_index, index_of, front_index, AndName, no_name, and_name, Marks, no_marks, marks_of, CommandTree}
use Rattle.mit_parser.specs.Tree.{skip_of, assign_of, sleep_of, if_of, while_of, mitigate_of, Block, block_of, ElsePart, no_else, else_of, Commands}
use Rattle.mit_parser.specs.Tree.{commands_of, More, no_more, and_more, front_and_name, front_marks, front_command, front_block, front_else, front_commands}
use Rattle.mit_parser.specs.Tree.{front_more, MoreNames, no_more_names, and_more_names, pair_of, MorePairs, no_more_pairs, and_pair, Ordering, no_ordering}
use Rattle.mit_parser.specs.Tree.{ordering_of, Header, no_header, header_of, no_label, label_of, Shape, scalar_of, array_of, declaration_of, Declarations}
use Rattle.mit_parser.specs.Tree.{no_declarations, and_declaration, ProgramTree, front_more_names, front_more_pairs, front_ordering, front_header}
use Rattle.mit_parser.specs.Tree.{front_shape, front_declarations, front_program}
use Rattle.mit_parser.specs.Counting.{Fits, nothing_yet}
use Rattle.mit_parser.specs.Limits.{expression_size, IsIndexWithin, CommandWithin, BlockWithin, ElseWithin, CommandsWithin, MoreWithin}
use Rattle.mit_parser.specs.Spells.{Spells}
use Rattle.mit_parser.proofs.Fitting.{counts, low, within_expression}

-- the words fit with some number of operators
pub record FitsSome (d : ℕ) (r : List Told) : Type 0 where
  pub operators : ℕ
  pub few : operators ≤ 256
  pub fit : Fits (counts d operators) r

some_marks : (m : Marks) (d o : ℕ) (r : List Told) → o ≤ 256 → Fits (counts d o) (front_marks m r) → FitsSome d r
some_marks no_marks d o r k f = record { operators = o; few = k; fit = f }
some_marks (marks_of p q w u no_name v) d o r k f = record { operators = 0; few = omega arith; fit = f.1.1.1.1 }
some_marks (marks_of p q w u (and_name a y b) v) d o r k f = record { operators = 0; few = omega arith; fit = f.1.1.1.1.1.1 }

some_second : (l : AndName) (d o : ℕ) (r : List Told) → o ≤ 256 → Fits (counts d o) (front_and_name l r) → FitsSome d r
some_second no_name d o r k f = record { operators = o; few = k; fit = f }
some_second (and_name a y b) d o r k f = record { operators = 0; few = omega arith; fit = f.1.1 }

-- the index of an assigned element, and then `:=`
some_index : (i : Index) (d : ℕ) (q : Pos) (r : List Told) → d ≤ 100 → Fits (counts d 0) (front_index i (sign_at Assign q ∷ r))
    → IsIndexWithin d i × Fits (counts d 0) r
some_index no_index d q r h f = (tt, f.1)
some_index (index_of p e u) d q r h f =
    let l = low (d + 1) 0 f.0 in
    let x = within_expression e (d + 1) 0 (sign_at RightSquare u ∷ sign_at Assign q ∷ r) l.depth (omega arith) f.1 in
    let back : d + 1 - 1 ≡ d = omega arith in
    ((x.0, omega (arith, x.1)), subst (λ n. Fits (counts n 0) r) back x.2.1.1)

mutual
  pub within_command : (c : CommandTree) (d : ℕ) (r : List Told) → d ≤ 100 → Fits (counts d 0) (front_command c r) → CommandWithin d c × FitsSome d r
  within_command (skip_of p m) d r h f = (tt, some_marks m d 0 r (omega arith) f.1)
  within_command (assign_of w p i q e m) d r h f =
      let x = some_index i d q (front_expression e (front_marks m r)) h f.1 in
      let y = within_expression e d 0 (front_marks m r) h (omega arith) x.1 in
      ((x.0, (y.0, omega (arith, y.1))), some_marks m d (0 + expression_size e) r y.1 y.2)
  within_command (sleep_of p e m) d r h f =
      let y = within_expression e d 0 (front_marks m r) h (omega arith) f.1 in
      ((y.0, omega (arith, y.1)), some_marks m d (0 + expression_size e) r y.1 y.2)
  within_command (if_of p e m q b u) d r h f =
      let y = within_expression e d 0 (front_marks m (key_at Then q ∷ front_block b (front_else u r))) h (omega arith) f.1 in
      let n = some_marks m d (0 + expression_size e) (key_at Then q ∷ front_block b (front_else u r)) y.1 y.2 in
      let x = within_block b d 0 (front_else u r) h (omega arith) n.fit.1 in
      let v = within_else u d x.1.operators r h x.1.few x.1.fit in
      (((y.0, omega (arith, y.1)), x.0, v.0), v.1)
  within_command (while_of p e m q b) d r h f =
      let y = within_expression e d 0 (front_marks m (key_at Do q ∷ front_block b r)) h (omega arith) f.1 in
      let n = some_marks m d (0 + expression_size e) (key_at Do q ∷ front_block b r) y.1 y.2 in
      let x = within_block b d 0 r h (omega arith) n.fit.1 in
      (((y.0, omega (arith, y.1)), x.0), x.1)
  within_command (mitigate_of p q e l u m b) d r h f =
      let z = low (d + 1) 0 f.1.0 in
      let y = within_expression e (d + 1) 0 (front_and_name l (sign_at RightRound u ∷ front_marks m (front_block b r))) z.depth (omega arith) f.1.1 in
      let n = some_second l (d + 1) (0 + expression_size e) (sign_at RightRound u ∷ front_marks m (front_block b r)) y.1 y.2 in
      let back : d + 1 - 1 ≡ d = omega arith in
      let k = some_marks m d n.operators (front_block b r) n.few (subst (λ j. Fits (counts j n.operators) (front_marks m (front_block b r))) back n.fit.1) in
      let x = within_block b d k.operators r h k.few k.fit in
      (((y.0, omega (arith, y.1)), x.0), x.1)

  pub within_block : (b : Block) (d o : ℕ) (r : List Told) → d ≤ 100 → o ≤ 256 → Fits (counts d o) (front_block b r) → BlockWithin d b × FitsSome d r
  within_block (block_of p c q) d o r h k f =
      let l = low (d + 1) 0 f.0 in
      let x = within_commands c (d + 1) (sign_at RightBrace q ∷ r) l.depth f.1 in
      let back : d + 1 - 1 ≡ d = omega arith in
      ((l.depth, x.0), record { operators = 0; few = omega arith; fit = subst (λ n. Fits (counts n 0) r) back x.1.fit.1 })

  pub within_else : (u : ElsePart) (d o : ℕ) (r : List Told) → d ≤ 100 → o ≤ 256 → Fits (counts d o) (front_else u r) → ElseWithin d u × FitsSome d r
  within_else no_else d o r h k f = (tt, record { operators = o; few = k; fit = f })
  within_else (else_of p b) d o r h k f = within_block b d 0 r h (omega arith) f.1

  pub within_commands : (c : Commands) (d : ℕ) (r : List Told) → d ≤ 100 → Fits (counts d 0) (front_commands c r) → CommandsWithin d c × FitsSome d r
  within_commands (commands_of c m) d r h f =
      let x = within_command c d (front_more m r) h f in
      let y = within_more m d x.1.operators r h x.1.few x.1.fit in
      ((x.0, y.0), y.1)

  pub within_more : (m : More) (d o : ℕ) (r : List Told) → d ≤ 100 → o ≤ 256 → Fits (counts d o) (front_more m r) → MoreWithin d m × FitsSome d r
  within_more no_more d o r h k f = (tt, record { operators = o; few = k; fit = f })
  within_more (and_more p c m) d o r h k f =
      let x = within_command c d (front_more m r) h f.1 in
      let y = within_more m d x.1.operators r h x.1.few x.1.fit in
      ((x.0, y.0), y.1)

-- headers and declarations pass no limit, and leave nothing
after_names : (m : MoreNames) (o : ℕ) (q : Pos) (r : List Told) → Fits (counts 0 o) (front_more_names m (sign_at Semicolon q ∷ r)) → Fits (counts 0 0) r
after_names no_more_names o q r f = f.1
after_names (and_more_names p w u m) o q r f = after_names m 0 q r f.1.1

after_pairs : (m : MorePairs) (o : ℕ) (q : Pos) (r : List Told) → Fits (counts 0 o) (front_more_pairs m (sign_at Semicolon q ∷ r)) → Fits (counts 0 0) r
after_pairs no_more_pairs o q r f = f.1
after_pairs (and_pair p (pair_of a u v b x) m) o q r f = after_pairs m 1 q r f.1.1.1.1

after_ordering : (t : Ordering) (r : List Told) → Fits (counts 0 0) (front_ordering t r) → Fits (counts 0 0) r
after_ordering no_ordering r f = f
after_ordering (ordering_of p (pair_of a u v b x) m q) r f = after_pairs m 1 q r f.1.1.1.1

after_header : (t : Header) (r : List Told) → Fits (counts 0 0) (front_header t r) → Fits (counts 0 0) r
after_header no_header r f = f
after_header (header_of p w q m u o) r f = after_ordering o r (after_names m 0 u (front_ordering o r) f.1.1)

after_shape : (t : Shape) (q : Pos) (r : List Told) → Fits (counts 0 0) (front_shape t (sign_at Semicolon q ∷ r)) → Fits (counts 0 0) r
after_shape (scalar_of no_label) q r f = f.1
after_shape (scalar_of (label_of p w u)) q r f = f.1.1.1
after_shape (array_of p n u v w x y) q r f = f.1.1.1.1.1.1

after_declarations : (t : Declarations) (r : List Told) → Fits (counts 0 0) (front_declarations t r) → Fits (counts 0 0) r
after_declarations no_declarations r f = f
after_declarations (and_declaration (declaration_of p w q t u) m) r f = after_declarations m r (after_shape t u (front_declarations m r) f.1.1)

-- a tree whose words pass no limit is within the limits
pub tree_within : (words : List Told) (t : ProgramTree) → Spells t words → Fits nothing_yet words → CommandsWithin 0 t.commands
tree_within words t s f =
    let here : Fits (counts 0 0) (front_program t (end_at s.0 ∷ [])) = subst (Fits nothing_yet) s.1 f in
    (within_commands t.commands 0 (end_at s.0 ∷ []) (omega arith)
    (after_declarations t.declarations (front_commands t.commands (end_at s.0 ∷ []))
    (after_header t.header (front_declarations t.declarations (front_commands t.commands (end_at s.0 ∷ []))) here))).0
