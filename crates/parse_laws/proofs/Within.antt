-- The words of a whole program within the limits pass no limit.
use Rattle.std.proofs.Common.{◌≡◌, ◌≤◌, ◌+◌, sym, subst, ℕ, List, [], ◌∷◌, false, arith}
use Rattle.mit_syntax.specs.declared.token.Keyword.TheVariants.{Then, Do}
use Rattle.mit_syntax.specs.declared.token.Sign.TheVariants.{Assign, Semicolon, RightRound, RightBrace}
use Rattle.mit_parser.specs.Words.{Told, sign_at, key_at, end_at}
use Rattle.mit_parser.specs.Counting.{nothing_yet, is_over, Fits}
use Rattle.mit_parser.specs.Limits.{expression_size, IsWithin, IsIndexWithin, CommandWithin, BlockWithin, ElseWithin, CommandsWithin, MoreWithin}
use Rattle.mit_parser.specs.Tree.{Index, ExpressionTree, no_index, index_of, AndName, no_name, and_name, Marks, no_marks, marks_of, CommandTree, skip_of}
use Rattle.mit_parser.specs.Tree.{assign_of, sleep_of, if_of, while_of, mitigate_of, Block, block_of, ElsePart, no_else, else_of, Commands, commands_of}
use Rattle.mit_parser.specs.Tree.{More, no_more, and_more, MoreNames, no_more_names, and_more_names, pair_of, MorePairs, no_more_pairs, and_pair, Ordering}
use Rattle.mit_parser.specs.Tree.{no_ordering, ordering_of, Header, no_header, header_of, no_label, label_of, Shape, scalar_of, array_of, declaration_of}
use Rattle.mit_parser.specs.Tree.{Declarations, no_declarations, and_declaration, ProgramTree, front_expression, front_index, front_and_name, front_marks}
use Rattle.mit_parser.specs.Tree.{front_command, front_block, front_else, front_commands, front_more, front_more_names, front_more_pairs, front_ordering}
use Rattle.mit_parser.specs.Tree.{front_header, front_shape, front_declarations}
use Rattle.mit_parser.specs.Spells.{Spells}
use Rattle.parse_laws.proofs.Counted.{st, calm, closes, fits_index, fits_expression}

-- whatever the operators so far
abbrev Any : ℕ → List Told → Type 0
Any d r = (o : ℕ) → o ≤ 256 → Fits (st d o) r

-- a name after a comma
fits_and_name : (l : AndName) (d o : ℕ) (r : List Told) → d ≤ 100 → o ≤ 256 → Any d r → Fits (st d o) (front_and_name l r)
fits_and_name no_name d o r h k f = f o k
fits_and_name (and_name p w q) d o r h k f = (calm d 0 h (omega arith), (calm d 0 h (omega arith), f 0 (omega arith)))

fits_marks : (m : Marks) (d o : ℕ) (r : List Told) → d ≤ 100 → o ≤ 256 → Any d r → Fits (st d o) (front_marks m r)
fits_marks no_marks d o r h k f = f o k
fits_marks (marks_of p q w u no_name v) d o r h k f =
    let c = calm d 0 h (omega arith) in
    (c, (c, (c, (c, f 0 (omega arith)))))
fits_marks (marks_of p q w u (and_name x y z) v) d o r h k f =
    let c = calm d 0 h (omega arith) in
    (c, (c, (c, (c, (c, (c, f 0 (omega arith)))))))

-- an expression and its marks
fits_marked : (e : ExpressionTree 1) (m : Marks) (d : ℕ) (r : List Told) → IsWithin d e → Any d r → Fits (st d 0) (front_expression e (front_marks m r))
fits_marked e m d r h f =
    let depth = h.0 in
    let size = h.1 in
    fits_expression e d 0 (front_marks m r) h.0 (omega (arith, size)) (fits_marks m d (0 + expression_size e) r (omega (arith, depth)) (omega (arith, size)) f)

assigned_index : (i : Index) (d : ℕ) (r : List Told) → d ≤ 100 → IsIndexWithin d i → Any d r → Fits (st d 0) (front_index i r)
assigned_index no_index d r l h f = f 0 (omega arith)
assigned_index (index_of p e q) d r l h f =
    let depth = h.0 in
    let size = h.1 in
    fits_index (index_of p e q) d 0 r (omega (arith, depth)) (omega (arith, size)) (f (0 + expression_size e) (omega (arith, size)))

mutual
  fits_command : (c : CommandTree) (d : ℕ) (r : List Told) → d ≤ 100 → CommandWithin d c → Any d r → Fits (st d 0) (front_command c r)
  fits_command (skip_of p m) d r l h f = (calm d 0 l (omega arith), fits_marks m d 0 r l (omega arith) f)
  fits_command (assign_of w p i q e m) d r l h f =
      let c = calm d 0 l (omega arith) in
      (c, assigned_index i d (sign_at Assign q ∷ front_expression e (front_marks m r)) l h.0 (λ o k. (c, fits_marked e m d r h.1 f)))
  fits_command (sleep_of p e m) d r l h f = (calm d 0 l (omega arith), fits_marked e m d r h f)
  fits_command (if_of p e m q b x) d r l h f =
      let c = calm d 0 l (omega arith) in (
        c,
        fits_marked e m d (key_at Then q ∷ front_block b (front_else x r)) h.0
            (λ o k. (c, fits_block b d 0 (front_else x r) l h.1 (fits_else x d r l h.2 (f 0 (omega arith))))),
      )
  fits_command (while_of p e m q b) d r l h f =
      let c = calm d 0 l (omega arith) in
      (c, fits_marked e m d (key_at Do q ∷ front_block b r) h.0 (λ o k. (c, fits_block b d 0 r l h.1 (f 0 (omega arith)))))
  fits_command (mitigate_of p q e x u m b) d r l h f =
      let depth = h.0.0 in
      let size = h.0.1 in
      let rest : List Told = front_marks m (front_block b r) in (
        calm d 0 l (omega arith),
        (
          calm (d + 1) 0 (omega (arith, depth)) (omega arith),
          fits_expression e (d + 1) 0 (front_and_name x (sign_at RightRound u ∷ rest)) h.0.0 (omega (arith, size))
              (fits_and_name x (d + 1) (0 + expression_size e) (sign_at RightRound u ∷ rest) (omega (arith, depth)) (omega (arith, size))
              (λ o k. closes d o rest l k (fits_marks m d o (front_block b r) l k (λ n j. fits_block b d n r l h.1 (f 0 (omega arith)))))),
        ),
      )

  fits_block : (b : Block) (d o : ℕ) (r : List Told) → d ≤ 100 → BlockWithin d b → Fits (st d 0) r → Fits (st d o) (front_block b r)
  fits_block (block_of p c q) d o r l h f =
      (calm (d + 1) 0 h.0 (omega arith), fits_commands c (d + 1) (sign_at RightBrace q ∷ r) h.0 h.1 (λ n k. closes d 0 r l (omega arith) f))

  fits_else : (x : ElsePart) (d : ℕ) (r : List Told) → d ≤ 100 → ElseWithin d x → Fits (st d 0) r → Fits (st d 0) (front_else x r)
  fits_else no_else d r l h f = f
  fits_else (else_of p b) d r l h f = (calm d 0 l (omega arith), fits_block b d 0 r l h f)

  fits_commands : (c : Commands) (d : ℕ) (r : List Told) → d ≤ 100 → CommandsWithin d c → Any d r → Fits (st d 0) (front_commands c r)
  fits_commands (commands_of c m) d r l h f = fits_command c d (front_more m r) l h.0 (λ o k. fits_more m d o r l k h.1 f)

  fits_more : (m : More) (d o : ℕ) (r : List Told) → d ≤ 100 → o ≤ 256 → MoreWithin d m → Any d r → Fits (st d o) (front_more m r)
  fits_more no_more d o r l k h f = f o k
  fits_more (and_more p c m) d o r l k h f = (calm d 0 l (omega arith), fits_command c d (front_more m r) l h.0 (λ n j. fits_more m d n r l j h.1 f))

-- the header and the declarations
zero : is_over (st 0 0) ≡ false
zero = calm 0 0 (omega arith) (omega arith)

one : is_over (st 0 1) ≡ false
one = calm 0 1 (omega arith) (omega arith)

fits_names : (m : MoreNames) (r : List Told) → Fits (st 0 0) r → Fits (st 0 0) (front_more_names m r)
fits_names no_more_names r f = f
fits_names (and_more_names p w q m) r f = (zero, (zero, fits_names m r f))

fits_pairs : (m : MorePairs) (o : ℕ) (r : List Told) → o ≤ 256 → Any 0 r → Fits (st 0 o) (front_more_pairs m r)
fits_pairs no_more_pairs o r k f = f o k
fits_pairs (and_pair p (pair_of a x q b y) m) o r k f = (zero, (zero, (one, (one, fits_pairs m 1 r (omega arith) f))))

fits_ordering : (x : Ordering) (r : List Told) → Fits (st 0 0) r → Fits (st 0 0) (front_ordering x r)
fits_ordering no_ordering r f = f
fits_ordering (ordering_of p (pair_of a x y b z) m q) r f =
    (zero, (zero, (one, (one, fits_pairs m 1 (sign_at Semicolon q ∷ r) (omega arith) (λ o k. (zero, f))))))

fits_header : (x : Header) (r : List Told) → Fits (st 0 0) r → Fits (st 0 0) (front_header x r)
fits_header no_header r f = f
fits_header (header_of p w q m u x) r f = (zero, (zero, fits_names m (sign_at Semicolon u ∷ front_ordering x r) (zero, fits_ordering x r f)))

fits_shape : (s : Shape) (r : List Told) → Fits (st 0 0) r → Fits (st 0 0) (front_shape s r)
fits_shape (scalar_of no_label) r f = f
fits_shape (scalar_of (label_of p w q)) r f = (zero, (zero, f))
fits_shape (array_of p n q u v w x) r f =
    let inside = calm 1 0 (omega arith) (omega arith) in
    (inside, (inside, (zero, (zero, (zero, f)))))

fits_declarations : (m : Declarations) (r : List Told) → Fits (st 0 0) r → Fits (st 0 0) (front_declarations m r)
fits_declarations no_declarations r f = f
fits_declarations (and_declaration (declaration_of p w q s u) m) r f =
    (zero, (zero, fits_shape s (sign_at Semicolon u ∷ front_declarations m r) (zero, fits_declarations m r f)))

pub fits_program : (t : ProgramTree) (words : List Told) → CommandsWithin 0 t.commands → Spells t words → Fits nothing_yet words
fits_program t words h s =
    let e : List Told = end_at s.0 ∷ [] in
    subst (Fits nothing_yet) (sym s.1)
    (fits_header t.header (front_declarations t.declarations (front_commands t.commands e))
    (fits_declarations t.declarations (front_commands t.commands e) (fits_commands t.commands 0 e (omega arith) h (λ o k. (zero, tt)))))
