-- One tree at most spells the words: commands, declarations and the header.
use Rattle.std.proofs.Common.{◌≡◌, ◌≤◌, refl, sym, ap, ◌∙◌, ℕ, List, [], ◌∷◌, arith}
use Rattle.text_base.specs.declared.pos.Pos.{Pos}
use Rattle.mit_syntax.specs.declared.token.Keyword.TheVariants.{Labels, Order, Var, Skip, If, Then, Else, While, Do, Sleep}
use Rattle.mit_syntax.specs.declared.token.Sign.TheVariants.{Assign, Colon, Semicolon, Comma, RightRound, RightBrace, LeftSquare, RightSquare, At}
use Rattle.mit_syntax.specs.Chunks.{key, sign, name}
use Rattle.mit_parser.specs.Words.{Symbol, word, Told, sign_at, key_at, end_at, head_symbol, first_pos}
use Rattle.mit_parser.specs.Tree.{ExpressionTree, AndName, no_name, and_name, Marks, no_marks, marks_of, CommandTree, skip_of, assign_of, sleep_of, if_of}
use Rattle.mit_parser.specs.Tree.{while_of, mitigate_of, Block, block_of, ElsePart, no_else, else_of, Commands, commands_of, More, no_more, and_more, MoreNames}
use Rattle.mit_parser.specs.Tree.{no_more_names, and_more_names, PairTree, pair_of, MorePairs, no_more_pairs, and_pair, Ordering, no_ordering, ordering_of}
use Rattle.mit_parser.specs.Tree.{Header, no_header, header_of, LabelTree, no_label, label_of, Shape, scalar_of, array_of, DeclarationTree, declaration_of}
use Rattle.mit_parser.specs.Tree.{Declarations, no_declarations, and_declaration, ProgramTree, front_expression, front_and_name, front_marks, front_command}
use Rattle.mit_parser.specs.Tree.{front_block, front_else, front_commands, front_more, front_more_names, front_pair, front_more_pairs, front_ordering}
use Rattle.mit_parser.specs.Tree.{front_header, front_label, front_shape, front_declaration, front_declarations, front_program}
use Rattle.mit_parser.specs.Spells.{Spells}
use Rattle.parse_laws.proofs.OneExpression.{lev, name_first, number_first, rest, Same, one_index, one_expression}

-- how a command may go on with a word
abbrev tag : Symbol → ℕ
tag (word (sign At)) = 0
tag (word (key Else)) = 1
tag (word (sign Semicolon)) = 2
tag _ = 3

abbrev tags : List Told → ℕ
tags r = tag (head_symbol r)

-- whether a list of names goes on with a word
abbrev comma : Symbol → ℕ
comma (word (sign Comma)) = 0
comma _ = 1

abbrev commas : List Told → ℕ
commas r = comma (head_symbol r)

-- how a program goes on with a word
abbrev top : Symbol → ℕ
top (word (key Labels)) = 0
top (word (key Order)) = 1
top (word (key Var)) = 2
top _ = 3

abbrev tops : List Told → ℕ
tops r = top (head_symbol r)

-- how a declaration goes on with a word after its name
abbrev shape : Symbol → ℕ
shape (word (sign Colon)) = 0
shape (word (sign LeftSquare)) = 1
shape _ = 2

abbrev shapes : List Told → ℕ
shapes r = shape (head_symbol r)

-- which form begins
abbrev form : Symbol → ℕ
form (word (key Skip)) = 0
form (word (name w)) = 1
form (word (key Sleep)) = 2
form (word (key If)) = 3
form (word (key While)) = 4
form _ = 5

abbrev forms : List Told → ℕ
forms r = form (head_symbol r)

-- equal words go on equally
differ : (f : List Told → ℕ) (n m : ℕ) (r s : List Told) → n ≤ f r → r ≡ s → f s ≡ m → n ≤ m
differ f n m r s h e k = let q : f r ≡ f s = ap f e in omega (arith, h, q, k)

one_and_name : (x y : AndName) (r s : List Told) → 1 ≤ commas r → 1 ≤ commas s → front_and_name x r ≡ front_and_name y s → Same x y r s
one_and_name no_name no_name r s h k e = (refl, e)
one_and_name no_name (and_name p w q) r s h k e = let c = differ commas 1 0 r _ h e refl in absurd (omega (arith, c))
one_and_name (and_name p w q) no_name r s h k e = let c = differ commas 1 0 s _ k (sym e) refl in absurd (omega (arith, c))
one_and_name (and_name p v q) (and_name u w x) r s h k e =
    let a : p ≡ u = ap first_pos e in
    let b : v ≡ w = ap (λ l. name_first (rest l)) e in
    let c : q ≡ x = ap (λ l. first_pos (rest l)) e in
    (cc, ap (λ l. rest (rest l)) e)

one_marks : (x y : Marks) (r s : List Told) → 1 ≤ tags r → 1 ≤ tags s → front_marks x r ≡ front_marks y s → Same x y r s
one_marks no_marks no_marks r s h k e = (refl, e)
one_marks no_marks (marks_of p q w u l v) r s h k e = let c = differ tags 1 0 r _ h e refl in absurd (omega (arith, c))
one_marks (marks_of p q w u l v) no_marks r s h k e = let c = differ tags 1 0 s _ k (sym e) refl in absurd (omega (arith, c))
one_marks (marks_of p q w u l v) (marks_of p' q' w' u' l' v') r s h k e =
    let a : p ≡ p' = ap first_pos e in
    let b : q ≡ q' = ap (λ z. first_pos (rest z)) e in
    let c : w ≡ w' = ap (λ z. name_first (rest (rest z))) e in
    let d : u ≡ u' = ap (λ z. first_pos (rest (rest z))) e in
    let t = one_and_name l l' (sign_at RightSquare v ∷ r) (sign_at RightSquare v' ∷ s) (omega arith) (omega arith) (ap (λ z. rest (rest (rest z))) e) in
    let f : l ≡ l' = t.0 in
    let g : v ≡ v' = ap first_pos t.1 in
    (cc, ap rest t.1)

lev_marks : (m : Marks) (r : List Told) → lev r ≡ 1 → lev (front_marks m r) ≡ 1
lev_marks no_marks r h = h
lev_marks (marks_of p q w u l v) r h = refl

lev_and_name : (l : AndName) (r : List Told) → lev r ≡ 1 → lev (front_and_name l r) ≡ 1
lev_and_name no_name r h = h
lev_and_name (and_name p w q) r h = refl

-- an expression and its marks
pub record SameMarked (x y : ExpressionTree 1) (m n : Marks) (r s : List Told) : Type 0 where
  pub expression : x ≡ y
  pub marks : m ≡ n
  pub rest : r ≡ s

one_marked : (x y : ExpressionTree 1) (m n : Marks) (r s : List Told) → lev r ≡ 1 → lev s ≡ 1 → 1 ≤ tags r → 1 ≤ tags s
    → front_expression x (front_marks m r) ≡ front_expression y (front_marks n s) → SameMarked x y m n r s
one_marked x y m n r s h k i j e =
    let a = one_expression x y (front_marks m r) (front_marks n s) (lev_marks m r h) (lev_marks n s k) e in
    let b = one_marks m n r s i j a.1 in
    record { expression = a.0; marks = b.0; rest = b.1 }

tag_block : (b : Block) (r : List Told) → 1 ≤ tags (front_block b r)
tag_block (block_of p c q) r = omega arith

-- what stands before the rest of a list of commands
tag_more : (m : More) (r : List Told) → 3 ≤ tags r → 2 ≤ tags (front_more m r)
tag_more no_more r h = omega (arith, h)
tag_more (and_more p c m) r h = omega arith

lev_more : (m : More) (r : List Told) → lev r ≡ 1 → lev (front_more m r) ≡ 1
lev_more no_more r h = h
lev_more (and_more p c m) r h = refl

mutual
  one_command : (x y : CommandTree) (r s : List Told) → lev r ≡ 1 → lev s ≡ 1 → 2 ≤ tags r → 2 ≤ tags s → front_command x r ≡ front_command y s → Same x y r s
  one_command (skip_of p m) (skip_of q n) r s h k i j e =
      let a : p ≡ q = ap first_pos e in
      let t = one_marks m n r s (omega (arith, i)) (omega (arith, j)) (ap rest e) in
      let b : m ≡ n = t.0 in
      (cc, t.1)
  one_command (assign_of w p x q a m) (assign_of w' p' x' q' a' m') r s h k i j e =
      let e1 : w ≡ w' = ap name_first e in
      let e2 : p ≡ p' = ap first_pos e in
      let t = one_index x x' (sign_at Assign q ∷ front_expression a (front_marks m r)) (sign_at Assign q' ∷ front_expression a' (front_marks m' s))
      (omega arith) (omega arith) (ap rest e) in
      let e3 : x ≡ x' = t.0 in
      let e4 : q ≡ q' = ap first_pos t.1 in
      let u = one_marked a a' m m' r s h k (omega (arith, i)) (omega (arith, j)) (ap rest t.1) in
      let e5 : a ≡ a' = u.expression in
      let e6 : m ≡ m' = u.marks in
      (cc, u.rest)
  one_command (sleep_of p a m) (sleep_of p' a' m') r s h k i j e =
      let e1 : p ≡ p' = ap first_pos e in
      let u = one_marked a a' m m' r s h k (omega (arith, i)) (omega (arith, j)) (ap rest e) in
      let e2 : a ≡ a' = u.expression in
      let e3 : m ≡ m' = u.marks in
      (cc, u.rest)
  one_command (if_of p a m q b x) (if_of p' a' m' q' b' x') r s h k i j e =
      let e1 : p ≡ p' = ap first_pos e in
      let u = one_marked a a' m m' (key_at Then q ∷ front_block b (front_else x r)) (key_at Then q' ∷ front_block b' (front_else x' s)) (omega arith)
      (omega arith) (omega arith) (omega arith) (ap rest e) in
      let e2 : a ≡ a' = u.expression in
      let e3 : m ≡ m' = u.marks in
      let e4 : q ≡ q' = ap first_pos u.rest in
      let t = one_block b b' (front_else x r) (front_else x' s) (ap rest u.rest) in
      let e5 : b ≡ b' = t.0 in
      let v = one_else x x' r s i j t.1 in
      let e6 : x ≡ x' = v.0 in
      (cc, v.1)
  one_command (while_of p a m q b) (while_of p' a' m' q' b') r s h k i j e =
      let e1 : p ≡ p' = ap first_pos e in
      let u = one_marked a a' m m' (key_at Do q ∷ front_block b r) (key_at Do q' ∷ front_block b' s) (omega arith) (omega arith)
      (omega arith) (omega arith) (ap rest e) in
      let e2 : a ≡ a' = u.expression in
      let e3 : m ≡ m' = u.marks in
      let e4 : q ≡ q' = ap first_pos u.rest in
      let t = one_block b b' r s (ap rest u.rest) in
      let e5 : b ≡ b' = t.0 in
      (cc, t.1)
  one_command (mitigate_of p q a l u m b) (mitigate_of p' q' a' l' u' m' b') r s h k i j e =
      let e1 : p ≡ p' = ap first_pos e in
      let e2 : q ≡ q' = ap (λ z. first_pos (rest z)) e in
      let r1 : List Told = sign_at RightRound u ∷ front_marks m (front_block b r) in
      let s1 : List Told = sign_at RightRound u' ∷ front_marks m' (front_block b' s) in
      let t = one_expression a a' (front_and_name l r1) (front_and_name l' s1) (lev_and_name l r1 (omega arith)) (lev_and_name l' s1 (omega arith))
      (ap (λ z. rest (rest z)) e) in
      let e3 : a ≡ a' = t.0 in
      let v = one_and_name l l' r1 s1 (omega arith) (omega arith) t.1 in
      let e4 : l ≡ l' = v.0 in
      let e5 : u ≡ u' = ap first_pos v.1 in
      let x = one_marks m m' (front_block b r) (front_block b' s) (tag_block b r) (tag_block b' s) (ap rest v.1) in
      let e6 : m ≡ m' = x.0 in
      let y = one_block b b' r s x.1 in
      let e7 : b ≡ b' = y.0 in
      (cc, y.1)
  one_command x y r s h k i j e = let c : forms (front_command x r) ≡ forms (front_command y s) = ap forms e in absurd (omega (arith, c))

  one_block : (x y : Block) (r s : List Told) → front_block x r ≡ front_block y s → Same x y r s
  one_block (block_of p c q) (block_of u d v) r s e =
      let a : p ≡ u = ap first_pos e in
      let t = one_commands c d (sign_at RightBrace q ∷ r) (sign_at RightBrace v ∷ s) (omega arith) (omega arith) (omega arith) (omega arith) (ap rest e) in
      let b : c ≡ d = t.0 in
      let f : q ≡ v = ap first_pos t.1 in
      (cc, ap rest t.1)

  one_else : (x y : ElsePart) (r s : List Told) → 2 ≤ tags r → 2 ≤ tags s → front_else x r ≡ front_else y s → Same x y r s
  one_else no_else no_else r s h k e = (refl, e)
  one_else no_else (else_of p b) r s h k e = let c = differ tags 2 1 r _ h e refl in absurd (omega (arith, c))
  one_else (else_of p b) no_else r s h k e = let c = differ tags 2 1 s _ k (sym e) refl in absurd (omega (arith, c))
  one_else (else_of p b) (else_of q d) r s h k e =
      let a : p ≡ q = ap first_pos e in
      let t = one_block b d r s (ap rest e) in
      let c : b ≡ d = t.0 in
      (cc, t.1)

  one_commands : (x y : Commands) (r s : List Told) → lev r ≡ 1 → lev s ≡ 1 → 3 ≤ tags r → 3 ≤ tags s → front_commands x r ≡ front_commands y s → Same x y r s
  one_commands (commands_of c m) (commands_of d n) r s h k i j e =
      let t = one_command c d (front_more m r) (front_more n s) (lev_more m r h) (lev_more n s k) (tag_more m r i) (tag_more n s j) e in
      let a : c ≡ d = t.0 in
      let u = one_more m n r s h k i j t.1 in
      let b : m ≡ n = u.0 in
      (cc, u.1)

  one_more : (x y : More) (r s : List Told) → lev r ≡ 1 → lev s ≡ 1 → 3 ≤ tags r → 3 ≤ tags s → front_more x r ≡ front_more y s → Same x y r s
  one_more no_more no_more r s h k i j e = (refl, e)
  one_more no_more (and_more p c m) r s h k i j e = let c = differ tags 3 2 r _ i e refl in absurd (omega (arith, c))
  one_more (and_more p c m) no_more r s h k i j e = let c = differ tags 3 2 s _ j (sym e) refl in absurd (omega (arith, c))
  one_more (and_more p c m) (and_more q d n) r s h k i j e =
      let a : p ≡ q = ap first_pos e in
      let t = one_command c d (front_more m r) (front_more n s) (lev_more m r h) (lev_more n s k) (tag_more m r i) (tag_more n s j) (ap rest e) in
      let b : c ≡ d = t.0 in
      let u = one_more m n r s h k i j t.1 in
      let f : m ≡ n = u.0 in
      (cc, u.1)

one_names : (x y : MoreNames) (r s : List Told) → 1 ≤ commas r → 1 ≤ commas s → front_more_names x r ≡ front_more_names y s → Same x y r s
one_names no_more_names no_more_names r s h k e = (refl, e)
one_names no_more_names (and_more_names p w q m) r s h k e = let c = differ commas 1 0 r _ h e refl in absurd (omega (arith, c))
one_names (and_more_names p w q m) no_more_names r s h k e = let c = differ commas 1 0 s _ k (sym e) refl in absurd (omega (arith, c))
one_names (and_more_names p w q m) (and_more_names p' w' q' m') r s h k e =
    let a : p ≡ p' = ap first_pos e in
    let b : w ≡ w' = ap (λ l. name_first (rest l)) e in
    let c : q ≡ q' = ap (λ l. first_pos (rest l)) e in
    let t = one_names m m' r s h k (ap (λ l. rest (rest l)) e) in
    let d : m ≡ m' = t.0 in
    (cc, t.1)

one_pair : (x y : PairTree) (r s : List Told) → front_pair x r ≡ front_pair y s → Same x y r s
one_pair (pair_of a p q b u) (pair_of a' p' q' b' u') r s e =
    let e1 : a ≡ a' = ap name_first e in
    let e2 : p ≡ p' = ap first_pos e in
    let e3 : q ≡ q' = ap (λ l. first_pos (rest l)) e in
    let e4 : b ≡ b' = ap (λ l. name_first (rest (rest l))) e in
    let e5 : u ≡ u' = ap (λ l. first_pos (rest (rest l))) e in
    (cc, ap (λ l. rest (rest (rest l))) e)

one_pairs : (x y : MorePairs) (r s : List Told) → 1 ≤ commas r → 1 ≤ commas s → front_more_pairs x r ≡ front_more_pairs y s → Same x y r s
one_pairs no_more_pairs no_more_pairs r s h k e = (refl, e)
one_pairs no_more_pairs (and_pair p x m) r s h k e = let c = differ commas 1 0 r _ h e refl in absurd (omega (arith, c))
one_pairs (and_pair p x m) no_more_pairs r s h k e = let c = differ commas 1 0 s _ k (sym e) refl in absurd (omega (arith, c))
one_pairs (and_pair p x m) (and_pair q y n) r s h k e =
    let a : p ≡ q = ap first_pos e in
    let t = one_pair x y (front_more_pairs m r) (front_more_pairs n s) (ap rest e) in
    let b : x ≡ y = t.0 in
    let u = one_pairs m n r s h k t.1 in
    let c : m ≡ n = u.0 in
    (cc, u.1)

one_ordering : (x y : Ordering) (r s : List Told) → 2 ≤ tops r → 2 ≤ tops s → front_ordering x r ≡ front_ordering y s → Same x y r s
one_ordering no_ordering no_ordering r s h k e = (refl, e)
one_ordering no_ordering (ordering_of p x m q) r s h k e = let c = differ tops 2 1 r _ h e refl in absurd (omega (arith, c))
one_ordering (ordering_of p x m q) no_ordering r s h k e = let c = differ tops 2 1 s _ k (sym e) refl in absurd (omega (arith, c))
one_ordering (ordering_of p x m q) (ordering_of p' x' m' q') r s h k e =
    let a : p ≡ p' = ap first_pos e in
    let t = one_pair x x' (front_more_pairs m (sign_at Semicolon q ∷ r)) (front_more_pairs m' (sign_at Semicolon q' ∷ s)) (ap rest e) in
    let b : x ≡ x' = t.0 in
    let u = one_pairs m m' (sign_at Semicolon q ∷ r) (sign_at Semicolon q' ∷ s) (omega arith) (omega arith) t.1 in
    let c : m ≡ m' = u.0 in
    let d : q ≡ q' = ap first_pos u.1 in
    (cc, ap rest u.1)

one_header : (x y : Header) (r s : List Told) → 2 ≤ tops r → 2 ≤ tops s → front_header x r ≡ front_header y s → Same x y r s
one_header no_header no_header r s h k e = (refl, e)
one_header no_header (header_of p w q m u x) r s h k e = let c = differ tops 2 0 r _ h e refl in absurd (omega (arith, c))
one_header (header_of p w q m u x) no_header r s h k e = let c = differ tops 2 0 s _ k (sym e) refl in absurd (omega (arith, c))
one_header (header_of p w q m u x) (header_of p' w' q' m' u' x') r s h k e =
    let e1 : p ≡ p' = ap first_pos e in
    let e2 : w ≡ w' = ap (λ l. name_first (rest l)) e in
    let e3 : q ≡ q' = ap (λ l. first_pos (rest l)) e in
    let t = one_names m m' (sign_at Semicolon u ∷ front_ordering x r) (sign_at Semicolon u' ∷ front_ordering x' s) (omega arith) (omega arith)
    (ap (λ l. rest (rest l)) e) in
    let e4 : m ≡ m' = t.0 in
    let e5 : u ≡ u' = ap first_pos t.1 in
    let v = one_ordering x x' r s h k (ap rest t.1) in
    let e6 : x ≡ x' = v.0 in
    (cc, v.1)

one_label : (x y : LabelTree) (r s : List Told) → 2 ≤ shapes r → 2 ≤ shapes s → front_label x r ≡ front_label y s → Same x y r s
one_label no_label no_label r s h k e = (refl, e)
one_label no_label (label_of p w q) r s h k e = let c = differ shapes 2 0 r _ h e refl in absurd (omega (arith, c))
one_label (label_of p w q) no_label r s h k e = let c = differ shapes 2 0 s _ k (sym e) refl in absurd (omega (arith, c))
one_label (label_of p w q) (label_of p' w' q') r s h k e =
    let a : p ≡ p' = ap first_pos e in
    let b : w ≡ w' = ap (λ l. name_first (rest l)) e in
    let c : q ≡ q' = ap (λ l. first_pos (rest l)) e in
    (cc, ap (λ l. rest (rest l)) e)

no_square : (x : LabelTree) (r : List Told) → 2 ≤ shapes r → shapes (front_label x r) ≡ 1 → ⊥
no_square no_label r h e = absurd (omega (arith, h, e))
no_square (label_of p w q) r h e = absurd (omega (arith, e))

one_shape : (x y : Shape) (r s : List Told) → 2 ≤ shapes r → 2 ≤ shapes s → front_shape x r ≡ front_shape y s → Same x y r s
one_shape (scalar_of l) (scalar_of m) r s h k e =
    let t = one_label l m r s h k e in
    let a : l ≡ m = t.0 in
    (cc, t.1)
one_shape (scalar_of l) (array_of p n q u v w x) r s h k e = absurd (no_square l r h (ap shapes e))
one_shape (array_of p n q u v w x) (scalar_of l) r s h k e = absurd (no_square l s k (ap shapes (sym e)))
one_shape (array_of p n q u v w x) (array_of p' n' q' u' v' w' x') r s h k e =
    let e1 : p ≡ p' = ap first_pos e in
    let e2 : n ≡ n' = ap (λ l. number_first (rest l)) e in
    let e3 : q ≡ q' = ap (λ l. first_pos (rest l)) e in
    let e4 : u ≡ u' = ap (λ l. first_pos (rest (rest l))) e in
    let e5 : v ≡ v' = ap (λ l. first_pos (rest (rest (rest l)))) e in
    let e6 : w ≡ w' = ap (λ l. name_first (rest (rest (rest (rest l))))) e in
    let e7 : x ≡ x' = ap (λ l. first_pos (rest (rest (rest (rest l))))) e in
    (cc, ap (λ l. rest (rest (rest (rest (rest l))))) e)

one_declaration : (x y : DeclarationTree) (r s : List Told) → front_declaration x r ≡ front_declaration y s → Same x y r s
one_declaration (declaration_of p w q x u) (declaration_of p' w' q' x' u') r s e =
    let e1 : p ≡ p' = ap first_pos e in
    let e2 : w ≡ w' = ap (λ l. name_first (rest l)) e in
    let e3 : q ≡ q' = ap (λ l. first_pos (rest l)) e in
    let t = one_shape x x' (sign_at Semicolon u ∷ r) (sign_at Semicolon u' ∷ s) (omega arith) (omega arith) (ap (λ l. rest (rest l)) e) in
    let e4 : x ≡ x' = t.0 in
    let e5 : u ≡ u' = ap first_pos t.1 in
    (cc, ap rest t.1)

top_declaration : (x : DeclarationTree) (r : List Told) → tops (front_declaration x r) ≡ 2
top_declaration (declaration_of p w q x u) r = refl

one_declarations : (x y : Declarations) (r s : List Told) → 3 ≤ tops r → 3 ≤ tops s → front_declarations x r ≡ front_declarations y s → Same x y r s
one_declarations no_declarations no_declarations r s h k e = (refl, e)
one_declarations no_declarations (and_declaration d m) r s h k e = let c = differ tops 3 2 r _ h e (top_declaration d (front_declarations m s)) in
    absurd (omega (arith, c))
one_declarations (and_declaration d m) no_declarations r s h k e = let c = differ tops 3 2 s _ k (sym e) (top_declaration d (front_declarations m r)) in
    absurd (omega (arith, c))
one_declarations (and_declaration d m) (and_declaration f n) r s h k e =
    let t = one_declaration d f (front_declarations m r) (front_declarations n s) e in
    let a : d ≡ f = t.0 in
    let u = one_declarations m n r s h k t.1 in
    let b : m ≡ n = u.0 in
    (cc, u.1)

top_command : (c : CommandTree) (r : List Told) → 3 ≤ tops (front_command c r)
top_command (skip_of p m) r = omega arith
top_command (assign_of w p x q a m) r = omega arith
top_command (sleep_of p a m) r = omega arith
top_command (if_of p a m q b x) r = omega arith
top_command (while_of p a m q b) r = omega arith
top_command (mitigate_of p q a l u m b) r = omega arith

top_commands : (c : Commands) (r : List Told) → 3 ≤ tops (front_commands c r)
top_commands (commands_of c m) r = top_command c (front_more m r)

top_declarations : (m : Declarations) (r : List Told) → 3 ≤ tops r → 2 ≤ tops (front_declarations m r)
top_declarations no_declarations r h = omega (arith, h)
top_declarations (and_declaration d m) r h = let e = top_declaration d (front_declarations m r) in omega (arith, e)

abbrev program : Header → Declarations → Commands → ProgramTree
program h d c = record { header = h; declarations = d; commands = c }

one_program : (t u : ProgramTree) (p q : Pos) → front_program t (end_at p ∷ []) ≡ front_program u (end_at q ∷ []) → t ≡ u
one_program t u p q e =
    let r : List Told = end_at p ∷ [] in
    let s : List Told = end_at q ∷ [] in
    let r1 : List Told = front_commands t.commands r in
    let s1 : List Told = front_commands u.commands s in
    let a = one_header t.header u.header (front_declarations t.declarations r1) (front_declarations u.declarations s1)
    (top_declarations t.declarations r1 (top_commands t.commands r)) (top_declarations u.declarations s1 (top_commands u.commands s)) e in
    let b = one_declarations t.declarations u.declarations r1 s1 (top_commands t.commands r) (top_commands u.commands s) a.1 in
    let c = one_commands t.commands u.commands r s (omega arith) (omega arith) (omega arith) (omega arith) b.1 in
    ap (λ h. program h t.declarations t.commands) a.0 ∙ ap (λ d. program u.header d t.commands) b.0 ∙ ap (program u.header u.declarations) c.0

pub one_tree : (words : List Told) (t u : ProgramTree) → Spells t words → Spells u words → t ≡ u
one_tree words t u s r = one_program t u s.0 r.0 (sym s.1 ∙ r.1)
