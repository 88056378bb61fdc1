-- The machine is never stuck on what a tree spells.
use Rattle.std.proofs.Common.{◌≡◌, ◌≤◌, ◌<◌, ◌+◌, refl, ap, ◌∙◌, ℕ, zero, suc, List, [], ◌∷◌, false, cond, Option, Some, None, arith}
use Rattle.text_base.specs.declared.pos.Pos.{Pos}
use Rattle.mit_syntax.specs.declared.token.Keyword.TheVariants.{Labels, Order, Var, Then, Else, Do}
use Rattle.mit_syntax.specs.declared.token.Sign.TheVariants.{Assign, Semicolon, Comma, RightRound, RightBrace, LeftSquare, RightSquare, At}
use Rattle.mit_syntax.specs.declared.ast.Op.{Op}
use Rattle.mit_syntax.specs.declared.ast.Op.TheVariants.{Add}
use Rattle.mit_syntax.specs.Operators.{op_sign, rank, left_need, right_need}
use Rattle.mit_syntax.specs.Chunks.{key, sign}
use Rattle.mit_parser.specs.Words.{Symbol, word, the_end, Told, head_symbol, is, is_sign, is_key, sign_at, key_at, end_at}
use Rattle.mit_parser.specs.Operators.{op_at}
use Rattle.mit_parser.specs.Tree.{ExpressionTree, Index, number_of, name_of, parens_of, binary_of, no_index, index_of, front_expression, front_index}
use Rattle.mit_parser.specs.Tree.{AndName, no_name, and_name, Marks, no_marks, marks_of, CommandTree, skip_of, assign_of}
use Rattle.mit_parser.specs.Tree.{sleep_of, if_of, while_of, mitigate_of, Block, block_of, ElsePart, no_else, else_of, Commands, commands_of, More, no_more}
use Rattle.mit_parser.specs.Tree.{and_more, front_and_name, front_marks, front_command, front_block, front_else, front_commands, front_more, MoreNames}
use Rattle.mit_parser.specs.Tree.{no_more_names, and_more_names, pair_of, MorePairs, no_more_pairs, and_pair, Ordering, no_ordering, ordering_of, Header}
use Rattle.mit_parser.specs.Tree.{no_header, header_of, no_label, label_of, Shape, scalar_of, array_of, declaration_of, Declarations, no_declarations}
use Rattle.mit_parser.specs.Tree.{and_declaration, ProgramTree, front_more_names, front_more_pairs, front_ordering, front_header, front_shape}
use Rattle.mit_parser.specs.Tree.{front_declarations, front_program}
use Rattle.mit_parser.specs.Machine.{Part, want, an_atom, an_index, a_term, factors, a_sum, addends, an_expr, a_name, marks, second, a_command}
use Rattle.mit_parser.specs.Machine.{a_block, commands, more, otherwise, more_names, a_pair, more_pairs, ordering, header, a_shape, declarations, after_index}
use Rattle.mit_parser.specs.Machine.{after_at, after_order, after_labels, after_var, step, choice}
use Rattle.mit_parser.proofs.Levels.{Level, terms, sums, wholes, on_op, off_op, at_rank, off_rank, rank_some}
use Rattle.mit_parser.proofs.Verdicts.{stuck}

-- what may follow a part that is complete: no operator of its rank or a higher one
abbrev pub Ends : ℕ → Symbol → Type 0
Ends n w = (is_sign LeftSquare w ≡ false) × ((k : ℕ) → n ≤ k → op_at k w ≡ None)

abbrev pub EndsCommand : Symbol → Type 0
EndsCommand w = Ends 1 w × (is_sign At w ≡ false) × (is_key Else w ≡ false)

abbrev pub EndsCommands : Symbol → Type 0
EndsCommands w = EndsCommand w × (is_sign Semicolon w ≡ false)

pub skipped : (s t : List Part) (i : List Told) → step s (head_symbol i) ≡ step t (head_symbol i) → stuck s i ≡ stuck t i
skipped s t [] e = refl
skipped s t (b ∷ r) e = ap (λ o. choice o (Some (b ∷ r)) (λ t. stuck t r)) e

is_commands : (s : List Part) (i : List Told) → stuck (commands ∷ s) i ≡ stuck (a_command ∷ more ∷ s) i
is_commands s [] = refl
is_commands s (b ∷ r) = refl

-- a part that begins with a word, and is not there
no_word : (g : Symbol) (part : Part) (there : List Part → Option (List Part)) (s : List Part) (i : List Told)
    → ((w : Symbol) → step (part ∷ s) w ≡ cond (is g w) (there s) (step s w)) → is g (head_symbol i) ≡ false → stuck (part ∷ s) i ≡ stuck s i
no_word g part there s i h e = skipped (part ∷ s) s i (h (head_symbol i) ∙ ap (λ b. cond b (there s) (step s (head_symbol i))) e)

no_square : (s : List Part) (i : List Told) → is_sign LeftSquare (head_symbol i) ≡ false → stuck (an_index ∷ s) i ≡ stuck s i
no_square s i e = no_word (word (sign LeftSquare)) an_index (λ s. Some (after_index s)) s i (λ w. refl) e

op_no_square : (o : Op) → is_sign LeftSquare (word (sign (op_sign o))) ≡ false
op_no_square Add = refl
op_no_square _ = refl

op_ends : (n : ℕ) (o : Op) → rank o < n → Ends n (word (sign (op_sign o)))
op_ends n o e = (op_no_square o, λ k h. off_rank k o (omega (arith, e, h)))

ends_more : (n : ℕ) (w : Symbol) → Ends n w → Ends (n + 1) w
ends_more n w h = (h.0, λ k e. h.1 k (omega (arith, e)))

-- the machine reads a part to its end
abbrev Closed : Part → ℕ → (List Told → List Told) → Type 0
Closed part n front_of = (s : List Part) (r : List Told) → Ends n (head_symbol r) → stuck (part ∷ s) (front_of r) ≡ stuck s r

-- or to where operators of its rank may follow
abbrev Open : Part → Part → ℕ → (List Told → List Told) → Type 0
Open part follows n front_of = (s : List Part) (r : List Told) → Ends (n + 1) (head_symbol r) → stuck (part ∷ s) (front_of r) ≡ stuck (follows ∷ s) r

module _ {n : ℕ} {part next follows : Part} {rest_of : List Part → List Part} (k : Level n part next follows rest_of) (front_of : List Told → List Told) where
  close : Open part follows n front_of → Closed part n front_of
  close x s r h = x s r (ends_more n (head_symbol r) h) ∙ skipped (follows ∷ s) s r (off_op k s (head_symbol r) (h.1 n (omega arith)))

  open_next : Closed next (n + 1) front_of → Open part follows n front_of
  open_next x s r h = skipped (part ∷ s) (next ∷ follows ∷ s) (front_of r) (k.begins s (head_symbol (front_of r))) ∙ x (follows ∷ s) r h

  -- a part, an operator of this rank and a part of the next rank
  run_op : (o : Op) → rank o ≡ n → (p : Pos) (then_front : List Told → List Told) → Open part follows n front_of → Closed next (n + 1) then_front
      → (s : List Part) (r : List Told) → Ends (n + 1) (head_symbol r)
      → stuck (part ∷ s) (front_of (sign_at (op_sign o) p ∷ then_front r)) ≡ stuck (rest_of s) r
  run_op o e p then_front x y s r h =
      x s (sign_at (op_sign o) p ∷ then_front r) (op_ends (n + 1) o (omega (arith, e)))
      ∙ ap (λ z. choice z (Some (sign_at (op_sign o) p ∷ then_front r)) (λ t. stuck t (then_front r)))
      (on_op k s (word (sign (op_sign o))) o (at_rank n o e))
      ∙ y (rest_of s) r h

-- the machine reads an expression of this rank, where this or a lower one is needed
record Runs (n : ℕ) (front_of : List Told → List Told) : Type 0 where
  atom : 4 ≤ n → Closed an_atom 4 front_of
  term : 3 ≤ n → Open a_term factors 3 front_of
  sum : 2 ≤ n → Open a_sum addends 2 front_of
  expr : Closed an_expr 1 front_of

to_whole : (f : List Told → List Told) → Open a_sum addends 2 f → Closed an_expr 1 f
to_whole f x = close wholes f (open_next wholes f (close sums f x))

module _ {n : ℕ} {f : List Told → List Told} where
  of_sum : n ≤ 2 → Open a_sum addends 2 f → Runs n f
  of_sum h x =
      record { atom = λ e. absurd (omega (arith, h, e)); term = λ e. absurd (omega (arith, h, e)); sum = λ e. x; expr = to_whole f x }

  of_term : n ≤ 3 → Open a_term factors 3 f → Runs n f
  of_term h x =
      let y = open_next sums f (close terms f x) in
      record { atom = λ e. absurd (omega (arith, h, e)); term = λ e. x; sum = λ e. y; expr = to_whole f y }

  of_atom : Closed an_atom 4 f → Runs n f
  of_atom x =
      let y = open_next terms f x in
      let z = open_next sums f (close terms f y) in
      record { atom = λ e. x; term = λ e. y; sum = λ e. z; expr = to_whole f z }

run_binary : (n : ℕ) (o : Op) → n ≤ rank o → (f : List Told → List Told) (p : Pos) (g : List Told → List Told)
    → Runs (left_need o) f → Runs (right_need o) g → Runs n (λ r. f (sign_at (op_sign o) p ∷ g r))
run_binary n o h f p g x y = by (rank o) refl (rank_some o).0 (rank_some o).1
  where
    by : (k : ℕ) → rank o ≡ k → 1 ≤ k → k ≤ 3 → Runs n (λ r. f (sign_at (op_sign o) p ∷ g r))
    by zero e a b = absurd (omega (arith, a))
    by (suc zero) e a b =
        let z = close sums g (y.sum (omega (arith, e))) in
        record {
          atom = λ k. absurd (omega (arith, h, e, k));
          term = λ k. absurd (omega (arith, h, e, k));
          sum = λ k. absurd (omega (arith, h, e, k));
          expr = λ s r k. run_op wholes f o e p g (open_next wholes f (close sums f (x.sum (omega arith)))) z s r (ends_more 1 (head_symbol r) k);
        }
    by (suc (suc zero)) e a b =
        of_sum (omega (arith, h, e)) (run_op sums f o e p g (x.sum (omega arith)) (close terms g (y.term (omega (arith, e)))))
    by (suc (suc (suc zero))) e a b =
        of_term (omega (arith, h, e)) (run_op terms f o e p g (x.term (omega (arith, e))) (y.atom (omega (arith, e))))
    by (suc (suc (suc (suc k)))) e a b = absurd (omega (arith, b))

mutual
  run : {n : ℕ} (t : ExpressionTree n) → Runs n (front_expression t)
  run (number_of k p) = of_atom (λ s r h. refl)
  run (name_of w p i) = of_atom (λ s r h. run_index i s r h.0)
  run (parens_of p e q) = of_atom (λ s r h. (run e).expr (want (word (sign RightRound)) ∷ s) (sign_at RightRound q ∷ r) (refl, λ k l. refl))
  run {n} (binary_of o h l p t) = run_binary n o h (front_expression l) p (front_expression t) (run l) (run t)

  run_index : (i : Index) (s : List Part) (r : List Told) → is_sign LeftSquare (head_symbol r) ≡ false → stuck (an_index ∷ s) (front_index i r) ≡ stuck s r
  run_index no_index s r h = no_square s r h
  run_index (index_of p e q) s r h = (run e).expr (want (word (sign RightSquare)) ∷ s) (sign_at RightSquare q ∷ r) (refl, λ k l. refl)

pub run_marks : (m : Marks) (s : List Part) (r : List Told) → is_sign At (head_symbol r) ≡ false → stuck (marks ∷ s) (front_marks m r) ≡ stuck s r
run_marks no_marks s r h = no_word (word (sign At)) marks (λ s. Some (after_at s)) s r (λ w. refl) h
run_marks (marks_of p q w u no_name v) s r h = refl
run_marks (marks_of p q w u (and_name a x b) v) s r h = refl

pub run_second : (l : AndName) (s : List Part) (r : List Told) → is_sign Comma (head_symbol r) ≡ false → stuck (second ∷ s) (front_and_name l r) ≡ stuck s r
run_second no_name s r h = no_word (word (sign Comma)) second (λ s. Some (a_name ∷ s)) s r (λ w. refl) h
run_second (and_name a x b) s r h = refl

pub marks_end : (m : Marks) (r : List Told) → Ends 1 (head_symbol r) → Ends 1 (head_symbol (front_marks m r))
marks_end no_marks r h = h
marks_end (marks_of p q w u s v) r h = (refl, λ k l. refl)

pub second_end : (l : AndName) (r : List Told) → Ends 1 (head_symbol r) → Ends 1 (head_symbol (front_and_name l r))
second_end no_name r h = h
second_end (and_name a x b) r h = (refl, λ k l. refl)

pub more_ends : (m : More) (r : List Told) → EndsCommands (head_symbol r) → EndsCommand (head_symbol (front_more m r))
more_ends no_more r h = h.0
more_ends (and_more p c m) r h = ((refl, λ k l. refl), refl, refl)

mutual
  pub run_command : (c : CommandTree) (s : List Part) (r : List Told) → EndsCommand (head_symbol r) → stuck (a_command ∷ s) (front_command c r) ≡ stuck s r
  run_command (skip_of p m) s r h = run_marks m s r h.1
  run_command (assign_of w p i q e m) s r h =
      run_index i (want (word (sign Assign)) ∷ an_expr ∷ marks ∷ s) (sign_at Assign q ∷ front_expression e (front_marks m r)) refl
      ∙ (run e).expr (marks ∷ s) (front_marks m r) (marks_end m r h.0) ∙ run_marks m s r h.1
  run_command (sleep_of p e m) s r h = (run e).expr (marks ∷ s) (front_marks m r) (marks_end m r h.0) ∙ run_marks m s r h.1
  run_command (if_of p e m q b o) s r h =
      (run e).expr (marks ∷ want (word (key Then)) ∷ a_block ∷ otherwise ∷ s) (front_marks m (key_at Then q ∷ front_block b (front_else o r)))
      (marks_end m (key_at Then q ∷ front_block b (front_else o r)) (refl, λ k l. refl))
      ∙ run_marks m (want (word (key Then)) ∷ a_block ∷ otherwise ∷ s) (key_at Then q ∷ front_block b (front_else o r)) refl
      ∙ run_block b (otherwise ∷ s) (front_else o r) ∙ run_else o s r h.2
  run_command (while_of p e m q b) s r h =
      (run e).expr (marks ∷ want (word (key Do)) ∷ a_block ∷ s) (front_marks m (key_at Do q ∷ front_block b r))
      (marks_end m (key_at Do q ∷ front_block b r) (refl, λ k l. refl))
      ∙ run_marks m (want (word (key Do)) ∷ a_block ∷ s) (key_at Do q ∷ front_block b r) refl
      ∙ run_block b s r
  run_command (mitigate_of p q e l u m b) s r h =
      (run e).expr (second ∷ want (word (sign RightRound)) ∷ marks ∷ a_block ∷ s) (front_and_name l (sign_at RightRound u ∷ front_marks m (front_block b r)))
      (second_end l (sign_at RightRound u ∷ front_marks m (front_block b r)) (refl, λ k l. refl))
      ∙ run_second l (want (word (sign RightRound)) ∷ marks ∷ a_block ∷ s) (sign_at RightRound u ∷ front_marks m (front_block b r)) refl
      ∙ run_marks m (a_block ∷ s) (front_block b r) (block_begins b r) ∙ run_block b s r

  pub block_begins : (b : Block) (r : List Told) → is_sign At (head_symbol (front_block b r)) ≡ false
  block_begins (block_of p c q) r = refl

  pub run_block : (b : Block) (s : List Part) (r : List Told) → stuck (a_block ∷ s) (front_block b r) ≡ stuck s r
  run_block (block_of p c q) s r = run_commands c (want (word (sign RightBrace)) ∷ s) (sign_at RightBrace q ∷ r) (((refl, λ k l. refl), refl, refl), refl)

  pub run_else : (o : ElsePart) (s : List Part) (r : List Told) → is_key Else (head_symbol r) ≡ false → stuck (otherwise ∷ s) (front_else o r) ≡ stuck s r
  run_else no_else s r h = no_word (word (key Else)) otherwise (λ s. Some (a_block ∷ s)) s r (λ w. refl) h
  run_else (else_of p b) s r h = run_block b s r

  pub run_commands : (c : Commands) (s : List Part) (r : List Told) → EndsCommands (head_symbol r) → stuck (commands ∷ s) (front_commands c r) ≡ stuck s r
  run_commands (commands_of c m) s r h =
      is_commands s (front_command c (front_more m r)) ∙ run_command c (more ∷ s) (front_more m r) (more_ends m r h) ∙ run_more m s r h

  pub run_more : (m : More) (s : List Part) (r : List Told) → EndsCommands (head_symbol r) → stuck (more ∷ s) (front_more m r) ≡ stuck s r
  run_more no_more s r h = no_word (word (sign Semicolon)) more (λ s. Some (a_command ∷ more ∷ s)) s r (λ w. refl) h.1
  run_more (and_more p c m) s r h =
      run_command c (more ∷ s) (front_more m r) (more_ends m r h) ∙ run_more m s r h

pub run_more_names : (m : MoreNames) (s : List Part) (r : List Told) → is_sign Comma (head_symbol r) ≡ false
    → stuck (more_names ∷ s) (front_more_names m r) ≡ stuck s r
run_more_names no_more_names s r h = no_word (word (sign Comma)) more_names (λ s. Some (a_name ∷ more_names ∷ s)) s r (λ w. refl) h
run_more_names (and_more_names p w q m) s r h = run_more_names m s r h

pub run_more_pairs : (m : MorePairs) (s : List Part) (r : List Told) → is_sign Comma (head_symbol r) ≡ false
    → stuck (more_pairs ∷ s) (front_more_pairs m r) ≡ stuck s r
run_more_pairs no_more_pairs s r h = no_word (word (sign Comma)) more_pairs (λ s. Some (a_pair ∷ more_pairs ∷ s)) s r (λ w. refl) h
run_more_pairs (and_pair p (pair_of a u q b v) m) s r h = run_more_pairs m s r h

pub run_ordering : (o : Ordering) (s : List Part) (r : List Told) → is_key Order (head_symbol r) ≡ false → stuck (ordering ∷ s) (front_ordering o r) ≡ stuck s r
run_ordering no_ordering s r h = no_word (word (key Order)) ordering (λ s. Some (after_order s)) s r (λ w. refl) h
run_ordering (ordering_of p (pair_of a u q b v) m x) s r h = run_more_pairs m (want (word (sign Semicolon)) ∷ s) (sign_at Semicolon x ∷ r) refl

pub run_header : (t : Header) (s : List Part) (r : List Told) → is_key Labels (head_symbol r) ≡ false → is_key Order (head_symbol r) ≡ false
    → stuck (header ∷ s) (front_header t r) ≡ stuck s r
run_header no_header s r h k = no_word (word (key Labels)) header (λ s. Some (after_labels s)) s r (λ w. refl) h
run_header (header_of p w q m u o) s r h k =
    run_more_names m (want (word (sign Semicolon)) ∷ ordering ∷ s) (sign_at Semicolon u ∷ front_ordering o r) refl ∙ run_ordering o s r k

pub run_shape : (t : Shape) (s : List Part) (q : Pos) (r : List Told)
    → stuck (a_shape ∷ want (word (sign Semicolon)) ∷ s) (front_shape t (sign_at Semicolon q ∷ r)) ≡ stuck s r
run_shape (scalar_of no_label) s q r = refl
run_shape (scalar_of (label_of p w u)) s q r = refl
run_shape (array_of p n u v w x y) s q r = refl

pub run_declarations : (t : Declarations) (s : List Part) (r : List Told) → is_key Var (head_symbol r) ≡ false
    → stuck (declarations ∷ s) (front_declarations t r) ≡ stuck s r
run_declarations no_declarations s r h = no_word (word (key Var)) declarations (λ s. Some (after_var (declarations ∷ s))) s r (λ w. refl) h
run_declarations (and_declaration (declaration_of p w q t u) m) s r h = run_shape t (declarations ∷ s) u (front_declarations m r) ∙ run_declarations m s r h

-- commands begin with none of the words of a header and of declarations
pub record Starts (w : Symbol) : Type 0 where
  pub labels : is_key Labels w ≡ false
  pub order : is_key Order w ≡ false
  pub var : is_key Var w ≡ false

pub command_starts : (c : CommandTree) (r : List Told) → Starts (head_symbol (front_command c r))
command_starts (skip_of p m) r = record { labels = refl; order = refl; var = refl }
command_starts (assign_of w p i q e m) r = record { labels = refl; order = refl; var = refl }
command_starts (sleep_of p e m) r = record { labels = refl; order = refl; var = refl }
command_starts (if_of p e m q b o) r = record { labels = refl; order = refl; var = refl }
command_starts (while_of p e m q b) r = record { labels = refl; order = refl; var = refl }
command_starts (mitigate_of p q e l u m b) r = record { labels = refl; order = refl; var = refl }

pub commands_start : (c : Commands) (r : List Told) → Starts (head_symbol (front_commands c r))
commands_start (commands_of c m) r = command_starts c (front_more m r)

pub declarations_start : (t : Declarations) (c : Commands) (r : List Told) → (is_key Labels (head_symbol (front_declarations t (front_commands c r))) ≡ false)
    × (is_key Order (head_symbol (front_declarations t (front_commands c r))) ≡ false)
declarations_start no_declarations c r = let s = commands_start c r in (s.labels, s.order)
declarations_start (and_declaration (declaration_of p w q t u) m) c r = (refl, refl)

abbrev pub start : List Part
start = header ∷ declarations ∷ commands ∷ want the_end ∷ []

-- what a program's tree spells
pub never_stuck : (t : ProgramTree) (e : Pos) → stuck start (front_program t (end_at e ∷ [])) ≡ None
never_stuck t e =
    let d = declarations_start t.declarations t.commands (end_at e ∷ []) in
    run_header t.header (declarations ∷ commands ∷ want the_end ∷ []) (front_declarations t.declarations (front_commands t.commands (end_at e ∷ []))) d.0 d.1
    ∙ run_declarations t.declarations (commands ∷ want the_end ∷ []) (front_commands t.commands (end_at e ∷ [])) (commands_start t.commands (end_at e ∷ [])).var
    ∙ run_commands t.commands (want the_end ∷ []) (end_at e ∷ []) (((refl, λ k l. refl), refl, refl), refl)
