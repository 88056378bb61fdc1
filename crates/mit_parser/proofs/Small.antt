-- What a tree within the limits means is within the limits of programs, and its mitigates are numbered in order.
use Rattle.std.proofs.Common.{◌≡◌, ◌≤◌, ◌<◌, ◌+◌, refl, ap, ◌∙◌, sym, subst, ℕ, List, ◌∷◌, length, Bool, true, false, cond, max, arith}
use Rattle.std.specs.Prelude.{ltb}
use Rattle.std.proofs.lemmas.Bool.{le-ltb}
use Rattle.text_base.specs.declared.pos.Pos.{Pos}
use Rattle.mit_syntax.specs.Expression.{Expression, Number, Variable, Binary, Element}
use Rattle.mit_syntax.specs.Operators.{rank, left_need, right_need, op_sign}
use Rattle.mit_syntax.specs.Limits.{depth, operators, IsSmall, AreSmall}
use Rattle.mit_syntax.specs.Plan.{Plan, count, mitigates}
use Rattle.mit_syntax.specs.Valid.{AreNumbered}
use Rattle.mit_syntax.specs.declared.token.Keyword.TheVariants.{Then, Do}
use Rattle.mit_syntax.specs.declared.token.Sign.TheVariants.{Assign, RightRound, RightBrace, RightSquare}
use Rattle.mit_syntax.specs.declared.ast.Op.{Op}
use Rattle.mit_parser.specs.Words.{Told, sign_at, key_at}
use Rattle.mit_parser.specs.Scope.{Scope}
use Rattle.mit_parser.specs.Tree.{no_index, index_of, ExpressionTree, number_of, name_of, parens_of, binary_of, front_expression, AndName, no_name, and_name}
use Rattle.mit_parser.specs.Tree.{Marks, no_marks, marks_of, CommandTree, skip_of, assign_of, sleep_of, if_of, while_of, mitigate_of, Block, block_of}
use Rattle.mit_parser.specs.Tree.{ElsePart, no_else, else_of, Commands, commands_of, More, no_more, and_more, front_and_name, front_marks, front_command}
use Rattle.mit_parser.specs.Tree.{front_block, front_else, front_commands, front_more}
use Rattle.mit_parser.specs.Limits.{expression_depth, expression_size, IsWithin, CommandWithin, BlockWithin, ElseWithin, CommandsWithin, MoreWithin}
use Rattle.mit_parser.specs.Meaning.{expression_value, next_command, next_block, next_else, next_more, plan_command, plan_block, plan_else, plan_commands}
use Rattle.mit_parser.specs.Meaning.{plan_more}

test_one : (b : Bool) → cond {A = ℕ} b 1 0 ≤ 1
test_one true = omega arith
test_one false = omega arith

depth_paren : (e : Expression) (n : ℕ) → depth n e ≤ 1 + depth 1 e
depth_paren (Number x) n = omega arith
depth_paren (Variable x) n = omega arith
depth_paren (Binary o l r) n = let t = test_one (ltb (rank o) n) in omega (arith, t)
depth_paren (Element f k i) n = omega arith

-- an operator of the needed rank has no brackets of its own
depth_binary : (n : ℕ) (o : Op) (l r : Expression) → n ≤ rank o → depth n (Binary o l r) ≡ max (depth (left_need o) l) (depth (right_need o) r)
depth_binary n o l r h =
    ap (λ b. cond {A = ℕ} b 1 0 + max (depth (left_need o) l) (depth (right_need o) r)) (le-ltb (rank o) n h) ∙ omega arith

module _ (sc : Scope) where
  depth_expression : {n : ℕ} (t : ExpressionTree n) → depth n (expression_value sc t) ≤ expression_depth t
  depth_expression (number_of k p) = omega arith
  depth_expression (name_of w p no_index) = omega arith
  depth_expression (name_of w p (index_of q e s)) = omega (arith, depth_expression e)
  depth_expression {n} (parens_of p e q) = omega (arith, depth_paren (expression_value sc e) n, depth_expression e)
  depth_expression {n} (binary_of o h l p t) =
      omega (arith, depth_binary n o (expression_value sc l) (expression_value sc t) h, depth_expression l, depth_expression t)

  size_expression : {n : ℕ} (t : ExpressionTree n) → operators (expression_value sc t) ≤ expression_size t
  size_expression (number_of k p) = omega arith
  size_expression (name_of w p no_index) = omega arith
  size_expression (name_of w p (index_of q e s)) = size_expression e
  size_expression (parens_of p e q) = size_expression e
  size_expression (binary_of o h l p t) = omega (arith, size_expression l, size_expression t)

  small : (d : ℕ) (t : ExpressionTree 1) → IsWithin d t → IsSmall d (expression_value sc t)
  small d t h = record { depth = omega (arith, h.0, depth_expression t); operators = omega (arith, h.1, size_expression t) }

  mutual
    small_command : (c : CommandTree) (d k : ℕ) (rest : Plan) → CommandWithin d c → AreSmall d rest → AreSmall d (plan_command sc k c rest)
    small_command (skip_of p m) d k rest w h = h
    small_command (assign_of v p no_index q e m) d k rest w h = (small d e w.1, h)
    small_command (assign_of v p (index_of a i b) q e m) d k rest w h = (small (d + 1) i w.0, small d e w.1, h)
    small_command (sleep_of p e m) d k rest w h = (small d e w, h)
    small_command (if_of p e m q b o) d k rest w h =
        let l = low_block d b w.1 in (small d e w.0, l, small_block b d k w.1, small_else o p d (next_block b k) w.2, h)
    small_command (while_of p e m q b) d k rest w h = let l = low_block d b w.1 in (small d e w.0, l, small_block b d k w.1, h)
    small_command (mitigate_of p q e l u m b) d k rest w h = (small (d + 1) e w.0, small_block b d (k + 1) w.1, h)

    low_block : (d : ℕ) (b : Block) → BlockWithin d b → d < 100
    low_block d (block_of p c q) w = let h = w.0 in omega (arith, h)

    small_block : (b : Block) (d k : ℕ) → BlockWithin d b → AreSmall (d + 1) (plan_block sc k b)
    small_block (block_of p c q) d k w = small_commands c (d + 1) k w.1

    small_else : (o : ElsePart) (p : Pos) (d k : ℕ) → ElseWithin d o → AreSmall (d + 1) (plan_else sc p k o)
    small_else no_else p d k w = tt
    small_else (else_of q b) p d k w = small_block b d k w

    pub small_commands : (c : Commands) (d k : ℕ) → CommandsWithin d c → AreSmall d (plan_commands sc k c)
    small_commands (commands_of c m) d k w = small_command c d k (plan_more sc (next_command c k) m) w.0 (small_more m d (next_command c k) w.1)

    small_more : (m : More) (d k : ℕ) → MoreWithin d m → AreSmall d (plan_more sc k m)
    small_more no_more d k w = tt
    small_more (and_more p c m) d k w = small_command c d k (plan_more sc (next_command c k) m) w.0 (small_more m d (next_command c k) w.1)

  mutual
    next_is_command : (c : CommandTree) (k : ℕ) (rest : Plan) → k + mitigates (plan_command sc k c rest) ≡ next_command c k + mitigates rest
    next_is_command (skip_of p m) k rest = omega arith
    next_is_command (assign_of v p no_index q e m) k rest = omega arith
    next_is_command (assign_of v p (index_of a i b) q e m) k rest = omega arith
    next_is_command (sleep_of p e m) k rest = omega arith
    next_is_command (if_of p e m q b o) k rest = omega (arith, next_is_block b k, next_is_else o p (next_block b k))
    next_is_command (while_of p e m q b) k rest = omega (arith, next_is_block b k)
    next_is_command (mitigate_of p q e l u m b) k rest = omega (arith, next_is_block b (k + 1))

    next_is_block : (b : Block) (k : ℕ) → k + mitigates (plan_block sc k b) ≡ next_block b k
    next_is_block (block_of p c q) k = next_is_commands c k

    next_is_else : (o : ElsePart) (p : Pos) (k : ℕ) → k + mitigates (plan_else sc p k o) ≡ next_else o k
    next_is_else no_else p k = omega arith
    next_is_else (else_of q b) p k = next_is_block b k

    next_is_commands : (c : Commands) (k : ℕ) → k + mitigates (plan_commands sc k c) ≡ Rattle.mit_parser.specs.Meaning.next_commands c k
    next_is_commands (commands_of c m) k = omega (arith, next_is_command c k (plan_more sc (next_command c k) m), next_is_more m (next_command c k))

    next_is_more : (m : More) (k : ℕ) → k + mitigates (plan_more sc k m) ≡ next_more m k
    next_is_more no_more k = omega arith
    next_is_more (and_more p c m) k = omega (arith, next_is_command c k (plan_more sc (next_command c k) m), next_is_more m (next_command c k))

  mutual
    numbered_command : (c : CommandTree) (k : ℕ) (rest : Plan) → AreNumbered (next_command c k) rest → AreNumbered k (plan_command sc k c rest)
    numbered_command (skip_of p m) k rest h = h
    numbered_command (assign_of v p no_index q e m) k rest h = h
    numbered_command (assign_of v p (index_of a i b) q e m) k rest h = h
    numbered_command (sleep_of p e m) k rest h = h
    numbered_command (if_of p e m q b o) k rest h =
        let x = next_is_block b k in
        let y = next_is_else o p (next_block b k) in (
          numbered_block b k,
          subst (λ n. AreNumbered n (plan_else sc p (next_block b k) o)) (sym x) (numbered_else o p (next_block b k)),
          subst (λ n. AreNumbered n rest) (sym (ap (λ n. n + mitigates (plan_else sc p (next_block b k) o)) x ∙ y)) h,
        )
    numbered_command (while_of p e m q b) k rest h = (numbered_block b k, subst (λ n. AreNumbered n rest) (sym (next_is_block b k)) h)
    numbered_command (mitigate_of p q e l u m b) k rest h = (refl, numbered_block b (k + 1), subst (λ n. AreNumbered n rest) (sym (next_is_block b (k + 1))) h)

    numbered_block : (b : Block) (k : ℕ) → AreNumbered k (plan_block sc k b)
    numbered_block (block_of p c q) k = numbered_commands c k

    numbered_else : (o : ElsePart) (p : Pos) (k : ℕ) → AreNumbered k (plan_else sc p k o)
    numbered_else no_else p k = tt
    numbered_else (else_of q b) p k = numbered_block b k

    pub numbered_commands : (c : Commands) (k : ℕ) → AreNumbered k (plan_commands sc k c)
    numbered_commands (commands_of c m) k = numbered_command c k (plan_more sc (next_command c k) m) (numbered_more m (next_command c k))

    numbered_more : (m : More) (k : ℕ) → AreNumbered k (plan_more sc k m)
    numbered_more no_more k = tt
    numbered_more (and_more p c m) k = numbered_command c k (plan_more sc (next_command c k) m) (numbered_more m (next_command c k))

-- a tree has no fewer words than what it means has commands
long_expression : {n : ℕ} (t : ExpressionTree n) (r : List Told) → length r ≤ length (front_expression t r)
long_expression (number_of k p) r = omega arith
long_expression (name_of w p no_index) r = omega arith
long_expression (name_of w p (index_of q e s)) r = omega (arith, long_expression e (sign_at RightSquare s ∷ r))
long_expression (parens_of p e q) r = omega (arith, long_expression e (sign_at RightRound q ∷ r))
long_expression (binary_of o h l p t) r = omega (arith, long_expression l (sign_at (op_sign o) p ∷ front_expression t r), long_expression t r)

long_second : (l : AndName) (r : List Told) → length r ≤ length (front_and_name l r)
long_second no_name r = omega arith
long_second (and_name p w q) r = omega arith

long_marks : (m : Marks) (r : List Told) → length r ≤ length (front_marks m r)
long_marks no_marks r = omega arith
long_marks (marks_of p q w u s v) r = omega (arith, long_second s (sign_at RightSquare v ∷ r))

module _ (sc : Scope) where
  mutual
    count_command : (c : CommandTree) (k : ℕ) (rest : Plan) (r : List Told)
        → count (plan_command sc k c rest) + length r ≤ count rest + length (front_command c r)
    count_command (skip_of p m) k rest r = omega (arith, long_marks m r)
    count_command (assign_of v p no_index q e m) k rest r = omega (arith, long_marks m r, long_expression e (front_marks m r))
    count_command (assign_of v p (index_of a i b) q e m) k rest r =
        omega (
          arith,
          long_marks m r,
          long_expression e (front_marks m r),
          long_expression i (sign_at RightSquare b ∷ sign_at Assign q ∷ front_expression e (front_marks m r)),
        )
    count_command (sleep_of p e m) k rest r = omega (arith, long_marks m r, long_expression e (front_marks m r))
    count_command (if_of p e m q b o) k rest r =
        omega (
          arith,
          long_expression e (front_marks m (key_at Then q ∷ front_block b (front_else o r))),
          long_marks m (key_at Then q ∷ front_block b (front_else o r)),
          count_block b k (front_else o r),
          count_else o p (next_block b k) r,
        )
    count_command (while_of p e m q b) k rest r =
        omega (arith, long_expression e (front_marks m (key_at Do q ∷ front_block b r)), long_marks m (key_at Do q ∷ front_block b r), count_block b k r)
    count_command (mitigate_of p q e l u m b) k rest r =
        omega (
          arith,
          long_expression e (front_and_name l (sign_at RightRound u ∷ front_marks m (front_block b r))),
          long_second l (sign_at RightRound u ∷ front_marks m (front_block b r)),
          long_marks m (front_block b r),
          count_block b (k + 1) r,
        )

    count_block : (b : Block) (k : ℕ) (r : List Told) → count (plan_block sc k b) + 2 + length r ≤ length (front_block b r)
    count_block (block_of p c q) k r = omega (arith, count_commands c k (sign_at RightBrace q ∷ r))

    count_else : (o : ElsePart) (p : Pos) (k : ℕ) (r : List Told) → count (plan_else sc p k o) + length r ≤ length (front_else o r) + 1
    count_else no_else p k r = omega arith
    count_else (else_of q b) p k r = omega (arith, count_block b k r)

    pub count_commands : (c : Commands) (k : ℕ) (r : List Told) → count (plan_commands sc k c) + length r ≤ length (front_commands c r)
    count_commands (commands_of c m) k r =
        omega (arith, count_command c k (plan_more sc (next_command c k) m) (front_more m r), count_more m (next_command c k) r)

    count_more : (m : More) (k : ℕ) (r : List Told) → count (plan_more sc k m) + length r ≤ length (front_more m r)
    count_more no_more k r = omega arith
    count_more (and_more p c m) k r = omega (arith, count_command c k (plan_more sc (next_command c k) m) (front_more m r), count_more m (next_command c k) r)
