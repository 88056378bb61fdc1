-- One tree at most spells the words: each tree is told by its first words, as the grammar needs no more than one word ahead.
use Rattle.std.proofs.Common.{◌≡◌, ◌≤◌, ◌+◌, refl, sym, ap, ◌∙◌, subst, ℕ, ℤ, List, [], ◌∷◌, Option, Some, None, arith}
use Rattle.std.specs.Prelude.{pos}
use Rattle.text_base.specs.declared.pos.Pos.{Pos}
use Rattle.mit_syntax.specs.declared.ast.Op.{Op}
use Rattle.mit_syntax.specs.declared.token.Sign.{Sign}
use Rattle.mit_syntax.specs.declared.token.Sign.TheVariants.{RightRound, LeftSquare, RightSquare}
use Rattle.mit_syntax.specs.Operators.{op_sign, op_of, rank, right_need}
use Rattle.mit_syntax.specs.Chunks.{sign, number, name}
use Rattle.mit_parser.specs.Words.{Symbol, word, Told, sign_at, head_symbol, first_pos}
use Rattle.mit_parser.specs.Tree.{ExpressionTree, number_of, name_of, parens_of, binary_of, Index, no_index, index_of, front_expression, front_index}
use Rattle.mit_parser.proofs.Levels.{op_again}
use Rattle.parse_laws.proofs.Spine.{Head, number_head, name_head, parens_head, Tail, no_tail, and_tail, head, tail, front_head, front_tail, spine_front}
use Rattle.parse_laws.proofs.Spine.{same_spine}

-- how an expression may go on with a word: with an operator, or with the bracket of an index, or not at all
abbrev far : Option Op → Sign → ℕ
far (Some o) s = rank o + 1
far None LeftSquare = 0
far None s = 1

abbrev level : Symbol → ℕ
level (word (sign s)) = far (op_of s) s
level _ = 1

abbrev pub lev : List Told → ℕ
lev r = level (head_symbol r)

-- a tree where this rank is needed does not go on with the words
abbrev Ends : ℕ → List Told → Type 0
Ends n r = (1 ≤ lev r) × (lev r ≤ n)

-- the first word's name, number or operator, and the words after it
abbrev name_in : Symbol → List ℕ
name_in (word (name w)) = w
name_in _ = []

abbrev pub name_first : List Told → List ℕ
name_first r = name_in (head_symbol r)

abbrev number_in : Symbol → ℤ
number_in (word (number n)) = n
number_in _ = pos 0

abbrev pub number_first : List Told → ℤ
number_first r = number_in (head_symbol r)

abbrev op_in : Symbol → Option Op
op_in (word (sign s)) = op_of s
op_in _ = None

abbrev op_first : List Told → Option Op
op_first r = op_in (head_symbol r)

abbrev pub rest : List Told → List Told
rest [] = []
rest (b ∷ r) = r

-- which kind of head begins
abbrev head_code : Symbol → ℕ
head_code (word (number n)) = 0
head_code (word (name w)) = 1
head_code _ = 2

abbrev head_first : List Told → ℕ
head_first r = head_code (head_symbol r)

op_level : (o : Op) → level (word (sign (op_sign o))) ≡ rank o + 1
op_level o = ap (λ z. far z (op_sign o)) (op_again o)

abbrev pub Same : {X : Type 0} → X → X → List Told → List Told → Type 0
Same x y r s = (x ≡ y) × (r ≡ s)

-- where the words do not go on with it, no other tree has the same words
abbrev IsOne : {n : ℕ} → ExpressionTree n → Type 0
IsOne {n} x = (y : ExpressionTree n) (r s : List Told) → Ends n r → Ends n s → front_expression x r ≡ front_expression y s → Same x y r s

abbrev IsOneIndex : Index → Type 0
IsOneIndex x = (y : Index) (r s : List Told) → 1 ≤ lev r → 1 ≤ lev s → front_index x r ≡ front_index y s → Same x y r s

abbrev IsOneHead : Head → Type 0
IsOneHead x = (y : Head) (r s : List Told) → 1 ≤ lev r → 1 ≤ lev s → front_head x r ≡ front_head y s → Same x y r s

abbrev PartsOne : Head → Type 0
PartsOne (number_head n p) = Unit {0}
PartsOne (name_head w p i) = IsOneIndex i
PartsOne (parens_head p e q) = IsOne e

abbrev AreOne : Tail → Type 0
AreOne no_tail = Unit {0}
AreOne (and_tail o p t b) = IsOne t × AreOne b

-- no operator binds closer than the one before it, the first one's rank is m at most, and the last one's n at least
abbrev Falls : ℕ → ℕ → Tail → Type 0
Falls n m no_tail = n ≤ m
Falls n m (and_tail o p t b) = (rank o ≤ m) × Falls n (rank o) b

falls_low : (n m : ℕ) (b : Tail) → Falls n m b → n ≤ m
falls_low n m no_tail f = f
falls_low n m (and_tail o p t b) f = let h = falls_low n (rank o) b f.1 in omega (arith, f.0, h)

falls_from : (n m k : ℕ) (b : Tail) → m ≤ k → Falls n m b → Falls n k b
falls_from n m k no_tail h f = omega (arith, h, f)
falls_from n m k (and_tail o p t b) h f = (omega (arith, h, f.0), f.1)

falls_tail : {m : ℕ} (n : ℕ) (x : ExpressionTree m) (b : Tail) → Falls n m b → (k : ℕ) × Falls n k (tail x b)
falls_tail {m} n (number_of k p) b f = (m, f)
falls_tail {m} n (name_of w p i) b f = (m, f)
falls_tail {m} n (parens_of p e q) b f = (m, f)
falls_tail {m} n (binary_of o h l p t) b f = falls_tail n l (and_tail o p t b) (omega arith, falls_from n m (rank o) b h f)

ends_tail : (n m : ℕ) (b : Tail) (r : List Told) → Falls n m b → Ends n r → Ends (m + 1) (front_tail b r)
ends_tail n m no_tail r f h = (h.0, omega (arith, f, h.1))
ends_tail n m (and_tail o p t b) r f h = let e = op_level o in (omega (arith, e), omega (arith, e, f.0))

-- what ends a tree is none of its operators
no_more : (n m : ℕ) (b : Tail) (r s : List Told) (o : Op) (p : Pos) → Falls n (rank o) b → Ends n r → r ≡ sign_at (op_sign o) p ∷ s → ⊥
no_more n m b r s o p f h e =
    let a = falls_low n (rank o) b f in
    let c : lev r ≡ rank o + 1 = ap lev e ∙ op_level o in
    omega (arith, a, c, h.1)

-- the right parts of one operator
abbrev SameRight : (o u : Op) → ExpressionTree (right_need o) → ExpressionTree (right_need u) → List Told → List Told → Type 0
SameRight o u t v r s = ((p : Pos) (b : Tail) → and_tail o p t b ≡ and_tail u p v b) × (r ≡ s)

one_right : (o u : Op) → o ≡ u → (t : ExpressionTree (right_need o)) (v : ExpressionTree (right_need u)) (r s : List Told) → IsOne t
    → Ends (right_need o) r → Ends (right_need u) s → front_expression t r ≡ front_expression v s → SameRight o u t v r s
one_right o u i t v r s f h =
    subst (λ x. (w : ExpressionTree (right_need x)) → Ends (right_need x) s → front_expression t r ≡ front_expression w s → SameRight o x t w r s) i
    (λ w k e. let c = f w r s h k e in (λ p b. ap (λ z. and_tail o p z b) c.0, c.1)) v

one_tails : (n m k : ℕ) (x y : Tail) (r s : List Told) → AreOne x → Falls n m x → Falls n k y → Ends n r → Ends n s
    → front_tail x r ≡ front_tail y s → Same x y r s
one_tails n m k no_tail no_tail r s a f g h i e = (refl, e)
one_tails n m k no_tail (and_tail o p t b) r s a f g h i e = absurd (no_more n m b r _ o p g.1 h e)
one_tails n m k (and_tail o p t b) no_tail r s a f g h i e = absurd (no_more n m b s _ o p f.1 i (sym e))
one_tails n m k (and_tail o p t b) (and_tail u q v c) r s a f g h i e =
    let j : Some o ≡ Some u = sym (op_again o) ∙ ap op_first e ∙ op_again u in
    let l : p ≡ q = ap first_pos e in
    let d = one_right o u (cc) t v (front_tail b r) (front_tail c s) a.0 (ends_tail n (rank o) b r f.1 h) (ends_tail n (rank u) c s g.1 i) (ap rest e) in
    let z = one_tails n (rank o) (rank u) b c r s a.1 f.1 g.1 h i d.1 in
    (d.0 p b ∙ ap (λ w. and_tail u w v b) l ∙ ap (λ w. and_tail u q v w) z.0, z.1)

one_head : (x : Head) → PartsOne x → IsOneHead x
one_head (number_head n p) f (number_head m q) r s h k e =
    let a : n ≡ m = ap number_first e in
    let b : p ≡ q = ap first_pos e in
    (cc, ap rest e)
one_head (name_head v p i) f (name_head w q j) r s h k e =
    let a : v ≡ w = ap name_first e in
    let b : p ≡ q = ap first_pos e in
    let c = f j r s h k (ap rest e) in
    let d : i ≡ j = c.0 in
    (cc, c.1)
one_head (parens_head p x q) f (parens_head u y v) r s h k e =
    let a : p ≡ u = ap first_pos e in
    let c = f y (sign_at RightRound q ∷ r) (sign_at RightRound v ∷ s) (omega arith, omega arith) (omega arith, omega arith) (ap rest e) in
    let d : x ≡ y = c.0 in
    let b : q ≡ v = ap first_pos c.1 in
    (cc, ap rest c.1)
one_head x f y r s h k e = let c : head_first (front_head x r) ≡ head_first (front_head y s) = ap head_first e in absurd (omega (arith, c))

-- of a tree whose head and right parts are such
one_by : {n : ℕ} (x : ExpressionTree n) → IsOneHead (head x) × ((b : Tail) → AreOne b → AreOne (tail x b)) → IsOne x
one_by {n} x o y r s h k e =
    let f = falls_tail n x no_tail (omega arith) in
    let g = falls_tail n y no_tail (omega arith) in
    let a = o.0 (head y) (front_tail (tail x no_tail) r) (front_tail (tail y no_tail) s) (ends_tail n f.0 (tail x no_tail) r f.1 h).0
    (ends_tail n g.0 (tail y no_tail) s g.1 k).0 (sym (spine_front x no_tail r) ∙ e ∙ spine_front y no_tail s) in
    let b = one_tails n f.0 g.0 (tail x no_tail) (tail y no_tail) r s (o.1 no_tail tt) f.1 g.1 h k a.1 in
    (same_spine x y a.0 b.0, b.1)

mutual
  ones : {n : ℕ} (x : ExpressionTree n) → IsOneHead (head x) × ((b : Tail) → AreOne b → AreOne (tail x b))
  ones (number_of n p) = (one_head (number_head n p) tt, λ b f. f)
  ones (name_of w p i) = (one_head (name_head w p i) (one_index i), λ b f. f)
  ones (parens_of p e q) = (one_head (parens_head p e q) (one_by e (ones e)), λ b f. f)
  ones (binary_of o h l p t) = ((ones l).0, λ b f. (ones l).1 (and_tail o p t b) (one_by t (ones t), f))

  pub one_index : (x : Index) → IsOneIndex x
  one_index no_index no_index r s h k e = (refl, e)
  one_index no_index (index_of p x q) r s h k e = let c : lev r ≡ 0 = ap lev e in absurd (omega (arith, c, h))
  one_index (index_of p x q) no_index r s h k e = let c : 0 ≡ lev s = ap lev e in absurd (omega (arith, c, k))
  one_index (index_of p x q) (index_of u y v) r s h k e =
      let a : p ≡ u = ap first_pos e in
      let c = one_by x (ones x) y (sign_at RightSquare q ∷ r) (sign_at RightSquare v ∷ s) (omega arith, omega arith) (omega arith, omega arith) (ap rest e) in
      let d : x ≡ y = c.0 in
      let b : q ≡ v = ap first_pos c.1 in
      (cc, ap rest c.1)

pub one_expression : (x y : ExpressionTree 1) (r s : List Told) → lev r ≡ 1 → lev s ≡ 1 → front_expression x r ≡ front_expression y s → Same x y r s
one_expression x y r s h k e = one_by x (ones x) y r s (omega (arith, h), omega (arith, h)) (omega (arith, k), omega (arith, k)) e
