-- An expression as what it begins with, and the operators with their right parts behind that.
use Rattle.std.proofs.Common.{◌≡◌, ◌≤◌, ◌<◌, refl, sym, ap, ◌∙◌, ℕ, ℤ, pos, List, ◌∷◌, ◌⊎◌, inl, inr, arith}
use Rattle.std.proofs.Math.Bridge.{le_prop}
use Rattle.std.proofs.lemmas.Bool.{cases_lt}
use Rattle.text_base.specs.declared.pos.Pos.{Pos}
use Rattle.mit_syntax.specs.declared.ast.Op.{Op}
use Rattle.mit_syntax.specs.declared.token.Sign.TheVariants.{LeftRound, RightRound}
use Rattle.mit_syntax.specs.Operators.{op_sign, rank, left_need, right_need}
use Rattle.mit_syntax.specs.Chunks.{number}
use Rattle.mit_parser.specs.Words.{Told, word, sign_at, name_at}
use Rattle.mit_parser.specs.Tree.{ExpressionTree, number_of, name_of, parens_of, binary_of, Index, front_expression, front_index}

-- a number, a name or parentheses
pub data Head : Type 0 where
  number_head : ℤ → Pos → Head
  name_head : List ℕ → Pos → Index → Head
  parens_head : Pos → ExpressionTree 1 → Pos → Head

-- operators with their positions and right parts
pub data Tail : Type 0 where
  no_tail : Tail
  and_tail : (o : Op) → Pos → ExpressionTree (right_need o) → Tail → Tail

abbrev pub head : {n : ℕ} → ExpressionTree n → Head
head (number_of k p) = number_head k p
head (name_of w p i) = name_head w p i
head (parens_of p e q) = parens_head p e q
head (binary_of o h l p t) = head l

-- the operators of a tree, before others
abbrev pub tail : {n : ℕ} → ExpressionTree n → Tail → Tail
tail (number_of k p) b = b
tail (name_of w p i) b = b
tail (parens_of p e q) b = b
tail (binary_of o h l p t) b = tail l (and_tail o p t b)

abbrev pub front_head : Head → List Told → List Told
front_head (number_head k p) r = record { symbol = word (number k); pos = p } ∷ r
front_head (name_head w p i) r = name_at w p ∷ front_index i r
front_head (parens_head p e q) r = sign_at LeftRound p ∷ front_expression e (sign_at RightRound q ∷ r)

abbrev pub front_tail : Tail → List Told → List Told
front_tail no_tail r = r
front_tail (and_tail o p t b) r = sign_at (op_sign o) p ∷ front_expression t (front_tail b r)

pub spine_front : {n : ℕ} (x : ExpressionTree n) (b : Tail) (r : List Told)
    → front_expression x (front_tail b r) ≡ front_head (head x) (front_tail (tail x b) r)
spine_front (number_of k p) b r = refl
spine_front (name_of w p i) b r = refl
spine_front (parens_of p e q) b r = refl
spine_front (binary_of o h l p t) b r = spine_front l (and_tail o p t b) r

-- the tree where a rank is needed, if it has that rank
abbrev fitted : (n : ℕ) (o : Op) → ExpressionTree (left_need o) → Pos → ExpressionTree (right_need o) → (rank o < n) ⊎ (n ≤ rank o) → ExpressionTree n
fitted n o l p t (inl h) = number_of (pos 0) p
fitted n o l p t (inr h) = binary_of o h l p t

abbrev fit : {m : ℕ} (n : ℕ) → ExpressionTree m → ExpressionTree n
fit n (number_of k p) = number_of k p
fit n (name_of w p i) = name_of w p i
fit n (parens_of p e q) = parens_of p e q
fit n (binary_of o h l p t) = fitted n o l p t (cases_lt (rank o) n)

fitted_same : (n : ℕ) (o : Op) (h : n ≤ rank o) (l : ExpressionTree (left_need o)) (p : Pos) (t : ExpressionTree (right_need o))
    (c : (rank o < n) ⊎ (n ≤ rank o)) → fitted n o l p t c ≡ binary_of o h l p t
fitted_same n o h l p t (inl g) = absurd (omega (arith, g, h))
fitted_same n o h l p t (inr g) = ap (λ z. binary_of o z l p t) (le_prop g h)

fit_same : {n : ℕ} (x : ExpressionTree n) → fit n x ≡ x
fit_same (number_of k p) = refl
fit_same (name_of w p i) = refl
fit_same (parens_of p e q) = refl
fit_same {n} (binary_of o h l p t) = fitted_same n o h l p t (cases_lt (rank o) n)

-- an operator between two trees
abbrev joined : (o : Op) → ExpressionTree (left_need o) → Pos → ExpressionTree (right_need o) → ExpressionTree 0
joined o l p t = binary_of o (omega arith) l p t

-- the tree with operators behind it
abbrev put : {m : ℕ} (n : ℕ) → Tail → ExpressionTree m → ExpressionTree n
put n no_tail x = fit n x
put n (and_tail o p t b) x = put n b (joined o (fit (left_need o) x) p t)

put_same : {m k : ℕ} (n : ℕ) (b : Tail) (x : ExpressionTree m) (y : ExpressionTree k) → ((c : ℕ) → fit c x ≡ fit c y) → put n b x ≡ put n b y
put_same n no_tail x y h = h n
put_same n (and_tail o p t b) x y h = ap (λ z. put n b (joined o z p t)) (h (left_need o))

-- what a tree begins with, as a tree
abbrev alone : Head → ExpressionTree 0
alone (number_head k p) = number_of k p
alone (name_head w p i) = name_of w p i
alone (parens_head p e q) = parens_of p e q

put_back : {m : ℕ} (n : ℕ) (x : ExpressionTree m) (b : Tail) → put n (tail x b) (alone (head x)) ≡ put n b x
put_back n (number_of k p) b = put_same n b (number_of k p) (number_of k p) (λ c. refl)
put_back n (name_of w p i) b = put_same n b (name_of w p i) (name_of w p i) (λ c. refl)
put_back n (parens_of p e q) b = put_same n b (parens_of p e q) (parens_of p e q) (λ c. refl)
put_back n (binary_of o h l p t) b =
    put_back n l (and_tail o p t b)
    ∙ put_same n b (joined o (fit (left_need o) l) p t) (binary_of o h l p t)
    (λ c. ap (λ z. fitted c o z p t (cases_lt (rank o) c)) (fit_same l))

-- trees are the same where both are
pub same_spine : {n : ℕ} (x y : ExpressionTree n) → head x ≡ head y → tail x no_tail ≡ tail y no_tail → x ≡ y
same_spine {n} x y h k =
    sym (put_back n x no_tail ∙ fit_same x) ∙ ap (λ z. put n z (alone (head x))) k ∙ ap (λ z. put n (tail y no_tail) (alone z)) h
    ∙ put_back n y no_tail ∙ fit_same y
