-- An expression where some rank is needed may stand where a lower one is.
use Rattle.std.proofs.Common.{◌≡◌, ◌≤◌, ◌+◌, refl, ap, ◌∙◌, ℕ, max, List, ◌∷◌, Option, arith}
use Rattle.text_base.specs.declared.pos.Pos.{Pos}
use Rattle.mit_syntax.specs.declared.ast.Op.{Op}
use Rattle.mit_syntax.specs.Operators.{op_sign, rank, left_need, right_need}
use Rattle.mit_syntax.specs.Expression.{Binary}
use Rattle.mit_parser.specs.declared.fault.ParseFault.{ParseFault}
use Rattle.mit_parser.specs.Words.{Told, sign_at}
use Rattle.mit_parser.specs.Tree.{ExpressionTree, number_of, name_of, parens_of, binary_of, front_expression}
use Rattle.mit_parser.specs.Scope.{Scope}
use Rattle.mit_parser.specs.Meaning.{expression_value}
use Rattle.mit_parser.specs.Faults.{note_expression}

abbrev pub as_need : {m : ℕ} (n : ℕ) → n ≤ m → ExpressionTree m → ExpressionTree n
as_need n h (number_of k p) = number_of k p
as_need n h (name_of w p i) = name_of w p i
as_need n h (parens_of p e q) = parens_of p e q
as_need n h (binary_of o g l p t) = binary_of o (omega (arith, h, g)) l p t

-- it has the same words and value, and the same is wrong with its names
pub front_as : {m : ℕ} (n : ℕ) (h : n ≤ m) (t : ExpressionTree m) (r : List Told) → front_expression (as_need n h t) r ≡ front_expression t r
front_as n h (number_of k p) r = refl
front_as n h (name_of w p i) r = refl
front_as n h (parens_of p e q) r = refl
front_as n h (binary_of o g l p t) r = refl

pub value_as : {m : ℕ} (n : ℕ) (h : n ≤ m) (sc : Scope) (t : ExpressionTree m) → expression_value sc (as_need n h t) ≡ expression_value sc t
value_as n h sc (number_of k p) = refl
value_as n h sc (name_of w p i) = refl
value_as n h sc (parens_of p e q) = refl
value_as n h sc (binary_of o g l p t) = refl

pub note_as : {m : ℕ} (n : ℕ) (h : n ≤ m) (sc : Scope) (t : ExpressionTree m) (u : Option ParseFault)
    → note_expression sc (as_need n h t) u ≡ note_expression sc t u
note_as n h sc (number_of k p) u = refl
note_as n h sc (name_of w p i) u = refl
note_as n h sc (parens_of p e q) u = refl
note_as n h sc (binary_of o g l p t) u = refl

-- an operator of rank n between two expressions that may stand there
module _ {n m : ℕ} (o : Op) (same : rank o ≡ n) (h : max 2 n ≤ m) (l : ExpressionTree m) (p : Pos) (t : ExpressionTree (n + 1)) where
  fits : (n ≤ rank o) × (left_need o ≤ m) × (right_need o ≤ n + 1)
  fits = (omega (arith, same), omega (arith, same, h), omega (arith, same))

  pub join : ExpressionTree n
  join = binary_of o fits.0 (as_need (left_need o) fits.1 l) p (as_need (right_need o) fits.2 t)

  pub front_join : (r : List Told) → front_expression join r ≡ front_expression l (sign_at (op_sign o) p ∷ front_expression t r)
  unfolding join
  front_join r =
      front_as (left_need o) fits.1 l (sign_at (op_sign o) p ∷ front_expression (as_need (right_need o) fits.2 t) r)
      ∙ ap (λ z. front_expression l (sign_at (op_sign o) p ∷ z)) (front_as (right_need o) fits.2 t r)

  pub value_join : (sc : Scope) → expression_value sc join ≡ Binary o (expression_value sc l) (expression_value sc t)
  unfolding join
  value_join sc =
      ap (λ v. Binary o v (expression_value sc (as_need (right_need o) fits.2 t))) (value_as (left_need o) fits.1 sc l)
      ∙ ap (λ v. Binary o (expression_value sc l) v) (value_as (right_need o) fits.2 sc t)

  pub note_join : (sc : Scope) (u : Option ParseFault) → note_expression sc join u ≡ note_expression sc t (note_expression sc l u)
  unfolding join
  note_join sc u =
      note_as (right_need o) fits.2 sc t (note_expression sc (as_need (left_need o) fits.1 l) u)
      ∙ ap (note_expression sc t) (note_as (left_need o) fits.1 sc l u)
