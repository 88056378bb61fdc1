-- No word of a tree passes a limit exactly where the tree is within the limits.
use Rattle.std.proofs.Common.{◌≡◌, ◌≤◌, ◌+◌, ◌-◌, refl, subst, ℕ, List, ◌∷◌, Bool, true, false, ◌||◌, nat_lt, arith}
use Rattle.std.proofs.lemmas.Bool.{ltb-false}
use Rattle.mit_syntax.specs.declared.token.Sign.TheVariants.{RightRound, RightSquare}
use Rattle.mit_syntax.specs.Chunks.{sign}
use Rattle.mit_syntax.specs.Operators.{op_sign}
use Rattle.mit_syntax.specs.declared.ast.Op.{Op}
use Rattle.mit_syntax.specs.declared.ast.Op.TheVariants.{Add}
use Rattle.mit_parser.specs.declared.counts.Counts.{Counts}
use Rattle.mit_parser.specs.Words.{Told, word, sign_at}
use Rattle.mit_parser.specs.Tree.{ExpressionTree, number_of, name_of, parens_of, binary_of, no_index, index_of, front_expression}
use Rattle.mit_parser.specs.Counting.{count, is_over, Fits}
use Rattle.mit_parser.specs.Limits.{expression_depth, expression_size}

abbrev pub counts : ℕ → ℕ → Counts
counts d o = record { depth = d; operators = o; at = false; marks = false }

pub record IsLow (d o : ℕ) : Type 0 where
  pub depth : d ≤ 100
  pub operators : o ≤ 256

or_false : (a b : Bool) → (a || b) ≡ false → (a ≡ false) × (b ≡ false)
or_false true b e = cc
or_false false b e = (refl, e)

pub low : (d o : ℕ) → is_over (counts d o) ≡ false → IsLow d o
low d o e =
    let k = or_false (nat_lt 100 d) (nat_lt 256 o) e in
    record { depth = ltb-false 100 d k.0; operators = ltb-false 256 o k.1 }

-- whichever operator it is
count_op : (f : Op) (d o : ℕ) → count (counts d o) (word (sign (op_sign f))) ≡ counts d (o + 1)
count_op Add d o = refl
count_op _ d o = refl

-- from words that fit
along : (d a b : ℕ) (r : List Told) → a ≡ b → Fits (counts d a) r → Fits (counts d b) r
along d a b r e h = subst (λ n. Fits (counts d n) r) e h

-- and so do those after an expression, its operators counted
pub within_expression : {n : ℕ} (t : ExpressionTree n) (d o : ℕ) (r : List Told) → d ≤ 100 → o ≤ 256 → Fits (counts d o) (front_expression t r)
    → (d + expression_depth t ≤ 100) × (o + expression_size t ≤ 256) × Fits (counts d (o + expression_size t)) r
within_expression (number_of n p) d o r h k f = (omega arith, omega arith, along d o (o + 0) r (omega arith) f.1)
within_expression (name_of w p no_index) d o r h k f = (omega arith, omega arith, along d o (o + 0) r (omega arith) f.1)
within_expression (name_of w p (index_of q e s)) d o r h k f =
    let l = low (d + 1) o f.1.0 in
    let x = within_expression e (d + 1) o (sign_at RightSquare s ∷ r) l.depth k f.1.1 in
    let back : d + 1 - 1 ≡ d = omega arith in
    (omega (arith, x.0), x.1, subst (λ n. Fits (counts n (o + expression_size e)) r) back x.2.1)
within_expression (parens_of p e q) d o r h k f =
    let l = low (d + 1) o f.0 in
    let x = within_expression e (d + 1) o (sign_at RightRound q ∷ r) l.depth k f.1 in
    let back : d + 1 - 1 ≡ d = omega arith in
    (omega (arith, x.0), x.1, subst (λ n. Fits (counts n (o + expression_size e)) r) back x.2.1)
within_expression (binary_of g b a p t) d o r h k f =
    let x = within_expression a d o (sign_at (op_sign g) p ∷ front_expression t r) h k f in
    let m = o + expression_size a in
    let l = low d (m + 1) (subst (λ c. is_over c ≡ false) (count_op g d m) x.2.0) in
    let y = within_expression t d (m + 1) r h l.operators (subst (λ c. Fits c (front_expression t r)) (count_op g d m) x.2.1) in
    (omega (arith, x.0, y.0), omega (arith, y.1), along d _ (o + (expression_size a + 1 + expression_size t)) r (omega arith) y.2)
