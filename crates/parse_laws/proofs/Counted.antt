-- The words of a tree within the limits pass no limit.
use Rattle.std.proofs.Common.{◌≡◌, ◌≤◌, ◌+◌, ◌-◌, sym, subst, ℕ, List, ◌∷◌, false, arith}
use Rattle.mit_syntax.specs.declared.token.Sign.TheVariants.{RightRound, RightSquare}
use Rattle.mit_syntax.specs.Operators.{op_sign}
use Rattle.mit_syntax.specs.Chunks.{sign}
use Rattle.mit_parser.specs.declared.counts.Counts.{Counts}
use Rattle.mit_parser.specs.Words.{Told, word, sign_at}
use Rattle.mit_parser.specs.Counting.{count, is_over, Fits}
use Rattle.mit_parser.specs.Limits.{expression_depth, index_depth, expression_size, index_size}
use Rattle.mit_parser.specs.Tree.{ExpressionTree, number_of, name_of, parens_of, binary_of, Index, no_index, index_of, front_expression, front_index}
use Rattle.mit_parser.proofs.Levels.{op_counts}

-- so many brackets are open, and the expression so far has so many operators
abbrev pub st : ℕ → ℕ → Counts
st d o = record { depth = d; operators = o; at = false; marks = false }

pub calm : (d o : ℕ) → d ≤ 100 → o ≤ 256 → is_over (st d o) ≡ false
calm d o h k = grind arith

-- the same counts, from equal numbers
same_operators : (d o p : ℕ) (r : List Told) → o ≡ p → Fits (st d o) r → Fits (st d p) r
same_operators d o p r e h = subst (λ n. Fits (st d n) r) e h

pub closes : (d o : ℕ) (r : List Told) → d ≤ 100 → o ≤ 256 → Fits (st d o) r → (is_over (st (d + 1 - 1) o) ≡ false) × Fits (st (d + 1 - 1) o) r
closes d o r h k f =
    let e : d ≡ d + 1 - 1 = omega arith in
    subst (λ n. (is_over (st n o) ≡ false) × Fits (st n o) r) e (calm d o h k, f)

-- an operator before the rest
operates : (c e : Counts) (r : List Told) → e ≡ c → (is_over c ≡ false) × Fits c r → (is_over e ≡ false) × Fits e r
operates c e r q h = subst (λ z. (is_over z ≡ false) × Fits z r) (sym q) h

mutual
  pub fits_expression : {n : ℕ} (e : ExpressionTree n) (d o : ℕ) (r : List Told) → d + expression_depth e ≤ 100 → o + expression_size e ≤ 256
      → Fits (st d (o + expression_size e)) r → Fits (st d o) (front_expression e r)
  fits_expression (number_of n p) d o r h k f = (calm d o (omega (arith, h)) (omega (arith, k)), same_operators d (o + 0) o r (omega arith) f)
  fits_expression (name_of w p i) d o r h k f = (calm d o (omega (arith, h)) (omega (arith, k)), fits_index i d o r h k f)
  fits_expression (parens_of p e q) d o r h k f = (
    calm (d + 1) o (omega (arith, h)) (omega (arith, k)),
    fits_expression e (d + 1) o (sign_at RightRound q ∷ r) (omega (arith, h)) k (closes d (o + expression_size e) r (omega (arith, h)) k f),
  )
  fits_expression (binary_of s g l p t) d o r h k f =
      let m : ℕ = o + expression_size l in
      fits_expression l d o (sign_at (op_sign s) p ∷ front_expression t r) (omega (arith, h)) (omega (arith, k))
      (operates (st d (m + 1)) (count (st d m) (word (sign (op_sign s)))) (front_expression t r) (op_counts (st d m) s) (
        calm d (m + 1) (omega (arith, h)) (omega (arith, k)),
        fits_expression t d (m + 1) r (omega (arith, h)) (omega (arith, k))
            (same_operators d (o + (expression_size l + 1 + expression_size t)) (m + 1 + expression_size t) r (omega arith) f),
      ))

  pub fits_index : (i : Index) (d o : ℕ) (r : List Told) → d + index_depth i ≤ 100 → o + index_size i ≤ 256 → Fits (st d (o + index_size i)) r
      → Fits (st d o) (front_index i r)
  fits_index no_index d o r h k f = same_operators d (o + 0) o r (omega arith) f
  fits_index (index_of p e q) d o r h k f = (
    calm (d + 1) o (omega (arith, h)) (omega (arith, k)),
    fits_expression e (d + 1) o (sign_at RightSquare q ∷ r) (omega (arith, h)) k (closes d (o + expression_size e) r (omega (arith, h)) k f),
  )
