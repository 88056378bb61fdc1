-- The ranks of operators, as the parser and the machine find them.
use Rattle.std.proofs.Common.{◌≡◌, ◌≤◌, ◌<◌, refl, ap, ◌∙◌, sym, ℕ, Bool, true, false, cond, List, [], ◌∷◌, Option, Some, None, arith}
use Rattle.std.specs.Prelude.{◌==◌}
use Rattle.std.proofs.lemmas.Bool.{eqb-true}
use Rattle.mit_syntax.specs.declared.ast.Op.{Op}
use Rattle.mit_syntax.specs.declared.ast.Op.TheVariants.{Add}
use Rattle.mit_syntax.specs.declared.token.Sign.{Sign}
use Rattle.mit_syntax.specs.declared.token.Sign.TheVariants.{Assign}
use Rattle.mit_syntax.specs.Operators.{op_sign, op_of, rank}
use Rattle.mit_syntax.specs.Chunks.{sign}
use Rattle.mit_parser.specs.declared.counts.Counts.{Counts}
use Rattle.mit_parser.specs.Words.{Symbol, word, the_end, is, symbol_of, kind_of}
use Rattle.mit_parser.specs.Operators.{op_at, of_rank}
use Rattle.mit_parser.specs.Counting.{count, past_operator}
use Rattle.mit_parser.specs.Machine.{Part, an_atom, a_term, factors, a_sum, addends, an_expr, comparison, step, choice}

-- the sign of an operator, or else this one
abbrev sign_or : Sign → Option Op → Sign
sign_or s None = s
sign_or s (Some o) = op_sign o

sign_again : (s : Sign) → s ≡ sign_or s (op_of s)
sign_again Assign = refl
sign_again _ = refl

ranked : (n : ℕ) (found : Option Op) (o : Op) → Some o ≡ of_rank n found → (found ≡ Some o) × (rank o ≡ n)
ranked n None o e = cc
ranked n (Some q) o e = by (rank q == n) refl e
  where
    by : (b : Bool) → rank q == n ≡ b → Some o ≡ cond b (Some q) None → (Some q ≡ Some o) × (rank o ≡ n)
    by true h k = (sym k, let same : o ≡ q = cc in ap rank same ∙ eqb-true (rank q) n h)
    by false h k = cc

-- a word that is an operator of some rank
pub op_is : (n : ℕ) (s : Symbol) (o : Op) → Some o ≡ op_at n s → (rank o ≡ n) × (s ≡ word (sign (op_sign o)))
op_is n (word (sign g)) o e =
    let k = ranked n (op_of g) o e in
    (k.1, ap (λ x. word (sign x)) (sign_again g ∙ ap (sign_or g) k.0))
op_is n _ o e = cc

-- what the code's test of a token says of the word
pub op_kind : (n : ℕ) (s : Symbol) → op_at n (symbol_of (kind_of s) []) ≡ op_at n s
op_kind n (word (sign g)) = refl
op_kind n _ = refl

-- an operator is not the end
pub op_goes_on : (n : ℕ) (s : Symbol) (o : Op) → Some o ≡ op_at n s → is the_end s ≡ false
op_goes_on n (word w) o e = refl
op_goes_on n the_end o e = cc

pub op_counts : (c : Counts) (o : Op) → count c (word (sign (op_sign o))) ≡ past_operator c
op_counts c Add = refl
op_counts c _ = refl

pub op_again : (o : Op) → op_of (op_sign o) ≡ Some o
op_again Add = refl
op_again _ = refl

-- at its own rank, and at no other
pub at_rank : (n : ℕ) (o : Op) → rank o ≡ n → op_at n (word (sign (op_sign o))) ≡ Some o
at_rank n o e = let h : (rank o == n) ≡ true = grind (arith, e) in ap (of_rank n) (op_again o) ∙ ap (λ b. cond b (Some o) None) h

pub off_rank : (n : ℕ) (o : Op) → rank o < n → op_at n (word (sign (op_sign o))) ≡ None
off_rank n o e = let h : (rank o == n) ≡ false = grind (arith, e) in ap (of_rank n) (op_again o) ∙ ap (λ b. cond b (Some o) None) h

pub rank_some : (o : Op) → (1 ≤ rank o) × (rank o ≤ 3)
rank_some Add = (omega arith, omega arith)
rank_some _ = (omega arith, omega arith)

-- a part is read as a part of the next rank, after which operators of its own rank may follow; rest_of says what follows them
pub record Level (n : ℕ) (part next follows : Part) (rest_of : List Part → List Part) : Type 0 where
  pub begins : (s : List Part) (w : Symbol) → step (part ∷ s) w ≡ step (next ∷ follows ∷ s) w
  pub goes_on : (s : List Part) (w : Symbol) → step (follows ∷ s) w ≡ choice (op_at n w) (step s w) (λ _. Some (next ∷ rest_of s))

pub terms : Level 3 a_term an_atom factors (λ s. factors ∷ s)
terms = record { begins = λ s w. refl; goes_on = λ s w. refl }

pub sums : Level 2 a_sum a_term addends (λ s. addends ∷ s)
sums = record { begins = λ s w. refl; goes_on = λ s w. refl }

pub wholes : Level 1 an_expr a_sum comparison (λ s. s)
wholes = record { begins = λ s w. refl; goes_on = λ s w. refl }

module _ {n : ℕ} {part next follows : Part} {rest_of : List Part → List Part} (k : Level n part next follows rest_of) where
  pub on_op : (s : List Part) (w : Symbol) (o : Op) → op_at n w ≡ Some o → step (follows ∷ s) w ≡ Some (next ∷ rest_of s)
  on_op s w o e = k.goes_on s w ∙ ap (λ x. choice x (step s w) (λ _. Some (next ∷ rest_of s))) e

  pub off_op : (s : List Part) (w : Symbol) → op_at n w ≡ None → step (follows ∷ s) w ≡ step s w
  off_op s w e = k.goes_on s w ∙ ap (λ x. choice x (step s w) (λ _. Some (next ∷ rest_of s))) e
