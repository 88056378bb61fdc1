-- The words that are operators.
use Rattle.std.specs.Prelude.{ℕ, ◌==◌, cond, Option, Some, None}
use Rattle.mit_syntax.specs.declared.ast.Op.{Op}
use Rattle.mit_syntax.specs.Chunks.{sign}
use Rattle.mit_syntax.specs.Operators.{op_of, rank}
use Rattle.mit_parser.specs.Words.{Symbol, word}

-- an operator, if it has this rank
abbrev pub of_rank : ℕ → Option Op → Option Op
of_rank n None = None
of_rank n (Some o) = cond (rank o == n) (Some o) None

-- the operator of this rank that a word is
abbrev pub op_at : ℕ → Symbol → Option Op
op_at n (word (sign s)) = of_rank n (op_of s)
op_at n _ = None
