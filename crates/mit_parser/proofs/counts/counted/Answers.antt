use Rattle.std.proofs.Common.{ap, ◌∙◌, sym, ℕ, List}
use Rattle.mit_parser.specs.Words.{symbol_of}
use Rattle.mit_parser.specs.Counting.{count}
use Rattle.mit_parser.proofs.counts.counted.Goals as goal

pub returns-in-Sign : goal.returns-in-Sign
returns-in-Sign c = λ (w : List ℕ). c.past_sign.ensures ∙ ap (λ k. count c.args.c (symbol_of k w)) (sym c.in-Sign.is)
