use Rattle.mit_syntax.proofs.TokenFacts.{from_within, to_within}
use Rattle.fault_print.proofs.token.word_at.Goals as goal

pub bytes-requires-clause-order : goal.bytes-requires-clause-order
bytes-requires-clause-order c = from_within _ _ c.requires _ _ c.if-n-tokens.false

pub bytes-requires-clause-within : goal.bytes-requires-clause-within
bytes-requires-clause-within c = to_within _ _ c.requires _ _ c.if-n-tokens.false
