use Rattle.mit_syntax.proofs.TokenFacts.{from_within, to_within}
use Rattle.fault_print.proofs.Told.{on_ok, token_told}
use Rattle.fault_print.proofs.token.put_token.Goals as goal

pub bytes-word-requires-clause-order : goal.bytes-word-requires-clause-order
bytes-word-requires-clause-order c = from_within _ _ c.requires _ _ c.if-n-tokens.false

pub bytes-word-requires-clause-within : goal.bytes-word-requires-clause-within
bytes-word-requires-clause-within c = to_within _ _ c.requires _ _ c.if-n-tokens.false

pub returns : goal.returns
returns c =
    on_ok _ _ _ (token_told c.args.text.now c.args.tokens.now c.args.n _ c.args.could.now c.sort_in.result c.bytes-word.result.now c.trap_at-trap.result.now
    c.args.out.now.items c.put_lines.new.out.items
    c.if-n-tokens.false c.sort_in.ensures c.bytes-word.ensures c.trap_at-trap.ensures) c.put_lines.ensures
