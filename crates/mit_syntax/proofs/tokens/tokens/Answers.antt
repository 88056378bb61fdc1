use Rattle.mit_syntax.proofs.OneFault.{only}
use Rattle.mit_syntax.proofs.tokens.tokens.Goals as goal

pub returns-in-Ok-clause-only : goal.returns-in-Ok-clause-only
returns-in-Ok-clause-only c = only c.args.text.now c.cut.result (λ v. v.items) c.cut.ensures
