use Rattle.std.proofs.Common.{rules}
use Rattle.space_walk.proofs.Same.{several}
use Rattle.space_walk.proofs.agreement.are_several.Goals as goal

pub returns-else-first-gt0 : goal.returns-else-first-gt0
returns-else-first-gt0 c =
    several c.args.values.now c.in-Some.first.now c.in-Some.others.now c.is_empty.result (search rules) c.if-first-gt0.false c.is_empty.ensures
