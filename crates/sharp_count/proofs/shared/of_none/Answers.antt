use Rattle.std.proofs.Common.{sym}
use Rattle.leak_bound.specs.Digits.{digits}
use Rattle.sharp_count.proofs.Shares.{none_fits, none_is_over}
use Rattle.sharp_count.proofs.shared.of_none.Goals as goal

pub returns-then-spent-most : goal.returns-then-spent-most
returns-then-spent-most c = sym (none_fits (digits c.args.most) c.args.most c.args.spent c.if-spent-most.true)

pub returns-else-spent-most : goal.returns-else-spent-most
returns-else-spent-most c = sym (none_is_over (digits c.args.most) c.args.most c.args.spent c.if-spent-most.false)
