use Rattle.std.proofs.Common.{◌∙◌, sym}
use Rattle.machine_file.proofs.Limited.{none_within}
use Rattle.machine_file.proofs.limits.limit_fault.Goals as goal

pub returns-clause-value : goal.returns-clause-value
returns-clause-value c = cc

pub returns-clause-within : goal.returns-clause-within
returns-clause-within c n = none_within c.args.hardware (sym (returns-clause-value c) ∙ n)
