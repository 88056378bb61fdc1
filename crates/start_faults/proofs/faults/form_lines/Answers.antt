use Rattle.std.proofs.Common.{refl}
use Rattle.start_faults.specs.Told.{form_lines}
use Rattle.start_faults.proofs.faults.form_lines.Goals as goal

pub returns : goal.returns
unfolding form_lines
returns c = refl
