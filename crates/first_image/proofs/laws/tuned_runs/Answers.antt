use Rattle.first_image.proofs.Tuning.{tuned_runs as proof}
use Rattle.first_image.proofs.laws.tuned_runs.Goals as goal

pub returns : goal.returns
returns g c = proof g.E.MachineEnv.env
