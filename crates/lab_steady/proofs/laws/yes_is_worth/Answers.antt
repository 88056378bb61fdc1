use Rattle.lab_steady.proofs.Worthy.{worth}
use Rattle.lab_steady.proofs.laws.yes_is_worth.Goals as goal

pub returns : goal.returns
returns g c = worth (λ _. g.E.MachineEnv.env) g.E.MachineEnv.serves (λ order good. g.met.E.LawfulEnv.lawful order good)
