use Rattle.env_contract.specs.declared.place.Place.TheVariants.{Page, Code, Data, Second}
use Rattle.hardware.specs.Seated.{seat_of_some}
use Rattle.hardware.proofs.machine.HardwareEnvMachineEnv.same.Goals as goal

pub same_at-requires : goal.same_at-requires
same_at-requires c =
    let order = c.requires.0 in
    (order, (seat_of_some order c.args.self.now c.requires.1.0 Page, seat_of_some order c.args.other.now c.requires.1.1 Page, c.requires.1.2))

pub same_at-requires-in-Code : goal.same_at-requires-in-Code
same_at-requires-in-Code c =
    let order = c.requires.0 in
    (order, (seat_of_some order c.args.self.now c.requires.1.0 Code, seat_of_some order c.args.other.now c.requires.1.1 Code, c.requires.1.2))

pub same_at-requires-in-Data : goal.same_at-requires-in-Data
same_at-requires-in-Data c =
    let order = c.requires.0 in
    (order, (seat_of_some order c.args.self.now c.requires.1.0 Data, seat_of_some order c.args.other.now c.requires.1.1 Data, c.requires.1.2))

pub same_at-requires-in-Second : goal.same_at-requires-in-Second
same_at-requires-in-Second c =
    let order = c.requires.0 in
    (order, (seat_of_some order c.args.self.now c.requires.1.0 Second, seat_of_some order c.args.other.now c.requires.1.1 Second, c.requires.1.2))
