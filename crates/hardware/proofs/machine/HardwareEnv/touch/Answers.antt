use Rattle.env_contract.specs.declared.place.Place.TheVariants.{Page, Code, Data, Second}
use Rattle.part_tlb.specs.Machine.{bank_at}
use Rattle.hardware.proofs.machine.HardwareEnv.touch.Goals as goal

pub touch_at-requires : goal.touch_at-requires
touch_at-requires c = (c.requires.0.sharing, c.requires.1, bank_at c.requires.0 Page, (c.requires.2.0.seats Page, c.requires.2.1))

pub touch_at-requires-in-Code : goal.touch_at-requires-in-Code
touch_at-requires-in-Code c = (c.requires.0.sharing, c.requires.1, bank_at c.requires.0 Code, (c.requires.2.0.seats Code, c.requires.2.1))

pub touch_at-requires-in-Data : goal.touch_at-requires-in-Data
touch_at-requires-in-Data c = (c.requires.0.sharing, c.requires.1, bank_at c.requires.0 Data, (c.requires.2.0.seats Data, c.requires.2.1))

pub touch_at-requires-in-Second : goal.touch_at-requires-in-Second
touch_at-requires-in-Second c = (c.requires.0.sharing, c.requires.1, bank_at c.requires.0 Second, (c.requires.2.0.seats Second, c.requires.2.1))
