use Rattle.env_contract.specs.declared.place.Place.TheVariants.{Code, Data}
use Rattle.part_tlb.specs.Machine.{bank_at}
use Rattle.hardware.proofs.machine.HardwareEnv.look_line.Goals as goal

pub look_at-requires : goal.look_at-requires
look_at-requires c = (
  c.requires.0.sharing,
  c.requires.1,
  bank_at c.requires.0 Code,
  (c.requires.2.0.seats Code, c.requires.2.1, c.requires.2.2),
)

pub look_at-requires-in-Data : goal.look_at-requires-in-Data
look_at-requires-in-Data c = (
  c.requires.0.sharing,
  c.requires.1,
  bank_at c.requires.0 Data,
  (c.requires.2.0.seats Data, c.requires.2.1, c.requires.2.2),
)
