use Rattle.std.proofs.Common.{inl}
use Rattle.space_stage.proofs.given.start_stop.Goals as goal

pub returns-in_default : goal.returns-in_default
returns-in_default c = λ content bytes p told short is. inl (record {
  bytes = bytes;
  are = told;
  short = short;
  fault = c.args.fault;
  none = c.in_default.not-Memory;
  version = c.requires;
  is = is c.in_default.not-Memory;
  line = c.start_fault.ensures;
})
