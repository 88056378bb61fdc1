use Rattle.space_stage.proofs.given.given_of.Goals as goal

pub returns-in_default : goal.returns-in_default
returns-in_default c = record {
  ok = tt;
  valid = tt;
  stop = λ content told. c.start_stop.ensures content c.args.bytes.now c.args.p.now told c.requires c.in-Err.ensures.refused;
}
