use Rattle.tool_stages.proofs.starts.starts_of.Goals as goal

pub returns-in-Err-clause-stop : goal.returns-in-Err-clause-stop
returns-in-Err-clause-stop c = λ content told. c.start_stop.ensures content c.args.bytes.now c.args.p.now told c.requires c.in-Err.ensures.refused
