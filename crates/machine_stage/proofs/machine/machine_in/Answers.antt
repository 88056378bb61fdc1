use Rattle.machine_stage.proofs.machine.machine_in.Goals as goal

pub returns-in-Err-clause-stop : goal.returns-in-Err-clause-stop
returns-in-Err-clause-stop c = λ content told. c.machine_stop.ensures content c.args.bytes.now told c.requires c.in-Err.ensures.refused
