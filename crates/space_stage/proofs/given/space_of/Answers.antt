use Rattle.space_stage.proofs.given.space_of.Goals as goal

pub returns-in-Err-clause-stop : goal.returns-in-Err-clause-stop
returns-in-Err-clause-stop c = λ content told.
    c.space_stop.ensures content c.args.bytes.now c.args.p.now told c.requires.short c.requires.version c.in-Err.ensures.refused
