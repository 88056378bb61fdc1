use Rattle.std.proofs.Common.{subst}
use Rattle.space_starts.specs.Space.{lists, seen}
use Rattle.space_walk.specs.Agreeing.{NoneRanges}
use Rattle.space_leak.proofs.leak.walked.Goals as goal

pub returns-in-Ok-clause-classes : goal.returns-in-Ok-clause-classes
returns-in-Ok-clause-classes g c = record {
  agree = subst (λ z. NoneRanges c.args.p.now c.args.observer.number (lists z)) c.as_slice.ensures.value c.in_default.ensures;
  classes = c.in-Ok.ensures.classes;
}

pub returns-in-Err-clause-stop : goal.returns-in-Err-clause-stop
returns-in-Err-clause-stop g c =
    c.walk_stop.ensures c.args.setting.env c.args.setting.budget c.args.p.now c.args.observer (seen c.args.space.now) (λ n. record {
      agree = subst (λ z. NoneRanges c.args.p.now c.args.observer.number (lists z)) c.as_slice.ensures.value c.in_default.ensures;
      fault = c.in-Err.ensures.fault n;
    })
