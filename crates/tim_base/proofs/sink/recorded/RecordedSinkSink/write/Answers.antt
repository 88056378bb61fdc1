use Rattle.tim_base.proofs.RecordedLemmas.{offers_take_all}
use Rattle.tim_base.proofs.sink.recorded.RecordedSinkSink.write.Goals as goal

pub invariant_of-self : goal.invariant_of-self
invariant_of-self c = offers_take_all _

pub invariant_of-self-2 : goal.invariant_of-self-2
invariant_of-self-2 c = offers_take_all _
