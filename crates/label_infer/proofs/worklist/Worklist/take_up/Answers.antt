use Rattle.label_infer.proofs.Inferred.{after_step, none_left}
use Rattle.label_infer.proofs.worklist.Worklist.take_up.Goals as goal

pub returns-clause-work : goal.returns-clause-work
returns-clause-work g c = after_step c.step.result c.args.self.now c.step.new.self (λ e. let d = c.step.ensures.done e in (d.0, d.1)) c.step.ensures.taken

pub returns-clause-inferred : goal.returns-clause-inferred
returns-clause-inferred g c = λ e. let d = c.step.ensures.done e in none_left c.args.self.now c.step.new.self d.0 d.1
