use Rattle.entry_classes.proofs.Turning.{none_turned, one_turned, all_turned, none_left}
use Rattle.entry_classes.proofs.known.Known.done.Goals as goal

pub loop-entries-init : goal.loop-entries-init
loop-entries-init c = λ runs h. none_turned runs c.args.self.classes.entries c.new-classes.result.items c.new-classes.ensures.items h

pub loop-entries-preserved : goal.loop-entries-preserved
loop-entries-preserved c = λ runs h.
    one_turned runs c.loop-entries.self.classes.entries c.pop.new.self.entries c.in-Some.entries c.in-Some.starts c.loop-entries.classes.items
    c.push.new.self.items c.in-Some.ensures.entries c.in_ok-push.ensures.items (c.loop-entries.invariant runs h)

pub returns : goal.returns
returns c = λ runs h.
    all_turned runs c.loop-entries.self.classes.entries c.loop-entries.classes.items
    (none_left c.loop-entries.self.classes.entries (c.in_default.ensures.found).1) (c.loop-entries.invariant runs h)
