use Rattle.std.proofs.Common.{ap, ◌∙◌}
use Rattle.class_counts.specs.Tally.{total}
use Rattle.entry_classes.proofs.Adding.{one_more, total_added}
use Rattle.entry_classes.proofs.known.Known.put.Goals as goal

pub returns-clause-kept : goal.returns-clause-kept
returns-clause-kept c = λ runs h. one_more c.args.self.now.classes.entries c.add.new.classes.entries c.args.entries runs c.in_ok-add.ensures h

pub returns-clause-total : goal.returns-clause-total
returns-clause-total c = ap total c.in_ok-add.ensures ∙ total_added c.args.self.now.classes.entries c.args.entries
