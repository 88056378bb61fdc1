use Rattle.std.proofs.Common.{◌+◌, map, refl, sym, ap, ◌∙◌}
use Rattle.class_counts.specs.Tally.{total}
use Rattle.leak_classes.specs.Classes.{events_in}
use Rattle.leak_classes.specs.Views.{class_of}
use Rattle.leak_classes.proofs.Grown.{eq_of, added_total}
use Rattle.leak_classes.proofs.Putting.{put_new, put_old, events_new, events_old}
use Rattle.leak_classes.proofs.known.Known.put.Goals as goal

pub returns-then-len-before-clause-classes : goal.returns-then-len-before-clause-classes
returns-then-len-before-clause-classes c =
    put_old c.args.self.now.classes.entries c.add.new.classes.entries c.args.sequence c.args.weight c.in_ok-add.ensures c.len-before.result c.len.result
    c.args.number c.len-before.ensures.len c.len.ensures.len c.args.self.now.firsts.items c.args.self.now.firsts.items c.if-len-before.true refl

pub returns-then-len-before-clause-events : goal.returns-then-len-before-clause-events
returns-then-len-before-clause-events c =
    c.requires.counted.events ∙ sym (events_old c.args.self.now.classes.entries c.add.new.classes.entries c.args.sequence c.args.weight c.in_ok-add.ensures
    c.len-before.result c.len.result c.args.number c.len-before.ensures.len c.len.ensures.len c.args.self.now.firsts.items c.if-len-before.true)

pub returns-then-len-before-clause-total : goal.returns-then-len-before-clause-total
returns-then-len-before-clause-total c = ap total c.in_ok-add.ensures ∙ added_total eq_of c.args.self.now.classes.entries c.args.sequence c.args.weight

pub returns-clause-classes : goal.returns-clause-classes
returns-clause-classes c =
    put_new c.args.self.now.classes.entries c.add.new.classes.entries c.args.sequence c.args.weight c.in_ok-add.ensures c.len-before.result c.len.result
    c.args.number c.len-before.ensures.len c.len.ensures.len c.args.self.now.firsts.items c.push.new.self.items c.if-len-before.false
    c.in_ok-push.ensures.items

pub returns-clause-events : goal.returns-clause-events
returns-clause-events c =
    let e = events_new c.args.self.now.classes.entries c.add.new.classes.entries c.args.sequence c.args.weight c.in_ok-add.ensures
    c.len-before.result c.len.result c.args.number c.len-before.ensures.len c.len.ensures.len c.args.self.now.firsts.items c.if-len-before.false in
    let was = c.requires.counted.events in
    let is = c.requires.shown in
    ap (λ z. z + c.args.shown) was ∙ (ap (λ z. events_in (map class_of c.args.self.now.classes.entries) + z) is ∙ sym e)

pub returns-clause-total : goal.returns-clause-total
returns-clause-total c = ap total c.in_ok-add.ensures ∙ added_total eq_of c.args.self.now.classes.entries c.args.sequence c.args.weight
