use Rattle.std.proofs.Common.{sym}
use Rattle.space_starts.specs.Space.{seen}
use Rattle.leak_classes.specs.Views.{classes_of}
use Rattle.space_leak.proofs.Telling.{some_classes, space_tells}
use Rattle.space_leak.proofs.leak.space_leak.Goals as goal

pub space_text-requires-clause-some : goal.space_text-requires-clause-some
space_text-requires-clause-some g c =
    some_classes c.args.setting.env c.args.setting.budget c.args.p.now c.args.observer.number (seen c.args.space.now) (classes_of c.in-Ok-walked.known)
    c.in-Ok-walked.ensures.classes

pub returns-in-Ok-space_text-clause-text : goal.returns-in-Ok-space_text-clause-text
returns-in-Ok-space_text-clause-text g c =
    space_tells c.args.setting.env c.args.setting.budget c.args.p.now c.args.observer (seen c.args.space.now) (classes_of c.in-Ok-walked.known)
    c.in-Ok-space_text.text.items c.in-Ok-walked.ensures.classes (c.in-Ok-space_text.ensures (seen c.args.space.now) (sym c.in-Ok.ensures))
