use Rattle.std.proofs.Common.{map}
use Rattle.start_file.specs.Starts.{seen}
use Rattle.lab_leak.proofs.Answering.{leak_tells}
use Rattle.lab_leak.proofs.text.prepared_text.Goals as goal

pub returns-in-Ok-told_text-clause-text : goal.returns-in-Ok-told_text-clause-text
returns-in-Ok-told_text-clause-text g c =
    leak_tells c.args.setting.env c.args.setting.budget c.args.p.now.compiled.typed.labelled c.args.p.now.observer (map seen c.args.p.now.starts.items)
    c.in-Ok.report c.in-Ok-told_text.text.items c.in-Ok.ensures.report c.in-Ok-told_text.ensures
