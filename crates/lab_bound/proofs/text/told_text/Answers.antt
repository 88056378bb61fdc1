use Rattle.std.specs.Prelude.{map}
use Rattle.start_file.specs.Starts.{seen}
use Rattle.lab_bound.proofs.Answering.{bound_tells}
use Rattle.lab_bound.proofs.text.told_text.Goals as goal

pub returns : goal.returns
returns c =
    bound_tells c.args.setting.env c.args.setting.budget c.args.p.now.compiled.typed.labelled c.args.p.now.observer (map seen c.args.p.now.starts.items)
    c.args.report.now c.new-text.result.items c.put_head.new.text.items c.put_told.new.text.items c.requires.reported c.new-text.ensures.items
    c.in_ok-put_head.ensures c.in_ok-put_told.ensures
