use Rattle.std.specs.Prelude.{map, OnOk}
use Rattle.std.proofs.Common.{sym, ◌∙◌, subst}
use Rattle.start_file.specs.Starts.{seen}
use Rattle.lab_bound.specs.Text.{TextPut}
use Rattle.lab_bound.specs.Answer.{TellsBy}
use Rattle.lab_bound.proofs.text.put_told.Goals as goal

pub returns-in-Partitioned : goal.returns-in-Partitioned
returns-in-Partitioned c =
    subst (λ z. OnOk c.put_counts.result (TextPut (TellsBy z c.args.p.now.compiled.typed.labelled c.args.p.now.observer c.args.setting.budget
    (map seen c.args.p.now.starts.items) c.args.report.now) c.args.text.now.items c.put_counts.new.text.items))
    (sym c.in-Partitioned.is ∙ c.sharing.ensures) c.put_counts.ensures
