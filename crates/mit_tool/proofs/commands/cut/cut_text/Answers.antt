use Rattle.std.specs.Prelude.{ℕ, List, map, [], ◌∷◌, Some}
use Rattle.tim_base.specs.Faults.{Rose}
use Rattle.start_file.specs.Starts.{seen}
use Rattle.tool_texts.specs.declared.status.Status.TheVariants.{Done}
use Rattle.tool_stages.proofs.PrepareLemmas.{prepared_goes, prepare_stops, audit_stops}
use Rattle.mit_tool.proofs.PrepareLemmas.{cut_next}
use Rattle.tool_stages.proofs.FetchLemmas.{fetch_stops, not_read}
use Rattle.mit_tool.proofs.LoggedLemmas.{cut_no_read}
use Rattle.mit_tool.specs.Audited.{HasCut}
use Rattle.mit_tool.proofs.commands.cut.cut_text.Goals as goal

pub returns-in-Err-clause-stop : goal.returns-in-Err-clause-stop
returns-in-Err-clause-stop g c =
    prepare_stops (λ (name : List ℕ). Rose (g.S.Shelf.faults c.args.shelf.now name) (g.S.Shelf.faults c.prepare.new.shelf name))
    (g.S.Shelf.content c.args.shelf.now)
    c.args.file.now c.args.name.now _ (g.S.Shelf.content c.args.shelf.now c.args.starts.now) (cut_next c.args.setting.env c.args.setting.budget)
    c.in-Err.stop c.in-Err.ensures.stop

pub returns-in-Ok-cut_report-clause-text : goal.returns-in-Ok-cut_report-clause-text
returns-in-Ok-cut_report-clause-text g c =
    let p = c.in-Ok.prepared in
    prepared_goes (λ (name : List ℕ). Rose (g.S.Shelf.faults c.args.shelf.now name) (g.S.Shelf.faults c.prepare.new.shelf name))
    (g.S.Shelf.content c.args.shelf.now)
    c.args.file.now c.args.name.now (Rose (g.S.Shelf.faults c.args.shelf.now c.args.starts.now) (g.S.Shelf.faults c.prepare.new.shelf c.args.starts.now))
    (g.S.Shelf.content c.args.shelf.now c.args.starts.now)
    p.compiled.typed.labelled p.observer p.compiled.image (map seen p.starts.items) (cut_next c.args.setting.env c.args.setting.budget) Done
    c.in-Ok-cut_report.text.items c.in-Ok.ensures.ok
    c.in-Ok-cut_report.ensures.text

pub returns-clause-stop : goal.returns-clause-stop
returns-clause-stop g c =
    let p = c.in-Ok.prepared in
    audit_stops (λ (name : List ℕ). Rose (g.S.Shelf.faults c.args.shelf.now name) (g.S.Shelf.faults c.prepare.new.shelf name))
    (g.S.Shelf.content c.args.shelf.now)
    c.args.file.now c.args.name.now (Rose (g.S.Shelf.faults c.args.shelf.now c.args.starts.now) (g.S.Shelf.faults c.prepare.new.shelf c.args.starts.now))
    (g.S.Shelf.content c.args.shelf.now c.args.starts.now)
    p.compiled.typed.labelled p.observer p.compiled.image (map seen p.starts.items) (cut_next c.args.setting.env c.args.setting.budget)
    c.in-Err-cut_report.stop c.in-Ok.ensures.ok
    c.in-Err-cut_report.ensures.stop

pub returns-clause-log : goal.returns-clause-log
returns-clause-log g c =
    fetch_stops (Unit {0}) (Unit {0}) (c.args.file.now ∷ c.args.starts.now ∷ []) (g.S.Shelf.log c.args.shelf.now)
    (g.S.Shelf.log c.prepare.new.shelf) tt c.in-Err-cut_report.stop
    (not_read (HasCut c.args.setting.env c.args.setting.budget c.in-Ok.prepared.compiled.typed.labelled (Some c.in-Ok.prepared.observer)
    (map seen c.in-Ok.prepared.starts.items))
    (λ t. cut_no_read c.args.setting.env c.args.setting.budget c.in-Ok.prepared.compiled.typed.labelled (Some c.in-Ok.prepared.observer)
    (map seen c.in-Ok.prepared.starts.items) t) c.in-Err-cut_report.stop c.in-Err-cut_report.ensures.stop) c.in-Ok.ensures.log
