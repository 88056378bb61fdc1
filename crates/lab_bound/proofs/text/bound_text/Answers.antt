use Rattle.std.specs.Prelude.{ℕ, List, [], ◌∷◌, Some, map}
use Rattle.tim_base.specs.Faults.{Rose}
use Rattle.start_file.specs.Starts.{seen}
use Rattle.tool_texts.specs.declared.status.Status.TheVariants.{Done}
use Rattle.tool_stages.proofs.FetchLemmas.{fetch_stops, not_read}
use Rattle.lab_runs.proofs.PreparedLemmas.{prepared_goes, prepare_stops, audit_stops}
use Rattle.lab_bound.specs.Answer.{HasBound}
use Rattle.lab_bound.proofs.Answering.{bound_next, no_read_in}
use Rattle.lab_bound.proofs.text.bound_text.Goals as goal

pub returns-in-Err-clause-stop : goal.returns-in-Err-clause-stop
returns-in-Err-clause-stop g c =
    prepare_stops (λ (name : List ℕ). Rose (g.S.Shelf.faults c.args.shelf.now name) (g.S.Shelf.faults c.prepare.new.shelf name))
    (g.S.Shelf.content c.args.shelf.now)
    c.args.file.now c.args.name.now _ (g.S.Shelf.content c.args.shelf.now c.args.starts.now) (bound_next c.args.setting.env c.args.setting.budget)
    c.in-Err.stop c.in-Err.ensures.stop

pub returns-in-Ok-prepared_text-clause-text : goal.returns-in-Ok-prepared_text-clause-text
returns-in-Ok-prepared_text-clause-text g c =
    let p = c.in-Ok.prepared in
    prepared_goes (λ (name : List ℕ). Rose (g.S.Shelf.faults c.args.shelf.now name) (g.S.Shelf.faults c.prepare.new.shelf name))
    (g.S.Shelf.content c.args.shelf.now)
    c.args.file.now c.args.name.now (Rose (g.S.Shelf.faults c.args.shelf.now c.args.starts.now) (g.S.Shelf.faults c.prepare.new.shelf c.args.starts.now))
    (g.S.Shelf.content c.args.shelf.now c.args.starts.now)
    p.compiled.typed.labelled p.observer p.compiled.image (map seen p.starts.items) (bound_next c.args.setting.env c.args.setting.budget) Done
    c.in-Ok-prepared_text.text.items c.in-Ok.ensures.ok c.in-Ok-prepared_text.ensures.text

pub returns-clause-stop : goal.returns-clause-stop
returns-clause-stop g c =
    let p = c.in-Ok.prepared in
    audit_stops (λ (name : List ℕ). Rose (g.S.Shelf.faults c.args.shelf.now name) (g.S.Shelf.faults c.prepare.new.shelf name))
    (g.S.Shelf.content c.args.shelf.now)
    c.args.file.now c.args.name.now (Rose (g.S.Shelf.faults c.args.shelf.now c.args.starts.now) (g.S.Shelf.faults c.prepare.new.shelf c.args.starts.now))
    (g.S.Shelf.content c.args.shelf.now c.args.starts.now)
    p.compiled.typed.labelled p.observer p.compiled.image (map seen p.starts.items) (bound_next c.args.setting.env c.args.setting.budget)
    c.in-Err-prepared_text.stop c.in-Ok.ensures.ok c.in-Err-prepared_text.ensures.stop

pub returns-clause-log : goal.returns-clause-log
returns-clause-log g c =
    let p = c.in-Ok.prepared in
    let e = c.in-Err-prepared_text.stop in
    fetch_stops (Unit {0}) (Unit {0}) (c.args.file.now ∷ c.args.starts.now ∷ []) (g.S.Shelf.log c.args.shelf.now) (g.S.Shelf.log c.prepare.new.shelf) tt e
    (not_read (HasBound c.args.setting.env c.args.setting.budget p.compiled.typed.labelled (Some p.observer) (map seen p.starts.items))
    (no_read_in c.args.setting.env c.args.setting.budget p.compiled.typed.labelled (Some p.observer) (map seen p.starts.items)) e
    c.in-Err-prepared_text.ensures.stop) c.in-Ok.ensures.log
