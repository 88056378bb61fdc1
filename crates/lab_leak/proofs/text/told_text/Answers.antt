use Rattle.std.proofs.Common.{map, ap, ◌∙◌, sym, subst}
use Rattle.timing_types.specs.Labelled.{LabelledProgram}
use Rattle.start_file.specs.Starts.{StartValue, seen}
use Rattle.std.specs.Prelude.{List}
use Rattle.tool_stages.specs.Begins.{CanAudit}
use Rattle.lab_leak.specs.Answer.{sequences_in}
use Rattle.lab_leak.specs.Classes.{AreSizes, classes_of_runs}
use Rattle.lab_leak.proofs.Answering.{leak_put, lines_at}
use Rattle.lab_leak.proofs.text.told_text.Goals as goal

pub with_classes-requires-clause-fit : goal.with_classes-requires-clause-fit
with_classes-requires-clause-fit c =
    subst (λ (z : LabelledProgram). CanAudit z c.args.p.now.observer c.args.p.now.compiled.image (map seen c.as_slice-starts.result.now))
    (sym c.labelled-labelled.ensures.labelled)
    (subst (λ (xs : List StartValue). CanAudit c.args.p.now.compiled.typed.labelled c.args.p.now.observer c.args.p.now.compiled.image xs)
    (sym (ap (map seen) c.as_slice-starts.ensures.value)) c.requires.fit)

pub with_classes-requires-clause-are : goal.with_classes-requires-clause-are
with_classes-requires-clause-are c =
    let q = c.args.p.now.compiled.typed.labelled in
    let l = c.args.p.now.observer in
    let e = c.args.setting.env in
    let t = c.args.setting.budget in
    let zs = sequences_in e t q l.number (map seen c.args.p.now.starts.items) in
    subst (λ (z : LabelledProgram). AreSizes (classes_of_runs (sequences_in e t z l.number (map seen c.as_slice-starts.result.now))) c.in_ok-found.found)
    (sym c.labelled-labelled.ensures.labelled)
    (subst (λ (xs : List StartValue). AreSizes (classes_of_runs (sequences_in e t q l.number xs)) c.in_ok-found.found)
    (sym (ap (map seen) c.as_slice-starts.ensures.value))
    (c.in_ok-found.ensures.are zs (c.as_slice.ensures.value ∙ c.requires.reported.measures.classes)))

pub returns : goal.returns
returns c =
    let q = c.args.p.now.compiled.typed.labelled in
    let l = c.args.p.now.observer in
    let e = c.args.setting.env in
    let t = c.args.setting.budget in
    let ss = map seen c.args.p.now.starts.items in
    let zs = sequences_in e t q l.number ss in
    let lines = lines_at e t c.labelled-labelled.result.now q l (map seen c.as_slice-starts.result.now) ss c.put_numbers.new.text.items
    c.in_ok-whole.whole.items c.labelled-labelled.ensures.labelled (ap (map seen) c.as_slice-starts.ensures.value) c.in_ok-whole.ensures in
    leak_put e q l t ss c.args.report.now (classes_of_runs zs) c.in_ok-found.found c.from-runs.result c.as_slice-2.result.now c.new-text.result.items
    c.put_head.new.text.items c.put_top.new.text.items c.put_numbers.new.text.items c.in_ok-whole.whole.items
    (c.in_ok-found.ensures.are zs (c.as_slice.ensures.value ∙ c.requires.reported.measures.classes)) c.from-runs.ensures c.as_slice-2.ensures.value
    c.new-text.ensures.items c.in_ok-put_head.ensures c.in_ok-put_top.ensures c.in_ok-put_numbers.ensures lines
