use Rattle.std.proofs.Common.{◌≡◌, ◌+◌, List, sym, ap, ◌∙◌, subst, map, All}
use Rattle.mit_syntax.specs.Program.{plan_of}
use Rattle.timing_types.specs.Labelled.{LabelledProgram}
use Rattle.source_meaning.specs.Source.{HasEnded}
use Rattle.start_file.specs.Starts.{StartValue, seen}
use Rattle.lab_bound.specs.Text.{SharedPut}
use Rattle.lab_bound.proofs.Ending.{reported_end}
use Rattle.lab_bound.proofs.Answering.{counts_put}
use Rattle.lab_bound.proofs.text.put_counts.Goals as goal

pub level_counts-requires-clause-ends : goal.level_counts-requires-clause-ends
level_counts-requires-clause-ends c =
    let q : LabelledProgram = c.args.p.now.compiled.typed.labelled in
    let same : map seen c.as_slice-starts.result.now ≡ map seen c.args.p.now.starts.items = ap (map seen) c.as_slice-starts.ensures.value in
    subst (λ (z : List StartValue). All (λ s. HasEnded (plan_of q.program) s.memory (c.args.setting.budget + 1)) z) (sym same)
    (reported_end c.args.setting.env q c.args.p.now.observer.number c.args.setting.budget (map seen c.args.p.now.starts.items)
    c.args.report.now c.requires.reported)

pub put_own-requires-clause-ends : goal.put_own-requires-clause-ends
put_own-requires-clause-ends c =
    let q : LabelledProgram = c.args.p.now.compiled.typed.labelled in
    let same : map seen c.as_slice-starts.result.now ≡ map seen c.args.p.now.starts.items = ap (map seen) c.as_slice-starts.ensures.value in
    subst (λ (z : List StartValue). All (λ s. HasEnded (plan_of q.program) s.memory (c.args.setting.budget + 1)) z) (sym same)
    (reported_end c.args.setting.env q c.args.p.now.observer.number c.args.setting.budget (map seen c.args.p.now.starts.items)
    c.args.report.now c.requires.reported)

pub returns : goal.returns
returns c =
    let q : LabelledProgram = c.args.p.now.compiled.typed.labelled in
    let l = c.args.p.now.observer in
    let order : c.lattice-order.result.now ≡ q.program.order =
    c.lattice-order.ensures ∙ ap (λ z. z.order) (c.program.ensures.program ∙ ap (λ z. z.program) c.labelled.ensures.labelled) in
    counts_put c.args.setting.budget q l (map seen c.as_slice-starts.result.now) (map seen c.args.p.now.starts.items) c.args.report.now
    c.in_ok-levels.levels.items c.deref.result.now c.lattice-order.result.now
    c.args.text.now.items c.put_audit.new.text.items c.put_bound.new.text.items c.put_shared.new.text.items c.put_own.new.text.items
    c.put_end.new.text.items
    (ap (map seen) c.as_slice-starts.ensures.value)
    c.in_ok-levels.ensures order c.in_ok-put_audit.ensures c.deref.ensures.value c.in_ok-put_bound.ensures
    (subst (λ z. SharedPut q l.number c.args.setting.budget z c.put_bound.new.text.items c.put_shared.new.text.items)
    (c.deref-2.ensures.value ∙ sym c.deref.ensures.value) c.in_ok-put_shared.ensures)
    c.in_ok-put_own.ensures c.in_ok-put_end.ensures
