use Rattle.std.proofs.Common.{sym, ap, ◌∙◌}
use Rattle.std.specs.List.{list_all}
use Rattle.std.proofs.lemmas.Result.{IfOk-weaker}
use Rattle.start_file.specs.Tables.{data_of}
use Rattle.space_starts.specs.Space.{seen, lists, apart}
use Rattle.space_file.proofs.Reading.{is_for}
use Rattle.space_file.proofs.read.space_in.Goals as goal

pub returns-clause-valid : goal.returns-clause-valid
returns-clause-valid c =
    let memory = c.in_ok-memory.ensures in
    let touches = c.in_ok-touches.ensures in
    let once = ap (λ vs. list_all apart (lists vs)) (sym c.deref.ensures.value) ∙ sym c.in_ok-once.ensures ∙ c.if-not-once.false in
    IfOk-weaker c.counted.result _ _
    (λ s h. is_for c.args.program.now c.requires.order (seen s) _ (data_of c.at.result) (data_of c.at-2.result) memory.put memory.are once touches.ok h.0 h.1)
    c.counted.ensures.same
