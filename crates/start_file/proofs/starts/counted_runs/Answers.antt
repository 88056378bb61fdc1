use Rattle.std.proofs.Common.{◌∙◌, ◌<◌, length, arith}
use Rattle.std.proofs.lemmas.Bool.{MatchBool-at_true, MatchBool-at_false}
use Rattle.std.proofs.lemmas.Bool.Decides.{nat_tests}
use Rattle.std.proofs.lemmas.Result.{IfOk-weaker, IfErr-weaker}
use Rattle.start_file.proofs.Listed.{counted_some, counted_many}
use Rattle.start_file.proofs.starts.counted_runs.Goals as goal

pub returns-then-are_too_many-clause-refused : goal.returns-then-are_too_many-clause-refused
returns-then-are_too_many-clause-refused c _ ms _ =
    counted_many c.args.program.now c.args.version ms c.args.values.now (MatchBool-at_true _ _ c.if-are_too_many.true c.are_too_many.ensures)

pub returns-clause-ok : goal.returns-clause-ok
returns-clause-ok c =
    let some : 0 < length c.args.values.now = grind (arith, nat_tests, c.is_empty.ensures, c.if-is_empty.false) in
    IfOk-weaker c.all_runs.result _ _ (λ v e ms is_shared.
    counted_some c.args.program.now c.args.version ms c.args.values.now some (MatchBool-at_false _ _ c.if-are_too_many.false c.are_too_many.ensures)
    ∙ e ms is_shared) c.all_runs.ensures.ok

pub returns-clause-refused : goal.returns-clause-refused
returns-clause-refused c =
    let some : 0 < length c.args.values.now = grind (arith, nat_tests, c.is_empty.ensures, c.if-is_empty.false) in
    IfErr-weaker c.all_runs.result _ _ (λ f e n ms is_shared.
    counted_some c.args.program.now c.args.version ms c.args.values.now some (MatchBool-at_false _ _ c.if-are_too_many.false c.are_too_many.ensures)
    ∙ e n ms is_shared) c.all_runs.ensures.refused
