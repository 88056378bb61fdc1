use Rattle.std.proofs.Common.{◌∙◌, sym, ap, length}
use Rattle.mit_syntax.specs.Plan.{list_plan}
use Rattle.flow_path.proofs.Passing.{all_passed}
use Rattle.flow_path.proofs.settle.found_with.Goals as goal

pub returns : goal.returns
returns c =
    all_passed c.args.p.now c.args.target.now c.args.known.now.variables.items c.in_ok-sides.sides c.list_pass-end.new.sides c.list_pass-end.result
    (list_plan c.body.result.now) c.body.ensures.body
    (c.in_ok-sides.ensures c.args.p.now c.args.target.now c.args.known.now.variables.items
    (sym (c.count_of.ensures ∙ ap (λ z. length z) c.deref.ensures.value))) c.list_pass-end.ensures.passes
