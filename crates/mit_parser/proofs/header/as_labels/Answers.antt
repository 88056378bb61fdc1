use Rattle.std.proofs.Common.{ap, ◌∙◌, sym, ◌++◌, ◌∷◌, [], take, get_or}
use Rattle.mit_parser.specs.Scope.{as_label}
use Rattle.mit_parser.specs.Faults.{as_labels}
use Rattle.mit_parser.proofs.Numbered.{as_take}
use Rattle.mit_parser.proofs.header.as_labels.Goals as goal

pub loop-i-preserved : goal.loop-i-preserved
loop-i-preserved c =
    c.in_ok-push.ensures.items ∙ ap (λ l. l ++ (c.new.result, c.new-in-loop-i.result) ∷ []) c.loop-i.invariant
    ∙ ap (λ x. as_labels (take c.loop-i.i c.args.numbers.now) ++ (as_label x, c.new-in-loop-i.result) ∷ []) c.new.ensures
    ∙ ap (λ x. as_labels (take c.loop-i.i c.args.numbers.now) ++ (
      as_label (get_or c.args.numbers.now c.loop-i.i (0, 0)).0,
      as_label x,
    ) ∷ []) c.new-in-loop-i.ensures
    ∙ sym (as_take c.args.numbers.now c.loop-i.i (0, 0) c.loop-i-test.true)
