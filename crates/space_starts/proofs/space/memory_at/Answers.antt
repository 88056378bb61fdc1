use Rattle.std.proofs.Common.{◌∙◌, ap, sym, subst}
use Rattle.start_space.specs.Space.{IsChoice, nth}
use Rattle.start_space.proofs.Numbers.{chosen as choice_at}
use Rattle.space_starts.specs.Space.{lists, chosen}
use Rattle.std.proofs.lemmas.Result.{IfOk-weaker}
use Rattle.space_starts.proofs.space.memory_at.Goals as goal

pub chosen-requires-clause-choice : goal.chosen-requires-clause-choice
chosen-requires-clause-choice c =
    subst (λ z. IsChoice z c.choose.new.choice) c.requires.ranges
    (subst (λ z. IsChoice c.args.ranges.now z) (sym c.choose.ensures) (choice_at c.args.ranges.now c.args.number c.requires.number).0)

pub returns : goal.returns
returns c =
    IfOk-weaker c.chosen.result _ _
    (λ m e. e ∙ (ap (chosen (lists c.args.memory.now)) c.choose.ensures ∙ ap (λ z. chosen (lists c.args.memory.now) (nth z c.args.number)) c.requires.ranges))
    c.chosen.ensures
