use Rattle.std.proofs.Common.{◌≡◌, [], ◌∷◌, ap, ◌∙◌, arith}
use Rattle.std.specs.Prelude.{reverse}
use Rattle.std.proofs.lemmas.List.{reverse-append}
use Rattle.std.proofs.lemmas.Grind.{common_steps}
use Rattle.cycle_machine.proofs.state.State.store_at.Goals as goal

pub returns-clause-took : goal.returns-clause-took
returns-clause-took g c =
    let first : reverse c.args.self.now.operands.items ≡ c.in-Some.value ∷ reverse c.pop.new.self.items =
    ap reverse (c.in-Some.ensures).items ∙ reverse-append c.pop.new.self.items (c.in-Some.value ∷ []) in
    let second : reverse c.pop.new.self.items ≡ c.in-Some-pop.index ∷ reverse c.pop-2.new.self.items =
    ap reverse (c.in-Some-pop.ensures).items ∙ reverse-append c.pop-2.new.self.items (c.in-Some-pop.index ∷ []) in
    (rw first (rw second (grind (arith, common_steps))), omega arith)
