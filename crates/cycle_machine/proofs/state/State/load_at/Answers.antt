use Rattle.std.proofs.Common.{rules, ◌≡◌, [], ◌∷◌, ap, ◌∙◌, arith, to_z, of_z, w64}
use Rattle.std.proofs.lemmas.Int.{to_z-of_z}
use Rattle.mit_syntax.specs.Values.{element}
use Rattle.std.specs.Prelude.{reverse}
use Rattle.std.proofs.lemmas.List.{reverse-append}
use Rattle.std.proofs.lemmas.Grind.{common_steps}
use Rattle.cycle_machine.proofs.Elements.{load_at_is}
use Rattle.cycle_machine.proofs.state.State.load_at.Goals as goal

pub returns-clause-took : goal.returns-clause-took
returns-clause-took g c =
    let ops : reverse c.args.self.now.operands.items ≡ c.in-Some.index ∷ reverse c.pop.new.self.items =
    ap reverse (c.in-Some.ensures).items ∙ reverse-append c.pop.new.self.items (c.in-Some.index ∷ []) in
    let index : to_z w64 (of_z w64 c.in-Some.index) ≡ c.in-Some.index = search (rules, to_z-of_z) in
    let is = load_at_is g.E.MachineEnv.env c.args.self.now c.args.first c.args.length c.element-x.result c.args.er c.args.ew
    c.in-Some.index (reverse c.pop.new.self.items) ops (c.element-x.ensures.value ∙ ap (element c.args.first c.args.length) index) in
    (is ∙ grind (arith, common_steps), omega arith)
