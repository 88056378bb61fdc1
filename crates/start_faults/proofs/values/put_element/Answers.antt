use Rattle.std.proofs.Common.{◌≡◌, ◌∙◌, ℕ, List, sym, subst, arith}
use Rattle.std.specs.Prelude.{OnOk}
use Rattle.start_faults.proofs.Walks.{element_at, element_on}
use Rattle.start_faults.proofs.values.put_element.Goals as goal

pub loop-i-preserved : goal.loop-i-preserved
loop-i-preserved c =
    element_on c.args.values.now c.loop-i.i c.index-values-i.result c.loop-i.out.items _ (omega arith) c.index-values-i.is c.args.key.now
    (sym c.is_integer.ensures ∙ c.if-not-is_integer.false) c.loop-i.invariant

pub returns-then-not-is_integer : goal.returns-then-not-is_integer
returns-then-not-is_integer c =
    subst (λ (z : List ℕ). OnOk c.put_wrong.result (c.put_wrong.new.out.items ≡ z))
    (element_at c.args.values.now c.loop-i.i c.index-values-i.result c.loop-i.out.items _ (omega arith) c.index-values-i.is c.args.key.now
    (sym c.is_integer.ensures ∙ c.if-not-is_integer.true) c.loop-i.invariant)
    c.put_wrong.ensures
