use Rattle.std.proofs.Common.{◌≡◌, ◌∙◌, ℕ, List, sym, subst, arith}
use Rattle.std.specs.Prelude.{OnOk}
use Rattle.start_faults.specs.Names.{version_if}
use Rattle.start_faults.proofs.Walks.{list_at, list_on}
use Rattle.start_faults.proofs.touches.put_list.Goals as goal

pub loop-i-preserved : goal.loop-i-preserved
loop-i-preserved c =
    list_on c.args.values.now c.loop-i.i c.index-values-i.result c.loop-i.out.items _ (omega arith) c.index-values-i.is (version_if c.args.two)
    c.args.lattice.now (sym c.is_touch.ensures ∙ c.if-not-is_touch.false) c.loop-i.invariant

pub returns-then-not-is_touch : goal.returns-then-not-is_touch
returns-then-not-is_touch c =
    subst (λ (z : List ℕ). OnOk c.put_touch.result (c.put_touch.new.out.items ≡ z))
    (list_at c.args.values.now c.loop-i.i c.index-values-i.result c.loop-i.out.items _ (omega arith) c.index-values-i.is (version_if c.args.two)
    c.args.lattice.now (sym c.is_touch.ensures ∙ c.if-not-is_touch.true) c.loop-i.invariant)
    c.put_touch.ensures
