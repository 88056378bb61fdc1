use Rattle.std.proofs.Common.{rules, ◌≡◌, ◌∙◌, [], ◌∷◌, ℕ, sym, ap, subst, reverse}
use Rattle.std.specs.Prelude.{None, IfNone, slice_index_or}
use Rattle.std.proofs.lemmas.List.{reverse-append}
use Rattle.flow_path.specs.declared.step.Spot.TheVariants.{Variable}
use Rattle.flow_path.specs.Steps.{written}
use Rattle.flow_path.specs.Distances.{IsPicked, StartsWritten}
use Rattle.flow_path.proofs.Picking.{less_steps, found_costs, begins_written, picked_more}
use Rattle.flow_path.proofs.told.chain_to.Goals as goal

pub loop-next-smaller : goal.loop-next-smaller
loop-next-smaller c =
    let q = c.requires.settled in
    let e = c.in-Some.ensures.some in
    less_steps c.args.p.now q.0 c.args.all.now q.1 c.loop-next.now.step c.loop-next.now.cost e.0 c.in-Some.next e.1 e.2 e.3
    (c.loop-next.invariant.costs q.0 q.1)

pub loop-next-preserved : goal.loop-next-preserved
loop-next-preserved c =
    let e = c.in-Some.ensures.some in
    let inv = c.loop-next.invariant in
    let before = reverse c.loop-next.chain.items in
    let is : reverse c.push-in-Some.new.self.items ≡ c.in-Some.next.step ∷ before =
    ap reverse c.in_ok-push-2.ensures.items ∙ reverse-append c.loop-next.chain.items (c.in-Some.next.step ∷ []) in
    record {
      begins = (before, is);
      picked = subst (λ z. IsPicked c.args.p.now c.args.all.now z) (sym is)
          (picked_more c.args.p.now c.args.all.now before inv.begins.0 c.loop-next.now c.in-Some.next e.0 inv.begins.1 e.1 e.2 e.3 inv.picked);
      costs = λ t A. found_costs c.args.p.now t c.args.all.now A e.0 c.in-Some.next e.3;
    }

pub returns : goal.returns
returns c =
    let q = c.requires.settled in
    let inv = c.loop-next.invariant in
    let none : c.step_to.result ≡ None = search rules in
    let no = subst (λ z. IfNone z ((n : ℕ) → c.loop-next.now.step.part.spot ≡ Variable n → written c.args.p.now (Variable n) ≡ None
    → slice_index_or c.args.all.now.variables.items n None ≡ None)) none c.step_to.ensures.none in
    subst (λ z. IsPicked c.args.p.now c.args.all.now z × StartsWritten c.args.p.now z) (sym c.reverse.ensures.items) (
      inv.picked,
      subst (λ z. StartsWritten c.args.p.now z) (sym inv.begins.1)
          (begins_written c.args.p.now q.0 c.args.all.now q.1 c.loop-next.now.step c.loop-next.now.cost (inv.costs q.0 q.1) no),
    )
