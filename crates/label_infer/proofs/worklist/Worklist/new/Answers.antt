use Rattle.std.proofs.Common.{◌≡◌, ◌<◌, ◌++◌, length, replicate, true, sym, ap, ◌∙◌, subst, arith}
use Rattle.label_lattice.specs.Order.{Order}
use Rattle.mit_syntax.specs.Plan.{list_plan}
use Rattle.label_infer.specs.declared.written_labels.Known.{Known}
use Rattle.label_infer.specs.LeftSideOf.{left_side_of}
use Rattle.label_infer.specs.Constraints.{fixed}
use Rattle.label_infer.specs.First.{first_levels}
use Rattle.label_infer.specs.ConstraintsOf.{constraints_from, constraints_in}
use Rattle.label_infer.specs.Work.{IsWorkOf, IsFirst}
use Rattle.label_infer.specs.Blocks.{AreBlocks}
use Rattle.timing_types.specs.Labelling.{label_at}
use Rattle.label_infer.proofs.Taking.{work}
use Rattle.label_infer.proofs.Starting.{first, starts, targets_there}
use Rattle.label_infer.proofs.Bound.{first_within}
use Rattle.label_infer.proofs.worklist.Worklist.new.Goals as goal

pub returns-clause-work : goal.returns-clause-work
returns-clause-work c =
    let s = c.args.p.now in
    let o = c.lattice-order.result.now in
    let ho = c.lattice-order.ensures in
    let w = c.in_ok-written_labels.field-0 in
    let few = c.in_ok-written_labels.ensures.few in
    let wl = w.ok.0 in
    let k : Known = record { alloc = c.args.alloc; order = c.lattice-order.result; written = w; small = omega (arith, few, wl) } in
    let low = left_side_of c.fixed-low.result in
    let hl = c.fixed-low.ensures ∙ ap fixed (c.bottom.ensures.value ∙ ap (λ (z : Order). z.bottom) ho) in
    let hc = c.in_ok-list_constraints.ensures.constraints ∙ ap (λ z. constraints_in z ++ constraints_from k (list_plan c.body.result.now) low low)
    c.new-conditions.ensures.items ∙ ap (λ z. constraints_from k z low low) c.body.ensures.body in
    let hs = c.in_ok-list_levels.ensures ∙ ap (λ z. z ++ first_levels c.bottom-2.result.number (list_plan c.body-2.result.now)) c.new-levels.ensures.items
    ∙ ap (λ z. first_levels z (list_plan c.body-2.result.now)) (c.bottom-2.ensures.value ∙ ap (λ (z : Order). z.bottom) ho)
    ∙ ap (λ z. first_levels s.order.bottom z) c.body-2.ensures.body in
    let cl = c.len.ensures in
    let cok = c.list_constraints.new.found.ok.0 in
    let cn : c.len.result ≡ length c.list_constraints.new.found.items = omega (arith, cl, cok) in
    let hw = c.in_ok-waits.ensures ∙ ap (λ n. replicate n true) cn in
    let h = starts s c.body.ensures.valid k ho (c.in_ok-written_labels.ensures.fit) (c.in_ok-written_labels.ensures.labels) c.list_constraints.new.found.items
    c.in_ok-waits.waits.items c.in_ok-variables.variables c.list_levels.new.found.items low hl hc hw c.in_ok-variables.ensures hs in
    subst (λ z. IsWorkOf s (work z c.list_constraints.new.found.items c.in_ok-waits.waits.items c.in_ok-variables.variables c.list_levels.new.found.items))
    (sym ho) h

pub returns-clause-first : goal.returns-clause-first
returns-clause-first c =
    let s = c.args.p.now in
    let o = c.lattice-order.result.now in
    let ho = c.lattice-order.ensures in
    let w = c.in_ok-written_labels.field-0 in
    let few = c.in_ok-written_labels.ensures.few in
    let wl = w.ok.0 in
    let k : Known = record { alloc = c.args.alloc; order = c.lattice-order.result; written = w; small = omega (arith, few, wl) } in
    let low = left_side_of c.fixed-low.result in
    let hl = c.fixed-low.ensures ∙ ap fixed (c.bottom.ensures.value ∙ ap (λ (z : Order). z.bottom) ho) in
    let hc = c.in_ok-list_constraints.ensures.constraints ∙ ap (λ z. constraints_in z ++ constraints_from k (list_plan c.body.result.now) low low)
    c.new-conditions.ensures.items ∙ ap (λ z. constraints_from k z low low) c.body.ensures.body in
    let hs = c.in_ok-list_levels.ensures ∙ ap (λ z. z ++ first_levels c.bottom-2.result.number (list_plan c.body-2.result.now)) c.new-levels.ensures.items
    ∙ ap (λ z. first_levels z (list_plan c.body-2.result.now)) (c.bottom-2.ensures.value ∙ ap (λ (z : Order). z.bottom) ho)
    ∙ ap (λ z. first_levels s.order.bottom z) c.body-2.ensures.body in
    let cl = c.len.ensures in
    let cok = c.list_constraints.new.found.ok.0 in
    let cn : c.len.result ≡ length c.list_constraints.new.found.items = omega (arith, cl, cok) in
    let hw = c.in_ok-waits.ensures ∙ ap (λ n. replicate n true) cn in
    let h = first s c.body.ensures.valid k ho (c.in_ok-written_labels.ensures.fit) (c.in_ok-written_labels.ensures.labels) c.list_constraints.new.found.items
    c.in_ok-waits.waits.items c.in_ok-variables.variables c.list_levels.new.found.items low hl hc hw c.in_ok-variables.ensures hs in
    subst (λ z. IsFirst s (work z c.list_constraints.new.found.items c.in_ok-waits.waits.items c.in_ok-variables.variables c.list_levels.new.found.items))
    (sym ho) h

pub returns-clause-steps : goal.returns-clause-steps
returns-clause-steps c =
    let s = c.args.p.now in
    let o = c.lattice-order.result.now in
    let ho = c.lattice-order.ensures in
    let w = c.in_ok-written_labels.field-0 in
    let few = c.in_ok-written_labels.ensures.few in
    let wl = w.ok.0 in
    let k : Known = record { alloc = c.args.alloc; order = c.lattice-order.result; written = w; small = omega (arith, few, wl) } in
    let low = left_side_of c.fixed-low.result in
    let hl = c.fixed-low.ensures ∙ ap fixed (c.bottom.ensures.value ∙ ap (λ (z : Order). z.bottom) ho) in
    let hc = c.in_ok-list_constraints.ensures.constraints ∙ ap (λ z. constraints_in z ++ constraints_from k (list_plan c.body.result.now) low low)
    c.new-conditions.ensures.items ∙ ap (λ z. constraints_from k z low low) c.body.ensures.body in
    let hs = c.in_ok-list_levels.ensures ∙ ap (λ z. z ++ first_levels c.bottom-2.result.number (list_plan c.body-2.result.now)) c.new-levels.ensures.items
    ∙ ap (λ z. first_levels z (list_plan c.body-2.result.now)) (c.bottom-2.ensures.value ∙ ap (λ (z : Order). z.bottom) ho)
    ∙ ap (λ z. first_levels s.order.bottom z) c.body-2.ensures.body in
    let cl = c.len.ensures in
    let cok = c.list_constraints.new.found.ok.0 in
    let cn : c.len.result ≡ length c.list_constraints.new.found.items = omega (arith, cl, cok) in
    let hw = c.in_ok-waits.ensures ∙ ap (λ n. replicate n true) cn in
    let h = starts s c.body.ensures.valid k ho (c.in_ok-written_labels.ensures.fit) (c.in_ok-written_labels.ensures.labels) c.list_constraints.new.found.items
    c.in_ok-waits.waits.items c.in_ok-variables.variables c.list_levels.new.found.items low hl hc hw c.in_ok-variables.ensures hs in
    let W = work o c.list_constraints.new.found.items c.in_ok-waits.waits.items c.in_ok-variables.variables c.list_levels.new.found.items in
    λ m. first_within W m (λ x. subst (λ (z : Order). label_at z.bottom c.in_ok-variables.variables x < z.size) (sym ho) (h.variables.below x))

pub invariant_of-result : goal.invariant_of-result
invariant_of-result c =
    let s = c.args.p.now in
    let o = c.lattice-order.result.now in
    let ho = c.lattice-order.ensures in
    let w = c.in_ok-written_labels.field-0 in
    let few = c.in_ok-written_labels.ensures.few in
    let wl = w.ok.0 in
    let k : Known = record { alloc = c.args.alloc; order = c.lattice-order.result; written = w; small = omega (arith, few, wl) } in
    let low = left_side_of c.fixed-low.result in
    let hl = c.fixed-low.ensures ∙ ap fixed (c.bottom.ensures.value ∙ ap (λ (z : Order). z.bottom) ho) in
    let hc = c.in_ok-list_constraints.ensures.constraints ∙ ap (λ z. constraints_in z ++ constraints_from k (list_plan c.body.result.now) low low)
    c.new-conditions.ensures.items ∙ ap (λ z. constraints_from k z low low) c.body.ensures.body in
    let hs = c.in_ok-list_levels.ensures ∙ ap (λ z. z ++ first_levels c.bottom-2.result.number (list_plan c.body-2.result.now)) c.new-levels.ensures.items
    ∙ ap (λ z. first_levels z (list_plan c.body-2.result.now)) (c.bottom-2.ensures.value ∙ ap (λ (z : Order). z.bottom) ho)
    ∙ ap (λ z. first_levels s.order.bottom z) c.body-2.ensures.body in
    let cl = c.len.ensures in
    let cok = c.list_constraints.new.found.ok.0 in
    let cn : c.len.result ≡ length c.list_constraints.new.found.items = omega (arith, cl, cok) in
    let hw = c.in_ok-waits.ensures ∙ ap (λ n. replicate n true) cn in
    let h = starts s c.body.ensures.valid k ho (c.in_ok-written_labels.ensures.fit) (c.in_ok-written_labels.ensures.labels) c.list_constraints.new.found.items
    c.in_ok-waits.waits.items c.in_ok-variables.variables c.list_levels.new.found.items low hl hc hw c.in_ok-variables.ensures hs in
    let vfit = h.variables.fit in
    let wfit = c.in_ok-written_labels.ensures.fit in
    record {
      fit = h.fit;
      in_blocks = subst (λ z. AreBlocks c.list_constraints.new.found.items z c.in_ok-blocks.blocks) (sym hw)
          (subst (λ z. AreBlocks z (replicate (length z) true) c.in_ok-blocks.blocks) c.deref.ensures.value c.in_ok-blocks.ensures);
      cursor = omega arith;
      small = omega (arith, vfit, wfit, few);
      targets = targets_there s c.body.ensures.valid c.list_constraints.new.found.items c.in_ok-waits.waits.items c.in_ok-variables.variables
          c.list_levels.new.found.items h;
    }
