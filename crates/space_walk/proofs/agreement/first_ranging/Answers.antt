use Rattle.std.proofs.Common.{◌≡◌, ◌∙◌, sym, ap, subst, ◌<◌, ◌≤◌, length, get_or, List, Vec, ⊎_elim, arith}
use Rattle.std.specs.declared.alloc.Global.{Global}
use Rattle.std.proofs.lemmas.Bool.{cases_lt}
use Rattle.space_starts.specs.declared.space.Interval.{Interval}
use Rattle.space_starts.specs.Space.{many, lists}
use Rattle.mit_syntax.specs.Declarations.{variables}
use Rattle.mit_syntax.specs.Program.{Syntax}
use Rattle.space_walk.specs.Agreeing.{Ranges}
use Rattle.space_walk.proofs.Same.{got, there, below}
use Rattle.space_walk.proofs.agreement.first_ranging.Goals as goal

pub loop-x-preserved : goal.loop-x-preserved
loop-x-preserved c = λ y lt r.
    let x = c.loop-x.x in
    let vs = c.args.memory.now in
    let v = c.index-memory-x.result in
    ⊎_elim (λ (l : y < x). c.loop-x.invariant y l r)
    (λ (ge : x ≤ y).
    let same : y ≡ x = omega (arith, lt, ge) in
    let here = subst (λ z. Ranges c.args.p.now c.args.observer.number (lists vs) z) same r in
    let at : v.items ≡ here.1 = ap (λ (w : Vec Interval Global). w.items) c.index-memory-x.is ∙ got vs x here.1 v here.2 in
    c.ranges-in-loop-x.ensures.no c.if-ranges.false here.0
    (subst (λ (z : List Interval). 1 < many z) (sym (c.as_slice.ensures.value ∙ at)) here.3))
    (cases_lt y x)

pub returns-then-ranges : goal.returns-then-ranges
returns-then-ranges c =
    let x = c.loop-x.x in
    let vs = c.args.memory.now in
    let v = c.index-memory-x.result in
    let yes = c.ranges-in-loop-x.ensures.yes c.if-ranges.true in
    let end = ap (λ (z : Syntax). variables z.declarations) c.program.ensures.program in
    let within : x < length vs = omega (arith, end, c.requires.memory, c.variables-x-end.ensures.value, c.loop-x-test.true) in
    let held : c.as_slice.result.now ≡ (get_or vs x v).items = c.as_slice.ensures.value ∙ ap (λ (w : Vec Interval Global). w.items) c.index-memory-x.is in
    record {
      here = (yes.0, (get_or vs x v).items, there vs x v within, subst (λ (z : List Interval). 1 < many z) held yes.1);
      first = c.loop-x.invariant;
    }

pub returns : goal.returns
returns c = λ y r.
    let l = below c.args.memory.now y r.1 r.2 in
    let end = ap (λ (z : Syntax). variables z.declarations) c.program.ensures.program in
    c.loop-x.invariant y (omega (arith, l, end, c.requires.memory, c.variables-x-end.ensures.value, c.loop-x-test.false)) r
