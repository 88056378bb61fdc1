use Rattle.std.proofs.Common.{◌<◌, ◌∙◌, length, sym, ap, Some, ℕ, List, arith}
use Rattle.mit_syntax.specs.Declarations.{Declaration, find_array}
use Rattle.mit_syntax.proofs.Numbers.{read_at}
use Rattle.mit_syntax.proofs.Named.{same_name, declared_at, declared_none, array_none, array_found, array_not}
use Rattle.mit_syntax.proofs.declarations.Variables.find_array.Goals as goal

pub returns-in_err-k : goal.returns-in_err-k
returns-in_err-k c =
    let ds = c.self.inside.table.entries in
    let w = c.args.name.now in
    c.from_residual.ensures ∙ sym (array_none ds w (declared_none _ w (same_name w) ds c.in_err-k.ensures.index))
    ∙ ap (λ (l : List Declaration). find_array l w) c.self.view_is

pub returns-in-None : goal.returns-in-None
returns-in-None c =
    let ds = c.self.inside.table.entries in
    let w = c.args.name.now in
    let e = declared_at _ w (same_name w) ds c.in_ok-k.k c.entry.result c.in_ok-k.ensures.index c.entry.ensures in
    sym (array_not ds w _ c.entry.result.1 e c.in-None.is) ∙ ap (λ (l : List Declaration). find_array l w) c.self.view_is

pub returns-in-Some : goal.returns-in-Some
returns-in-Some c =
    let ds = c.self.inside.table.entries in
    let w = c.args.name.now in
    let e = declared_at _ w (same_name w) ds c.in_ok-k.k c.entry.result c.in_ok-k.ensures.index c.entry.ensures in
    let b = c.in_ok-k.ensures.within in
    let within : c.in_ok-k.k < length c.self.inside.firsts.items = omega (arith, b, c.self.invariant.all) in
    ap (λ (f : ℕ). Some (f, c.in-Some.length)) (read_at c.self.inside.firsts.items c.in_ok-k.k c.index.result.now within c.index.ensures
    ∙ c.self.invariant.firsts c.in_ok-k.k (omega (arith, b)))
    ∙ sym (array_found ds w _ c.entry.result.1 e c.in-Some.length c.in-Some.is)
    ∙ ap (λ (l : List Declaration). find_array l w) c.self.view_is
