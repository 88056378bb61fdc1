use Rattle.std.proofs.Common.{◌≡◌, ◌<◌, ◌∙◌, ◌-◌, sym, ap, subst, ℕ, List, length, arith, Some}
use Rattle.std.specs.Prelude.{slice_get}
use Rattle.mit_syntax.specs.Declarations.{Declaration, cell_of, first_of}
use Rattle.mit_syntax.proofs.Numbers.{owned, read_at}
use Rattle.mit_syntax.proofs.declarations.Variables.cell.Goals as goal

pub returns : goal.returns
returns c =
    let d = c.entry-name.result in
    let w = c.owner-k.ensures.within in
    let n : c.owner-k.result < length c.self.inside.table.entries = subst (λ (l : List Declaration). c.owner-k.result < length l) (sym c.self.view_is) w in
    let e : slice_get c.args.self.now c.owner-k.result ≡ Some d =
    subst (λ (l : List Declaration). slice_get l c.owner-k.result ≡ Some d) c.self.view_is c.entry-name.ensures in
    owned c.args.self.now c.owner-k.result c.args.x d e c.owner-k.ensures.from c.owner-k.ensures.to
    ∙ ap (λ (f : ℕ). cell_of d.0 d.1 (c.args.x - f))
    (sym (read_at c.self.inside.firsts.items c.owner-k.result c.index.result.now (omega (arith, n, c.self.invariant.all)) c.index.ensures
    ∙ c.self.invariant.firsts c.owner-k.result (omega (arith, n)) ∙ ap (λ (l : List Declaration). first_of l c.owner-k.result) c.self.view_is))
