use Rattle.std.proofs.Common.{◌∙◌, ap, ℕ, List, get_or, arith}
use Rattle.mit_syntax.specs.Declarations.{Declaration, variables}
use Rattle.mit_syntax.proofs.Numbers.{first_all, read_at}
use Rattle.mit_syntax.proofs.declarations.Variables.count.Goals as goal

pub returns-clause-value : goal.returns-clause-value
returns-clause-value c =
    let ds = c.self.inside.table.entries in
    let n = c.len.ensures.len in
    read_at c.self.inside.firsts.items c.len.result c.index.result.now (omega (arith, n, c.self.invariant.all)) c.index.ensures
    ∙ ap (λ (k : ℕ). get_or c.self.inside.firsts.items k 0) n ∙ c.self.invariant.firsts _ (omega arith) ∙ first_all ds
    ∙ ap (λ (l : List Declaration). variables l) c.self.view_is
