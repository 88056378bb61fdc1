use Rattle.std.proofs.Common.{◌≤◌, List, subst}
use Rattle.mit_syntax.specs.Declarations.{variables}
use Rattle.mit_syntax.specs.Program.{Syntax}
use Rattle.mit_syntax.proofs.Numbers.{few_cells}
use Rattle.mit_syntax.proofs.program.Program.laws.Goals as goal

pub returns-clause-cells : goal.returns-clause-cells
returns-clause-cells c = subst (λ (s : Syntax). variables s.declarations ≤ 3072) c.self.view_is (few_cells _ c.self.invariant.valid.few)
