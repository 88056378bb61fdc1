use Rattle.std.proofs.Common.{◌∙◌, ap}
use Rattle.std.specs.Prelude.{is_some}
use Rattle.mit_syntax.specs.Declarations.{declared}
use Rattle.mit_parser.proofs.Tabled.{placed}
use Rattle.mit_parser.proofs.declarations.Table.is_declared.Goals as goal

pub returns : goal.returns
returns c =
    c.is_some.ensures ∙ ap is_some c.get_index_of.ensures.index ∙ placed c.self.inside.entries.entries c.args.name.now
    ∙ ap (λ ds. is_some (declared ds c.args.name.now)) c.self.view_is
