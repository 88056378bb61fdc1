use Rattle.std.proofs.Common.{codes, decimal}
use Rattle.mit_syntax.specs.Declarations.{cell_at}
use Rattle.event_print.specs.Text.{cell_text}
use Rattle.tool_texts.proofs.LineLemmas.{of_five}
use Rattle.tool_texts.proofs.lines.report.differs_in_variable.Goals as goal

pub returns : goal.returns
returns c =
    of_five _ _ _ _ _ _ (codes "disagree: run ") (decimal c.args.run) (codes ": variable ")
    (cell_text (cell_at c.args.p.now.declarations c.args.x)) (codes "\n")
    c.new-line.ensures c.put.ensures.text c.put_number.ensures.text c.put-2.ensures.text c.put_variable.ensures.text c.put-3.ensures.text
