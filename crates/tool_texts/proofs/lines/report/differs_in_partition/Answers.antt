use Rattle.std.proofs.Common.{ap, ◌∙◌, ◌++◌, codes, decimal}
use Rattle.label_lattice.specs.Order.{name_of}
use Rattle.tool_texts.specs.Reports.{place_name}
use Rattle.tool_texts.proofs.LineLemmas.{of_seven}
use Rattle.tool_texts.proofs.lines.report.differs_in_partition.Goals as goal

pub returns : goal.returns
returns c =
    of_seven _ _ _ _ _ _ _ _ (codes "disagree: run ") (decimal c.args.run) (codes ": partition ") (name_of c.args.p.now.order c.args.l.number) (codes " of ")
    (place_name c.args.place) (codes "\n")
    c.new-line.ensures c.put.ensures.text c.put_number.ensures.text c.put-2.ensures.text
    (c.put_label.ensures.text ∙ ap (λ o. c.put-2.new.line ++ name_of o c.args.l.number) c.lattice.ensures)
    c.put-3.ensures.text (c.put-4.ensures.text ∙ ap (λ z. c.put-3.new.line ++ z) c.place_name.ensures.name) c.put-5.ensures.text
