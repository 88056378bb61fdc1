use Rattle.std.proofs.Common.{ap, ◌∙◌, ◌++◌, codes}
use Rattle.lab_bound.specs.Text.{number_text}
use Rattle.lab_bound.proofs.Putting.{count_put}
use Rattle.lab_bound.proofs.lines.put_sharp.Goals as goal

pub returns : goal.returns
returns c =
    count_put c.args.count c.in-Some.count c.bits.result c.args.text.now.items c.put_count.new.text.items c.put_count-2.new.text.items
    c.put_count-3.new.text.items c.in-Some.is c.bits.ensures.enough c.bits.ensures.least
    c.in_ok-put_count.ensures (c.in_ok-put_count-2.ensures ∙ ap (λ z. c.put_count.new.text.items ++ (number_text (codes "bits ") z ++ codes "\n"))
    c.from.ensures) c.in_ok-put_count-3.ensures
