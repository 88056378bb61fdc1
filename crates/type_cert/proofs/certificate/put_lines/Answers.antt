use Rattle.label_infer.proofs.Placed.{from_first}
use Rattle.type_cert.specs.declared.line.Line.{Line}
use Rattle.type_cert.specs.Demands.{HasLabels}
use Rattle.type_cert.proofs.certificate.put_lines.Goals as goal

pub put_line-requires : goal.put_line-requires
put_line-requires c = from_first (λ i (x : Line). HasLabels c.args.order.now.size x) c.args.lines.now c.loop-number.number _ c.requires c.loop-number-test.true
