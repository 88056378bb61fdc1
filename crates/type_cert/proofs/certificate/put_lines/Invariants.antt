use Rattle.std.proofs.Common.{◌≡◌, ◌++◌, drop}
use Rattle.type_cert.specs.Text.{lines_text}
use Rattle.type_cert.proofs.certificate.put_lines.Given as goal

abbrev pub invariant-loop-number : goal.invariant-loop-number
invariant-loop-number l = l.fn.out.items ++ lines_text l.order 0 l.lines ≡ l.out.items ++ lines_text l.order l.number (drop l.number l.lines)
