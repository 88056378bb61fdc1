use Rattle.std.proofs.Common.{◌≡◌, take, map}
use Rattle.type_cert.specs.declared.line.Line.{Line}
use Rattle.type_cert.specs.Certificate.{levels_in}
use Rattle.type_cert.specs.Contents.{pcs_in}
use Rattle.type_cert.proofs.recheck.tables.Given as goal

abbrev pub invariant-loop-line : goal.invariant-loop-line
invariant-loop-line l = record {
  commands : l.commands.items ≡ map (λ (x : Line). (x.read, x.write)) (take l.line-index l.lines);
  levels : l.levels.items ≡ levels_in (take l.line-index l.lines);
  pcs : l.pcs.items ≡ pcs_in (take l.line-index l.lines);
}
