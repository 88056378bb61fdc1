use Rattle.std.proofs.Common.{◌≡◌, ◌++◌, drop}
use Rattle.flow_print.specs.Lines.{origins_text}
use Rattle.flow_print.proofs.print.put_origins.Given as goal

abbrev pub invariant-loop-origin : goal.invariant-loop-origin
invariant-loop-origin l =
    let text = origins_text l.spelling.text.now l.spelling.tokens.now l.p in
    l.out.items ++ text (drop l.origin-index l.origins) ≡ l.initial.out.items ++ text l.origins
