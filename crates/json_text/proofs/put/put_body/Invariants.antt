use Rattle.std.proofs.Common.{◌≡◌, ◌++◌, drop}
use Rattle.json_text.specs.Json.{string_body}
use Rattle.json_text.proofs.put.put_body.Given as goal

abbrev pub invariant-loop-b : goal.invariant-loop-b
invariant-loop-b l = l.out.items ++ string_body (drop l.b-index l.s) ≡ l.initial.out.items ++ string_body l.s
