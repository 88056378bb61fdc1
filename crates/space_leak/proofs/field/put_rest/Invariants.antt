use Rattle.std.proofs.Common.{◌≡◌, ◌++◌, drop}
use Rattle.space_leak.proofs.Fields.{rest_of}
use Rattle.space_leak.proofs.field.put_rest.Given as goal

-- the items so far, with those that are left
abbrev pub invariant-loop-sighting : goal.invariant-loop-sighting
invariant-loop-sighting l =
    l.text.items ++ rest_of l.p.declarations (drop l.sighting-index l.rest) ≡ l.initial.text.items ++ rest_of l.p.declarations l.rest
