use Rattle.std.proofs.Common.{◌≡◌, drop}
use Rattle.flow_print.specs.Places.{declared_place, declared_from}
use Rattle.flow_print.proofs.places.Spelling.declared_place.Given as goal

abbrev pub invariant-loop-t : goal.invariant-loop-t
invariant-loop-t l = declared_place l.self.text.now l.self.tokens.now l.name ≡ declared_from l.self.text.now l.after (drop l.t-index l.self.tokens.now) l.name
