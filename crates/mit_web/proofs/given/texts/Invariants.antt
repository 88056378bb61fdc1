use Rattle.std.proofs.Common.{◌≡◌, ◌++◌, map, drop, string_bytes}
use Rattle.mit_web.specs.Calls.{AreTexts, pieces}
use Rattle.mit_web.proofs.given.texts.Given as goal

abbrev pub invariant-loop-length : goal.invariant-loop-length
invariant-loop-length l =
    (map string_bytes l.made.items ++ pieces (drop l.length-index l.lengths) l.row ≡ pieces l.lengths l.initial.row)
    × (AreTexts (drop l.length-index l.lengths) l.row → AreTexts l.lengths l.initial.row)
    × (AreTexts l.lengths l.initial.row → AreTexts (drop l.length-index l.lengths) l.row)
