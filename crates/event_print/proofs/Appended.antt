-- How long a line is after bytes were appended.
use Rattle.std.proofs.Common.{◌≡◌, ℕ, ◌+◌, List, ◌++◌, length, ap, ◌∙◌}
use Rattle.std.proofs.lemmas.List.{length-append}

pub appended : (new old text : List ℕ) → new ≡ old ++ text → length new ≡ length old + length text
appended new old text e = ap length e ∙ length-append old text
