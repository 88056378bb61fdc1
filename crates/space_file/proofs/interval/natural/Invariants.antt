use Rattle.std.proofs.Common.{◌≡◌, ◌≤◌, drop}
use Rattle.space_file.specs.Ranges.{digits_after}
use Rattle.space_file.proofs.interval.natural.Given as goal

-- the number so far, with the digits that are left
abbrev pub invariant-loop-byte : goal.invariant-loop-byte
invariant-loop-byte l = (l.number ≤ l.most) × (digits_after l.most l.digits 0 ≡ digits_after l.most (drop l.byte-index l.digits) l.number)
