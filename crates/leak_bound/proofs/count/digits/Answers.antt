use Rattle.std.proofs.Common.{sym, ◌∙◌, arith}
use Rattle.std.proofs.lemmas.Nat.{leading_top}
use Rattle.leak_bound.proofs.Digits.{digits_of}
use Rattle.leak_bound.proofs.count.digits.Goals as goal

pub returns : goal.returns
returns c =
    let top = leading_top 64 c.args.t c.requires c.ranges.t.fits in
    omega (arith, top.1) ∙ sym (digits_of c.args.t top.0 (record { from = top.2; below = top.3 }))
