use Rattle.std.proofs.Common.{◌≡◌, sym, subst}
use Rattle.std.specs.Bool.{Decides}
use Rattle.leak_audit.proofs.SameTouches.{touches_decide}
use Rattle.leak_audit.proofs.agreement.are_same.Goals as goal

pub returns : goal.returns
returns c =
    subst (λ b. Decides b (c.args.one.now ≡ c.args.other.now)) (sym c.eq.ensures) (touches_decide c.args.one.now c.args.other.now)
