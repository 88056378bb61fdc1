use Rattle.std.proofs.Common.{ℕ, ap, ◌∙◌}
use Rattle.std.specs.Prelude.{Bool}
use Rattle.label_infer.specs.Sets.{has_of}
use Rattle.label_infer.specs.Constraints.{LeftSide}
use Rattle.label_infer.specs.ConstraintsOf.{lat_of}
use Rattle.label_infer.proofs.left_side.both.Goals as goal

pub returns : goal.returns
returns c =
    let form : ℕ → (ℕ → Bool) → LeftSide = λ b h. record { base = b; has = h } in
    ap (λ z. form z (has_of c.in_ok-union.field-0)) c.join.ensures.value
    ∙ ap (form ((lat_of c.args.k.now).join c.args.a.now.base.number c.args.b.now.base.number)) c.in_ok-union.ensures
