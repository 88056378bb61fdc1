-- A list of one element.
use Rattle.std.proofs.Common.{zero, suc, [], ◌∷◌, All, arith}

pub All-none : {X : Type 0} (P : X → Type 0) → All P []
All-none P k d h = absurd (omega arith)

pub All-one : {X : Type 0} (P : X → Type 0) (x : X) → P x → All P (x ∷ [])
All-one P x p zero d h = p
All-one P x p (suc k) d h = absurd (omega arith)
