-- What holds of what words ask for, where they ask for something.
use Rattle.std.proofs.Common.{◌≡◌, Option, Some, None, sym, subst}
use Rattle.std.specs.Prelude.{IfSome}

pub any_some : {A : Type 0} (o : Option A) (P : A → Type 0) → ((a : A) → P a) → IfSome o P
any_some None P f = tt
any_some (Some a) P f = f a

pub asked_some : {A : Type 0} (o : Option A) (a : A) (P : A → Type 0) → o ≡ Some a → P a → IfSome o P
asked_some {A} o a P e h = subst (λ (z : Option A). IfSome z P) (sym e) h
