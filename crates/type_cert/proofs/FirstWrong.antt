-- Bytes have one first wrong line at most.
use Rattle.std.proofs.Common.{◌≡◌, ◌<◌, ◌⊎◌, ℕ, List, inl, inr}
use Rattle.std.proofs.lemmas.Bool.{cases_order}
use Rattle.mit_syntax.specs.Program.{Syntax}
use Rattle.type_cert.specs.Certificate.{IsFirstWrong}

pub one_wrong : (s : Syntax) (bytes : List ℕ) (n m : ℕ) → IsFirstWrong s bytes n → IsFirstWrong s bytes m → n ≡ m
one_wrong s bytes n m h k = either (cases_order n m)
  where
    either : (n ≡ m) ⊎ ((n < m) ⊎ (m < n)) → n ≡ m
    either (inl e) = e
    either (inr (inl l)) = absurd (h.wrong (k.right n l))
    either (inr (inr l)) = absurd (k.wrong (h.right m l))
