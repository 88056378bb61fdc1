-- Reads after reads that read nothing.
use Rattle.std.proofs.Common.{◌≡◌, ℕ, ◌+◌, ◌≤◌, List, ◌++◌, length, take, ap, Option, Some, None, Result, Ok, Err, sym, ◌∙◌}
use Rattle.std.specs.Io.KnownBytes.{Keeps, Consumes, ReadConsumes}
use Rattle.std.proofs.KnownBytes.{Keeps-trans, Consumes-trans}
use Rattle.std.proofs.lemmas.List.{length-append, length-take-le}

pub kept-Consumes : (a b c : Option (List ℕ)) (bs : List ℕ) → Keeps a b → Consumes b c bs → Consumes a c bs
kept-Consumes None b c bs p q = tt
kept-Consumes (Some x) None c bs p q = absurd p
kept-Consumes (Some x) (Some y) None bs p q = absurd q
kept-Consumes (Some x) (Some y) (Some z) bs p q = sym p ∙ q

pub kept-ReadConsumes : {E : Type 0} (a b c : Option (List ℕ)) (r : Result ℕ E) (buf : List ℕ) → Keeps a b → ReadConsumes b c r buf → ReadConsumes a c r buf
kept-ReadConsumes a b c (Ok n) buf p q = (kept-Consumes a b c _ p q.0, q.1)
kept-ReadConsumes a b c (Err e) buf p q = Keeps-trans a b c p q

-- what was read, and the bytes that the next read gave
pub record HasRead (a c : Option (List ℕ)) (n : ℕ) : Type 0 where
  pub bytes : List ℕ
  pub long : length bytes ≡ n
  pub consumes : Consumes a c bytes

pub read_more : (a b c : Option (List ℕ)) (bytes buf : List ℕ) (count : ℕ) → Consumes a b bytes → Consumes b c (take count buf) → count ≤ length buf
    → HasRead a c (length bytes + count)
read_more a b c bytes buf count p q few = record {
  bytes = bytes ++ take count buf;
  long = length-append bytes (take count buf) ∙ ap (λ n. length bytes + n) (length-take-le count buf few);
  consumes = Consumes-trans a b c bytes (take count buf) p q;
}
