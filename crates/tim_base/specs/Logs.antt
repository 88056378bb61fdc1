-- What a shelf was asked for and what a sink was offered, in order.
use Rattle.std.specs.Prelude.{◌≡◌, ℕ, ◌<◌, ◌≤◌, List, [], ◌∷◌, ◌++◌, length, drop, Option, Some, None, Result, Ok, Err, ⊤}
use Rattle.tim_base.specs.declared.shelf.FetchFault.{FetchFault}

-- a fetch: the name, and the bytes that it gave or its fault
pub record Fetched : Type 0 where
  pub name : List ℕ
  pub gave : Result (List ℕ) FetchFault

abbrev pub fetched : {T : Type 0} → List ℕ → Result T FetchFault → List ℕ → Fetched
fetched name (Ok x) bytes = record { name = name; gave = Ok bytes }
fetched name (Err e) bytes = record { name = name; gave = Err e }

-- a write: the bytes that it was offered, and how many it took, or None where it failed
pub record Offered : Type 0 where
  pub bytes : List ℕ
  pub took : Option ℕ

abbrev pub offered : {E : Type 0} → List ℕ → Result ℕ E → Offered
offered bytes (Ok n) = record { bytes = bytes; took = Some n }
offered bytes (Err e) = record { bytes = bytes; took = None }

-- a told log grows by these, or is told no longer
abbrev pub Grows : {A : Type 0} → Option (List A) → Option (List A) → List A → Type 0
Grows old None more = ⊤
Grows None (Some new) more = ⊥
Grows (Some old) (Some new) more = new ≡ old ++ more

-- The writes take bytes from the front, and leave a rest: each is offered all that is left, and takes some of it.
abbrev pub Takes : List ℕ → List Offered → List ℕ → Type 0
Takes bytes [] rest = rest ≡ bytes
Takes bytes (o ∷ more) rest = (o.bytes ≡ bytes) × ((n : ℕ) × (o.took ≡ Some n) × (0 < n) × (n ≤ length bytes) × Takes (drop n bytes) more rest)

-- The writes that send a piece leave nothing. Nothing is offered of nothing.
abbrev pub Sends : List ℕ → List Offered → Type 0
Sends piece log = Takes piece log []

-- the same up to a write that fails, the last one
pub record Breaks (piece : List ℕ) (log : List Offered) : Type 0 where
  pub before : List Offered
  pub rest : List ℕ
  pub takes : Takes piece before rest
  pub some : 0 < length rest
  pub fails : log ≡ before ++ record { bytes = rest; took = None } ∷ []

-- these pieces are sent, one after the other
abbrev pub SendsAll : List (List ℕ) → List Offered → Type 0
SendsAll [] log = log ≡ []
SendsAll (p ∷ ps) log = (a : List Offered) × (b : List Offered) × (log ≡ a ++ b) × Sends p a × SendsAll ps b

pub record HasSent (old new : Option (List Offered)) (pieces : List (List ℕ)) : Type 0 where
  pub log : List Offered
  pub grows : Grows old new log
  pub sends : SendsAll pieces log

-- some of these pieces are sent, and in the next one a write failed
pub record HasBroken (old new : Option (List Offered)) (pieces : List (List ℕ)) : Type 0 where
  pub sent : List (List ℕ)
  pub piece : List ℕ
  pub rest : List (List ℕ)
  pub are : pieces ≡ sent ++ piece ∷ rest
  pub before : List Offered
  pub last : List Offered
  pub grows : Grows old new (before ++ last)
  pub sends : SendsAll sent before
  pub breaks : Breaks piece last
