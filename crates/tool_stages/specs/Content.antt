-- What files are told to hold.
use Rattle.std.specs.Prelude.{ℕ, List, All, Option, Some, None}
use Rattle.std.specs.Bool.{⊤}

-- what names are told to hold
abbrev pub Content : Type 0
Content = List ℕ → Option (Option (List ℕ))

-- the file is told to hold bytes
abbrev pub IsKnown : Option (Option (List ℕ)) → Type 0
IsKnown (Some (Some bytes)) = ⊤
IsKnown (Some None) = ⊥
IsKnown None = ⊥

-- each of these files is told to hold bytes
abbrev pub AreKnown : Content → List (List ℕ) → Type 0
AreKnown content = All (λ name. IsKnown (content name))

-- none of them is one whose count of faults rose
abbrev pub NoneRises : (List ℕ → Type 0) → List (List ℕ) → Type 0
NoneRises Rises = All (λ name. Rises name → ⊥)
