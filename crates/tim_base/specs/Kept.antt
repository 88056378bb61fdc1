-- What fetches leave as it was. A shelf says what each name holds, and counts its faults.
use Rattle.std.specs.Prelude.{◌≡◌, ◌≤◌, ℕ, List}

-- each name holds what it held
abbrev pub KeepsFiles : {A : Type 0} → (List ℕ → A) → (List ℕ → A) → Type 0
KeepsFiles old new = (name : List ℕ) → new name ≡ old name

-- no count falls
abbrev pub NoCountFalls : (List ℕ → ℕ) → (List ℕ → ℕ) → Type 0
NoCountFalls old new = (name : List ℕ) → old name ≤ new name
