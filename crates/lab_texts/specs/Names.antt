-- Names that are told one after the other.
use Rattle.std.specs.Prelude.{ℕ, List, [], ◌∷◌, ◌++◌, codes}

-- names, each after a blank
abbrev pub after_blanks : List (List ℕ) → List ℕ
after_blanks [] = []
after_blanks (w ∷ ws) = codes " " ++ (w ++ after_blanks ws)
