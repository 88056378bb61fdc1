-- A first run: the words that ask for it, the text of its program, and what it answers.
use Rattle.std.specs.Prelude.{ℕ, List, [], ◌∷◌, codes}

abbrev pub first_file : List ℕ
first_file = codes "examples/first.mit"

-- `run examples/first.mit --env flat`
abbrev pub first_words : List (List ℕ)
first_words = codes "run" ∷ first_file ∷ codes "--env" ∷ codes "flat" ∷ []

-- the bytes of that file
abbrev pub first_text : List ℕ
first_text = codes "// One assignment to a public variable.\nvar l : L;\nl := 7\n"

-- an assignment at cycle 2, and the end at cycle 3
abbrev pub first_answer : List ℕ
first_answer = codes "l = 7 @2\nend @3\n"
