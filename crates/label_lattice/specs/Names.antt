-- The names of labels and of variables, as texts of bytes.
use Rattle.std.specs.Prelude.{◌≡◌, ℕ, ◌≤◌, Bool, true, false, ◌||◌, ◌==◌, List, [], ◌∷◌, length, codes}
use Rattle.std.specs.Str.{bytes_eq}
use Rattle.std.specs.Char.{is_ascii_digit, is_ascii_alphabetic}

-- a letter, a digit or `_`
abbrev pub is_name_byte : ℕ → Bool
is_name_byte b = is_ascii_alphabetic b || (is_ascii_digit b || (b == 95))

abbrev pub Each : (ℕ → Bool) → List ℕ → Type 0
Each p [] = Unit {0}
Each p (x ∷ xs) = (p x ≡ true) × Each p xs

-- a letter, and then letters, digits and `_`: a name or a keyword, of any length
abbrev pub IsWord : List ℕ → Type 0
IsWord [] = ⊥
IsWord (b ∷ r) = (is_ascii_alphabetic b ≡ true) × Each is_name_byte r

-- the words of the language, which are no names
unfoldable pub keywords : List (List ℕ)
keywords = codes "labels" ∷ codes "order" ∷ codes "var" ∷ codes "skip" ∷ codes "if" ∷ codes "then" ∷ codes "else" ∷ codes "while" ∷ codes "do"
    ∷ codes "mitigate" ∷ codes "sleep" ∷ []

-- the word is one of these
abbrev pub is_one_of : List (List ℕ) → List ℕ → Bool
is_one_of [] w = false
is_one_of (k ∷ ks) w = bytes_eq w k || is_one_of ks w

-- a word of at most 32 bytes that is no keyword
abbrev pub IsName : List ℕ → Type 0
IsName w = IsWord w × (length w ≤ 32) × (is_one_of keywords w ≡ false)
