-- A value of JSON, and its text on one line. All bytes of the text are ASCII that can be shown, so it is UTF-8.
use Rattle.std.specs.Prelude.{ℕ, Bool, ◌+◌, ◌/◌, ◌%◌, ◌==◌, ◌&&◌, if◌then◌else◌, nat_lt, List, [], ◌∷◌, ◌++◌, drop, codes, decimal}

mutual
  -- a natural number, a string of bytes, a list, or an object whose members have an order
  pub data Json : Type 0 where
    number : ℕ → Json
    string : List ℕ → Json
    list : Items → Json
    object : Members → Json

  pub data Items : Type 0 where
    no_items : Items
    item : Json → Items → Items

  pub data Members : Type 0 where
    no_members : Members
    member : List ℕ → Json → Members → Members

-- ---- strings

abbrev pub hex_digit : ℕ → ℕ
hex_digit n = if nat_lt n 10 then 48 + n else 87 + n

-- a byte by its number, as the character that has it
abbrev pub numbered : ℕ → List ℕ
numbered b = codes "\\u00" ++ (hex_digit (b / 16) ∷ hex_digit (b % 16) ∷ [])

abbrev pub is_plain : ℕ → Bool
is_plain b = nat_lt 31 b && nat_lt b 127

-- what stands in a string for a byte: a quote, a backslash and a line feed have short forms
abbrev pub escaped : ℕ → List ℕ
escaped b =
    if b == 34 then codes "\\\""
    else if b == 92 then codes "\\\\"
    else if b == 10 then codes "\\n"
    else if is_plain b then b ∷ []
    else numbered b

abbrev pub string_body : List ℕ → List ℕ
string_body [] = []
string_body (b ∷ r) = escaped b ++ string_body r

abbrev pub quoted : List ℕ → List ℕ
quoted s = codes "\"" ++ (string_body s ++ codes "\"")

-- ---- values

abbrev mutual
  pub json_text : Json → List ℕ
  json_text (number n) = decimal n
  json_text (string s) = quoted s
  json_text (list ds) = codes "[" ++ (drop 1 (items_text ds) ++ codes "]")
  json_text (object ms) = codes "{" ++ (first_text ms ++ codes "}")

  -- each item with a comma before it, of which that of the first one is left out
  pub items_text : Items → List ℕ
  items_text no_items = []
  items_text (item d ds) = codes "," ++ (json_text d ++ items_text ds)

  pub first_text : Members → List ℕ
  first_text no_members = []
  first_text (member k d ms) = quoted k ++ (codes ":" ++ (json_text d ++ members_text ms))

  -- the members behind the first one
  pub members_text : Members → List ℕ
  members_text no_members = []
  members_text (member k d ms) = codes "," ++ (quoted k ++ (codes ":" ++ (json_text d ++ members_text ms)))

-- two lists of items, one behind the other
abbrev pub items_then : Items → Items → Items
items_then no_items es = es
items_then (item d ds) es = item d (items_then ds es)
