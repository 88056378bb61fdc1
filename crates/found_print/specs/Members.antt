-- The members of objects that `check` tells.
use Rattle.std.specs.Prelude.{ℕ, ◌+◌, ◌-◌, List, ◌++◌, length, take, codes}
use Rattle.text_base.specs.declared.pos.Pos.{Pos}
use Rattle.json_text.specs.Json.{Json, Members, number, string, object, member, no_members, json_text}

-- a place of a text, by its line and its column
abbrev pub place_json : ℕ → ℕ → Json
place_json line column = object (member (codes "line") (number line) (member (codes "column") (number column) no_members))

-- where something stands that has so many bytes, and other members
abbrev pub there : Pos → ℕ → Members → Members
there p n more =
    member (codes "place") (place_json p.line p.column) (member (codes "end") (place_json p.line (p.column + n)) more)

-- a line without its line feed
abbrev pub but_feed : List ℕ → List ℕ
but_feed line = take (length line - 1) line

-- One object, on a line of its own: what is found, the tool's own line, and other members.
abbrev pub found_object : List ℕ → List ℕ → Members → Json
found_object status line more = object (member (codes "status") (string status) (member (codes "message") (string (but_feed line)) more))

abbrev pub object_line : List ℕ → List ℕ → Members → List ℕ
object_line status line more = json_text (found_object status line more) ++ codes "\n"
