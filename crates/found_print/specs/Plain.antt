-- The objects that tell no place.
use Rattle.std.specs.Prelude.{ℕ, List, codes}
use Rattle.tool_texts.specs.Texts.{program, read_fault_line, too_long_line, accepted_line}
use Rattle.json_text.specs.Json.{number, member, no_members}
use Rattle.found_print.specs.Members.{object_line}

-- a file that is not read, in a line without more
abbrev pub read_fault_object : List ℕ
read_fault_object = object_line (codes "read fault") (read_fault_line program) no_members

abbrev pub too_long_object : List ℕ
too_long_object = object_line (codes "too long") (too_long_line program) no_members

-- a program that is accepted: how many commands and mitigates it has
abbrev pub accepted_object : ℕ → ℕ → List ℕ
accepted_object commands mitigates =
    object_line (codes "accepted") (accepted_line commands mitigates)
    (member (codes "commands") (number commands) (member (codes "mitigates") (number mitigates) no_members))
