-- The object of a fault of a text.
use Rattle.std.specs.Prelude.{ℕ, List, [], ◌∷◌, length, Option, Some, None, codes}
use Rattle.text_base.specs.declared.pos.Pos.{Pos}
use Rattle.mit_syntax.specs.declared.fault.TextFault.{TextFault}
use Rattle.mit_syntax.specs.declared.fault.TextFault.TheVariants as text
use Rattle.mit_syntax.specs.declared.token.Token.{Token}
use Rattle.mit_parser.specs.declared.fault.ParseFault.{ParseFault}
use Rattle.mit_parser.specs.declared.fault.ParseFault.TheVariants as parse
use Rattle.next_tokens.specs.declared.sort.Sort.{Sort}
use Rattle.fault_print.specs.Words.{sort_text}
use Rattle.fault_print.specs.Faults.{word_there}
use Rattle.flow_print.specs.Places.{spelled_at}
use Rattle.json_text.specs.Json.{Items, Members, string, list, item, no_items, member, no_members}
use Rattle.found_print.specs.Members.{there, object_line}

-- the tokens that could stand there
abbrev pub sort_items : List Sort → Items
sort_items [] = no_items
sort_items (x ∷ xs) = item (string (sort_text x)) (sort_items xs)

abbrev pub spoken : List Sort → List ℕ → Members
spoken could lines = member (codes "expected") (list (sort_items could)) (member (codes "explained") (string lines) no_members)

-- where the fault is and how many bytes stand there, if it has a place; what could stand there; and the lines on it
abbrev pub fault_members : Option (Pos × ℕ) → List Sort → List ℕ → Members
fault_members None could lines = spoken could lines
fault_members (Some at) could lines = there at.0 at.1 (spoken could lines)

-- the place of a fault of a text without tokens: a byte, or the word that begins there
abbrev pub text_place : List ℕ → TextFault → Option (Pos × ℕ)
text_place T (text.NotUtf8 n) = None
text_place T (text.BadByte p) = Some (p, 1)
text_place T (text.WideNumber p) = Some (p, length (word_there T p))
text_place T (text.LongName p) = Some (p, length (word_there T p))
text_place T text.Memory = None

-- the token that begins there
abbrev pub token_place : List ℕ → List Token → Pos → Option (Pos × ℕ)
token_place T ts p = Some (p, length (spelled_at T ts p))

abbrev pub parse_place : List ℕ → List Token → ParseFault → Option (Pos × ℕ)
parse_place T ts (parse.Unexpected p) = token_place T ts p
parse_place T ts (parse.TooDeep p) = token_place T ts p
parse_place T ts (parse.TooMany n) = None
parse_place T ts (parse.Unknown p) = token_place T ts p
parse_place T ts (parse.Twice p) = token_place T ts p
parse_place T ts (parse.Lattice f) = None
parse_place T ts parse.Memory = None
parse_place T ts (parse.Size p) = token_place T ts p
parse_place T ts (parse.Misuse p) = token_place T ts p

-- the tool's own line, where the fault is, what could stand there, and lines on it
abbrev pub fault_object : List ℕ → Option (Pos × ℕ) → List Sort → List ℕ → List ℕ
fault_object line place could lines = object_line (codes "syntax") line (fault_members place could lines)
