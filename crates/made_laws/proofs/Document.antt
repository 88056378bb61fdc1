-- The document that the text of the starts writes.
use Rattle.std.proofs.Common.{◌≡◌, refl, ℕ, ◌*◌, Some, codes, pos}
use Rattle.std.specs.Prelude.{IsUtf8}
use Rattle.std.specs.Fmt.{digits}
use Rattle.std.specs.Char.{encode_utf8}
use Rattle.toml.specs.Data.{Data, no_items, item, Members, no_members, member, integer, array, table}
use Rattle.toml.specs.Parse.{parse_document}
use Rattle.toml.proofs.OnLiterals.{toml_on_literals}
use Rattle.mit_gen.specs.Made.{starts_text}

abbrev values : ℕ → Data
values r =
    table (member (codes "h0") (integer (pos r))
    (member (codes "h1") (integer (pos (2 * r))) (member (codes "h2") (integer (pos (3 * r))) (member (codes "h3") (integer (pos (5 * r))) no_members))))

abbrev run : ℕ → Data
run r = table (member (codes "memory") (values r) no_members)

abbrev pub document : Members
document = member (codes "run") (array (item (run 0) (item (run 1) (item (run 2) (item (run 3) no_items))))) no_members

pub starts_utf8 : IsUtf8 starts_text
unfolding encode_utf8 digits
starts_utf8 = (starts_text, (refl, refl))

pub starts_document : parse_document starts_text ≡ Some document
unfolding toml_on_literals digits
starts_document = refl
