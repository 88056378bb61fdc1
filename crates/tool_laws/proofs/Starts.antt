-- The starts that the text of the starts gives.
use Rattle.std.proofs.Common.{◌≡◌, refl, sym, subst, ℕ, pos, List, [], ◌∷◌, Option, Some, codes, arith}
use Rattle.std.specs.Prelude.{IsUtf8}
use Rattle.std.specs.Char.{encode_utf8}
use Rattle.toml.specs.Data.{Data, no_items, item, Members, no_members, member, integer, array, table}
use Rattle.toml.specs.Parse.{parse_document}
use Rattle.toml.proofs.OnLiterals.{toml_on_literals}
use Rattle.tim_base.specs.Told.{IsTold}
use Rattle.start_file.specs.Starts.{StartValue}
use Rattle.tool_stages.specs.Stages.{StartsAre}
use Rattle.tool_laws.specs.FirstAudit.{starts_text}
use Rattle.tool_laws.proofs.AuditProgram.{program}

abbrev run : ℕ → Data
run h = table (member (codes "memory") (table (member (codes "h") (integer (pos h)) no_members)) no_members)

abbrev document : Members
document = member (codes "run") (array (item (run 0) (item (run 100) no_items))) no_members

text_utf8 : IsUtf8 starts_text
unfolding encode_utf8
text_utf8 = (starts_text, (refl, refl))

writes : parse_document starts_text ≡ Some document
unfolding toml_on_literals
writes = refl

abbrev pub untouched : ℕ → StartValue
untouched h = record { memory = pos h ∷ pos 0 ∷ []; touches = [] }

abbrev pub both_starts : List StartValue
both_starts = untouched 0 ∷ untouched 100 ∷ []

pub starts_are : (c : Option (Option (List ℕ))) → c ≡ Some (Some starts_text) → StartsAre c program both_starts
starts_are c h = (
  starts_text,
  subst (λ (x : Option (Option (List ℕ))). IsTold x starts_text) (sym h) refl,
  omega arith,
  (Some document, (text_utf8, writes), refl),
)
