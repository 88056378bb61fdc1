-- The items that tell a chain: the lines that `why` tells, each with its place.
use Rattle.std.specs.Prelude.{ℕ, ◌==◌, if◌then◌else◌, List, [], ◌∷◌, ◌++◌, length, Option, Some, None, codes}
use Rattle.text_base.specs.declared.pos.Pos.{Pos}
use Rattle.mit_syntax.specs.declared.token.Token.{Token}
use Rattle.mit_syntax.specs.Program.{Syntax}
use Rattle.flow_path.specs.declared.step.Spot.{Spot}
use Rattle.flow_path.specs.declared.step.Spot.TheVariants.{Variable, Command, Level}
use Rattle.flow_path.specs.declared.step.How.{How}
use Rattle.flow_path.specs.declared.step.How.TheVariants.{Reads, ReadsInIndex, HasReadLabel, UnderGuard}
use Rattle.flow_path.specs.declared.step.How.TheVariants.{AfterReading, AfterComputing, AfterReadLabel, AfterAssigning}
use Rattle.flow_path.specs.declared.step.Step.{Step}
use Rattle.flow_print.specs.Places.{next_place, declared_place, spelled_at}
use Rattle.flow_print.specs.Lines.{line, place_text, reads_line, reader_line, time_line, counts_line, label_line, side_line, bound, spot_text, written_text}
use Rattle.json_text.specs.Json.{Json, Items, Members, string, object, item, no_items, items_then, member, no_members}
use Rattle.found_print.specs.Members.{there, but_feed}

-- behind the first blank, as the words of a line that begins with its place
abbrev pub behind_blank : List ℕ → List ℕ
behind_blank [] = []
behind_blank (b ∷ r) = if b == 32 then r else behind_blank r

-- a line at a place, where a token begins
abbrev pub line_json : List ℕ → List Token → Pos → List ℕ → Json
line_json T ts p words = object (there p (length (spelled_at T ts p)) (member (codes "text") (string (but_feed words)) no_members))

-- the same, with other items behind it, of a line that begins with its place
abbrev pub placed_item : List ℕ → List Token → Pos → List ℕ → Items → Items
placed_item T ts p words more = item (line_json T ts p (behind_blank words)) more

-- how a part comes into the left side
abbrev pub part_items : List ℕ → List Token → How → Pos → List ℕ → List ℕ → Items → Items
part_items T ts Reads q w a more = placed_item T ts (next_place T ts q w) (reads_line T ts q (codes "this value reads ") w) more
part_items T ts ReadsInIndex q w a more = placed_item T ts (next_place T ts q w) (reads_line T ts q (codes "this index reads ") w) more
part_items T ts HasReadLabel q w a more = placed_item T ts q (label_line ts q w) more
part_items T ts UnderGuard q w a more = placed_item T ts (next_place T ts q w) (reads_line T ts q (codes "this guard reads ") w) more
part_items T ts AfterReading q w a more =
    placed_item T ts (next_place T ts q w) (reader_line T ts q w) (placed_item T ts q (time_line ts q a) more)
part_items T ts AfterComputing q w a more =
    placed_item T ts (next_place T ts q w) (reader_line T ts q w) (placed_item T ts q (counts_line q a) more)
part_items T ts AfterReadLabel q w a more = placed_item T ts q (label_line ts q w) (placed_item T ts q (time_line ts q a) more)
part_items T ts AfterAssigning q w a more =
    placed_item T ts q (place_text q ++ line (codes "this assigns to ") w)
    (placed_item T ts q (place_text q ++ line (codes "so when it is done is ") a) more)

-- a step: how its part comes in, and then its right side
abbrev pub step_items : List ℕ → List Token → Syntax → Step → List ℕ → Items → Items
step_items T ts s st a more =
    part_items T ts st.part.how st.part.pos (spot_text s st.part.spot) a
    (item (line_json T ts st.pos (side_line ts s st.pos st.side (bound st.part.how) a)) more)

abbrev pub steps_items : List ℕ → List Token → Syntax → List Step → List ℕ → Items
steps_items T ts s [] a = no_items
steps_items T ts s (st ∷ sts) a = step_items T ts s st a (steps_items T ts s sts a)

-- where the chain begins: the declaration of its variable, if it begins at one
abbrev pub declared_item : List ℕ → List Token → Option Pos → List ℕ → Items → Items
declared_item T ts None words more = item (object (member (codes "text") (string (but_feed words)) no_members)) more
declared_item T ts (Some p) words more = item (line_json T ts p words) more

abbrev pub first_items : List ℕ → List Token → Spot → List ℕ → List ℕ → Items → Items
first_items T ts (Variable x) w a more = declared_item T ts (declared_place T ts w) (w ++ line (codes " is declared ") a) more
first_items T ts (Command l) w a more = more
first_items T ts (Level k l) w a more = more

abbrev pub chain_items : List ℕ → List Token → Syntax → List Step → Items
chain_items T ts s [] = no_items
chain_items T ts s (st ∷ sts) =
    first_items T ts st.part.spot (spot_text s st.part.spot) (written_text s st.part.spot)
    (steps_items T ts s (st ∷ sts) (written_text s st.part.spot))
