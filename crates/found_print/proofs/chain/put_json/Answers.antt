use Rattle.std.proofs.Common.{◌∙◌, ◌+◌, ◌++◌, List, ℕ, codes, length, ap}
use Rattle.flow_print.specs.Places.{spelled_at}
use Rattle.json_text.specs.Json.{json_text, quoted}
use Rattle.found_print.specs.Members.{place_json}
use Rattle.found_print.proofs.Putting.{line_put}
use Rattle.found_print.proofs.chain.put_json.Goals as goal

pub returns : goal.returns
returns c =
    let p = c.args.pos in
    let s = c.args.spelling.now in
    line_put _ _ _ _ _ _ (codes "{") (quoted (codes "place")) (codes ":") (json_text (place_json p.line p.column)) (codes ",") (quoted (codes "end"))
    (json_text (place_json p.line (p.column + length (spelled_at s.text.now s.tokens.now p)))) (quoted (codes "text")) _ (codes "}")
    c.in_ok-put_first_key.ensures
    (c.in_ok-put_places.ensures ∙ ap (λ (w : List ℕ). c.put_first_key.new.out.items ++ (json_text (place_json p.line p.column)
    ++ ((codes "," ++ (quoted (codes "end") ++ codes ":")) ++ json_text (place_json p.line (p.column + length w))))) c.spelled_at.ensures)
    c.in_ok-put_key.ensures (c.in_ok-put_string.ensures ∙ ap (λ (z : List ℕ). c.put_key.new.out.items ++ quoted z) c.but_feed.ensures)
    c.in_ok-extend_from_slice.ensures.items
