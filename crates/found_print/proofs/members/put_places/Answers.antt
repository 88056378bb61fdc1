use Rattle.std.proofs.Common.{◌∙◌, ◌+◌, ◌++◌, ap, ap₂}
use Rattle.json_text.specs.Json.{json_text}
use Rattle.found_print.specs.Members.{place_json}
use Rattle.found_print.proofs.Putting.{then_three}
use Rattle.found_print.proofs.members.put_places.Goals as goal

pub returns : goal.returns
returns c =
    then_three _ _ _ _ _ _ _
    (c.in_ok-put_place.ensures ∙ ap₂ (λ l k. c.args.out.now.items ++ json_text (place_json l k)) c.from-line.ensures c.from-column.ensures)
    c.in_ok-put_key.ensures
    (c.in_ok-put_place-2.ensures
    ∙ ap₂ (λ l k. c.put_key.new.out.items ++ json_text (place_json l k)) c.from-line.ensures (ap (λ z. z + c.args.n) c.from-column.ensures))
