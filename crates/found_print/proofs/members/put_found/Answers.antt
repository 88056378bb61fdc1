use Rattle.std.proofs.Common.{◌∙◌, ◌++◌, ap}
use Rattle.json_text.specs.Json.{quoted}
use Rattle.found_print.proofs.Putting.{then_four}
use Rattle.found_print.proofs.members.put_found.Goals as goal

pub returns : goal.returns
returns c =
    then_four _ _ _ _ _ _ _ _ _ c.in_ok-put_first_key.ensures c.in_ok-put_string.ensures c.in_ok-put_key.ensures
    (c.in_ok-put_string-2.ensures ∙ ap (λ z. c.put_key.new.out.items ++ quoted z) c.but_feed.ensures)
