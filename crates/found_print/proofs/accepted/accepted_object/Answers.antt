use Rattle.std.proofs.Common.{◌∙◌, ◌++◌, List, ℕ, codes, decimal, ap}
use Rattle.json_text.specs.Json.{quoted}
use Rattle.found_print.specs.Members.{but_feed}
use Rattle.found_print.proofs.Putting.{counted_put}
use Rattle.found_print.proofs.accepted.accepted_object.Goals as goal

pub returns : goal.returns
returns c =
    let front = λ (w : List ℕ). (codes "{" ++ (quoted (codes "status") ++ codes ":")) ++ (quoted (codes "accepted")
    ++ ((codes "," ++ (quoted (codes "message") ++ codes ":")) ++ quoted (but_feed w))) in
    counted_put _ _ _ _ _ _ (codes "{") (quoted (codes "status")) (codes ":") (quoted (codes "accepted")) (codes ",") (quoted (codes "message")) _
    (quoted (codes "commands")) _ (quoted (codes "mitigates")) _ (codes "}") (codes "\n")
    (c.in_ok-put_found.ensures ∙ ap (λ (l : List ℕ). l ++ front c.bytes.result.now) c.new-out.ensures.items
    ∙ ap front (c.bytes.ensures ∙ c.accepted-line.ensures))
    c.in_ok-put_key.ensures (c.in_ok-put_number.ensures ∙ ap (λ (n : ℕ). c.put_key.new.out.items ++ decimal n) c.from.ensures)
    c.in_ok-put_key-2.ensures (c.in_ok-put_number-2.ensures ∙ ap (λ (n : ℕ). c.put_key-2.new.out.items ++ decimal n) c.from-2.ensures)
    c.in_ok-put_end.ensures
