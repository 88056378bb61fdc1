use Rattle.std.proofs.Common.{◌≡◌, ◌∙◌, ◌+◌, ◌++◌, List, ℕ, codes, length, ap, sym, subst}
use Rattle.label_lattice.specs.Order.{Order}
use Rattle.mit_syntax.specs.declared.token.Token.{Token}
use Rattle.timing_types.specs.Rules.{rule_name}
use Rattle.timing_types.specs.declared.rule.TypeFault.{TypeFault}
use Rattle.flow_print.specs.Places.{spelled_at}
use Rattle.flow_print.specs.Lines.{label_text}
use Rattle.tool_texts.specs.Texts.{refused_line}
use Rattle.json_text.specs.Json.{json_text, list, quoted}
use Rattle.found_print.specs.Members.{but_feed, place_json}
use Rattle.found_print.specs.Chains.{chain_items}
use Rattle.found_print.specs.Refused.{labels_json, refused_object}
use Rattle.found_print.proofs.Putting.{refused_put}
use Rattle.found_print.proofs.refused.refused_object.Goals as goal

pub returns : goal.returns
returns c =
    let T = c.args.text.now in
    let ts = c.args.tokens.now in
    let p = c.args.p.now in
    let s = c.new-spelling.result in
    let q = c.in-Refused.pos in
    let have = c.in-Refused.have in
    let allowed = c.in-Refused.allowed in
    let chain = c.args.chain.now in
    let line = refused_line p.order c.in-Refused.rule q have allowed in
    let front = λ (w : List ℕ). (codes "{" ++ (quoted (codes "status") ++ codes ":")) ++ (quoted (codes "refused")
    ++ ((codes "," ++ (quoted (codes "message") ++ codes ":")) ++ quoted (but_feed w))) in
    let places = λ (w : List ℕ). json_text (place_json q.line q.column)
    ++ ((codes "," ++ (quoted (codes "end") ++ codes ":")) ++ json_text (place_json q.line (q.column + length w))) in
    let pair = λ (o : Order). json_text (labels_json (label_text o have.number) (label_text o allowed.number)) in
    let items = λ (text : List ℕ) (tokens : List Token). json_text (list (chain_items text tokens p chain)) in
    subst (λ (f : TypeFault). c.put_end.new.out.items ≡ refused_object T ts p f chain) (sym c.in-Refused.is)
    (refused_put _ _ _ _ _ _ _ _ _ _ (codes "{") (quoted (codes "status")) (codes ":") (quoted (codes "refused")) (codes ",") (quoted (codes "message"))
    (quoted (but_feed line)) (quoted (codes "place")) (json_text (place_json q.line q.column)) (quoted (codes "end"))
    (json_text (place_json q.line (q.column + length (spelled_at T ts q)))) (quoted (codes "rule")) (quoted (rule_name c.in-Refused.rule))
    (quoted (codes "labels")) (pair p.order) (quoted (codes "chain")) (items T ts) (codes "}") (codes "\n")
    (c.in_ok-put_found.ensures ∙ ap (λ (l : List ℕ). l ++ front c.bytes.result.now) c.new-out.ensures.items
    ∙ ap front (c.bytes.ensures ∙ c.refused-line.ensures ∙ ap (λ (o : Order). refused_line o c.in-Refused.rule q have allowed) c.lattice.ensures))
    c.in_ok-put_key.ensures
    (c.in_ok-put_places.ensures ∙ ap (λ (w : List ℕ). c.put_key.new.out.items ++ places w) (c.spelled_at.ensures
    ∙ ap (λ (text : List ℕ). spelled_at text s.tokens.now q) c.new-spelling.ensures.text
    ∙ ap (λ (tokens : List Token). spelled_at T tokens q) c.new-spelling.ensures.tokens))
    c.in_ok-put_key-2.ensures
    (c.in_ok-put_string.ensures ∙ ap (λ (w : List ℕ). c.put_key-2.new.out.items ++ quoted w) c.name.ensures.name)
    c.in_ok-put_key-3.ensures
    (c.in_ok-put_labels.ensures ∙ ap (λ (o : Order). c.put_key-3.new.out.items ++ pair o) c.lattice-2.ensures)
    c.in_ok-put_key-4.ensures
    (c.in_ok-put_list.ensures ∙ ap (λ (text : List ℕ). c.put_key-4.new.out.items ++ items text s.tokens.now) c.new-spelling.ensures.text
    ∙ ap (λ (tokens : List Token). c.put_key-4.new.out.items ++ items T tokens) c.new-spelling.ensures.tokens)
    c.in_ok-put_end.ensures)
