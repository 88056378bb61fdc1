use Rattle.std.proofs.Common.{◌∙◌, ap, ◌++◌, List, ℕ, codes, map}
use Rattle.tool_texts.specs.Texts.{number_line}
use Rattle.lab_texts.specs.Names.{after_blanks}
use Rattle.lab_why.proofs.NameLemmas.{four_put}
use Rattle.lab_why.proofs.names.no_name.Goals as goal

pub returns : goal.returns
returns c =
    let names = after_blanks (map (λ d. d.0) c.args.p.now.declarations) in
    four_put (codes "of: unknown name\nnames") names (codes "\n") c.bytes.result.now c.new-lines.result.items c.extend_from_slice.new.self.items
    c.put_names.new.out.items c.extend_from_slice-2.new.self.items c.extend_from_slice-3.new.self.items c.new-lines.ensures.items
    c.in_ok-extend_from_slice.ensures.items c.in_ok-put_names.ensures c.in_ok-extend_from_slice-2.ensures.items
    c.in_ok-extend_from_slice-3.ensures.items
    ∙ ap (λ (z : List ℕ). codes "of: unknown name\nnames" ++ (names ++ (codes "\n" ++ z)))
    (c.bytes.ensures ∙ c.number-mitigates.ensures ∙ ap (λ (n : ℕ). number_line (codes "mitigates ") n) (c.from.ensures ∙ c.mitigates.ensures))
