use Rattle.std.proofs.Common.{◌≡◌, ◌++◌, ℕ, List, codes, decimal, subst, ap, ◌∙◌}
use Rattle.std.proofs.lemmas.List.{append_assoc}
use Rattle.cycle_machine.specs.Rest.{Told}
use Rattle.lab_seen.specs.Seen.{line_text}
use Rattle.lab_leak.proofs.lines.write_class.Goals as goal

-- a piece that is put behind another one
behind : (old mid new words line : List ℕ) → mid ≡ old ++ words → new ≡ mid ++ line → new ≡ old ++ (words ++ line)
behind old mid new words line h k = k ∙ ap (λ z. z ++ line) h ∙ append_assoc old words line

pub returns-in-Ok-write_line : goal.returns-in-Ok-write_line
returns-in-Ok-write_line g c =
    let words = codes "class " ++ (decimal c.args.size ++ codes " first ") in
    subst (λ (z : Told). c.write_line.new.out.text.items ≡ c.args.out.now.text.items ++ (words ++ line_text c.args.p.now c.args.observer c.args.first z))
    (c.in_ok-machine.ensures.runs c.args.budget)
    (behind c.args.out.now.text.items c.write_all.new.out.text.items c.write_line.new.out.text.items words _
    (c.in-Ok.ensures.ok ∙ ap (λ z. c.args.out.now.text.items ++ z) (c.bytes.ensures ∙ c.class_words-words.ensures)) c.in-Ok-write_line.ensures.text)
