use Rattle.std.proofs.Common.{◌≡◌, ◌≢◌, ◌∙◌, sym, ap, subst, length, map, Some, None}
use Rattle.std.specs.Prelude.{IfOk, IfErr}
use Rattle.std.proofs.lemmas.List.{length-map}
use Rattle.space_file.specs.declared.fault.SpaceFault.TheVariants.{Memory}
use Rattle.space_file.specs.Ranges.{items_of}
use Rattle.space_file.proofs.Lists.{some_pieces}
use Rattle.space_file.proofs.list.listed.Goals as goal

pub items-requires : goal.items-requires
items-requires c =
    some_pieces (length c.deref.result.now) c.args.text.now
    (ap length c.deref.ensures.value ∙ sym (length-map c.in_ok-parts.parts.items (λ w. w.now)) ∙ ap length c.in_ok-parts.ensures)

pub returns-clause-ok : goal.returns-clause-ok
returns-clause-ok c =
    subst (λ ws. IfOk c.items.result (λ is. items_of ws ≡ Some is.items)) (ap (map (λ w. w.now)) c.deref.ensures.value ∙ c.in_ok-parts.ensures)
    c.items.ensures.ok

pub returns-clause-refused : goal.returns-clause-refused
returns-clause-refused c =
    subst (λ ws. IfErr c.items.result (λ e. e ≢ Memory → items_of ws ≡ None)) (ap (map (λ w. w.now)) c.deref.ensures.value ∙ c.in_ok-parts.ensures)
    c.items.ensures.refused
