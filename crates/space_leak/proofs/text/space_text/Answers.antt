use Rattle.std.proofs.Common.{◌∙◌, sym, ap, subst, ◌++◌, arith}
use Rattle.mit_syntax.specs.Program.{Syntax}
use Rattle.space_leak.specs.Text.{class_lines}
use Rattle.fixed_log.specs.Entropy.{AllSome, starts}
use Rattle.leak_classes.specs.Views.{classes_of}
use Rattle.space_leak.proofs.Sizes.{sizes_shown, total_is}
use Rattle.space_leak.proofs.Telling.{space_put}
use Rattle.space_leak.proofs.text.space_text.Goals as goal

pub put_numbers-requires-clause-few : goal.put_numbers-requires-clause-few
put_numbers-requires-clause-few c =
    let entries = c.args.known.now.classes.entries in
    let is = ap starts (c.as_slice.ensures ∙ c.values.ensures.rest) ∙ total_is entries ∙ c.requires.total in
    omega (arith, is, c.requires.few)

pub put_numbers-requires-clause-some : goal.put_numbers-requires-clause-some
put_numbers-requires-clause-some c =
    let entries = c.args.known.now.classes.entries in
    subst AllSome (sizes_shown entries ∙ sym (c.as_slice.ensures ∙ c.values.ensures.rest)) c.requires.some

pub returns : goal.returns
returns c = λ s many.
    let entries = c.args.known.now.classes.entries in
    let sizes = c.as_slice.ensures ∙ c.values.ensures.rest ∙ sym (sizes_shown entries) in
    space_put c.args.setting.env c.args.p.now c.args.observer c.args.setting.budget c.args.size c.lattice-order.result.now s (classes_of c.args.known.now)
    c.as_slice.result.now c.new-text.result.items c.put_head.new.text.items c.put_head-2.new.text.items c.put_numbers.new.text.items
    c.put_classes.new.text.items many (c.lattice-order.ensures ∙ ap (λ p. p.order) c.program-program.ensures.program) sizes c.new-text.ensures.items
    c.in_ok-put_head.ensures c.in_ok-put_head-2.ensures c.in_ok-put_numbers.ensures
    (c.in_ok-put_classes.ensures
    ∙ ap (λ (p : Syntax). c.put_numbers.new.text.items
    ++ class_lines p.declarations (classes_of c.args.known.now).seen (classes_of c.args.known.now).firsts) c.program-program.ensures.program)
