use Rattle.std.proofs.Common.{ap, ◌∙◌}
use Rattle.label_lattice.specs.Order.{Order}
use Rattle.mit_syntax.specs.Program.{Syntax}
use Rattle.timing_types.specs.Labelling.{Labelling, variable_of}
use Rattle.lab_steady.proofs.Nos.{written_told, omitted_there, omitted_told}
use Rattle.lab_steady.proofs.variable.variable_lines.Goals as goal

pub declared_line-requires : goal.declared_line-requires
declared_line-requires c =
    c.variable-label.ensures
    ∙ ap (λ (z : Order). variable_of z c.labels.result.now c.args.x)
    (c.lattice.ensures ∙ ap (λ (z : Syntax). z.order) c.program-program.ensures.program)
    ∙ ap (λ (z : Labelling). variable_of c.args.p.now.program.order z c.args.x) c.labels.ensures

pub label_text-requires-clause-there : goal.label_text-requires-clause-there
label_text-requires-clause-there c =
    omitted_there c.args.p.now c.args.x c.program-program.result.now c.program-program.ensures.program c.in-None.ensures

pub returns-in_ok-declared_line-in-Some : goal.returns-in_ok-declared_line-in-Some
returns-in_ok-declared_line-in-Some c =
    written_told c.args.text.now c.args.tokens.now c.args.p.now c.args.x c.program-program.result.now c.in-Some.field-0.number
    c.in_ok-declared_line-in-Some.field-0.items c.program-program.ensures.program c.in-Some.ensures c.in_ok-declared_line-in-Some.ensures

pub returns-in_ok-lines-in-None : goal.returns-in_ok-lines-in-None
returns-in_ok-lines-in-None c =
    omitted_told c.args.text.now c.args.tokens.now c.args.p.now c.args.x c.program-program.result.now c.as_slice.result.now c.in_ok-name-in-None.name.items
    c.in_ok-lines-in-None.lines.items c.program-program.ensures.program c.in-None.ensures c.in_ok-name-in-None.ensures
    c.as_slice.ensures.value c.in_ok-lines-in-None.ensures
