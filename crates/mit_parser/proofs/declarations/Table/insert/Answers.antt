use Rattle.std.proofs.Common.{◌∙◌, ap, ◌++◌, ◌∷◌, [], arith}
use Rattle.indexmap.proofs.CallerLemmas.{insert_entry-new}
use Rattle.label_lattice.specs.contracts.name.NamePartialEq.TheImpl.{eq-value}
use Rattle.mit_syntax.specs.Declarations.{declared, elements_in}
use Rattle.mit_parser.proofs.Tabled.{lookup_none, elements_push}
use Rattle.mit_parser.proofs.declarations.Table.insert.Goals as goal

pub returns : goal.returns
returns c =
    let absent = lookup_none c.self.inside.entries.entries c.args.name (ap (λ ds. declared ds c.args.name) c.self.view_is ∙ c.requires.absent) in
    c.in_ok-insert.ensures.entries ∙ insert_entry-new eq-value.it c.self.inside.entries c.args.name c.args.decl absent
    ∙ ap (λ l. l ++ (c.args.name, c.args.decl) ∷ []) c.self.view_is

pub invariant_of-self-2 : goal.invariant_of-self-2
invariant_of-self-2 c =
    let absent = lookup_none c.self.inside.entries.entries c.args.name (ap (λ ds. declared ds c.args.name) c.self.view_is ∙ c.requires.absent) in
    let made = c.in_ok-insert.ensures.entries ∙ insert_entry-new eq-value.it c.self.inside.entries c.args.name c.args.decl absent in
    let sum = ap elements_in made ∙ elements_push c.self.inside.entries.entries (c.args.name, c.args.decl) in
    let old = c.self.invariant.sum in
    let same = ap elements_in c.self.view_is in
    let few = c.requires.few in
    let more = c.length_of.ensures in
    record { sum = omega (arith, sum, old, more); few = omega (arith, old, same, few, more) }
