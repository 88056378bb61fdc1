use Rattle.std.proofs.Common.{sym, ap, ◌∙◌}
use Rattle.std.specs.Prelude.{◌||◌}
use Rattle.label_infer.specs.declared.row.Row.{Row}
use Rattle.label_infer.specs.declared.variable_set.VariableSet.{VariableSet}
use Rattle.label_infer.specs.Rows.{has_in}
use Rattle.label_infer.specs.Sets.{has_of}
use Rattle.label_infer.proofs.variable_set.VariableSet.add_to.Goals as goal

pub returns-in-One : goal.returns-in-One
returns-in-One c = c.insert.ensures ∙ ap (λ (s : VariableSet). λ y. has_in c.args.row.now.words.items y || has_of s y) (sym c.in-One.is)

pub returns-in-Many : goal.returns-in-Many
returns-in-Many c =
    c.unite.ensures ∙ ap (λ (r : Row). λ y. has_in c.args.row.now.words.items y || has_in r.words.items y) c.deref.ensures
    ∙ ap (λ (s : VariableSet). λ y. has_in c.args.row.now.words.items y || has_of s y) (sym c.in-Many.is)
