-- Sets of variables as left sides keep them.
use Rattle.std.specs.Prelude.{ℕ, Bool, false, eqb}
use Rattle.label_infer.specs.declared.variable_set.VariableSet.{VariableSet}
use Rattle.label_infer.specs.declared.variable_set.VariableSet.TheVariants.{Empty, One, Many}
use Rattle.label_infer.specs.Rows.{has_in}

-- whether the set has a variable
abbrev pub has_of : VariableSet → ℕ → Bool
has_of Empty y = false
has_of (One v) y = eqb v.number y
has_of (Many r) y = has_in r.value.words.items y
