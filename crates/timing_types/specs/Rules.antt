-- The names of the rules.
use Rattle.std.specs.Prelude.{ℕ, List, codes}
use Rattle.timing_types.specs.declared.rule.Rule.{Rule}
use Rattle.timing_types.specs.declared.rule.Rule.TheVariants.{Skip, Asgn, If, While, Mtg, Sleep}

abbrev pub rule_name : Rule → List ℕ
rule_name Skip = codes "T-SKIP"
rule_name Asgn = codes "T-ASGN"
rule_name If = codes "T-IF"
rule_name While = codes "T-WHILE"
rule_name Mtg = codes "T-MTG"
rule_name Sleep = codes "T-SLEEP"
