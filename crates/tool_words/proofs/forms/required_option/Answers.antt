use Rattle.std.proofs.Common.{◌∙◌, ap, Some, true}
use Rattle.clap.specs.Words.{Rule, rule_of}
use Rattle.tool_words.proofs.forms.required_option.Goals as goal

pub returns-clause-rule : goal.returns-clause-rule
returns-clause-rule c = ap rule_of c.required.ensures ∙ ap (λ (r : Rule). record r { required = true }) (ap rule_of c.long.ensures)
    ∙ ap (λ (r : Rule). record r { long = Some c.args.name.now; required = true }) c.new.ensures.rule
