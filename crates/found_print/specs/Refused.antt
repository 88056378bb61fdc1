-- The object of a program that is refused.
use Rattle.std.specs.Prelude.{ℕ, List, [], length, codes}
use Rattle.mit_syntax.specs.declared.token.Token.{Token}
use Rattle.mit_syntax.specs.Program.{Syntax}
use Rattle.timing_types.specs.Rules.{rule_name}
use Rattle.timing_types.specs.declared.rule.TypeFault.{TypeFault}
use Rattle.timing_types.specs.declared.rule.TypeFault.TheVariants.{Refused as BrokenAt, Memory}
use Rattle.flow_path.specs.declared.step.Step.{Step}
use Rattle.flow_print.specs.Places.{spelled_at}
use Rattle.flow_print.specs.Lines.{label_text}
use Rattle.tool_texts.specs.Texts.{refused_line}
use Rattle.json_text.specs.Json.{Json, string, list, object, member, no_members}
use Rattle.found_print.specs.Members.{there, object_line}
use Rattle.found_print.specs.Chains.{chain_items}

-- the label that is there, and the one that is allowed
abbrev pub labels_json : List ℕ → List ℕ → Json
labels_json have allowed = object (member (codes "have") (string have) (member (codes "allowed") (string allowed) no_members))

-- the condition that is broken, and the chain that shows why it can't hold
abbrev pub refused_object : List ℕ → List Token → Syntax → TypeFault → List Step → List ℕ
refused_object T ts p (BrokenAt rule at have allowed) chain =
    object_line (codes "refused") (refused_line p.order rule at have allowed)
    (there at (length (spelled_at T ts at)) (member (codes "rule") (string (rule_name rule))
    (member (codes "labels") (labels_json (label_text p.order have.number) (label_text p.order allowed.number))
    (member (codes "chain") (list (chain_items T ts p chain)) no_members))))
refused_object T ts p Memory chain = []
