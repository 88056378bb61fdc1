use Rattle.std.proofs.Common.{◌∙◌, ap}
use Rattle.std.proofs.lemmas.List.{take_rest}
use Rattle.flow_print.specs.Places.{next_place, kind_at, spelled_at}
use Rattle.flow_print.proofs.Walked.{next_past, kind_past, spelled_past}
use Rattle.flow_print.proofs.places.Spelling.near.Goals as goal

pub returns-clause-next : goal.returns-clause-next
returns-clause-next c text name =
    let tokens = c.args.self.now.tokens.now in
    ap (λ z. next_place text z c.args.q name) (take_rest tokens c.passed-passed.result)
    ∙ next_past c.args.q text name c.passed-passed.result tokens c.passed-passed.ensures.before

pub returns-clause-kind : goal.returns-clause-kind
returns-clause-kind c =
    let tokens = c.args.self.now.tokens.now in
    ap (λ z. kind_at z c.args.q) (take_rest tokens c.passed-passed.result)
    ∙ kind_past c.args.q c.passed-passed.result tokens c.passed-passed.ensures.before

pub returns-clause-word : goal.returns-clause-word
returns-clause-word c text =
    let tokens = c.args.self.now.tokens.now in
    ap (λ z. spelled_at text z c.args.q) (take_rest tokens c.passed-passed.result)
    ∙ spelled_past c.args.q text c.passed-passed.result tokens c.passed-passed.ensures.before
