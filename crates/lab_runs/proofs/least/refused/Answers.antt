use Rattle.std.proofs.Common.{◌∙◌, ap, subst, refl, inr}
use Rattle.mit_syntax.specs.Program.{Syntax}
use Rattle.label_lattice.specs.Order.{Order}
use Rattle.timing_types.specs.Labelled.{IsTypeFault}
use Rattle.tool_texts.specs.Texts.{refused_line}
use Rattle.lab_runs.proofs.least.refused.Goals as goal

pub returns-in-Refused-clause-ok : goal.returns-in-Refused-clause-ok
returns-in-Refused-clause-ok c =
    let fault = subst (IsTypeFault c.args.labelled) c.in-Refused.is c.requires.fault in
    inr (record {
      program = refl;
      least = c.requires.least;
      refusal = c.refused-refusal.result;
      refused = record {
        labels = c.args.labelled.labels;
        least = c.requires.least;
        none = λ others l h. fault.1 (c.requires.types others l h);
        rule = c.in-Refused.rule;
        at = c.in-Refused.pos;
        have = c.in-Refused.have;
        allowed = c.in-Refused.allowed;
        first = fault.0;
        line = c.refused-refusal.ensures
            ∙ ap (λ (o : Order). refused_line o c.in-Refused.rule c.in-Refused.pos c.in-Refused.have c.in-Refused.allowed)
            (c.lattice-order.ensures ∙ ap (λ (s : Syntax). s.order) c.program.ensures.program);
      };
      head = refl;
    })
