use Rattle.std.proofs.Common.{◌∙◌, ap, subst}
use Rattle.mit_syntax.specs.Program.{Syntax}
use Rattle.label_lattice.specs.Order.{Order}
use Rattle.timing_types.specs.Labelled.{IsTypeFault}
use Rattle.tool_texts.specs.Texts.{refused_line}
use Rattle.tool_stages.proofs.types.type_stop.Goals as goal

pub returns-in-Refused : goal.returns-in-Refused
returns-in-Refused c =
    let fault = subst (IsTypeFault c.args.p.now) c.in-Refused.is c.requires.fault in
    record {
      labels = c.args.p.now.labels;
      least = c.requires.least;
      none = λ others l h. fault.1 (c.requires.types others l h);
      rule = c.in-Refused.rule;
      at = c.in-Refused.pos;
      have = c.in-Refused.have;
      allowed = c.in-Refused.allowed;
      first = fault.0;
      line = c.refused.ensures
          ∙ ap (λ (o : Order). refused_line o c.in-Refused.rule c.in-Refused.pos c.in-Refused.have c.in-Refused.allowed)
          (c.lattice.ensures ∙ ap (λ (s : Syntax). s.order) c.program.ensures.program);
    }
