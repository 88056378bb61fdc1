use Rattle.std.proofs.Common.{sym, subst}
use Rattle.timing_types.specs.declared.rule.TypeFault.TheVariants.{Refused}
use Rattle.timing_types.specs.Labelled.{LabelledProgram}
use Rattle.flow_path.specs.Chains.{IsReason}
use Rattle.flow_path.specs.Told.{IsEarliest}
use Rattle.flow_path.proofs.why.check_why.Goals as goal

pub returns-in-Ok-why-clause-cheapest : goal.returns-in-Ok-why-clause-cheapest
returns-in-Ok-why-clause-cheapest c = λ other r.
    c.in-Ok-why.ensures.cheapest other
    (subst (λ (z : LabelledProgram). IsReason z (Refused c.in-Refused.rule c.in-Refused.pos c.in-Refused.have c.in-Refused.allowed) other)
    (sym c.in-Err.ensures.kept) r)

pub returns-in-Ok-why-clause-earliest : goal.returns-in-Ok-why-clause-earliest
returns-in-Ok-why-clause-earliest c =
    subst (λ (z : LabelledProgram). IsEarliest z (Refused c.in-Refused.rule c.in-Refused.pos c.in-Refused.have c.in-Refused.allowed)
    c.in-Ok-why.chain.items) c.in-Err.ensures.kept c.in-Ok-why.ensures.earliest
