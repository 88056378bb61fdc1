use Rattle.std.proofs.Common.{inl, subst}
use Rattle.lab_why.specs.declared.faulty.Spelled.{Spelled}
use Rattle.lab_why.specs.Faulty.{IsSpelled}
use Rattle.lab_ready.proofs.BegunLemmas.{spells_begun, spells_stops}
use Rattle.lab_ready.proofs.begun.text_begun.Goals as goal

pub returns-in-Ok-Spells-clause-told : goal.returns-in-Ok-Spells-clause-told
returns-in-Ok-Spells-clause-told c =
    spells_begun c.args.text.now c.args.observer.now c.in-Ok-Spells.field-0 c.in-Ok-Spells.program c.program_begun.result c.in-Ok-Spells.ensures
    c.in-Ok-Spells.field-0-is c.program_begun.ensures.told

pub returns-in-Ok-Spells-clause-stop : goal.returns-in-Ok-Spells-clause-stop
returns-in-Ok-Spells-clause-stop c =
    spells_stops c.args.text.now c.args.observer.now c.in-Ok-Spells.field-0 c.in-Ok-Spells.program c.program_begun.result c.in-Ok-Spells.ensures
    c.in-Ok-Spells.field-0-is c.program_begun.ensures.stop

pub returns-in-Ok-Faulty-clause-told : goal.returns-in-Ok-Faulty-clause-told
returns-in-Ok-Faulty-clause-told c content are =
    inl (subst (λ (z : Spelled). IsSpelled content c.args.text.now z) c.in-Ok-Faulty.field-0-is (c.in-Ok-Faulty.ensures content are))
