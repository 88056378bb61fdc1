use Rattle.std.proofs.Common.{◌∙◌, refl, sym, ap, subst}
use Rattle.timing_types.specs.Labelled.{LabelledProgram, TypedProgram, HasType, AreContexts}
use Rattle.type_cert.specs.Certificate.{IsCertificate}
use Rattle.type_cert.proofs.Whole.{made_of}
use Rattle.type_cert.proofs.recheck.recheck.Goals as goal

pub returns-in-Err-clause-kept : goal.returns-in-Err-clause-kept
returns-in-Err-clause-kept c = refl

pub returns-in-Err-clause-fault : goal.returns-in-Err-clause-fault
returns-in-Err-clause-fault c = c.in-Err.ensures.fault

pub of-labelled-requires : goal.of-labelled-requires
of-labelled-requires c =
    (made_of c.args.p c.laws.ensures.valid c.args.bytes.now c.in-Ok.contents.variables.items c.in-Ok.contents.lines.items c.deref.result.now
    c.in-Ok-tables.held.commands.items c.in-Ok-tables.held.levels.items c.in-Ok-tables.held.pcs.items
    c.in-Ok.ensures.contents c.deref.ensures.value c.in-Ok-tables.ensures.commands c.in-Ok-tables.ensures.levels c.in-Ok-tables.ensures.pcs).labelling

pub of-requires : goal.of-requires
of-requires c =
    let m =
    made_of c.args.p c.laws.ensures.valid c.args.bytes.now c.in-Ok.contents.variables.items c.in-Ok.contents.lines.items c.deref.result.now
    c.in-Ok-tables.held.commands.items c.in-Ok-tables.held.levels.items c.in-Ok-tables.held.pcs.items
    c.in-Ok.ensures.contents c.deref.ensures.value c.in-Ok-tables.ensures.commands c.in-Ok-tables.ensures.levels c.in-Ok-tables.ensures.pcs in
    record {
      typed = subst (λ z. HasType z) (sym c.of-labelled.ensures) m.typed;
      contexts = subst (λ z. AreContexts z c.in-Ok-tables.held.pcs.items) (sym c.of-labelled.ensures) m.contexts;
    }

pub returns-in-Ok-tables-clause-program : goal.returns-in-Ok-tables-clause-program
returns-in-Ok-tables-clause-program c =
    ap (λ (z : TypedProgram). z.labelled.program) c.of.ensures ∙ ap (λ (z : LabelledProgram). z.program) c.of-labelled.ensures

pub returns-in-Ok-tables-clause-certificate : goal.returns-in-Ok-tables-clause-certificate
returns-in-Ok-tables-clause-certificate c =
    let m =
    made_of c.args.p c.laws.ensures.valid c.args.bytes.now c.in-Ok.contents.variables.items c.in-Ok.contents.lines.items c.deref.result.now
    c.in-Ok-tables.held.commands.items c.in-Ok-tables.held.levels.items c.in-Ok-tables.held.pcs.items
    c.in-Ok.ensures.contents c.deref.ensures.value c.in-Ok-tables.ensures.commands c.in-Ok-tables.ensures.levels c.in-Ok-tables.ensures.pcs in
    subst (λ z. IsCertificate z c.args.bytes.now) (sym (ap (λ (z : TypedProgram). z.labelled) c.of.ensures ∙ c.of-labelled.ensures)) m.certificate

pub returns-in-Err-tables-clause-kept : goal.returns-in-Err-tables-clause-kept
returns-in-Err-tables-clause-kept c = refl
