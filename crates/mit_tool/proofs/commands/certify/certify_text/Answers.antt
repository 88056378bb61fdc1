use Rattle.std.proofs.Common.{◌≡◌, ap, inr, refl, sym, subst, ◌∙◌}
use Rattle.std.specs.Prelude.{ℕ, List}
use Rattle.mit_syntax.specs.Program.{Syntax}
use Rattle.mit_syntax.specs.Valid.{IsValid}
use Rattle.label_infer.specs.Least.{Labels}
use Rattle.type_cert.specs.Certificate.{IsCertificate}
use Rattle.type_cert.specs.Derived.{derived_text}
use Rattle.mit_tool.proofs.commands.certify.certify_text.Goals as goal

pub returns-in-Ok-clause-text : goal.returns-in-Ok-clause-text
returns-in-Ok-clause-text g c =
    let q = c.in_ok-typed.typed.labelled in
    let types = c.in_ok-typed.ensures.ok in
    let is : c.in-Ok.text.items ≡ derived_text q = c.in-Ok.ensures ∙ ap derived_text c.labelled.ensures.labelled in
    let valid = subst IsValid (sym types.program) c.laws.ensures.valid in
    let labels = subst (λ (s : Syntax). Labels s q.labels) (sym types.program) types.least.labels in
    let certifies = subst (λ (t : List ℕ). IsCertificate q t) (sym is) (c.derived_texts_are_certificates.ensures q valid labels types.typed) in
    inr (c.in_ok-program.program, c.in_ok-program.ensures.ok, inr (q, types, (refl, is, certifies)))
