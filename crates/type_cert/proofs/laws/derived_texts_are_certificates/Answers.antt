use Rattle.std.proofs.Common.{refl}
use Rattle.type_cert.specs.Derived.{derived_text}
use Rattle.type_cert.proofs.Back.{is_certificate}
use Rattle.type_cert.proofs.laws.derived_texts_are_certificates.Goals as goal

pub returns : goal.returns
returns c = λ q valid labels type. is_certificate q.program valid q.labels labels type (derived_text q) refl
