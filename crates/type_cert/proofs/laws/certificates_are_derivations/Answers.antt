use Rattle.std.proofs.Common.{refl, sym, subst}
use Rattle.timing_types.specs.Labelled.{HasType}
use Rattle.label_infer.specs.Least.{Labels}
use Rattle.type_cert.specs.Derived.{derived_text}
use Rattle.type_cert.specs.Laws.{with_labels}
use Rattle.type_cert.proofs.Whole.{are_labels, has_type}
use Rattle.type_cert.proofs.Back.{is_certificate}
use Rattle.type_cert.proofs.laws.certificates_are_derivations.Goals as goal

pub returns : goal.returns
returns c = λ s valid. (
  λ h. (
    h.0,
    subst (λ z. Labels s z) (sym h.2.labels) (are_labels s valid h.2.variables h.2.lines h.1 h.2.begins h.2.all_variables h.2.all_commands),
    subst (λ z. HasType (with_labels s z)) (sym h.2.labels) (has_type s valid h.2.variables h.2.lines h.1 h.2.begins h.2.all_variables h.2.all_commands),
  ),
  λ h. (h.0, derived_text (with_labels s h.0), is_certificate s valid h.0 h.1 h.2 (derived_text (with_labels s h.0)) refl),
)
