use Rattle.std.proofs.Common.{sym, subst}
use Rattle.timing_types.specs.Labelled.{HasType}
use Rattle.label_infer.specs.Least.{Labels}
use Rattle.type_cert.specs.Laws.{with_labels}
use Rattle.type_cert.proofs.Whole.{are_labels, has_type}
use Rattle.type_cert.proofs.laws.held_labelling_types.Goals as goal

pub returns : goal.returns
returns c = λ q bytes valid h. (
  subst (λ z. Labels q.program z) (sym h.labels) (are_labels q.program valid h.variables h.lines bytes h.begins h.all_variables h.all_commands),
  subst (λ z. HasType (with_labels q.program z)) (sym h.labels) (has_type q.program valid h.variables h.lines bytes h.begins h.all_variables h.all_commands),
)
