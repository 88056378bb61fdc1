use Rattle.tim_base.specs.Faults.{Rose}
use Rattle.lab_steady.specs.Answer.{parts_or}
use Rattle.lab_steady.proofs.OneAnswer.{one_in}
use Rattle.lab_steady.proofs.laws.one_steady.Goals as goal

pub returns : goal.returns
returns c = λ constant content before now file observer parts whole s u t x known n.
    one_in constant file observer (parts_or parts observer) whole (λ name. Rose (before name) (now name)) content s u t x n known
