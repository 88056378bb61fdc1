use Rattle.std.proofs.Common.{sym, ◌∙◌}
use Rattle.black_box.proofs.FileLemmas.{one_list}
use Rattle.black_box.proofs.laws.one_list_of_runs.Goals as goal

pub returns : goal.returns
returns c = λ bytes runs others h k. one_list runs others (sym h ∙ k)
