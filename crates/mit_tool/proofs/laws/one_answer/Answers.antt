use Rattle.std.specs.Prelude.{ℕ, List}
use Rattle.tim_base.specs.Faults.{Rose}
use Rattle.mit_tool.proofs.CommandLemmas.{answers_one}
use Rattle.mit_tool.proofs.laws.one_answer.Goals as goal

pub returns : goal.returns
returns c = λ content before now a s u t x known none h k. answers_one s u t x c.one_list_of_outcomes.ensures
    (λ (name : List ℕ). Rose (before name) (now name)) content a none known h k
