use Rattle.parse_laws.proofs.OneProgram as program
use Rattle.parse_laws.proofs.laws.one_tree.Goals as goal

pub returns : goal.returns
returns c = λ words t u s r. program.one_tree words t u s r
