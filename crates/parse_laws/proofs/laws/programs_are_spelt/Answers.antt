use Rattle.parse_laws.proofs.TreeGrammar as tree
use Rattle.parse_laws.proofs.GrammarTree as grammar
use Rattle.parse_laws.proofs.laws.programs_are_spelt.Goals as goal

pub returns : goal.returns
returns c = λ words p. (grammar.read words p, λ h. tree.spelt words p h.0 h.1 h.2)
