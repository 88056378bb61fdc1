use Rattle.std.proofs.Common.{sym, subst}
use Rattle.parse_laws.specs.TextWords.{AreWords}
use Rattle.parse_laws.proofs.TextWords.{are_words, are_tokens}
use Rattle.parse_laws.proofs.laws.words_are_cut.Goals as goal

pub returns : goal.returns
returns c = λ text words. (are_tokens text words, λ h. subst (λ w. AreWords text w) (sym h.2) (are_words text h.0 h.1))
