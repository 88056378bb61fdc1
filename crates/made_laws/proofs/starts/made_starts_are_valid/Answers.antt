use Rattle.made_laws.proofs.Given.{made_has_starts}
use Rattle.made_laws.proofs.starts.made_starts_are_valid.Goals as goal

pub returns : goal.returns
returns c = made_has_starts c.args.size c.args.number c.requires c.made_text_has_words.ensures
