use Rattle.made_laws.proofs.Wholly.{made_spelled}
use Rattle.made_laws.proofs.program.made_program_is_spelled.Goals as goal

pub returns : goal.returns
returns c = made_spelled c.args.size c.args.number c.requires c.made_text_has_words.ensures
