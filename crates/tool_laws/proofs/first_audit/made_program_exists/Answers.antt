use Rattle.tool_laws.proofs.MadeOne.{made_one}
use Rattle.tool_laws.proofs.first_audit.made_program_exists.Goals as goal

pub returns : goal.returns
returns c = made_one c.args.size c.args.number c.requires c.made_text_has_words.ensures
