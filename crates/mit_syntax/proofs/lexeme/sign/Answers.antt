use Rattle.std.proofs.Common.{ap, ◌∙◌, get_or}
use Rattle.mit_syntax.specs.TokenSteps.{sign_front}
use Rattle.mit_syntax.proofs.LexLongest.{at_sign, at_no_sign}
use Rattle.mit_syntax.proofs.lexeme.sign.Goals as goal

pub returns-in-Some : goal.returns-in-Some
returns-in-Some c = at_sign c.args.text.now c.in-Some.sign c.in-Some.n c.requires.some c.requires.no_letter c.requires.no_digit (c.in-Some.ensures
    ∙ ap (sign_front (get_or c.args.text.now 0 0)) c.second_is_equal.ensures)

pub returns-in-None : goal.returns-in-None
returns-in-None c = at_no_sign c.args.text.now c.requires.some c.requires.no_letter c.requires.no_digit (c.in-None.ensures
    ∙ ap (sign_front (get_or c.args.text.now 0 0)) c.second_is_equal.ensures)
