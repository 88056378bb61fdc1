use Rattle.mit_parser.specs.Words.{told}
use Rattle.mit_gen.specs.Made.{program_text}
use Rattle.made_laws.proofs.program.made_program_is_not_refused.Goals as goal

pub returns : goal.returns
returns c = λ tokens a f r. c.spelled_is_not_refused.ensures (told (program_text c.args.size c.args.number) tokens)
    (c.made_program_is_spelled.ensures tokens a) f r
