use Rattle.lab_check.proofs.FoundLemmas.{byte_could}
use Rattle.lab_check.proofs.faulty.text_could.Goals as goal

pub returns-in-BadByte : goal.returns-in-BadByte
returns-in-BadByte c =
    byte_could c.could_follow.result (λ v. v.items) c.args.text.now c.before_place.result.now c.args.fault c.in-BadByte.pos c.in-BadByte.is
    c.before_place.ensures.is c.could_follow.ensures
