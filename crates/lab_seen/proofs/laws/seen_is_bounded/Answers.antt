use Rattle.lab_seen.proofs.Few.{fields_are_few, fields_within_cut}
use Rattle.lab_seen.proofs.laws.seen_is_bounded.Goals as goal

pub returns-clause-few : goal.returns-clause-few
returns-clause-few c = fields_are_few c.typed_are_sound.ensures

pub returns-clause-cut : goal.returns-clause-cut
returns-clause-cut c = fields_within_cut c.typed_are_sound.ensures
