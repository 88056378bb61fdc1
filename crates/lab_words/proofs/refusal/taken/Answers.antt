use Rattle.lab_words.proofs.RefusalLemmas.{loose_simple}
use Rattle.lab_words.proofs.refusal.taken.Goals as goal

pub matched-requires : goal.matched-requires
matched-requires c = loose_simple c.args.verb _ c.in_ok-form.ensures
