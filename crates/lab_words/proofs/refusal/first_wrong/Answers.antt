use Rattle.std.proofs.Common.{rules, ◌∙◌, map, string_bytes, sym}
use Rattle.lab_words.proofs.RefusalLemmas.{stand_more}
use Rattle.lab_words.proofs.refusal.first_wrong.Goals as goal

pub loop-at-preserved : goal.loop-at-preserved
loop-at-preserved c = record {
  within = search rules;
  stand = stand_more c.args.verb (map string_bytes c.args.words.now) c.loop-at.at c.loop-at.invariant.stand
      (sym c.in_ok-stands.ensures ∙ c.if-not-branch.false);
}
