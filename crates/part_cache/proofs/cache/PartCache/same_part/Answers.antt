use Rattle.std.proofs.Common.{sym, ap, ◌∙◌}
use Rattle.std.proofs.lemmas.Bool.{eqb-true}
use Rattle.part_cache.proofs.Laws.{sets_from_part}
use Rattle.part_cache.proofs.cache.PartCache.same_part.Goals as goal

pub returns-else-self-other : goal.returns-else-self-other
returns-else-self-other c = (
  λ t. absurd (c.if-self-other.false (eqb-true _ _ t)),
  λ e. absurd (c.if-self-other.false
      (ap (λ v. v.sets) c.self.view_is ∙ sets_from_part c.args.self.now c.args.other.now c.args.label.number e
      ∙ sym (ap (λ v. v.sets) c.other.view_is))),
)
