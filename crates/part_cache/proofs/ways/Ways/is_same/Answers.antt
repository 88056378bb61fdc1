use Rattle.std.proofs.Common.{◌≡◌, true, false, sym, ap, ◌∙◌, ⊎_elim}
use Rattle.std.proofs.lemmas.Bool.{cases_Bool}
use Rattle.std.specs.Cmp.Lexicographic.{same_text, other_text}
use Rattle.part_cache.specs.Ways.{held_tags}
use Rattle.part_cache.proofs.Held.{ways_same}
use Rattle.part_cache.proofs.ways.Ways.is_same.Goals as goal

pub returns : goal.returns
returns c = (
  λ t. ap held_tags (same_text c.args.self.now.tags c.args.other.now.tags (sym t ∙ c.eq.ensures)),
  λ e. ⊎_elim
      (λ (t : c.eq.result ≡ true). t)
      (λ (f : c.eq.result ≡ false). absurd
      (other_text c.args.self.now.tags c.args.other.now.tags (sym f ∙ c.eq.ensures)
      (ways_same c.args.self.now.tags c.args.other.now.tags c.requires.here c.requires.there e)))
      (cases_Bool c.eq.result),
)
