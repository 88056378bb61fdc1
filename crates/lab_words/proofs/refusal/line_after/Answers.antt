use Rattle.std.proofs.Common.{ℕ, Option, map, string_bytes, subst}
use Rattle.lab_words.specs.Refusal.{IsFirst}
use Rattle.lab_words.proofs.RefusalLemmas.{all_taken}
use Rattle.lab_words.proofs.refusal.line_after.Goals as goal

pub line_without-requires : goal.line_without-requires
line_without-requires c =
    all_taken c.args.verb (map string_bytes c.args.words.now)
    (subst (λ (o : Option ℕ). IsFirst c.args.verb (map string_bytes c.args.words.now) o) c.in-None.is c.in_ok-at.ensures)
