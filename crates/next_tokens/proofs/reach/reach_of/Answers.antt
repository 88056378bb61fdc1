use Rattle.std.proofs.Common.{subst}
use Rattle.mit_parser.specs.Words.{told}
use Rattle.next_tokens.specs.Following.{all_sorts}
use Rattle.next_tokens.specs.Parts.{left_of, AreTaken}
use Rattle.next_tokens.specs.declared.part.Part.{Part}
use Rattle.std.proofs.Common.{List}
use Rattle.next_tokens.proofs.Reached.{reaches}
use Rattle.next_tokens.proofs.reach.reach_of.Goals as goal

pub returns : goal.returns
returns c = λ text.
    reaches (told text c.args.tokens.now) c.in_ok-taken.taken (left_of c.in_ok-taken.parts.items) c.in_ok-sorts.sorts.items (c.in_ok-taken.ensures text)
    (subst (λ (l : List Part). AreTaken (left_of l) all_sorts c.in_ok-sorts.sorts.items) c.as_slice.ensures.value c.in_ok-sorts.ensures)
