-- Programs of the same commands mean the same.
use Rattle.std.proofs.Common.{◌≡◌, sym, ap, ◌∙◌, subst}
use Rattle.mit_syntax.specs.Todo.{Todo, commands_of}
use Rattle.source_meaning.specs.Source.{notes_of, HasEnded}
use Rattle.source_meaning.specs.Same.{MeansSame}
use Rattle.source_meaning.proofs.Unlabelled.{notes_unlabelled, ended_with, ended_without}

pub same_commands : {M L M' L' : Type 0} (p : Todo M L) (q : Todo M' L') → commands_of p ≡ commands_of q → MeansSame p q
same_commands p q e =
    record {
      tells = λ m n. sym (notes_unlabelled (λ _. tt) (λ _. tt) p m n) ∙ ap (λ z. notes_of z m n) e ∙ notes_unlabelled (λ _. tt) (λ _. tt) q m n;
      ends = λ m n. (
        λ h. ended_without (λ _. tt) (λ _. tt) q m n (subst (λ z. HasEnded z m n) e (ended_with (λ _. tt) (λ _. tt) p m n h)),
        λ h. ended_without (λ _. tt) (λ _. tt) p m n (subst (λ z. HasEnded z m n) (sym e) (ended_with (λ _. tt) (λ _. tt) q m n h)),
      );
    }
