-- The steps of a program's commands alone begin what its own steps begin.
use Rattle.std.proofs.Common.{◌≡◌, ℕ, List, refl, sym, ap, ◌∙◌}
use Rattle.std.specs.Prelude.{ℤ}
use Rattle.mit_syntax.specs.Todo.{Todo, Done, Skip, Assign, Put, Sleep, If, While, Mitigate, commands_of}
use Rattle.source_meaning.specs.Source.{source_steps, source_start}
use Rattle.source_meaning.proofs.Unlabelled.{map-steps}
use Rattle.level_counts.specs.Begun.{begins_next, begins_after}

module _ {M L : Type 0} where
  bare_next : (p : Todo M L) (m : List ℤ) → begins_next (commands_of p) m ≡ begins_next p m
  bare_next Done m = refl
  bare_next (Skip l r) m = refl
  bare_next (Assign l x e r) m = refl
  bare_next (Put l a k i e r) m = refl
  bare_next (Sleep l e r) m = refl
  bare_next (If l e a b r) m = refl
  bare_next (While l e c r) m = refl
  bare_next (Mitigate l k v e c r) m = refl

  pub bare_after : (p : Todo M L) (m : List ℤ) (n : ℕ) → begins_after (commands_of p) m n ≡ begins_after p m n
  bare_after p m n =
      ap (λ σ. begins_next σ.todo σ.memory) (sym (map-steps (λ _. tt) (λ _. tt) n (source_start p m)))
      ∙ bare_next (source_steps n (source_start p m)).todo (source_steps n (source_start p m)).memory
