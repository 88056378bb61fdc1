-- Labels leave a program's commands.
use Rattle.std.proofs.Common.{◌≡◌, ℕ, ◌+◌, refl, ap, ◌∙◌}
use Rattle.mit_syntax.specs.Todo.{Marks, Done, Skip, Assign, Put, Sleep, If, While, Mitigate, commands_of}
use Rattle.mit_syntax.specs.Plan.{Plan, count}
use Rattle.timing_types.specs.Placed.{labelled, bare}
use Rattle.timing_types.specs.Labelling.{marks_of, level_of}
use Rattle.mit_syntax.specs.Program.{plan_of}
use Rattle.timing_types.specs.Labelled.{LabelledProgram, bare_of}

module _ (ms : ℕ → Marks) (ls : ℕ → ℕ) where
  pub commands-labelled : (p : Plan) (i : ℕ) → commands_of (bare (labelled ms ls p i)) ≡ commands_of p
  commands-labelled Done i = refl
  commands-labelled (Skip w p) i = ap (Skip tt) (commands-labelled p (i + 1))
  commands-labelled (Assign w x e p) i = ap (Assign tt x e) (commands-labelled p (i + 1))
  commands-labelled (Put w f n j e p) i = ap (Put tt f n j e) (commands-labelled p (i + 1))
  commands-labelled (Sleep w e p) i = ap (Sleep tt e) (commands-labelled p (i + 1))
  commands-labelled (If w e a b p) i =
      ap (λ z. If tt e z (commands_of (bare (labelled ms ls b (i + 1 + count a)))) (commands_of (bare (labelled ms ls p (i + 1 + count a + count b)))))
      (commands-labelled a (i + 1))
      ∙ ap (λ z. If tt e (commands_of a) z (commands_of (bare (labelled ms ls p (i + 1 + count a + count b))))) (commands-labelled b (i + 1 + count a))
      ∙ ap (If tt e (commands_of a) (commands_of b)) (commands-labelled p (i + 1 + count a + count b))
  commands-labelled (While w e c p) i =
      ap (λ z. While tt e z (commands_of (bare (labelled ms ls p (i + 1 + count c))))) (commands-labelled c (i + 1))
      ∙ ap (While tt e (commands_of c)) (commands-labelled p (i + 1 + count c))
  commands-labelled (Mitigate w k l e c p) i =
      ap (λ z. Mitigate tt k tt e z (commands_of (bare (labelled ms ls p (i + 1 + count c))))) (commands-labelled c (i + 1))
      ∙ ap (Mitigate tt k tt e (commands_of c)) (commands-labelled p (i + 1 + count c))

pub keep_commands : (q : LabelledProgram) → commands_of (bare_of q) ≡ commands_of (plan_of q.program)
keep_commands q = commands-labelled (marks_of q.program.order q.labels) (level_of q.program.order q.labels) (plan_of q.program) 0
