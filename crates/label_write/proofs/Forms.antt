-- A command that has parts, with its labels.
use Rattle.std.proofs.Common.{◌≡◌, sym, ap, ◌∙◌, ℕ, ◌+◌, arith, List, Vec, Global, Option, Some}
use Rattle.label_lattice.specs.declared.label.Label.{Label}
use Rattle.label_lattice.specs.Order.{Order}
use Rattle.mit_syntax.specs.declared.ast.Expr.{Expr}
use Rattle.mit_syntax.specs.declared.ast.Command.{Command}
use Rattle.mit_syntax.specs.declared.ast.Form.{Form, While as DWhile, If as DIf, Mitigate as DMitigate}
use Rattle.mit_syntax.specs.Expression.{expression_of}
use Rattle.mit_syntax.specs.Todo.{If, While, Mitigate}
use Rattle.mit_syntax.specs.Plan.{Written, Plan, form_plan, list_plan, count, plan-If, plan-While, plan-Mitigate}
use Rattle.timing_types.specs.Labelling.{Labelling, marks_of, level_of}
use Rattle.timing_types.specs.Placed.{placed}
use Rattle.timing_types.proofs.Parts.{if_parts, while_parts, mitigate_parts}
use Rattle.label_write.specs.Written.{as_label, with_marks, written_plan}

module _ (o : Order) (l : Labelling) (n : ℕ) (f : Form) (e e' : Expr) (he : expression_of e' ≡ expression_of e) where
  abbrev now : Written → Written
  now w = with_marks (placed (marks_of o l) w n)

  pub wrote_if : (v u v' u' : Vec Command Global) (a b : List Command) (middle end : ℕ) → f ≡ DIf e v u → a ≡ v.items → b ≡ u.items
      → middle ≡ n + 1 + count (list_plan a) → end ≡ middle + count (list_plan b)
      → list_plan v'.items ≡ written_plan o l (list_plan a) (n + 1) → list_plan u'.items ≡ written_plan o l (list_plan b) middle
      → (w : Written) (rest : Plan) → written_plan o l (form_plan f w rest) n ≡ form_plan (DIf e' v' u') (now w) (written_plan o l rest end)
  wrote_if v u v' u' a b middle end is ha hb hm hn hv hu w rest =
      let there : n + 1 + count (list_plan a) + count (list_plan b) ≡ end = omega (arith, hm, hn) in
      ap (λ z. written_plan o l z n) (if_parts f e v u a b is ha hb w rest)
      ∙ ap (λ z. If (now w) z (written_plan o l (list_plan a) (n + 1)) (written_plan o l (list_plan b) (n + 1 + count (list_plan a)))
      (written_plan o l rest (n + 1 + count (list_plan a) + count (list_plan b)))) (sym he)
      ∙ ap (λ z. If (now w) (expression_of e') z (written_plan o l (list_plan b) (n + 1 + count (list_plan a)))
      (written_plan o l rest (n + 1 + count (list_plan a) + count (list_plan b)))) (sym hv)
      ∙ ap (λ z. If (now w) (expression_of e') (list_plan v'.items) (written_plan o l (list_plan b) z)
      (written_plan o l rest (n + 1 + count (list_plan a) + count (list_plan b)))) (sym hm)
      ∙ ap (λ z. If (now w) (expression_of e') (list_plan v'.items) z (written_plan o l rest (n + 1 + count (list_plan a) + count (list_plan b)))) (sym hu)
      ∙ ap (λ z. If (now w) (expression_of e') (list_plan v'.items) (list_plan u'.items) (written_plan o l rest z)) there
      ∙ sym (plan-If e' v' u' (now w) (written_plan o l rest end))

  pub wrote_while : (v v' : Vec Command Global) (a : List Command) (end : ℕ) → f ≡ DWhile e v → a ≡ v.items → end ≡ n + 1 + count (list_plan a)
      → list_plan v'.items ≡ written_plan o l (list_plan a) (n + 1)
      → (w : Written) (rest : Plan) → written_plan o l (form_plan f w rest) n ≡ form_plan (DWhile e' v') (now w) (written_plan o l rest end)
  wrote_while v v' a end is ha hn hv w rest =
      ap (λ z. written_plan o l z n) (while_parts f e v a is ha w rest)
      ∙ ap (λ z. While (now w) z (written_plan o l (list_plan a) (n + 1)) (written_plan o l rest (n + 1 + count (list_plan a)))) (sym he)
      ∙ ap (λ z. While (now w) (expression_of e') z (written_plan o l rest (n + 1 + count (list_plan a)))) (sym hv)
      ∙ ap (λ z. While (now w) (expression_of e') (list_plan v'.items) (written_plan o l rest z)) (sym hn)
      ∙ sym (plan-While e' v' (now w) (written_plan o l rest end))

  pub wrote_mitigate : (k : ℕ) (old : Option Label) (level : Label) (v v' : Vec Command Global) (a : List Command) (end : ℕ)
      → f ≡ DMitigate k e old v → a ≡ v.items
      → end ≡ n + 1 + count (list_plan a) → level.number ≡ level_of o l k → list_plan v'.items ≡ written_plan o l (list_plan a) (n + 1)
      → (w : Written) (rest : Plan) → written_plan o l (form_plan f w rest) n ≡ form_plan (DMitigate k e' (Some level) v') (now w) (written_plan o l rest end)
  wrote_mitigate k old level v v' a end is ha hn hl hv w rest =
      ap (λ z. written_plan o l z n) (mitigate_parts f k e old v a is ha w rest)
      ∙ ap (λ z. Mitigate (now w) k (Some (as_label z)) (expression_of e) (written_plan o l (list_plan a) (n + 1))
      (written_plan o l rest (n + 1 + count (list_plan a)))) (sym hl)
      ∙ ap (λ z. Mitigate (now w) k (Some level) z (written_plan o l (list_plan a) (n + 1)) (written_plan o l rest (n + 1 + count (list_plan a)))) (sym he)
      ∙ ap (λ z. Mitigate (now w) k (Some level) (expression_of e') z (written_plan o l rest (n + 1 + count (list_plan a)))) (sym hv)
      ∙ ap (λ z. Mitigate (now w) k (Some level) (expression_of e') (list_plan v'.items) (written_plan o l rest z)) (sym hn)
      ∙ sym (plan-Mitigate k e' (Some level) v' (now w) (written_plan o l rest end))
