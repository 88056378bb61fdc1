-- The machine passes the code of an expression, and of what takes its value.
use Rattle.std.proofs.Common.{◌≡◌, ℕ, ◌+◌, List, ◌∷◌, ap, ◌∙◌, arith}
use Rattle.std.specs.Prelude.{ℤ}
use Rattle.mit_syntax.specs.Expression.{Expression}
use Rattle.mit_syntax.specs.Expression.{Number, Variable, Binary, Element}
use Rattle.mit_syntax.specs.Todo.{Marks}
use Rattle.mit_syntax.specs.Values.{apply, read, element, value_of}
use Rattle.env_contract.specs.Env.{Env}
use Rattle.label_code.specs.Costs.{op_cost}
use Rattle.label_code.specs.Machine.{Core, Opened, fetched, touched, waited, written, at, act, obey}
use Rattle.label_code.specs.declared.code.Work.{Work}
use Rattle.label_code.specs.declared.code.Work.TheVariants.{Push, Load, LoadAt, StoreAt, Apply}
use Rattle.label_code.specs.declared.code.Instr.{Instr}
use Rattle.code_lower.specs.Layout.{Stands, expr_size, HasExpr}
use Rattle.label_code.proofs.Leads.{Leads, leads_then, leads_to}
use Rattle.code_lower.proofs.Timed.{timed, tested, reached, stored, timed_memory}

module _ {E : Type 0} (v : Env E) (image : List Instr) where
  -- one instruction
  pub one : (w : Work) (m : Marks) (a : ℕ) (ops : List ℤ) (os : List Opened) (s : Core E) → Stands image a w m
      → Leads v image (at a ops os s) (act v m w a ops os (fetched v m a s))
  one w m a ops os s h = record { count = 1; some = omega arith; ends = ap (λ i. obey v i (at a ops os s)) h }

  pub expr_leads : (e : Expression) (m : Marks) (a : ℕ) (ops : List ℤ) (os : List Opened) (s : Core E) → HasExpr image m e a
      → Leads v image (at a ops os s) (at (a + expr_size e) (value_of e s.memory ∷ ops) os (timed v m e a s))
  expr_leads (Number n) m a ops os s h = one (Push n) m a ops os s h
  expr_leads (Variable x) m a ops os s h = one (Load x) m a ops os s h
  expr_leads (Binary o l r) m a ops os s h =
      let b = a + expr_size l in
      let c = b + expr_size r in
      let s1 = timed v m l a s in
      let s2 = timed v m r b s1 in
      let x = value_of l s.memory in
      let y = value_of r s.memory in
      let right = leads_to v image (at b (x ∷ ops) os s1) (at c (value_of r s1.memory ∷ x ∷ ops) os s2) (at c (y ∷ x ∷ ops) os s2)
      (expr_leads r m b (x ∷ ops) os s1 h.1) (ap (λ z. at c (value_of r z ∷ x ∷ ops) os s2) (timed_memory v m l a s)) in
      let here : c + 1 ≡ a + (expr_size l + expr_size r + 1) = omega arith in
      leads_then v image (at a ops os s) (at b (x ∷ ops) os s1) _ (expr_leads l m a ops os s h.0)
      (leads_then v image (at b (x ∷ ops) os s1) (at c (y ∷ x ∷ ops) os s2) _ right
      (leads_to v image _ _ _ (one (Apply o) m c (y ∷ x ∷ ops) os s2 h.2)
      (ap (λ z. at z (apply o x y ∷ ops) os (waited (op_cost o x y) (fetched v m c s2))) here)))
  expr_leads (Element f n i) m a ops os s h =
      let b = a + expr_size i in
      let s1 = timed v m i a s in
      let y = value_of i s.memory in
      let x = element f n y in
      let s2 = touched v m x (fetched v m b s1) in
      let here : b + 1 ≡ a + (expr_size i + 1) = omega arith in
      leads_then v image (at a ops os s) (at b (y ∷ ops) os s1) _ (expr_leads i m a ops os s h.0)
      (leads_to v image _ _ _ (one (LoadAt f n) m b (y ∷ ops) os s1 h.1)
      (ap (λ z. at (b + 1) (read z x ∷ ops) os s2) (timed_memory v m i a s) ∙ ap (λ z. at z (read s.memory x ∷ ops) os s2) here))

  -- an expression, and the instruction that takes its value
  pub test_leads : (w : Work) (e : Expression) (m : Marks) (a : ℕ) (ops : List ℤ) (os : List Opened) (s : Core E) → HasExpr image m e a
      → Stands image (a + expr_size e) w m → Leads v image (at a ops os s) (act v m w (a + expr_size e) (value_of e s.memory ∷ ops) os (tested v m e a s))
  test_leads w e m a ops os s h i =
      leads_then v image (at a ops os s) _ _ (expr_leads e m a ops os s h) (one w m (a + expr_size e) (value_of e s.memory ∷ ops) os (timed v m e a s) i)

  -- an index and a value, and the instruction that takes both
  pub put_leads : (f n : ℕ) (i e : Expression) (m : Marks) (a : ℕ) (ops : List ℤ) (os : List Opened) (s : Core E) → HasExpr image m i a
      → HasExpr image m e (a + expr_size i) → Stands image (a + expr_size i + expr_size e) (StoreAt f n) m
      → Leads v image (at a ops os s) (at (a + expr_size i + expr_size e + 1) ops os (stored v m f n i e a s))
  put_leads f n i e m a ops os s hi he h =
      let b = a + expr_size i in
      let s1 = timed v m i a s in
      let y = value_of i s.memory in
      let x = element f n y in
      leads_then v image (at a ops os s) (at b (y ∷ ops) os s1) _ (expr_leads i m a ops os s hi)
      (leads_to v image _ _ _ (test_leads (StoreAt f n) e m b (y ∷ ops) os s1 he h)
      (ap (λ z. at (b + expr_size e + 1) ops os (written x (value_of e z) (touched v m x (reached v m i e a s)))) (timed_memory v m i a s)))
