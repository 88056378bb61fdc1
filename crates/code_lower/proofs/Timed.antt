-- What the code of an expression does to the state, with its cycles.
use Rattle.std.proofs.Common.{◌≡◌, ℕ, ◌+◌, ◌≤◌, refl, ◌∙◌, arith}
use Rattle.std.specs.Prelude.{ℤ}
use Rattle.mit_syntax.specs.Expression.{Expression}
use Rattle.mit_syntax.specs.Expression.{Number, Variable, Binary, Element}
use Rattle.mit_syntax.specs.Todo.{Marks}
use Rattle.mit_syntax.specs.Values.{element, value_of}
use Rattle.label_code.specs.Costs.{op_cost}
use Rattle.env_contract.specs.Env.{Env}
use Rattle.label_code.specs.Machine.{Core, Opened, Began, fetched, touched, waited, logged, written}
use Rattle.code_lower.specs.Layout.{expr_size}

-- what the code of an expression at a place does to the rest of the state
abbrev pub timed : {E : Type 0} → Env E → Marks → Expression → ℕ → Core E → Core E
timed v m (Number n) a s = fetched v m a s
timed v m (Variable x) a s = touched v m x (fetched v m a s)
timed v m (Binary o l r) a s =
    waited (op_cost o (value_of l s.memory) (value_of r s.memory))
    (fetched v m (a + expr_size l + expr_size r) (timed v m r (a + expr_size l) (timed v m l a s)))
timed v m (Element f n i) a s = touched v m (element f n (value_of i s.memory)) (fetched v m (a + expr_size i) (timed v m i a s))

-- and then of the instruction below it
abbrev pub tested : {E : Type 0} → Env E → Marks → Expression → ℕ → Core E → Core E
tested v m e a s = fetched v m (a + expr_size e) (timed v m e a s)

-- of an index and a value, and then of the instruction below them
abbrev pub reached : {E : Type 0} → Env E → Marks → Expression → Expression → ℕ → Core E → Core E
reached v m i e a s = tested v m e (a + expr_size i) (timed v m i a s)

-- and what that instruction does
abbrev pub stored : {E : Type 0} → Env E → Marks → ℕ → ℕ → Expression → Expression → ℕ → Core E → Core E
stored v m f n i e a s =
    let x = element f n (value_of i s.memory) in written x (value_of e s.memory) (touched v m x (reached v m i e a s))

abbrev pub begun : {E : Type 0} → ℕ → Core E → Core E
begun k s = logged (Began k s.clock) s

abbrev pub opening : {E : Type 0} → ℤ → ℕ → ℕ → Core E → Opened
opening n l k s = record { estimate = n; level = l; mark = k; since = s.clock }

pub timed_clock : {E : Type 0} (v : Env E) (m : Marks) (e : Expression) (a : ℕ) (s : Core E) → s.clock ≤ (timed v m e a s).clock
timed_clock v m (Number n) a s = omega arith
timed_clock v m (Variable x) a s = omega arith
timed_clock v m (Binary op l r) a s = omega (arith, timed_clock v m l a s, timed_clock v m r (a + expr_size l) (timed v m l a s))
timed_clock v m (Element f n i) a s = omega (arith, timed_clock v m i a s)

pub tested_clock : {E : Type 0} (v : Env E) (m : Marks) (e : Expression) (a : ℕ) (s : Core E) → s.clock ≤ (tested v m e a s).clock
tested_clock v m e a s = omega (arith, timed_clock v m e a s)

pub reached_clock : {E : Type 0} (v : Env E) (m : Marks) (i e : Expression) (a : ℕ) (s : Core E) → s.clock ≤ (reached v m i e a s).clock
reached_clock v m i e a s = omega (arith, timed_clock v m i a s, tested_clock v m e (a + expr_size i) (timed v m i a s))

pub timed_log : {E : Type 0} (v : Env E) (m : Marks) (e : Expression) (a : ℕ) (s : Core E) → (timed v m e a s).log ≡ s.log
timed_log v m (Number n) a s = refl
timed_log v m (Variable x) a s = refl
timed_log v m (Binary op l r) a s = timed_log v m r (a + expr_size l) _ ∙ timed_log v m l a s
timed_log v m (Element f n i) a s = timed_log v m i a s

pub reached_log : {E : Type 0} (v : Env E) (m : Marks) (i e : Expression) (a : ℕ) (s : Core E) → (reached v m i e a s).log ≡ s.log
reached_log v m i e a s = timed_log v m e (a + expr_size i) (timed v m i a s) ∙ timed_log v m i a s

pub timed_memory : {E : Type 0} (v : Env E) (m : Marks) (e : Expression) (a : ℕ) (s : Core E) → (timed v m e a s).memory ≡ s.memory
timed_memory v m (Number n) a s = refl
timed_memory v m (Variable x) a s = refl
timed_memory v m (Binary op l r) a s = timed_memory v m r (a + expr_size l) _ ∙ timed_memory v m l a s
timed_memory v m (Element f n i) a s = timed_memory v m i a s
