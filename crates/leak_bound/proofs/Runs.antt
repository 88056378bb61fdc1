-- A run of a list of commands that comes to its end, command by command, with its cycles.
use Rattle.std.proofs.Common.{◌≡◌, ℕ, ◌+◌, ◌<◌}
use Rattle.std.specs.Prelude.{true, false}
use Rattle.mit_syntax.specs.Expression.{Expression}
use Rattle.mit_syntax.specs.Todo.{Marks, Marked, Done, Skip, Assign, Put, Sleep, If, While, Mitigate}
use Rattle.mit_syntax.specs.Values.{value_of, holds}
use Rattle.doubling_schedule.specs.Doubling.{at_least_zero}
use Rattle.label_lattice.specs.Lattice.{Lattice}
use Rattle.env_contract.specs.Env.{Env}
use Rattle.label_code.specs.Machine.{Core, fetched, touched, waited, written, closed}
use Rattle.code_lower.specs.Layout.{expr_size, size, raised}
use Rattle.code_lower.proofs.Timed.{tested, stored, begun, opening}

-- what may come to its end: a list at a place, or a loop whose body stands at a place and is about to begin
pub data Job : Type 0 where
  Do : Marked → ℕ → Job
  Loop : Marks → Expression → Marked → ℕ → Job

-- past the cut, lim, whatever is left is skipped
pub data Runs {E : Type 0} (v : Env E) (lat : Lattice) (g : ℕ → ℕ) (lim : ℕ) : Job → Core E → Core E → Type 0 where
  done : {a : ℕ} {s : Core E} → Runs v lat g lim (Do Done a) s s
  skip : {m : Marks} {r : Marked} {a : ℕ} {s s' : Core E} →
      Runs v lat g lim (Do r (a + 1)) (fetched v m a s) s' →
      Runs v lat g lim (Do (Skip m r) a) s s'
  assign : {m : Marks} {x : ℕ} {e : Expression} {r : Marked} {a : ℕ} {s s' : Core E} →
      Runs v lat g lim (Do r (a + expr_size e + 1)) (written x (value_of e s.memory) (touched v m x (tested v m e a s))) s' →
      Runs v lat g lim (Do (Assign m x e r) a) s s'
  put : {m : Marks} {f n : ℕ} {i e : Expression} {r : Marked} {a : ℕ} {s s' : Core E} →
      Runs v lat g lim (Do r (a + expr_size i + expr_size e + 1)) (stored v m f n i e a s) s' →
      Runs v lat g lim (Do (Put m f n i e r) a) s s'
  sleep : {m : Marks} {e : Expression} {r : Marked} {a : ℕ} {s s' : Core E} →
      Runs v lat g lim (Do r (a + expr_size e + 1)) (waited (at_least_zero (value_of e s.memory)) (tested v m e a s)) s' →
      Runs v lat g lim (Do (Sleep m e r) a) s s'
  if_true : {m : Marks} {e : Expression} {c d r : Marked} {a : ℕ} {s s1 s' : Core E} →
      holds (value_of e s.memory) ≡ true →
      Runs v lat g lim (Do c (a + expr_size e + 1)) (tested v m e a s) s1 →
      Runs v lat g lim (Do r (a + expr_size e + 1 + size c + 1 + size d)) (fetched v (raised lat g e m) (a + expr_size e + 1 + size c) s1) s' →
      Runs v lat g lim (Do (If m e c d r) a) s s'
  if_false : {m : Marks} {e : Expression} {c d r : Marked} {a : ℕ} {s s1 s' : Core E} →
      holds (value_of e s.memory) ≡ false →
      Runs v lat g lim (Do d (a + expr_size e + 1 + size c + 1)) (tested v m e a s) s1 →
      Runs v lat g lim (Do r (a + expr_size e + 1 + size c + 1 + size d)) s1 s' →
      Runs v lat g lim (Do (If m e c d r) a) s s'
  while_none : {m : Marks} {e : Expression} {c r : Marked} {a : ℕ} {s s' : Core E} →
      holds (value_of e s.memory) ≡ false →
      Runs v lat g lim (Do r (a + expr_size e + 1 + size c + expr_size e + 1)) (tested v m e a s) s' →
      Runs v lat g lim (Do (While m e c r) a) s s'
  while_some : {m : Marks} {e : Expression} {c r : Marked} {a : ℕ} {s s1 s' : Core E} →
      holds (value_of e s.memory) ≡ true →
      Runs v lat g lim (Loop m e c (a + expr_size e + 1)) (tested v m e a s) s1 →
      Runs v lat g lim (Do r (a + expr_size e + 1 + size c + expr_size e + 1)) s1 s' →
      Runs v lat g lim (Do (While m e c r) a) s s'
  mitigate : {m : Marks} {k l : ℕ} {e : Expression} {c r : Marked} {a : ℕ} {s s1 s' : Core E} →
      Runs v lat g lim (Do c (a + expr_size e + 1)) (begun k (tested v m e a s)) s1 →
      Runs v lat g lim (Do r (a + expr_size e + 1 + size c + 1))
      (closed (opening (value_of e s.memory) l k (tested v m e a s)) (fetched v m (a + expr_size e + 1 + size c) s1)) s' →
      Runs v lat g lim (Do (Mitigate m k l e c r) a) s s'
  -- the body once more, and the test below it fails, or holds
  last : {m : Marks} {e : Expression} {c : Marked} {a : ℕ} {s s1 : Core E} →
      Runs v lat g lim (Do c a) s s1 →
      holds (value_of e s1.memory) ≡ false →
      Runs v lat g lim (Loop m e c a) s (tested v (raised lat g e m) e (a + size c) s1)
  again : {m : Marks} {e : Expression} {c : Marked} {a : ℕ} {s s1 s' : Core E} →
      Runs v lat g lim (Do c a) s s1 →
      holds (value_of e s1.memory) ≡ true →
      Runs v lat g lim (Loop m e c a) (tested v (raised lat g e m) e (a + size c) s1) s' →
      Runs v lat g lim (Loop m e c a) s s'
  late : {j : Job} {s : Core E} → lim < s.clock → Runs v lat g lim j s s
