-- An assignment of shaped code is to one of its variables.
use Rattle.std.proofs.Common.{◌≡◌, ℕ, ◌+◌, ◌<◌, List, [], ◌∷◌, refl, ap, arith}
use Rattle.std.specs.Prelude.{ℤ, pos, negsuc, Option, Some, None, slice_get}
use Rattle.mit_syntax.specs.Todo.{Marks}
use Rattle.mit_syntax.specs.Values.{element}
use Rattle.env_contract.specs.Env.{Env}
use Rattle.label_code.specs.declared.code.Work.{Work}
use Rattle.label_code.specs.declared.code.Work.TheVariants.{Push, Load, Store, LoadAt, StoreAt, Apply, Brz, Brnz, Jmp, Sleep, Mitb, Mite, Nop, Halt}
use Rattle.label_code.specs.declared.code.Instr.{Instr}
use Rattle.label_code.specs.Machine.{Wrote, Core, Machine, Opened, act, obey, step, fetched, close_first, marks_of, first, rest}
use Rattle.label_code.specs.Shaped.{Code, IsShaped, InRange}
use Rattle.cycle_machine.specs.declared.state.State.{State}
use Rattle.cycle_machine.specs.Seen.{seen, with_log, core_of}

element_below : (f n : ℕ) (z : ℤ) → 0 < n → element f n z < f + n
element_below f n (pos k) h = omega arith
element_below f n (negsuc k) h = omega arith

-- a core with an empty log
abbrev fresh : {E : Type 0} → Core E → Core E
fresh s = record s { log = [] }

module _ {E : Type 0} (v : Env E) (vars labels : ℕ) (x : ℕ) (n : ℤ) (t : ℕ) where
  close_wrote : (a : ℕ) (ops : List ℤ) (os : List Opened) (s : Core E) → (close_first a ops os (fresh s)).core.log ≡ Wrote x n t ∷ [] → x < vars
  close_wrote a ops [] s e = absurd cc
  close_wrote a ops (o ∷ os) s e = absurd cc

  act_wrote : (w : Work) (m : Marks) (a : ℕ) (ops : List ℤ) (os : List Opened) (s : Core E) → InRange vars labels w →
      (act v m w a ops os (fresh s)).core.log ≡ Wrote x n t ∷ [] → x < vars
  act_wrote (Push k) m a ops os s r e = absurd cc
  act_wrote (Load y) m a ops os s r e = absurd cc
  act_wrote (Store y) m a ops os s r e = let same : y ≡ x = cc in omega (arith, same, r)
  act_wrote (LoadAt f k) m a ops os s r e = absurd cc
  act_wrote (StoreAt f k) m a ops os s r e =
      let same : element f k (first (rest ops)) ≡ x = cc in
      omega (arith, same, element_below f k (first (rest ops)) r.0, r.1)
  act_wrote (Apply o) m a ops os s r e = absurd cc
  act_wrote (Brz b) m a ops os s r e = absurd cc
  act_wrote (Brnz b) m a ops os s r e = absurd cc
  act_wrote (Jmp b) m a ops os s r e = absurd cc
  act_wrote Sleep m a ops os s r e = absurd cc
  act_wrote (Mitb l k) m a ops os s r e = absurd cc
  act_wrote Mite m a ops os s r e = close_wrote (a + 1) ops os s e
  act_wrote Nop m a ops os s r e = absurd cc
  act_wrote Halt m a ops os s r e = absurd cc

-- a step of shaped code from an empty log writes to one of the code's variables
pub wrote_below : {E : Type 0} (v : Env E) (c : Code) (s : State E) (m : Machine E) (x : ℕ) (n : ℤ) (t : ℕ) → IsShaped c →
    step v c.instrs (seen s) ≡ with_log (Wrote x n t ∷ []) m → x < c.variables
wrote_below {E} v c s m x n t shape e = go (slice_get c.instrs s.place) refl (ap (λ z. z.core.log) e)
  where
    go : (o : Option Instr) → slice_get c.instrs s.place ≡ o → (obey v o (seen s)).core.log ≡ Wrote x n t ∷ [] → x < c.variables
    go None q l = absurd cc
    go (Some i) q l =
        act_wrote v c.variables c.order.size x n t i.work (marks_of i) s.place (seen s).operands (seen s).opened (fetched v (marks_of i) s.place (core_of s))
        (shape.1.each s.place i q).range l
