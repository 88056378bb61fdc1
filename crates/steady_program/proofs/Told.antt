-- What is told of a program, from what is found of its image.
use Rattle.std.proofs.Common.{◌≡◌, ℕ, List, refl, sym, ap, ◌∙◌, subst}
use Rattle.std.specs.Prelude.{Bool, Option, MatchOption}
use Rattle.std.proofs.Math.Path.{fun_ext}
use Rattle.label_lattice.specs.declared.label.Label.{Label}
use Rattle.label_lattice.specs.Order.{Order}
use Rattle.timing_types.specs.Labelled.{LabelledProgram, order_of, labels_of}
use Rattle.label_code.specs.Shaped.{Code}
use Rattle.code_lower.specs.Lowered.{lowered}
use Rattle.steady_code.specs.declared.fault.Fault.{Fault}
use Rattle.steady_code.specs.declared.costing.Costing.{Costing}
use Rattle.steady_code.specs.Costing.{settled_by}
use Rattle.steady_code.specs.Plain.{IsClear, IsFirst}
use Rattle.steady_code.specs.Tail.{IsLastSeen}
use Rattle.steady_code.specs.View.{label_in, low_in, felt_in}
use Rattle.steady_code.specs.Timed.{low_of, felt_of}
use Rattle.steady_program.specs.Lowered.{IsSteady, IsFirstFault}

-- what is found with these tests of variables and labels
abbrev Found : Costing → (ℕ → Bool) → (ℕ → Bool) → Code → ℕ → Option Fault → Type 0
Found costing low felt code end f =
    MatchOption f (IsClear (settled_by costing) low felt code.instrs end) (λ (x : Fault). IsFirst
    (settled_by costing) low felt code.instrs end x.place x.reason)

pub told : (costing : Costing) (q : LabelledProgram) (order : Order) (items ls : List Label) (code : Code) (o h end : ℕ) (f : Option Fault)
    → order ≡ q.program.order
    → code ≡ lowered q → ls ≡ items → ((x : ℕ) → label_in q.program.order items x ≡ labels_of q x)
    → Found costing (low_in order ls o) (felt_in order h) code end f → MatchOption f (IsSteady costing q o h end) (IsFirstFault costing q o h end)
told costing q order items ls code o h end f eo ec el same found =
    subst (λ low. Found costing low (felt_in q.program.order h) (lowered q) end f) lows
    (subst (λ z. Found costing (low_in q.program.order items o) (felt_in q.program.order h) z end f) ec
    (subst (λ z. Found costing (low_in q.program.order z o) (felt_in q.program.order h) code end f) el
    (subst (λ z. Found costing (low_in z ls o) (felt_in z h) code end f) eo found)))
  where
    lows : low_in q.program.order items o ≡ low_of (order_of q) (labels_of q) o
    lows = fun_ext (λ x. ap (λ l. (order_of q).flows l o) (same x))

-- where the last thing that is seen stands
pub last : (q : LabelledProgram) (order : Order) (items ls : List Label) (code : Code) (o end : ℕ) → order ≡ q.program.order
    → code ≡ lowered q → ls ≡ items → ((x : ℕ) → label_in q.program.order items x ≡ labels_of q x)
    → IsLastSeen (low_in order ls o) code.instrs end → IsLastSeen (low_of (order_of q) (labels_of q) o) (lowered q).instrs end
last q order items ls code o end eo ec el same found =
    subst (λ (low : ℕ → Bool). IsLastSeen low (lowered q).instrs end) lows
    (subst (λ (z : Code). IsLastSeen (low_in q.program.order items o) z.instrs end) ec
    (subst (λ (z : List Label). IsLastSeen (low_in q.program.order z o) code.instrs end) el
    (subst (λ (z : Order). IsLastSeen (low_in z ls o) code.instrs end) eo found)))
  where
    lows : low_in q.program.order items o ≡ low_of (order_of q) (labels_of q) o
    lows = fun_ext (λ x. ap (λ l. (order_of q).flows l o) (same x))
