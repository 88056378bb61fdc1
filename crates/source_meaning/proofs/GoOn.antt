-- Steps, one after another.
use Rattle.std.proofs.Common.{◌≡◌, ℕ, zero, suc, ◌+◌, List, [], ◌++◌, refl, sym, ap, ◌∙◌, append-nil, arith}
use Rattle.std.specs.Prelude.{ℤ}
use Rattle.mit_syntax.specs.Todo.{Todo, Done, Skip, Assign, Put, Sleep, If, While, Mitigate}
use Rattle.mit_syntax.specs.Plan.{Plan}
use Rattle.source_meaning.specs.Source.{Note, Source, source_act, source_step, source_steps, source_start}
use Rattle.source_meaning.specs.declared.walk.Walk.{Walk}
use Rattle.source_meaning.specs.Frames.{todo_of}
use Rattle.source_meaning.specs.Walked.{Standing, told_by, source_at, IsStep}

abbrev after_notes : {M L : Type 0} → List Note → Source M L → Source M L
after_notes t s = record s { notes = t ++ s.notes }

-- a step tells the same after whatever was told
act_notes : {M L : Type 0} (p : Todo M L) (m : List ℤ) (t : List Note) → source_act p m t ≡ after_notes t (source_act p m [])
act_notes {M} {L} Done m t = ap (λ z. let r : Source M L = record { todo = Done; memory = m; notes = z } in r) (sym (append-nil t))
act_notes {M} {L} (Skip l r) m t = ap (λ z. record (source_act (Skip l r) m t) { notes = z }) (sym (append-nil t))
act_notes (Sleep l e r) m t = ap (λ z. record (source_act (Sleep l e r) m t) { notes = z }) (sym (append-nil t))
act_notes (Assign l x e r) m t = refl
act_notes (Put l f n i e r) m t = refl
act_notes (If l e a b r) m t = ap (λ z. record (source_act (If l e a b r) m t) { notes = z }) (sym (append-nil t))
act_notes (While l e c r) m t = ap (λ z. record (source_act (While l e c r) m t) { notes = z }) (sym (append-nil t))
act_notes (Mitigate l n v e c r) m t = refl

steps_last : {M L : Type 0} (n : ℕ) (s : Source M L) → source_steps (suc n) s ≡ source_step (source_steps n s)
steps_last zero s = refl
steps_last (suc n) s = steps_last n (source_step s)

pub go_on : (p : Plan) (memory : List ℤ) (n : ℕ) (notes : List Note) (old new : Standing) (walk : Walk) →
    source_steps n (source_start p memory) ≡ source_at old notes → IsStep old walk new →
    source_steps (n + 1) (source_start p memory) ≡ source_at new (notes ++ told_by walk)
go_on p memory n notes old new walk e s =
    let one : n + 1 ≡ suc n = omega arith in
    ap (λ k. source_steps k (source_start p memory)) one
    ∙ (steps_last n (source_start p memory)
    ∙ (ap source_step e ∙ (act_notes (todo_of old.lists) old.memory notes ∙ ap (after_notes notes) s.step)))
