-- The code of a command and then that of the rest of its list.
use Rattle.std.proofs.Common.{◌≡◌, ℕ, ◌+◌, ◌<◌, List, ◌++◌, length, get_or, drop, refl, sym, ap, ◌∙◌, arith, append_assoc, length-append}
use Rattle.label_lattice.specs.Order.{Order, lattice_of}
use Rattle.mit_syntax.specs.declared.ast.Command.{Command}
use Rattle.mit_syntax.specs.declared.ast.Form.{Form, Skip as FSkip, Assign as FAssign, Put as FPut, Sleep as FSleep, If' as FIf, While' as FWhile}
use Rattle.mit_syntax.specs.declared.ast.Form.{Mitigate' as FMitigate}
use Rattle.mit_syntax.specs.Todo.{Marks, Done, Skip, Assign, Put, Sleep, If, While, Mitigate, then_todo}
use Rattle.mit_syntax.specs.Plan.{Written, Plan, form_plan, row_plan, command_plan, list_plan, count, form_count}
use Rattle.timing_types.specs.Placed.{bare, labelled}
use Rattle.timing_types.specs.Labelling.{Labelling, variable_of, marks_of, level_of}
use Rattle.timing_types.proofs.Parts.{cut, cut_count}
use Rattle.label_code.specs.declared.code.Instr.{Instr}
use Rattle.code_lower.specs.Layout.{size}
use Rattle.code_lower.specs.Depth.{most_operands, deepest}
use Rattle.code_lower.specs.Code.{code_of}
use Rattle.code_lower.specs.Emitted.{marked_of, Adds}
use Rattle.code_lower.proofs.Stands.{length-code_of, code-then}
use Rattle.code_lower.proofs.Extents.{cut_size}

-- labels change neither the size nor the depths
module _ (ms : ℕ → Marks) (ls : ℕ → ℕ) where
  pub size-labelled : (p : Plan) (i : ℕ) → size (bare (labelled ms ls p i)) ≡ size p
  size-labelled Done i = refl
  size-labelled (Skip w p) i = let a = size-labelled p (i + 1) in omega arith
  size-labelled (Assign w x e p) i = let a = size-labelled p (i + 1) in omega arith
  size-labelled (Put w f n j e p) i = let a = size-labelled p (i + 1) in omega arith
  size-labelled (Sleep w e p) i = let a = size-labelled p (i + 1) in omega arith
  size-labelled (If w e c d p) i =
      let x = size-labelled c (i + 1) in
      let y = size-labelled d (i + 1 + count c) in
      let a = size-labelled p (i + 1 + count c + count d) in
      omega arith
  size-labelled (While w e c p) i = let x = size-labelled c (i + 1) in let a = size-labelled p (i + 1 + count c) in omega arith
  size-labelled (Mitigate w k l e c p) i = let x = size-labelled c (i + 1) in let a = size-labelled p (i + 1 + count c) in omega arith

  pub operands-labelled : (p : Plan) (i : ℕ) → most_operands (bare (labelled ms ls p i)) ≡ most_operands p
  operands-labelled Done i = refl
  operands-labelled (Skip w p) i = operands-labelled p (i + 1)
  operands-labelled (Assign w x e p) i = let a = operands-labelled p (i + 1) in omega arith
  operands-labelled (Put w f n j e p) i = let a = operands-labelled p (i + 1) in omega arith
  operands-labelled (Sleep w e p) i = let a = operands-labelled p (i + 1) in omega arith
  operands-labelled (If w e c d p) i =
      let x = operands-labelled c (i + 1) in
      let y = operands-labelled d (i + 1 + count c) in
      let a = operands-labelled p (i + 1 + count c + count d) in
      omega arith
  operands-labelled (While w e c p) i = let x = operands-labelled c (i + 1) in let a = operands-labelled p (i + 1 + count c) in omega arith
  operands-labelled (Mitigate w k l e c p) i = let x = operands-labelled c (i + 1) in let a = operands-labelled p (i + 1 + count c) in omega arith

  pub deepest-labelled : (p : Plan) (i : ℕ) → deepest (bare (labelled ms ls p i)) ≡ deepest p
  deepest-labelled Done i = refl
  deepest-labelled (Skip w p) i = deepest-labelled p (i + 1)
  deepest-labelled (Assign w x e p) i = let a = deepest-labelled p (i + 1) in omega arith
  deepest-labelled (Put w f n j e p) i = let a = deepest-labelled p (i + 1) in omega arith
  deepest-labelled (Sleep w e p) i = let a = deepest-labelled p (i + 1) in omega arith
  deepest-labelled (If w e c d p) i =
      let x = deepest-labelled c (i + 1) in
      let y = deepest-labelled d (i + 1 + count c) in
      let a = deepest-labelled p (i + 1 + count c + count d) in
      omega arith
  deepest-labelled (While w e c p) i = let x = deepest-labelled c (i + 1) in let a = deepest-labelled p (i + 1 + count c) in omega arith
  deepest-labelled (Mitigate w k l e c p) i = let x = deepest-labelled c (i + 1) in let a = deepest-labelled p (i + 1 + count c) in omega arith

  -- a command, and then the rest
  pub labelled-then : (f : Form) (w : Written) (rest : Plan) (i n : ℕ) → n ≡ i + form_count f w →
      bare (labelled ms ls (form_plan f w rest) i) ≡ then_todo (bare (labelled ms ls (form_plan f w Done) i)) (bare (labelled ms ls rest n))
  labelled-then FSkip w rest i n h =
      let e : i + 1 ≡ n = omega (arith, h) in
      ap (λ z. Skip (ms i) (bare (labelled ms ls rest z))) e
  labelled-then (FAssign x v) w rest i n h =
      let e : i + 1 ≡ n = omega (arith, h) in
      ap (λ z. then_todo (bare (labelled ms ls (form_plan (FAssign x v) w Done) i)) (bare (labelled ms ls rest z))) e
  labelled-then (FPut a m j v) w rest i n h =
      let e : i + 1 ≡ n = omega (arith, h) in
      ap (λ z. then_todo (bare (labelled ms ls (form_plan (FPut a m j v) w Done) i)) (bare (labelled ms ls rest z))) e
  labelled-then (FSleep v) w rest i n h =
      let e : i + 1 ≡ n = omega (arith, h) in
      ap (λ z. then_todo (bare (labelled ms ls (form_plan (FSleep v) w Done) i)) (bare (labelled ms ls rest z))) e
  labelled-then (FIf v s a s' b) w rest i n h =
      let e : i + 1 + count (row_plan a) + count (row_plan b) ≡ n = omega (arith, h) in
      ap (λ z. then_todo (bare (labelled ms ls (form_plan (FIf v s a s' b) w Done) i)) (bare (labelled ms ls rest z))) e
  labelled-then (FWhile v s c) w rest i n h =
      let e : i + 1 + count (row_plan c) ≡ n = omega (arith, h) in
      ap (λ z. then_todo (bare (labelled ms ls (form_plan (FWhile v s c) w Done) i)) (bare (labelled ms ls rest z))) e
  labelled-then (FMitigate k v l s c) w rest i n h =
      let e : i + 1 + count (row_plan c) ≡ n = omega (arith, h) in
      ap (λ z. then_todo (bare (labelled ms ls (form_plan (FMitigate k v l s c) w Done) i)) (bare (labelled ms ls rest z))) e

-- one command of a list, and what is left
pub list_step : (o : Order) (l : Labelling) (old new : List Instr) (cs : List Command) (i : ℕ) (c : Command) (n n' : ℕ) → i < length cs → c ≡ get_or cs i c →
    Adds o l old new (command_plan c Done) n → n' ≡ n + count (command_plan c Done) →
    (new ++ code_of (lattice_of o) (variable_of o l) (marked_of o l (list_plan (drop (i + 1) cs)) n') (length new) ≡ old
    ++ code_of (lattice_of o) (variable_of o l) (marked_of o l (list_plan (drop i cs)) n) (length old))
    × (n' + count (list_plan (drop (i + 1) cs)) ≡ n + count (list_plan (drop i cs)))
    × (length new + size (list_plan (drop (i + 1) cs)) ≡ length old + size (list_plan (drop i cs)))
list_step o l old new cs i c n n' h is e num =
    let lat = lattice_of o in
    let g = variable_of o l in
    let ms = marks_of o l in
    let ls = level_of o l in
    let w : Written = record { pos = c.pos; labels = c.labels } in
    let rest = list_plan (drop (i + 1) cs) in
    let f = marked_of o l (command_plan c Done) n in
    let r = marked_of o l rest n' in
    let todo : marked_of o l (list_plan (drop i cs)) n ≡ then_todo f r =
    ap (λ z. marked_of o l (list_plan z) n) (cut cs i c h is) ∙ labelled-then ms ls c.form w rest n n' num in
    let long : length new ≡ length old + size f =
    omega (arith, ap length e, length-append old (code_of lat g f (length old)), length-code_of lat g f (length old)) in
    let same : size f ≡ size (command_plan c Done) = size-labelled ms ls (command_plan c Done) n in
    let sizes = cut_size cs i c h is in
    let counts = cut_count cs i c h is in (
      ap (λ z. new ++ code_of lat g r z) long
          ∙ ap (λ z. z ++ code_of lat g r (length old + size f)) e
          ∙ append_assoc old (code_of lat g f (length old)) (code_of lat g r (length old + size f))
          ∙ ap (λ z. old ++ z) (sym (code-then lat g f r (length old)))
          ∙ ap (λ z. old ++ code_of lat g z (length old)) (sym todo),
      omega (arith, num, counts),
      omega (arith, long, same, sizes),
    )

-- the code of a list has its size
pub added_length : (o : Order) (l : Labelling) (old new : List Instr) (p : Plan) (n : ℕ) → Adds o l old new p n → length new ≡ length old + size p
added_length o l old new p n e =
    let q = marked_of o l p n in
    omega (
      arith,
      ap length e,
      length-append old (code_of (lattice_of o) (variable_of o l) q (length old)),
      length-code_of (lattice_of o) (variable_of o l) q (length old),
      size-labelled (marks_of o l) (level_of o l) p n,
    )

-- labels that are read one by one
pub same_marks : (a b : Marks) → a.er ≡ b.er → a.ew ≡ b.ew → a ≡ b
same_marks a b p q = ap (λ z. record { er = z; ew = a.ew }) p ∙ ap (λ z. record { er = b.er; ew = z }) q
