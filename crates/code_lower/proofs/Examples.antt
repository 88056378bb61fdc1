-- Images that were worked out by hand.
use Rattle.std.proofs.Common.{◌≡◌, ℕ, [], ◌∷◌, refl}
use Rattle.std.specs.Prelude.{pos, leb, max, eqb, cond}
use Rattle.label_lattice.specs.Lattice.{Lattice}
use Rattle.mit_syntax.specs.declared.ast.Op.TheVariants.{Sub, Gt}
use Rattle.mit_syntax.specs.Expression.{Number, Variable, Binary}
use Rattle.mit_syntax.specs.Todo.{Marks, Marked, Done, Skip, Assign, Put, If, While, Mitigate}
use Rattle.label_code.specs.declared.code.Work.TheVariants.{Push, Load, Store, StoreAt, Apply, Brz, Brnz, Jmp, Mitb, Mite, Nop, Halt}
use Rattle.label_code.specs.Machine.{label, instr}
use Rattle.code_lower.specs.Code.{image_of}
use Rattle.code_lower.specs.Depth.{most_operands, deepest}

-- label 0 flows to label 1
abbrev two : Lattice
two = record { flows = λ a b. leb a b; join = λ a b. max a b; bottom = 0 }

abbrev low : Marks
low = record { er = 0; ew = 0 }

abbrev high : Marks
high = record { er = 1; ew = 1 }

-- variable 0 is low, the others are high
abbrev of : ℕ → ℕ
of x = cond (eqb x 0) 0 1

-- mitigate (64, H) { while h > 0 do { h := h - 1 } }; l := 1
abbrev countdown : Marked
countdown =
    Mitigate low 0 1 (Number (pos 64))
    (While low (Binary Gt (Variable 1) (Number (pos 0))) (Assign high 1 (Binary Sub (Variable 1) (Number (pos 1))) Done) Done)
    (Assign low 0 (Number (pos 1)) Done)

-- the second test of the loop has raised labels

countdown_image : image_of two of countdown
    ≡ instr (Push (pos 64)) low ∷ instr (Mitb (label 1) 0) low
    ∷ instr (Load 1) low ∷ instr (Push (pos 0)) low ∷ instr (Apply Gt) low ∷ instr (Brz 14) low
    ∷ instr (Load 1) high ∷ instr (Push (pos 1)) high ∷ instr (Apply Sub) high ∷ instr (Store 1) high
    ∷ instr (Load 1) high ∷ instr (Push (pos 0)) high ∷ instr (Apply Gt) high ∷ instr (Brnz 6) high
    ∷ instr Mite low ∷ instr (Push (pos 1)) low ∷ instr (Store 0) low ∷ instr Halt low ∷ []
countdown_image = refl

countdown_operands : most_operands countdown ≡ 2
countdown_operands = refl

countdown_nesting : deepest countdown ≡ 1
countdown_nesting = refl

-- if h then { skip } else { a[h] := 1 }, where a is variables 2 and 3
abbrev choice : Marked
choice = If low (Variable 1) (Skip high Done) (Put high 2 2 (Variable 1) (Number (pos 1)) Done) Done

-- the jump that ends the then-branch has raised labels

choice_image : image_of two of choice
    ≡ instr (Load 1) low ∷ instr (Brz 4) low ∷ instr Nop high ∷ instr (Jmp 7) high
    ∷ instr (Load 1) high ∷ instr (Push (pos 1)) high ∷ instr (StoreAt 2 2) high ∷ instr Halt low ∷ []
choice_image = refl
