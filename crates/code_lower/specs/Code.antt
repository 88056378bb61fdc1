-- The instructions of a list of commands as a list, from the place where the first one stands.
use Rattle.std.specs.Prelude.{ℕ, ◌+◌, List, [], ◌∷◌, ◌++◌}
use Rattle.mit_syntax.specs.Expression.{Expression}
use Rattle.mit_syntax.specs.Expression.{Number, Variable, Binary, Element}
use Rattle.label_code.specs.declared.code.Work.TheVariants.{Push, Load, Store, LoadAt, StoreAt, Apply, Brz, Brnz, Jmp, Sleep as SleepWork, Mitb, Mite, Nop}
use Rattle.label_code.specs.declared.code.Work.TheVariants.{Halt}
use Rattle.label_code.specs.declared.code.Instr.{Instr}
use Rattle.mit_syntax.specs.Todo.{Marks, Marked, Done, Skip, Assign, Put, Sleep, If, While, Mitigate}
use Rattle.label_lattice.specs.Lattice.{Lattice}
use Rattle.label_code.specs.Machine.{label, instr}
use Rattle.code_lower.specs.Layout.{expr_size, size, raised}

abbrev pub expr_code : Marks → Expression → List Instr
expr_code m (Number n) = instr (Push n) m ∷ []
expr_code m (Variable x) = instr (Load x) m ∷ []
expr_code m (Binary o l r) = expr_code m l ++ (expr_code m r ++ instr (Apply o) m ∷ [])
expr_code m (Element f n i) = expr_code m i ++ instr (LoadAt f n) m ∷ []

abbrev pub code_of : Lattice → (ℕ → ℕ) → Marked → ℕ → List Instr
code_of lat g Done a = []
code_of lat g (Skip m r) a = instr Nop m ∷ code_of lat g r (a + 1)
code_of lat g (Assign m x e r) a =
    expr_code m e ++ (instr (Store x) m ∷ code_of lat g r (a + expr_size e + 1))
code_of lat g (Put m f n i e r) a =
    expr_code m i ++ (expr_code m e ++ (instr (StoreAt f n) m ∷ code_of lat g r (a + expr_size i + expr_size e + 1)))
code_of lat g (Sleep m e r) a = expr_code m e ++ (instr SleepWork m ∷ code_of lat g r (a + expr_size e + 1))
code_of lat g (If m e c d r) a =
    let b = a + expr_size e in
    let j = b + 1 + size c in
    let q = j + 1 + size d in
    expr_code m e ++ (instr (Brz (j + 1)) m ∷ (code_of lat g c (b + 1)
    ++ (instr (Jmp q) (raised lat g e m) ∷ (code_of lat g d (j + 1) ++ code_of lat g r q))))
code_of lat g (While m e c r) a =
    let b = a + expr_size e in
    let t = b + 1 + size c in
    let q = t + expr_size e + 1 in
    expr_code m e ++ (instr (Brz q) m ∷ (code_of lat g c (b + 1)
    ++ (expr_code (raised lat g e m) e ++ (instr (Brnz (b + 1)) (raised lat g e m) ∷ code_of lat g r q))))
code_of lat g (Mitigate m k l e c r) a =
    let b = a + expr_size e in
    let j = b + 1 + size c in
    expr_code m e ++ (instr (Mitb (label l) k) m ∷ (code_of lat g c (b + 1)
    ++ (instr Mite m ∷ code_of lat g r (j + 1))))

-- a program's image: its code and HALT
abbrev pub image_of : Lattice → (ℕ → ℕ) → Marked → List Instr
image_of lat g p = code_of lat g p 0 ++ instr Halt (record { er = lat.bottom; ew = lat.bottom }) ∷ []
