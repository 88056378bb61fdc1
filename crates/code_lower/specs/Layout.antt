-- The code of a list of commands, from a place on.
use Rattle.std.specs.Prelude.{◌≡◌, ℕ, ◌+◌, List, Some, slice_get}
use Rattle.mit_syntax.specs.Expression.{Expression}
use Rattle.mit_syntax.specs.Expression.{Number, Variable, Binary, Element}
use Rattle.mit_syntax.specs.Todo.{Todo, Marks, Marked, Done, Skip, Assign, Put, Sleep, If, While, Mitigate}
use Rattle.label_lattice.specs.Lattice.{Lattice}
use Rattle.timing_types.specs.Typing.{label_of}
use Rattle.label_code.specs.declared.code.Work.{Work}
use Rattle.label_code.specs.declared.code.Work.TheVariants.{Push, Load, Store, LoadAt, StoreAt, Apply, Brz, Brnz, Jmp, Sleep as SleepWork, Mitb, Mite, Nop}
use Rattle.label_code.specs.declared.code.Work.TheVariants.{Halt}
use Rattle.label_code.specs.declared.code.Instr.{Instr}
use Rattle.label_code.specs.Machine.{label, instr}

abbrev pub Stands : List Instr → ℕ → Work → Marks → Type 0
Stands image a w m = slice_get image a ≡ Some (instr w m)

-- how many instructions the code of an expression has, and that of a list
abbrev pub expr_size : Expression → ℕ
expr_size (Number n) = 1
expr_size (Variable x) = 1
expr_size (Binary o l r) = expr_size l + expr_size r + 1
expr_size (Element f n i) = expr_size i + 1

abbrev pub size : {M L : Type 0} → Todo M L → ℕ
size Done = 0
size (Skip m r) = 1 + size r
size (Assign m x e r) = expr_size e + 1 + size r
size (Put m f n i e r) = expr_size i + expr_size e + 1 + size r
size (Sleep m e r) = expr_size e + 1 + size r
size (If m e c d r) = expr_size e + 1 + size c + 1 + size d + size r
size (While m e c r) = expr_size e + 1 + size c + expr_size e + 1 + size r
size (Mitigate m k l e c r) = expr_size e + 1 + size c + 1 + size r

abbrev pub HasExpr : List Instr → Marks → Expression → ℕ → Type 0
HasExpr image m (Number n) a = Stands image a (Push n) m
HasExpr image m (Variable x) a = Stands image a (Load x) m
HasExpr image m (Binary o l r) a =
    HasExpr image m l a
    × HasExpr image m r (a + expr_size l)
    × Stands image (a + expr_size l + expr_size r) (Apply o) m
HasExpr image m (Element f n i) a = HasExpr image m i a × Stands image (a + expr_size i) (LoadAt f n) m

-- the labels of code that a guard has decided
abbrev pub raised : Lattice → (ℕ → ℕ) → Expression → Marks → Marks
raised lat g e m = record { er = lat.join m.er (label_of lat g e); ew = lat.join m.ew (label_of lat g e) }

abbrev pub HasCode : Lattice → (ℕ → ℕ) → List Instr → Marked → ℕ → Type 0
HasCode lat g image Done a = Unit {0}
HasCode lat g image (Skip m r) a = Stands image a Nop m × HasCode lat g image r (a + 1)
HasCode lat g image (Assign m x e r) a =
    let b = a + expr_size e in
    HasExpr image m e a × Stands image b (Store x) m × HasCode lat g image r (b + 1)
HasCode lat g image (Put m f n i e r) a =
    let b = a + expr_size i + expr_size e in
    HasExpr image m i a × HasExpr image m e (a + expr_size i) × Stands image b (StoreAt f n) m × HasCode lat g image r (b + 1)
HasCode lat g image (Sleep m e r) a =
    let b = a + expr_size e in
    HasExpr image m e a × Stands image b SleepWork m × HasCode lat g image r (b + 1)
HasCode lat g image (If m e c d r) a =
    let b = a + expr_size e in
    let j = b + 1 + size c in
    let q = j + 1 + size d in
    HasExpr image m e a
    × Stands image b (Brz (j + 1)) m
    × HasCode lat g image c (b + 1)
    × Stands image j (Jmp q) (raised lat g e m)
    × HasCode lat g image d (j + 1)
    × HasCode lat g image r q
HasCode lat g image (While m e c r) a =
    let b = a + expr_size e in
    let t = b + 1 + size c in
    let q = t + expr_size e + 1 in
    HasExpr image m e a
    × Stands image b (Brz q) m
    × HasCode lat g image c (b + 1)
    × HasExpr image (raised lat g e m) e t
    × Stands image (t + expr_size e) (Brnz (b + 1)) (raised lat g e m)
    × HasCode lat g image r q
HasCode lat g image (Mitigate m k l e c r) a =
    let b = a + expr_size e in
    let j = b + 1 + size c in
    HasExpr image m e a
    × Stands image b (Mitb (label l) k) m
    × HasCode lat g image c (b + 1)
    × Stands image j Mite m
    × HasCode lat g image r (j + 1)

-- a program's image: its code, and HALT below it
abbrev pub IsImage : Lattice → (ℕ → ℕ) → List Instr → Marked → Type 0
IsImage lat g image p =
    HasCode lat g image p 0
    × Stands image (size p) Halt (record { er = lat.bottom; ew = lat.bottom })
