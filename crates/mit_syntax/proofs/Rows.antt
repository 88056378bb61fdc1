-- Worked rows: programs and their canonical texts.
use Rattle.std.proofs.Common.{◌≡◌, refl, ℕ, List, [], ◌∷◌, ◌++◌, None, Some}
use Prim.Native.String.{String}
use Rattle.std.specs.Prelude.{pos, codes}
use Rattle.label_lattice.specs.declared.label.Label.{Label}
use Rattle.label_lattice.specs.Order.{Order}
use Rattle.mit_syntax.specs.declared.ast.Op.TheVariants.{Add, Sub, Mul, Div, Rem, Eq, Ne, Lt, Le, Gt, Ge}
use Rattle.std.specs.Fmt.{digits}
use Rattle.mit_syntax.specs.Chunks.{text}
use Rattle.mit_syntax.specs.Declarations.{Declaration}
use Rattle.mit_syntax.specs.Expression.{Expression, Number, Variable, Binary, Element}
use Rattle.mit_syntax.specs.Layout.{chunks_of}
use Rattle.mit_syntax.specs.Plan.{Plan, Written}
use Rattle.mit_syntax.specs.Todo.{Done, Skip, Assign, Put, Sleep, If, While, Mitigate}

abbrev label : ℕ → Label
label n = record { number = n }

-- L and H
abbrev two : Order
two = record { size = 2; names = codes "L" ∷ codes "H" ∷ []; flows = []; joins = []; bottom = 0 }

abbrev one_pair : List (Label × Label)
one_pair = (label 0, label 1) ∷ []

abbrev lines : List String → List ℕ
lines [] = []
lines (l ∷ ls) = codes l ++ 10 ∷ lines ls

-- a command without marks, and one with marks
abbrev bare : Written
bare = record { pos = record { line = 1; column = 1 }; labels = None }

abbrev marked : ℕ → ℕ → Written
marked a b = record { pos = record { line = 1; column = 1 }; labels = Some (label a, label b) }

abbrev scalar : String → ℕ → Declaration
scalar w l = (codes w, record { label = Some (label l); length = None })

-- a mitigated loop
abbrev countdown : Plan
countdown =
    Mitigate bare 0 (Some (label 1)) (Number (pos 64))
    (While bare (Binary Gt (Variable 1) (Number (pos 0))) (Assign bare 1 (Binary Sub (Variable 1) (Number (pos 1))) Done) Done)
    (Assign bare 0 (Number (pos 1)) Done)

countdown_text : text (chunks_of two one_pair (scalar "l" 0 ∷ scalar "h" 1 ∷ []) countdown) ≡ lines
    ("labels L, H;" ∷ "order L < H;" ∷ "var l : L;" ∷ "var h : H;" ∷ "mitigate (64, H) {" ∷ "  while h > 0 do {" ∷ "    h := h - 1" ∷ "  }"
    ∷ "};" ∷ "l := 1" ∷ [])
unfolding digits
countdown_text = refl

-- every label written
abbrev all_marked : Plan
all_marked = Assign (marked 0 0) 0 (Variable 1) (Mitigate (marked 0 0) 0 (Some (label 1)) (Number (pos 1)) (Assign (marked 0 0) 0 (Variable 1) Done) Done)

all_marked_text : text (chunks_of two one_pair (scalar "x" 1 ∷ scalar "h" 1 ∷ []) all_marked) ≡ lines
    ("labels L, H;" ∷ "order L < H;" ∷ "var x : H;" ∷ "var h : H;" ∷ "x := h @[L, L];" ∷ "mitigate (1, H) @[L, L] {" ∷ "  x := h @[L, L]" ∷ "}" ∷ [])
unfolding digits
all_marked_text = refl

-- no pair, an array, a variable without a label, an omitted level, an else part, and operators of each rank
abbrev some_declared : List Declaration
some_declared = (codes "a", record { label = Some (label 0); length = Some 3 }) ∷ (codes "x", record { label = None; length = None }) ∷ []

abbrev nested : Expression
nested =
    Binary Eq (Binary Mul (Binary Add (Variable 3) (Number (pos 2))) (Binary Rem (Number (pos 7)) (Variable 3)))
    (Binary Sub (Element 0 3 (Binary Lt (Variable 3) (Number (pos 1)))) (Binary Sub (Variable 3) (Number (pos 40))))

abbrev one_of_each : Plan
one_of_each =
    Put (marked 0 1) 0 3 (Binary Ne (Binary Le (Variable 3) (Number (pos 0))) (Number (pos 0))) nested
    (If bare (Binary Ge (Binary Div (Binary Div (Number (pos 9)) (Variable 3)) (Number (pos 2))) (Number (pos 1)))
    (Sleep bare (Binary Add (Binary Add (Variable 3) (Variable 3)) (Variable 3)) (Skip (marked 1 1) Done)) (Skip bare Done)
    (Mitigate bare 0 None (Element 0 3 (Element 0 3 (Number (pos 10)))) (Skip bare Done) Done))

one_of_each_text : text (chunks_of two [] some_declared one_of_each) ≡ lines
    ("labels L, H;" ∷ "var a[3] : L;" ∷ "var x;" ∷ "a[(x <= 0) != 0] := (x + 2) * (7 % x) == a[x < 1] - (x - 40) @[L, H];"
    ∷ "if 9 / x / 2 >= 1 then {" ∷ "  sleep x + x + x;" ∷ "  skip @[H, H]" ∷ "} else {" ∷ "  skip" ∷ "};" ∷ "mitigate (a[a[10]]) {" ∷ "  skip" ∷ "}" ∷ [])
unfolding digits
one_of_each_text = refl
