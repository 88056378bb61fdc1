-- The text of a made program, and of its starts.
use Rattle.std.specs.Prelude.{ℕ, ◌+◌, ◌*◌, ◌/◌, ◌%◌, ◌^◌, ◌==◌, cond, List, [], ◌++◌, codes, decimal}
use Rattle.std.proofs.Common.{zero, suc}
use Rattle.mit_gen.specs.declared.unit.Kind.{Kind}
use Rattle.mit_gen.specs.declared.unit.Kind.TheVariants.{Sum, Masked, Countdown, Choice}
use Rattle.mit_gen.specs.declared.unit.Unit.{Unit}

-- the state that a draw leaves
unfoldable pub next_state : ℕ → ℕ
next_state s = (s * 1103515245 + 12345) % 2 ^ 31

-- the state after n draws
abbrev pub state_after : ℕ → ℕ → ℕ
state_after s zero = s
state_after s (suc n) = next_state (state_after s n)

-- what the draw after n others gives
abbrev pub draw : ℕ → ℕ → ℕ
draw s n = state_after s (n + 1) / 65536

-- the kind of a unit, by a draw
abbrev pub kind_of : ℕ → Kind
kind_of d = cond (d % 4 == 0) Sum (cond (d % 4 == 1) Masked (cond (d % 4 == 2) Countdown Choice))

-- a unit takes four draws, whatever its kind
abbrev pub unit_from : ℕ → Unit
unit_from s = record { kind = kind_of (draw s 0); a = draw s 1 % 4; b = draw s 2 % 4; c = draw s 3 % 100 }

-- the text of a unit
abbrev pub text_by_kind : Kind → ℕ → ℕ → ℕ → List ℕ
text_by_kind Sum a b c = codes "l" ++ (decimal a ++ (codes " := l" ++ (decimal b ++ (codes " + " ++ decimal c))))
text_by_kind Masked a b c =
    codes "mitigate (" ++ (decimal (c + 1) ++ (codes ", H) { h" ++ (decimal
    a ++ (codes " := (h" ++ (decimal b ++ (codes " + " ++ (decimal c ++ codes ") % 16 }")))))))
text_by_kind Countdown a b c =
    codes "mitigate (" ++ (decimal (c + 1) ++ (codes ", H) { while h" ++ (decimal
    a ++ (codes " > 0 do { h" ++ (decimal a ++ (codes " := h" ++ (decimal a ++ codes " - 1 } }")))))))
text_by_kind Choice a b c =
    codes "if l" ++ (decimal a ++ (codes " > " ++ (decimal c ++ (codes " then { l" ++ (decimal b ++ (codes " := l" ++ (decimal a ++ (codes " - " ++ (decimal c
    ++ (codes " } else { l" ++ (decimal a ++ (codes " := l" ++ (decimal a ++ codes " + 1 }")))))))))))))

abbrev pub unit_text : Unit → List ℕ
unit_text u = text_by_kind u.kind u.a u.b u.c

-- what stands before the unit after n others
abbrev pub separator : ℕ → List ℕ
separator zero = []
separator (suc n) = codes ";\n"

-- the first n units
abbrev pub units : ℕ → ℕ → List ℕ
units number zero = []
units number (suc n) = units number n ++ (separator n ++ unit_text (unit_from (state_after number (4 * n))))

abbrev pub declarations : List ℕ
declarations = codes "var l0 : L;\nvar l1 : L;\nvar l2 : L;\nvar l3 : L;\nvar h0 : H;\nvar h1 : H;\nvar h2 : H;\nvar h3 : H;\n"

-- a program of so many units, from the first state
abbrev pub program_text : ℕ → ℕ → List ℕ
program_text size number = declarations ++ (units number size ++ codes "\n")

-- run r, counted from 0
abbrev pub start_text : ℕ → List ℕ
start_text r =
    codes "[[run]]\nmemory = { h0 = " ++ (decimal r
    ++ (codes ", h1 = " ++ (decimal (2 * r) ++ (codes ", h2 = " ++ (decimal (3 * r) ++ (codes ", h3 = " ++ (decimal (5 * r) ++ codes " }\n")))))))

-- the first n runs
abbrev pub runs : ℕ → List ℕ
runs zero = []
runs (suc n) = runs n ++ start_text n

-- the starts are four runs
abbrev pub starts_text : List ℕ
starts_text = runs 4
